use Rattle.jepsen_form.proofs.UnderValues.{no_first, no_second, a_third, both}
use Rattle.jepsen_form.proofs.said.the_two.Goals as goal

pub returns-in_default : goal.returns-in_default
returns-in_default c = no_first c.args.vector.now c.next.new.self c.in_default.ensures.member

pub returns-in_default-next : goal.returns-in_default-next
returns-in_default-next c = no_second c.args.vector.now c.next.new.self c.next-2.new.self c.in-Some.first c.in-Some.ensures.member c.in_default-next.ensures.member

pub returns-in-Some-next-2 : goal.returns-in-Some-next-2
returns-in-Some-next-2 c =
    a_third c.args.vector.now c.next.new.self c.next-2.new.self c.next-3.new.self c.in-Some.first c.in-Some-next.second c.in-Some-next-2.field-0
    c.in-Some.ensures.member c.in-Some-next.ensures.member c.in-Some-next-2.ensures.member

pub returns-in-None : goal.returns-in-None
returns-in-None c =
    both c.args.vector.now c.next.new.self c.next-2.new.self c.next-3.new.self c.in-Some.first c.in-Some-next.second
    c.in-Some.ensures.member c.in-Some-next.ensures.member c.in-None.ensures.member
