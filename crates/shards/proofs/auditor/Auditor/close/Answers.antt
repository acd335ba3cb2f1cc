use Rattle.std.proofs.Common.{◌≡◌, length, rules, refl}
use Rattle.shards.proofs.Ended.{closed_with_some, unfinished}
use Rattle.shards.proofs.EndedAlone.{all_ended}
use Rattle.shards.proofs.KeptJournals.{are_of_plan}
use Rattle.shards.proofs.auditor.Auditor.close.Goals as goal

pub new-requires : goal.new-requires
new-requires g c = all_ended g.O.Opening.plan c.take_apart.new.shards.items c.take_apart.ensures.kept

pub returns-in-None-clause-closed : goal.returns-in-None-clause-closed
returns-in-None-clause-closed g c =
    let shards = c.as_slice.ensures.value in
    let passes = c.as_slice-2.ensures.value in
    let many : length c.take_apart.new.shards.items ≡ g.O.Opening.plan.shards = search rules in
    let whole = c.in-None.ensures.passes refl in
    rw c.new.ensures
    (closed_with_some g.O.Opening.plan c.args.passes.items c.take_apart.new.shards.items many c.args.self.some (are_of_plan g.O.Opening.plan c.take_apart.new.shards.items c.take_apart.ensures.kept)
    (rw passes at whole.0)
    (rw (shards, passes) at (c.in-None.ensures.none refl)))

pub returns-in-None-clause-complete : goal.returns-in-None-clause-complete
returns-in-None-clause-complete g c = (rw c.as_slice-2.ensures.value at (c.in-None.ensures.passes refl)).1

pub returns-clause-unfinished : goal.returns-clause-unfinished
returns-clause-unfinished g c =
    let many : length c.take_apart.new.shards.items ≡ g.O.Opening.plan.shards = search rules in
    unfinished g.O.Opening.plan c.args.wanted c.args.passes.items c.take_apart.new.shards.items c.in-Some.fault many (are_of_plan g.O.Opening.plan c.take_apart.new.shards.items c.take_apart.ensures.kept)
    (rw (c.as_slice.ensures.value, c.as_slice-2.ensures.value) at c.in-Some.ensures.fault)
