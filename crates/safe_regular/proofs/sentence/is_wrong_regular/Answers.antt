use Rattle.std.proofs.Common.{◌≡◌, ◌∙◌, ℕ, true, false, Option, Some, None, subst, sym}
use Rattle.std.proofs.lemmas.Bool.{both_ways}
use Rattle.intervals.specs.declared.operation.Op.{Op}
use Rattle.intervals.specs.Operation.{same_value, value_of}
use Rattle.intervals.specs.Terms.{terms_of}
use Rattle.safe_regular.specs.LookUp.{BeginsBefore, IsLastOf}
use Rattle.safe_regular.specs.Looks.{IsLookedUp}
use Rattle.safe_regular.proofs.Looks.{looked_up_first, looked_up_next, told_first, told_right, told_wrong}
use Rattle.safe_regular.proofs.sentence.is_wrong_regular.Goals as goal

pub loop-init : goal.loop-init
loop-init c are apart present judged =
    looked_up_first (terms_of c.args.claim.now) c.args.table.now.ops apart c.args.read.now present judged c.last_before-last.result
    (subst (λ (m : ℕ). IsLastOf (BeginsBefore m) c.args.table.now.ops c.last_before-last.result) c.end_number.ensures (c.last_before-last.ensures are apart.kept.ids))

pub returns-in_default : goal.returns-in_default
returns-in_default c are apart present judged regular =
    let up : IsLookedUp c.args.table.now.ops c.args.read.now None = subst (λ (o : Option Op). IsLookedUp c.args.table.now.ops c.args.read.now o) c.in_default.is (c.loop.invariant are apart present judged) in
    rw (c.is_same_value.ensures, c.at_first.ensures, c.value.ensures) (told_first (terms_of c.args.claim.now) c.args.table.now.ops apart c.args.read.now present judged regular up)

pub returns-then-is_same_value : goal.returns-then-is_same_value
returns-then-is_same_value c are apart present judged regular =
    let w = c.in-Some.write in
    let up : IsLookedUp c.args.table.now.ops c.args.read.now (Some w) = subst (λ (o : Option Op). IsLookedUp c.args.table.now.ops c.args.read.now o) c.in-Some.is (c.loop.invariant are apart present judged) in
    let same : same_value (value_of w.act) (value_of c.args.read.now.act) ≡ true = rw (← c.value-in-loop.ensures, ← c.value-in-loop-2.ensures) (sym c.is_same_value-in-loop.ensures ∙ c.if-is_same_value.true) in
    told_right (terms_of c.args.claim.now) c.args.table.now.ops apart c.args.read.now present judged regular w up same

pub returns-then-precedes : goal.returns-then-precedes
returns-then-precedes c are apart present judged regular =
    let w = c.in-Some.write in
    let up : IsLookedUp c.args.table.now.ops c.args.read.now (Some w) = subst (λ (o : Option Op). IsLookedUp c.args.table.now.ops c.args.read.now o) c.in-Some.is (c.loop.invariant are apart present judged) in
    let other : same_value (value_of w.act) (value_of c.args.read.now.act) ≡ false = rw (← c.value-in-loop.ensures, ← c.value-in-loop-2.ensures) (sym c.is_same_value-in-loop.ensures ∙ c.if-is_same_value.false) in
    told_wrong (terms_of c.args.claim.now) c.args.table.now.ops apart c.args.read.now present judged regular w up other (c.precedes.ensures.precedes.0 c.if-precedes.true)

pub loop-preserved : goal.loop-preserved
loop-preserved c are apart present judged =
    let w = c.in-Some.write in
    let up : IsLookedUp c.args.table.now.ops c.args.read.now (Some w) = subst (λ (o : Option Op). IsLookedUp c.args.table.now.ops c.args.read.now o) c.in-Some.is (c.loop.invariant are apart present judged) in
    let other : same_value (value_of w.act) (value_of c.args.read.now.act) ≡ false = rw (← c.value-in-loop.ensures, ← c.value-in-loop-2.ensures) (sym c.is_same_value-in-loop.ensures ∙ c.if-is_same_value.false) in
    looked_up_next (terms_of c.args.claim.now) c.args.table.now.ops apart c.args.read.now present judged w up other (λ before. both_ways c.precedes.result c.if-precedes.false (c.precedes.ensures.precedes.1 before))
    c.last_before-last-in-loop.result (c.last_before-last-in-loop.ensures are apart.kept.ids)
