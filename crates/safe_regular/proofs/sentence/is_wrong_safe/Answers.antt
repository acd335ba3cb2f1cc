use Rattle.std.proofs.Common.{◌∙◌, ℕ, subst}
use Rattle.intervals.specs.Terms.{terms_of}
use Rattle.safe_regular.specs.LookUp.{BeginsBefore, IsLastOf}
use Rattle.safe_regular.proofs.Looks.{told_safe}
use Rattle.safe_regular.proofs.sentence.is_wrong_safe.Goals as goal

pub returns : goal.returns
returns c are apart present judged safe =
    c.is_wrong_by.ensures
    ∙ told_safe (terms_of c.args.claim.now) c.args.table.now.ops apart c.args.read.now present judged safe c.last_before-last.result
    (subst (λ (m : ℕ). IsLastOf (BeginsBefore m) c.args.table.now.ops c.last_before-last.result) c.end_number.ensures (c.last_before-last.ensures are apart.kept.ids))
