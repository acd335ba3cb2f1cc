-- Where feeders take turns on one thread: what is done in the turn of one keeps the entries of the others.
use Rattle.std.proofs.Common.{◌≡◌, ◌≢◌, ℕ, List, None, Some, refl, sym, ap, subst, ◌∙◌}
use Rattle.std.proofs.lemmas.Option.{same_Some}
use Rattle.intervals.specs.declared.edit.Edit.{Edit}
use Rattle.intervals.specs.declared.operation.RegId.{RegId}
use Rattle.shards.specs.declared.entry.Entry.{Entry}
use Rattle.shards.specs.declared.entry.Receipt.{Receipt}
use Rattle.shards.specs.Alone.{AreJournals, pass_alone, with_entry}
use Rattle.shards.specs.Pass.{PassModel, own_entries}
use Rattle.shards.specs.Plan.{Plan}
use Rattle.feeders.specs.declared.access.By.TheVariants.{InTurn, WithPass}
use Rattle.feeders.specs.Access.{AccessModel, IsStillInTurn, KeepsOthers, TurnModel, access_alone, access_by}

-- nothing was done
pub keeps_same : (plan : Plan) (old new : AccessModel) → new ≡ old → KeepsOthers plan old new
keeps_same plan old new same feeder before are is = record { after = before; is = same ∙ is; are = are; others = λ other apart at. refl }

-- a feeder with a pass takes no turns
pub keeps_with_pass : (plan : Plan) (pass : PassModel) (old new : AccessModel) → old ≡ access_by plan (WithPass pass) → KeepsOthers plan old new
keeps_with_pass plan pass old new by feeder before are is =
    let none : None ≡ Some before = ap (λ (access : AccessModel). access.journals) (sym by ∙ is) in absurd (cc)

pub keeps_in_turn : (plan : Plan) (turn : TurnModel) (old new : AccessModel) → old ≡ access_by plan (InTurn turn) → IsStillInTurn plan turn.feeder turn.journals new → KeepsOthers plan old new
keeps_in_turn plan turn old new by still feeder before are is =
    let same = sym by ∙ is in
    subst (λ (number : ℕ). IsStillInTurn plan number before new) (ap (λ (access : AccessModel). access.pass.feeder) same)
    (subst (λ (journals : List (List Entry)). IsStillInTurn plan turn.feeder journals new) (same_Some turn.journals before (ap (λ (access : AccessModel). access.journals) same)) still)

-- an edit was entered
pub still_entered : (plan : Plan) (feeder : ℕ) (before after : List (List Entry)) (register : RegId) (edit : Edit) (receipt : Receipt) → AreJournals plan after → after ≡ with_entry before feeder register edit receipt
    → ((other : ℕ) → other ≢ feeder → (at : ℕ) → own_entries (pass_alone plan other (with_entry before feeder register edit receipt)) at ≡ own_entries (pass_alone plan other before) at)
    → IsStillInTurn plan feeder before (access_alone plan feeder after)
still_entered plan feeder before after register edit receipt are is others = record {
  after = after;
  is = refl;
  are = are;
  others = λ other apart at. ap (λ (journals : List (List Entry)). own_entries (pass_alone plan other journals) at) is ∙ others other apart at;
}
