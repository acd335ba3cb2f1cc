use Rattle.std.proofs.Common.{ℕ, zero, suc, List, [], ◌∷◌, Option, Some, None, subst}
use Rattle.std.specs.Prelude.{Contains, IfSome}
use Rattle.intervals.specs.declared.operation.Op.{Op}
use Rattle.intervals.specs.Table.{slot_at, ops_in_slots}
use Rattle.zones.proofs.Members.{here, there}
use Rattle.zones.proofs.register.Clusters.placed.Goals as goal

slot_present : (slots : List (Option Op)) (i : ℕ) → IfSome (slot_at slots i) (Contains (ops_in_slots slots))
slot_present [] zero = tt
slot_present [] (suc i) = tt
slot_present (None ∷ slots) zero = tt
slot_present (Some a ∷ slots) zero = here a (ops_in_slots slots)
slot_present (None ∷ slots) (suc i) = slot_present slots i
slot_present (Some a ∷ slots) (suc i) = later (slot_at slots i) (slot_present slots i)
  where
    later : (slot : Option Op) → IfSome slot (Contains (ops_in_slots slots)) → IfSome slot (Contains (a ∷ ops_in_slots slots))
    later None h = tt
    later (Some op) h = there a (ops_in_slots slots) op h

pub place_slot-requires-clause-present : goal.place_slot-requires-clause-present
place_slot-requires-clause-present c =
    subst (λ (ops : List Op). IfSome (slot_at c.args.slots.now c.loop-slot.slot-index) (Contains ops)) c.requires.all (slot_present c.args.slots.now c.loop-slot.slot-index)
