-- the first operation is in the slots that are left
use Rattle.std.proofs.Common.{◌≡◌, drop}
use Rattle.ci_forms.specs.Facts.{first_in_slots}
use Rattle.ci_forms.proofs.facts.first_in_slots.Given as goal

abbrev pub invariant-loop-slot : goal.invariant-loop-slot
invariant-loop-slot l = first_in_slots (drop l.slot-index l.slots) ≡ first_in_slots l.fn.slots
