-- all wants so far are for the mark
use Rattle.std.proofs.Common.{◌≡◌, ◌-◌, ◌≤◌, length}
use Rattle.std.specs.List.{AllWithin}
use Rattle.timeline.specs.declared.place.Want.{Want}
use Rattle.timeline.proofs.place.end_of.Given as goal

abbrev pub invariant-loop-end : goal.invariant-loop-end
invariant-loop-end l = record {
  from : l.from ≤ l.end;
  within : l.end ≤ length l.wants;
  here : AllWithin (λ (want : Want). want.to ≡ l.mark) l.wants l.from l.end;
}

abbrev pub decreases-loop-end : goal.decreases-loop-end
decreases-loop-end l = length l.wants - l.end
