use Rattle.std.proofs.Common.{◌≡◌, ℕ, List, Option, Some, None, refl, ap}
use Rattle.std.specs.Prelude.{option_map}
use Rattle.intervals.specs.declared.operation.Op.{Op}
use Rattle.intervals.specs.declared.operation.OpId.{OpId}
use Rattle.intervals.specs.declared.refusal.Refusal.{Refusal}
use Rattle.intervals.specs.declared.refusal.Refusal.TheVariants.{WritesOverlap}
use Rattle.intervals.specs.Least.{least_by, IsLeast}
use Rattle.intervals.specs.Refusal.{is_overlapped}
use Rattle.intervals.proofs.LeastOf.{least_by-IsLeast, least_from-None, least_from-none}
use Rattle.intervals.proofs.laws.first_overlapped_write_began_first.Goals as goal

abbrev beginning : Op → ℕ
beginning op = op.begin.0

abbrev refusal_of : Option Op → Option Refusal
refusal_of found = option_map (λ other. WritesOverlap other.id) found

named_by : (ops : List Op) (op : Op) (id : OpId) (found : Option Op) → least_by beginning (is_overlapped op) ops ≡ found → refusal_of found ≡ Some (WritesOverlap id) → (other : Op) × (other.id ≡ id) × IsLeast beginning (is_overlapped op) ops other
named_by ops op id None e h = absurd (cc)
named_by ops op id (Some other) e h = (other, (cc), least_by-IsLeast beginning (is_overlapped op) ops other e)

none_by : (found : Option Op) → refusal_of found ≡ None → found ≡ None
none_by None h = refl
none_by (Some other) h = absurd (cc)

pub returns : goal.returns
returns c = record {
  named = λ ops op id h. named_by ops op id (least_by beginning (is_overlapped op) ops) refl h;
  none = λ ops op. (
    (λ h. (least_from-None beginning (is_overlapped op) None ops (none_by (least_by beginning (is_overlapped op) ops) h)).1),
    (λ all. ap refusal_of (least_from-none beginning (is_overlapped op) None ops all)),
  );
}
