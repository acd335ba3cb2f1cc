-- Operations that stand are found again by their ids, alone and in pairs.
use Rattle.std.proofs.Common.{◌≡◌, List, Option, Some, None, refl}
use Rattle.std.specs.Prelude.{option_map}
use Rattle.intervals.specs.declared.operation.Op.{Op}
use Rattle.intervals.specs.Edit.{op_of, found_by}
use Rattle.register_book.specs.Judge.{pair_by}

pub found_again : (ops : List Op) (x : Option Op) → ((r : Op) → x ≡ Some r → op_of ops r.id ≡ Some r) → found_by ops (option_map (λ op. op.id) x) ≡ x
found_again ops None present = refl
found_again ops (Some r) present = present r refl

pub pair_found_again : (ops : List Op) (x : Option (Op × Op)) → ((r w : Op) → x ≡ Some (r, w) → (op_of ops r.id ≡ Some r) × (op_of ops w.id ≡ Some w)) → pair_by ops (option_map (λ pair. (pair.0.id, pair.1.id)) x) ≡ x
pair_found_again ops None stand = refl
pair_found_again ops (Some (r, w)) stand = let h = stand r w refl in rw (h.0, h.1) refl
