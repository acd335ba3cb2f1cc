-- The operations of a witness stand.
use Rattle.std.proofs.Common.{◌≡◌, List, [], ◌∷◌, ◌++◌, Option, Some}
use Rattle.std.specs.Prelude.{All, Contains}
use Rattle.std.proofs.lemmas.List.Elements.{All-append, All-cons, All-nil, All-contains, All-contains_itself, All-filter}
use Rattle.intervals.specs.declared.operation.Op.{Op}
use Rattle.intervals.specs.Operation.{judged}
use Rattle.intervals.specs.Terms.{ClaimModel}
use Rattle.intervals.specs.Judging.{first_wrong}
use Rattle.zones.specs.AtFirst.{first_split, initial_of, start_of, unwritten_of}
use Rattle.zones.specs.Fault.{first_early}
use Rattle.zones.specs.Crossing.{StandsJudged, IsCrossing, IsFirstCrossingFrom}
use Rattle.register_book.specs.declared.fault.Side.{Side}
use Rattle.register_book.specs.declared.fault.Side.TheVariants.{Op as ItsOp, Initial}
use Rattle.register_book.specs.declared.fault.Witness.{Witness}
use Rattle.register_book.specs.declared.fault.Witness.TheVariants.{Wrong, Unwritten, Split, Early, Crossing}
use Rattle.register_book.specs.Fault.{IsWitness, side_op, ops_at, operations_of}

module _ (P : Op → Type 0) (claim : ClaimModel) (ops : List Op) (each : (op : Op) → Contains ops op → P op) where
  one : (op : Op) → Contains ops op → All P (op ∷ [])
  one op h = All-cons P op [] (each op h) (All-nil P)

  judged_present : (op : Op) → Contains (judged ops) op → Contains ops op
  judged_present op h = All-contains (Contains ops) (judged ops) op (All-filter _ (Contains ops) ops (All-contains_itself ops)) h

  at_side : (side : Side) → StandsJudged ops (side_op side) → All P (ops_at side)
  at_side (ItsOp op) h = one op (judged_present op h)
  at_side Initial h = All-nil P

  -- what holds of each operation that stands holds of each operation of a witness
  pub of_witness : ((r : Op) → first_wrong claim ops ≡ Some r → Contains ops r)
      → ((r : Op) → unwritten_of claim ops ≡ Some r → Contains ops r)
      → ((a b : Op) → first_split claim ops ≡ Some (a, b) → Contains ops a × Contains ops b)
      → ((r w : Op) → first_early ops ≡ Some (r, w) → Contains ops r × Contains ops w)
      → ((a : Option Op) (b : Op) (c : Option Op) (d : Op) → IsFirstCrossingFrom (initial_of claim ops) (start_of claim ops) ops a b c d → IsCrossing (start_of claim ops) ops a b c d)
      → (witness : Witness) → IsWitness claim ops witness → All P (operations_of witness)
  of_witness wrong unwritten split early crossing (Wrong r) h = one r (wrong r h.1)
  of_witness wrong unwritten split early crossing (Unwritten r) h = one r (unwritten r h.1)
  of_witness wrong unwritten split early crossing (Split a b) h = let s = split a b h.1 in All-cons P a (b ∷ []) (each a s.0) (one b s.1)
  of_witness wrong unwritten split early crossing (Early r w) h = let s = early r w h.3 in All-cons P r (w ∷ []) (each r s.0) (one w s.1)
  of_witness wrong unwritten split early crossing (Crossing a (ItsOp b) c (ItsOp d)) h =
      let x = crossing (side_op a) b (side_op c) d h.4 in
      let front = All-append P (ops_at a) (b ∷ []) (at_side a x.a_present) (one b (judged_present b x.b_present)) in
      All-append P (ops_at a ++ (b ∷ []) ++ ops_at c) (d ∷ [])
      (All-append P (ops_at a ++ (b ∷ [])) (ops_at c) front (at_side c x.c_present)) (one d (judged_present d x.d_present))
  of_witness wrong unwritten split early crossing (Crossing a Initial c d) h = absurd h
  of_witness wrong unwritten split early crossing (Crossing a (ItsOp b) c Initial) h = absurd h
