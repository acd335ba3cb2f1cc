-- Each witness of an atomic register excludes every arrangement.
use Rattle.std.proofs.Common.{◌≡◌, Bool, true, false, List, Option, Some, None, refl, cond}
use Rattle.std.specs.Prelude.{Contains}
use Rattle.intervals.specs.declared.operation.Op.{Op}
use Rattle.intervals.specs.declared.claim.Kind.TheVariants.{Atomic}
use Rattle.intervals.specs.Terms.{ClaimModel}
use Rattle.zones.specs.AtFirst.{IsSplit, first_split, initial_of, start_of, unwritten_of}
use Rattle.zones.specs.Fault.{IsUnwritten, IsEarly, first_early, first_unwritten}
use Rattle.zones.specs.Crossing.{IsCrossing, IsFirstCrossingFrom}
use Rattle.register_book.specs.declared.fault.Side.TheVariants.{Op as ItsOp, Initial}
use Rattle.register_book.specs.declared.fault.Witness.{Witness}
use Rattle.register_book.specs.declared.fault.Witness.TheVariants.{Wrong, Unwritten, Split, Early, Crossing}
use Rattle.register_book.specs.Fault.{IsWitness, IsExcluding, side_op}

module _ (claim : ClaimModel) (ops : List Op) where
  -- there is a first unwritten read only where the initial value is known
  pub unwritten_known : (r : Op) → unwritten_of claim ops ≡ Some r → (claim.known ≡ true) × (first_unwritten claim.initial ops ≡ Some r)
  unwritten_known r e = by_known claim.known refl e
    where
      by_known : (t : Bool) → claim.known ≡ t → cond t (first_unwritten claim.initial ops) None ≡ Some r → (claim.known ≡ true) × (first_unwritten claim.initial ops ≡ Some r)
      by_known true known e = (known, e)
      by_known false known e = absurd (cc)

  -- a witness excludes arrangements (`IsExcluding`), if the first fault of each kind does
  pub excluding : claim.kind ≡ Atomic
      → ((r : Op) → unwritten_of claim ops ≡ Some r → (claim.known ≡ true) × Contains ops r × IsUnwritten claim.initial ops r)
      → ((a b : Op) → first_split claim ops ≡ Some (a, b) → (claim.known ≡ false) × IsSplit claim ops a b)
      → ((r w : Op) → first_early ops ≡ Some (r, w) → Contains ops r × Contains ops w × IsEarly r w)
      → ((a : Option Op) (b : Op) (c : Option Op) (d : Op) → IsFirstCrossingFrom (initial_of claim ops) (start_of claim ops) ops a b c d → IsCrossing (start_of claim ops) ops a b c d)
      → (witness : Witness) → IsWitness claim ops witness → IsExcluding claim ops witness
  excluding kind unwritten split early crossing (Wrong r) h = h.0 kind
  excluding kind unwritten split early crossing (Unwritten r) h = unwritten r h.1
  excluding kind unwritten split early crossing (Split a b) h = split a b h.1
  excluding kind unwritten split early crossing (Early r w) h = early r w h.3
  excluding kind unwritten split early crossing (Crossing a (ItsOp b) c (ItsOp d)) h = crossing (side_op a) b (side_op c) d h.4
  excluding kind unwritten split early crossing (Crossing a Initial c d) h = absurd h
  excluding kind unwritten split early crossing (Crossing a (ItsOp b) c Initial) h = absurd h

  -- what each kind of fault excludes every witness excludes
  pub excluded : (P : Type 0) → ((r : Op) → claim.known ≡ true → Contains ops r → IsUnwritten claim.initial ops r → ¬ P)
      → ((a b : Op) → claim.known ≡ false → IsSplit claim ops a b → ¬ P)
      → ((r w : Op) → Contains ops r → Contains ops w → IsEarly r w → ¬ P)
      → ((a : Option Op) (b : Op) (c : Option Op) (d : Op) → IsCrossing (start_of claim ops) ops a b c d → ¬ P)
      → (witness : Witness) → IsExcluding claim ops witness → ¬ P
  excluded P unwritten split early crossing (Wrong r) h p = h
  excluded P unwritten split early crossing (Unwritten r) h p = unwritten r h.0 h.1 h.2 p
  excluded P unwritten split early crossing (Split a b) h p = split a b h.0 h.1 p
  excluded P unwritten split early crossing (Early r w) h p = early r w h.0 h.1 h.2 p
  excluded P unwritten split early crossing (Crossing a (ItsOp b) c (ItsOp d)) h p = crossing (side_op a) b (side_op c) d h p
  excluded P unwritten split early crossing (Crossing a Initial c d) h p = h
  excluded P unwritten split early crossing (Crossing a (ItsOp b) c Initial) h p = h
