-- A register has at most one witness.
use Rattle.std.proofs.Common.{◌≡◌, ◌≢◌, Bool, true, false, List, Option, Some, None, refl, sym, ap, ◌∙◌, cond}
use Rattle.intervals.specs.declared.operation.Op.{Op}
use Rattle.intervals.specs.declared.claim.Kind.TheVariants.{Atomic}
use Rattle.intervals.specs.Terms.{ClaimModel}
use Rattle.zones.specs.AtFirst.{first_split, first_writeless, initial_of, start_of, unwritten_of, with_other}
use Rattle.zones.specs.Fault.{first_early, first_unwritten}
use Rattle.zones.specs.Crossing.{IsFirstCrossingFrom}
use Rattle.register_book.specs.declared.fault.Side.{Side}
use Rattle.register_book.specs.declared.fault.Side.TheVariants.{Op as ItsOp, Initial}
use Rattle.register_book.specs.declared.fault.Witness.{Witness}
use Rattle.register_book.specs.declared.fault.Witness.TheVariants.{Wrong, Unwritten, Split, Early, Crossing}
use Rattle.register_book.specs.Fault.{IsWitness, side_op}

same_side : (a b : Side) → side_op a ≡ side_op b → a ≡ b
same_side (ItsOp a) (ItsOp b) e = cc
same_side (ItsOp a) Initial e = absurd (cc)
same_side Initial (ItsOp b) e = absurd (cc)
same_side Initial Initial e = refl

module _ (claim : ClaimModel) (ops : List Op) where
  -- the parts of a crossing that is a witness
  pub record IsCrossed (a b c d : Side) : Type 0 where
    pub kind : claim.kind ≡ Atomic
    pub written : unwritten_of claim ops ≡ None
    pub whole : first_split claim ops ≡ None
    pub timely : first_early ops ≡ None
    pub second : Op
    pub fourth : Op
    pub b_is : b ≡ ItsOp second
    pub d_is : d ≡ ItsOp fourth
    pub first : IsFirstCrossingFrom (initial_of claim ops) (start_of claim ops) ops (side_op a) second (side_op c) fourth

  crossed : (a b c d : Side) → IsWitness claim ops (Crossing a b c d) → IsCrossed a b c d
  crossed a (ItsOp b) c (ItsOp d) h = record { kind = h.0; written = h.1; whole = h.2; timely = h.3; second = b; fourth = d; b_is = refl; d_is = refl; first = h.4 }
  crossed a Initial c d h = absurd h
  crossed a (ItsOp b) c Initial h = absurd h

  -- two first crossings are the same four operations
  abbrev pub OneCrossing : Type 0
  OneCrossing = (a : Option Op) (b : Op) (c : Option Op) (d : Op) (e : Option Op) (f : Op) (g : Option Op) (h : Op)
      → IsFirstCrossingFrom (initial_of claim ops) (start_of claim ops) ops a b c d → IsFirstCrossingFrom (initial_of claim ops) (start_of claim ops) ops e f g h → (a ≡ e) × (b ≡ f) × (c ≡ g) × (d ≡ h)

  same_crossing : OneCrossing → (a b c d e f g h : Side) → IsCrossed a b c d → IsCrossed e f g h → Crossing a b c d ≡ Crossing e f g h
  same_crossing one a b c d e f g h x y =
      let s = one (side_op a) x.second (side_op c) x.fourth (side_op e) y.second (side_op g) y.fourth x.first y.first in
      let p : a ≡ e = same_side a e s.0 in
      let q : b ≡ f = x.b_is ∙ ap ItsOp s.1 ∙ sym y.b_is in
      let r : c ≡ g = same_side c g s.2 in
      let t : d ≡ h = x.d_is ∙ ap ItsOp s.3 ∙ sym y.d_is in
      rw (p, q, r, t) refl

  -- there is no split where an unwritten read is the first
  whole_where_unwritten : (r a b : Op) → unwritten_of claim ops ≡ Some r → first_split claim ops ≢ Some (a, b)
  whole_where_unwritten r a b e f = by_known claim.known refl e f
    where
      by_known : (t : Bool) → claim.known ≡ t → cond t (first_unwritten claim.initial ops) None ≡ Some r → cond t None (with_other claim ops (first_writeless claim ops)) ≡ Some (a, b) → ⊥
      by_known true known e f = absurd (cc)
      by_known false known e f = absurd (cc)

  pub one_witness : OneCrossing → (w v : Witness) → IsWitness claim ops w → IsWitness claim ops v → w ≡ v
  one_witness one (Wrong r) (Wrong s) h k = let e = sym h.1 ∙ k.1 in cc
  one_witness one (Wrong r) (Unwritten s) h k = absurd (h.0 k.0)
  one_witness one (Wrong r) (Split s t) h k = absurd (h.0 k.0)
  one_witness one (Wrong r) (Early s w) h k = absurd (h.0 k.0)
  one_witness one (Wrong r) (Crossing a b c d) h k = absurd (h.0 (crossed a b c d k).kind)
  one_witness one (Unwritten r) (Wrong s) h k = absurd (k.0 h.0)
  one_witness one (Unwritten r) (Unwritten s) h k = let e = sym h.1 ∙ k.1 in cc
  one_witness one (Unwritten r) (Split s t) h k = absurd (whole_where_unwritten r s t h.1 k.1)
  one_witness one (Unwritten r) (Early s w) h k = absurd (let e = sym h.1 ∙ k.1 in cc)
  one_witness one (Unwritten r) (Crossing a b c d) h k = absurd (let e = sym h.1 ∙ (crossed a b c d k).written in cc)
  one_witness one (Split s t) (Wrong r) h k = absurd (k.0 h.0)
  one_witness one (Split s t) (Unwritten r) h k = absurd (whole_where_unwritten r s t k.1 h.1)
  one_witness one (Split s t) (Split u v) h k = let e = sym h.1 ∙ k.1 in let p : (s, t) ≡ (u, v) = cc in ap (λ (pair : Op × Op). Split pair.0 pair.1) p
  one_witness one (Split s t) (Early r w) h k = absurd (let e = sym h.1 ∙ k.2 in cc)
  one_witness one (Split s t) (Crossing a b c d) h k = absurd (let e = sym h.1 ∙ (crossed a b c d k).whole in cc)
  one_witness one (Early r w) (Wrong s) h k = absurd (k.0 h.0)
  one_witness one (Early r w) (Unwritten s) h k = absurd (let e = sym h.1 ∙ k.1 in cc)
  one_witness one (Early r w) (Split s t) h k = absurd (let e = sym h.2 ∙ k.1 in cc)
  one_witness one (Early r w) (Early s v) h k = let e = sym h.3 ∙ k.3 in let p : (r, w) ≡ (s, v) = cc in ap (λ (pair : Op × Op). Early pair.0 pair.1) p
  one_witness one (Early r w) (Crossing a b c d) h k = absurd (let e = sym h.3 ∙ (crossed a b c d k).timely in cc)
  one_witness one (Crossing a b c d) (Wrong s) h k = absurd (k.0 (crossed a b c d h).kind)
  one_witness one (Crossing a b c d) (Unwritten s) h k = absurd (let e = sym (crossed a b c d h).written ∙ k.1 in cc)
  one_witness one (Crossing a b c d) (Split s t) h k = absurd (let e = sym (crossed a b c d h).whole ∙ k.1 in cc)
  one_witness one (Crossing a b c d) (Early s w) h k = absurd (let e = sym (crossed a b c d h).timely ∙ k.3 in cc)
  one_witness one (Crossing a b c d) (Crossing e f g i) h k = same_crossing one a b c d e f g i (crossed a b c d h) (crossed e f g i k)
