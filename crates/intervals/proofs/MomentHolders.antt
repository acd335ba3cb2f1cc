-- Which other operation has a moment already, and the refusal by it (X4).
use Rattle.std.proofs.Common.{Decides, ◌≡◌, ◌↔◌, ◌⊎◌, inl, inr, Bool, true, false, not, ◌&&◌, List, [], ◌∷◌, Option, Some, None, refl, sym, subst}
use Rattle.std.specs.Prelude.{All, Contains, option_map, slice_index_or}
use Rattle.std.proofs.lemmas.Bool.Decides.{Decides-and, Decides-not, not_from_Decides}
use Rattle.intervals.specs.declared.operation.Op.{Op}
use Rattle.intervals.specs.declared.operation.OpId.{OpId}
use Rattle.intervals.specs.declared.operation.Moment.{Moment}
use Rattle.intervals.specs.declared.refusal.Refusal.{Refusal}
use Rattle.intervals.specs.declared.refusal.Refusal.TheVariants.{EndNotAfterBegin, MomentTaken, MomentTooLarge}
use Rattle.intervals.specs.Operation.{same_id}
use Rattle.intervals.specs.Refusal.{first_present, refused_if, has_early_end, has_large_moment, is_moment_of, find_other_with, moment_taken, moments_refusal}
use Rattle.intervals.specs.Standing.{IsMomentHolder}
use Rattle.intervals.proofs.Accepted.{at_moment}
use Rattle.intervals.proofs.Found.{not_mapped, find-None, find-none, find-Some}
use Rattle.intervals.proofs.Ids.{Decides-same_id_is}
use Rattle.intervals.proofs.Indexed.{moment_of}

module _ (ops : List Op) (op : Op) where
  abbrev has : Moment → Op → Bool
  has moment other = not (same_id other.id op.id) && is_moment_of other moment

  Decides-has : (moment : Moment) (other : Op) → Decides (has moment other) (IsMomentHolder op moment other)
  Decides-has moment other =
      Decides-and (not (same_id other.id op.id)) (is_moment_of other moment)
      (Decides-not (same_id other.id op.id) (Decides-same_id_is other.id op.id))
      (moment_of other moment, at_moment other moment)

  abbrev HasNone : Moment → Type 0
  HasNone moment = All (λ other. ¬ IsMomentHolder op moment other) ops

  has_none : (moment : Moment) → find_other_with ops op.id moment ≡ None → HasNone moment
  has_none moment e k d lt =
      not_from_Decides (has moment (slice_index_or ops k d)) (Decides-has moment (slice_index_or ops k d)) (find-None (has moment) ops e k d lt)

  pub none_exactly : (moment : Moment) → (moment_taken ops op.id (Some moment) ≡ None) ↔ HasNone moment
  none_exactly moment = (
    (λ e. has_none moment (not_mapped _ (find_other_with ops op.id moment) e)),
    (λ none. rw (find-none (has moment) ops (λ k d lt t. none k d lt ((Decides-has moment (slice_index_or ops k d)).0 t))) refl),
  )

  abbrev IsNamed : Moment → OpId → Type 0
  IsNamed moment id = (other : Op) × (other.id ≡ id) × Contains ops other × IsMomentHolder op moment other

  abbrev IsFirst : Moment → Type 0
  IsFirst moment = (moment ≡ op.begin) ⊎ ((op.end ≡ Some moment) × HasNone op.begin)

  found : (m moment : Moment) (id : OpId) (other : Op) → find_other_with ops op.id m ≡ Some other → m ≡ moment → other.id ≡ id → IsNamed moment id
  found m moment id other f e same =
      let h = find-Some (has m) ops other f in
      (other, same, h.0, subst (λ (n : Moment). IsMomentHolder op n other) e ((Decides-has m other).0 h.1))

  abbrev Is : Moment → OpId → Option Refusal → Type 0
  Is moment id refusal = refusal ≡ Some (MomentTaken moment id)

  pub named_first : (moment : Moment) (id : OpId) → moments_refusal ops op ≡ Some (MomentTaken moment id) → IsNamed moment id × IsFirst moment
  named_first moment id e = by_early (has_early_end op) e
    where
      by_large : (t : Bool) → Is moment id (first_present (refused_if t MomentTooLarge ∷ [])) → IsNamed moment id × IsFirst moment
      by_large true e = absurd (cc)
      by_large false e = absurd (cc)

      by_end_holder : (end : Moment) (o : Option Op) → op.end ≡ Some end → HasNone op.begin → find_other_with ops op.id end ≡ o
          → Is moment id (first_present (option_map (λ other. MomentTaken end other.id) o ∷ refused_if (has_large_moment op) MomentTooLarge ∷ [])) → IsNamed moment id × IsFirst moment
      by_end_holder end None h none f e = by_large (has_large_moment op) e
      by_end_holder end (Some other) h none f e =
          let m : end ≡ moment = cc in
          let same : other.id ≡ id = cc in
          (found end moment id other f m same, inr (subst (λ (n : Moment). op.end ≡ Some n) m h, none))

      by_end : (end : Option Moment) → op.end ≡ end → HasNone op.begin
          → Is moment id (first_present (moment_taken ops op.id end ∷ refused_if (has_large_moment op) MomentTooLarge ∷ [])) → IsNamed moment id × IsFirst moment
      by_end None h none e = by_large (has_large_moment op) e
      by_end (Some end) h none e = by_end_holder end (find_other_with ops op.id end) h none refl e

      by_begin : (o : Option Op) → find_other_with ops op.id op.begin ≡ o
          → Is moment id (first_present (option_map (λ other. MomentTaken op.begin other.id) o ∷ moment_taken ops op.id op.end ∷ refused_if (has_large_moment op) MomentTooLarge ∷ [])) → IsNamed moment id × IsFirst moment
      by_begin None f e = by_end op.end refl (has_none op.begin f) e
      by_begin (Some other) f e =
          let m : op.begin ≡ moment = cc in
          let same : other.id ≡ id = cc in
          (found op.begin moment id other f m same, inl (sym m))

      by_early : (t : Bool) → Is moment id (first_present (refused_if t EndNotAfterBegin ∷ moment_taken ops op.id (Some op.begin) ∷ moment_taken ops op.id op.end ∷ refused_if (has_large_moment op) MomentTooLarge ∷ [])) → IsNamed moment id × IsFirst moment
      by_early true e = absurd (cc)
      by_early false e = by_begin (find_other_with ops op.id op.begin) refl e
