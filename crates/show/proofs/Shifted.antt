-- Places that are each one further right: then the first step may be 0.
use Rattle.std.proofs.Common.{◌≡◌, ◌<◌, ◌≤◌, ℕ, zero, suc, List, [], ◌∷◌, drop, length, map, Some, None, Option, refl, subst, arith}
use Rattle.std.proofs.lemmas.List.{length-map}
use Rattle.std.proofs.lemmas.List.Elements.{All-cons, All-nil}
use Rattle.std.proofs.lemmas.Option.{same_Some, slice_get_within}
use Rattle.std.specs.Prelude.{◌↔◌, All, slice_index}
use Rattle.std.specs.List.{slice_get}
use Rattle.intervals.specs.declared.operation.Op.{Op}
use Rattle.intervals.specs.declared.operation.Moment.{Moment}
use Rattle.intervals.specs.Operation.{Precedes}
use Rattle.timeline.specs.declared.axis.Mark.{Mark}
use Rattle.timeline.specs.declared.axis.BarSpan.{BarSpan}
use Rattle.timeline.specs.Axis.{AreMarks, AreSpans, IsEndAt, begin_mark, end_mark}
use Rattle.timeline.specs.Place.{AreSpaced}
use Rattle.show.proofs.Timelines.{Left}

abbrev raised : List ℕ → List ℕ
raised [] = []
raised (step ∷ steps) = suc step ∷ steps

raised_long : (steps : List ℕ) → length (raised steps) ≡ length steps
raised_long [] = refl
raised_long (step ∷ steps) = refl

raised_positive : (steps : List ℕ) → All (λ (step : ℕ). 0 < step) (drop 1 steps) → All (λ (step : ℕ). 0 < step) (raised steps)
raised_positive [] positive = All-nil (λ (step : ℕ). 0 < step)
raised_positive (step ∷ steps) positive = All-cons (λ (s : ℕ). 0 < s) (suc step) steps (omega arith) positive

further : (places : List ℕ) (k : ℕ) → k < length places → slice_index (map suc places) k ≡ suc (slice_index places k)
further [] k lt = absurd (omega (arith, lt))
further (place ∷ places) zero lt = refl
further (place ∷ places) (suc k) lt = further places k (omega (arith, lt))

later_step : (steps : List ℕ) (k : ℕ) → slice_index (raised steps) (suc k) ≡ slice_index steps (suc k)
later_step [] k = refl
later_step (step ∷ steps) k = refl

first_step : (steps places : List ℕ) → length places ≡ length steps → slice_index steps 0 ≤ slice_index places 0 → 0 < length places → slice_index (raised steps) 0 ≤ slice_index (map suc places) 0
first_step steps [] many le some = absurd (omega (arith, some))
first_step [] (place ∷ places) many le some = absurd (omega (arith, many))
first_step (step ∷ steps) (place ∷ places) many le some = omega (arith, le)

still_apart : (steps places : List ℕ) → AreSpaced steps places → length places ≡ length steps → AreSpaced (raised steps) (map suc places)
still_apart steps places apart many zero lt =
    let some : 0 < length places = omega (arith, lt, length-map places suc) in
    omega (arith, first_step steps places many (omega (arith, apart 0 some)) some)
still_apart steps places apart many (suc k) lt =
    let within : suc k < length places = omega (arith, lt, length-map places suc) in
    let here = apart (suc k) within in
    omega (arith, here, further places k (omega (arith, within)), further places (suc k) within, later_step steps k)

module _ (law : Left) (ops : List Op) (marks : List Mark) (spans : List BarSpan) (steps places : List ℕ) (i j end : ℕ) (a b : Op) (s t : BarSpan)
    (are : AreMarks ops marks) (spanned : AreSpans ops marks spans) (apart : AreSpaced steps places) (room : length marks ≤ length places) (positive : All (λ (step : ℕ). 0 < step) (drop 1 steps)) (many : length places ≡ length steps)
    (at_a : slice_get ops i ≡ Some a) (span_a : slice_get spans i ≡ Some s) (at_b : slice_get ops j ≡ Some b) (span_b : slice_get spans j ≡ Some t) (ends : s.end ≡ Some end) where
  begin_within : t.begin < length places
  begin_within = omega (arith, room, slice_get_within marks t.begin (begin_mark j b) (spanned.each j b t at_b span_b).begin)

  end_by : (ended : Option Moment) (at : Option ℕ) → at ≡ Some end → IsEndAt marks i ended at → end < length marks
  end_by None None is there = absurd (cc)
  end_by None (Some n) is there = absurd there
  end_by (Some m) None is there = absurd there
  end_by (Some m) (Some n) is there = subst (λ (k : ℕ). k < length marks) (same_Some n end is) (slice_get_within marks n (end_mark i m) there)

  end_within : end < length places
  end_within = omega (arith, room, end_by a.end s.end ends (spanned.each i a s at_a span_a).end)

  pub left_of_what_it_precedes : Precedes a b ↔ (slice_index places end < slice_index places t.begin)
  left_of_what_it_precedes =
      let shifted_room : length marks ≤ length (map suc places) = omega (arith, room, length-map places suc) in
      let shifted_many : length (map suc places) ≡ length (raised steps) = omega (arith, many, length-map places suc, raised_long steps) in
      let shifted = law ops marks spans (raised steps) (map suc places) i j end a b s t are spanned (still_apart steps places apart many) shifted_room (raised_positive steps positive) shifted_many at_a span_a at_b span_b ends in
      let ends_at = further places end end_within in
      let begins_at = further places t.begin begin_within in (
        λ before_it. omega (arith, shifted.0 before_it, ends_at, begins_at),
        λ left. shifted.1 (omega (arith, left, ends_at, begins_at)),
      )
