-- Labels fit in their bars.
use Rattle.std.proofs.Common.{◌≡◌, ◌∙◌, ◌<◌, ◌≤◌, ◌⊎◌, inl, inr, ℕ, zero, suc, ◌+◌, true, false, List, [], ◌∷◌, ◌++◌, length, Some, None, Option, String, Global, refl, sym, ap, subst, arith}
use Rattle.std.proofs.lemmas.Bool.{cases_lt, le-leb, lt-ltb}
use Rattle.std.proofs.lemmas.List.Elements.{All-cons, All-contains, All-nil, Contains-append_left, Contains-append_right}
use Rattle.std.proofs.lemmas.List.Sorted.{All-permutation}
use Rattle.std.proofs.lemmas.Option.{get_or_from_slice_get, same_Some, slice_get_within}
use Rattle.std.specs.Prelude.{◌↔◌, All, Contains, IfSome, nat_le, nat_lt, slice_index}
use Rattle.std.specs.List.{range_with_len, slice_get}
use Rattle.std.specs.Option.{option_map_or, unwrap_or}
use Rattle.intervals.specs.declared.operation.Op.{Op}
use Rattle.intervals.specs.declared.operation.Moment.{Moment}
use Rattle.intervals.specs.Operation.{EndsBefore, Precedes}
use Rattle.intervals.specs.Standing.{HasEndsAfterBeginnings}
use Rattle.intervals.specs.Table.{ops_in_slots}
use Rattle.timeline.specs.declared.axis.Mark.{Mark}
use Rattle.timeline.specs.declared.axis.BarSpan.{BarSpan}
use Rattle.timeline.specs.declared.choice.Extent.{Extent}
use Rattle.timeline.specs.declared.place.Want.{Want}
use Rattle.timeline.specs.Axis.{AreMarks, AreSpans, IsEndAt, begin_mark, end_mark}
use Rattle.timeline.specs.Place.{AreSpaced, IsDistanceKept}
use Rattle.show.specs.declared.measure.Measure.{Measure}
use Rattle.show.specs.declared.scene.Scene.{Scene}
use Rattle.show.specs.declared.subject.Subject.{Subject}
use Rattle.show.specs.Measure.{span_end_mark, label_width, wanted_between, wanted_of}
use Rattle.show.specs.Scene.{IsScene}
use Rattle.show.proofs.Scenes.{shown_stand}
use Rattle.show.proofs.Timelines.{Left}

-- the distance that a label needs is among all

abbrev want_for : ℕ → BarSpan → ℕ → Want
want_for many span least = record { from = span.begin; to = span_end_mark many span; least = least }

wanted_here : (many : ℕ) (span : BarSpan) (least : ℕ) → span.begin < span_end_mark many span → span_end_mark many span ≤ many → Contains (wanted_between many span.begin (span_end_mark many span) least) (want_for many span least)
wanted_here many span least lt le =
    let apart : nat_lt span.begin (span_end_mark many span) ≡ true = lt-ltb span.begin (span_end_mark many span) lt in
    let within : nat_le (span_end_mark many span) many ≡ true = le-leb (span_end_mark many span) many le in
    rw (apart, within) (0, omega arith, refl)

wanted_has : (measure : Measure) (many : ℕ) (labels : List (String Global)) (k number at : ℕ) (spans : List BarSpan) (span : BarSpan) (label : String Global) → at ≡ number + k
    → slice_get spans k ≡ Some span → slice_get labels at ≡ Some label → span.begin < span_end_mark many span → span_end_mark many span ≤ many
    → Contains (wanted_of measure many labels number spans) (want_for many span (label_width measure label))
wanted_has measure many labels k number at [] span label is present labelled lt le = absurd (cc)
wanted_has measure many labels zero number at (s ∷ spans) span label is present labelled lt le =
    let here : number ≡ at = omega (arith, is) in
    let one : s ≡ span = same_Some s span present in
    let least : option_map_or (label_width measure) (slice_get labels number) 0 ≡ label_width measure label =
    ap (λ (n : ℕ). option_map_or (label_width measure) (slice_get labels n) 0) here ∙ ap (λ (found : Option (String Global)). option_map_or (label_width measure) found 0) labelled in
    let mine : Contains (wanted_between many s.begin (span_end_mark many s) (label_width measure label)) (want_for many span (label_width measure label)) =
    subst (λ (z : BarSpan). Contains (wanted_between many z.begin (span_end_mark many z) (label_width measure label)) (want_for many span (label_width measure label))) (sym one) (wanted_here many span (label_width measure label) lt le) in
    Contains-append_left (wanted_between many s.begin (span_end_mark many s) (option_map_or (label_width measure) (slice_get labels number) 0)) (wanted_of measure many labels (number + 1) spans) (want_for many span (label_width measure label))
    (subst (λ (n : ℕ). Contains (wanted_between many s.begin (span_end_mark many s) n) (want_for many span (label_width measure label))) (sym least) mine)
wanted_has measure many labels (suc k) number at (s ∷ spans) span label is present labelled lt le =
    Contains-append_right (wanted_between many s.begin (span_end_mark many s) (option_map_or (label_width measure) (slice_get labels number) 0)) (wanted_of measure many labels (number + 1) spans) (want_for many span (label_width measure label))
    (wanted_has measure many labels k (number + 1) at spans span label (omega (arith, is)) present labelled lt le)

-- an operation that does not end before it begins has its marks apart

some_there : {X : Type 0} (xs : List X) (i : ℕ) → i < length xs → (x : X) × (slice_get xs i ≡ Some x)
some_there [] i lt = absurd (omega (arith, lt))
some_there (x ∷ xs) zero lt = (x, refl)
some_there (x ∷ xs) (suc i) lt = some_there xs i (omega (arith, lt))

not_both : (number : ℕ) (op : Op) (end : Moment) → end_mark number end ≡ begin_mark number op → ⊥
not_both number op end is = absurd (let same : true ≡ false = ap (λ (m : Mark). m.is_end) is in cc)

-- marks of which each is at least 1 right of the one before it

abbrev ones : ℕ → List ℕ
ones zero = []
ones (suc n) = 1 ∷ ones n

ones_long : (n : ℕ) → length (ones n) ≡ n
ones_long zero = refl
ones_long (suc n) = ap suc (ones_long n)

one_at : (n k : ℕ) → k < n → slice_index (ones n) k ≡ 1
one_at zero k lt = absurd (omega (arith, lt))
one_at (suc n) zero lt = refl
one_at (suc n) (suc k) lt = one_at n k (omega (arith, lt))

ones_positive : (n : ℕ) → All (λ (step : ℕ). 0 < step) (ones n)
ones_positive zero = All-nil (λ (step : ℕ). 0 < step)
ones_positive (suc n) = All-cons (λ (step : ℕ). 0 < step) 1 (ones n) (omega arith) (ones_positive n)

row_long : (first n : ℕ) → length (range_with_len first n) ≡ n
row_long first zero = refl
row_long first (suc n) = ap suc (row_long (first + 1) n)

row_at : (first n k : ℕ) → k < n → slice_index (range_with_len first n) k ≡ first + k
row_at first zero k lt = absurd (omega (arith, lt))
row_at first (suc n) zero lt = omega arith
row_at first (suc n) (suc k) lt = let rest = row_at (first + 1) n k (omega (arith, lt)) in omega (arith, rest)

row_apart : (n : ℕ) → AreSpaced (ones n) (range_with_len 1 n)
row_apart n zero lt =
    let within : 0 < n = omega (arith, lt, row_long 1 n) in
    omega (arith, one_at n 0 within, row_at 1 n 0 within)
row_apart n (suc k) lt =
    let within : suc k < n = omega (arith, lt, row_long 1 n) in
    omega (arith, one_at n (suc k) within, row_at 1 n k (omega (arith, within)), row_at 1 n (suc k) within)

module _ (law : Left) (ops : List Op) (marks : List Mark) (spans : List BarSpan) (i : ℕ) (op : Op) (span : BarSpan) (are : AreMarks ops marks) (spanned : AreSpans ops marks spans)
    (at_op : slice_get ops i ≡ Some op) (at_span : slice_get spans i ≡ Some span) where
  begins : slice_get marks span.begin ≡ Some (begin_mark i op)
  begins = (spanned.each i op span at_op at_span).begin

  begin_within : span.begin < length marks
  begin_within = slice_get_within marks span.begin (begin_mark i op) begins

  abbrev row : List ℕ
  row = range_with_len 1 (length marks)

  ends_following : (end : ℕ) (moment : Moment) → op.end ≡ Some moment → span.end ≡ Some end → slice_get marks end ≡ Some (end_mark i moment) → op.begin.0 < moment.0 → span.begin < end
  ends_following end moment ended is marked later = by_order (cases_lt span.begin end)
    where
      end_within : end < length marks
      end_within = slice_get_within marks end (end_mark i moment) marked

      exactly : Precedes op op ↔ (slice_index row end < slice_index row span.begin)
      exactly =
          law ops marks spans (ones (length marks)) row i i end op op span span are spanned (row_apart (length marks)) (omega (arith, row_long 1 (length marks))) (ones_positive (length marks))
          (omega (arith, row_long 1 (length marks), ones_long (length marks))) at_op at_span at_op at_span is

      before_itself : end < span.begin → moment.0 < op.begin.0
      before_itself lt = subst (λ (e : Option Moment). EndsBefore e op.begin) ended (exactly.1 (omega (arith, lt, row_at 1 (length marks) end end_within, row_at 1 (length marks) span.begin begin_within)))

      by_order : (span.begin < end) ⊎ (end ≤ span.begin) → span.begin < end
      by_order (inl lt) = lt
      by_order (inr le) = by_more (cases_lt end span.begin)
        where
          by_more : (end < span.begin) ⊎ (span.begin ≤ end) → span.begin < end
          by_more (inl lt) = absurd (omega (arith, before_itself lt, later))
          by_more (inr ge) =
              let same : end ≡ span.begin = omega (arith, le, ge) in
              absurd (not_both i op moment (same_Some (end_mark i moment) (begin_mark i op) (sym marked ∙ ap (slice_get marks) same ∙ begins)))

  apart_by : (ended : Option Moment) (at : Option ℕ) → op.end ≡ ended → span.end ≡ at → IsEndAt marks i ended at → IfSome ended (λ end. op.begin.0 < end.0) → (span.begin < unwrap_or at (length marks)) × (unwrap_or at (length marks) ≤ length marks)
  apart_by None None ended is there later = (begin_within, omega arith)
  apart_by None (Some n) ended is there later = absurd there
  apart_by (Some m) None ended is there later = absurd there
  apart_by (Some m) (Some n) ended is there later =
      let within : n < length marks = slice_get_within marks n (end_mark i m) there in
      (ends_following n m ended is there later, omega (arith, within))

  pub marks_apart : IfSome op.end (λ end. op.begin.0 < end.0) → (span.begin < span_end_mark (length marks) span) × (span_end_mark (length marks) span ≤ length marks)
  marks_apart later = apart_by op.end span.end refl refl (spanned.each i op span at_op at_span).end later

pub labels_fit : Left → (subject : Subject) (extent : Extent) (scene : Scene) (measure : Measure) (wants others : List Want) (places : List ℕ) (i : ℕ) (span : BarSpan) (label : String Global) → IsScene subject extent scene
    → HasEndsAfterBeginnings (ops_in_slots subject.slots.now)
    → wants ≡ wanted_of measure (length scene.marks.items) scene.labels.items 0 scene.spans.items ++ others → All (IsDistanceKept places) wants
    → slice_get scene.spans.items i ≡ Some span → slice_get scene.labels.items i ≡ Some label
    → slice_index places span.begin + label_width measure label ≤ slice_index places (span_end_mark (length scene.marks.items) span)
labels_fit law subject extent scene measure wants others places i span label is ends wanted kept at_span at_label =
    let many = length scene.marks.items in
    let bars = wanted_of measure many scene.labels.items 0 scene.spans.items in
    let within : i < length scene.ops.items = omega (arith, slice_get_within scene.spans.items i span at_span, is.spans.many) in
    let (op, at_op) = some_there scene.ops.items i within in
    let (left_out, parts) = shown_stand subject extent scene is in
    let P : Op → Type 0 = λ o. IfSome o.end (λ end. o.begin.0 < end.0) in
    let all : All P (scene.ops.items ++ left_out) = All-permutation P (ops_in_slots subject.slots.now) (scene.ops.items ++ left_out) parts ends in
    let later : P op = All-contains P (scene.ops.items ++ left_out) op all (Contains-append_left scene.ops.items left_out op (contained scene.ops.items i op at_op)) in
    let apart = marks_apart law scene.ops.items scene.marks.items scene.spans.items i op span is.marks is.spans at_op at_span later in
    let want = want_for many span (label_width measure label) in
    let has = wanted_has measure many scene.labels.items i 0 i scene.spans.items span label (omega arith) at_span at_label apart.0 apart.1 in
    All-contains (IsDistanceKept places) wants want kept (subst (λ (ws : List Want). Contains ws want) (sym wanted) (Contains-append_left bars others want has))
  where
    contained : {X : Type 0} (xs : List X) (k : ℕ) (x : X) → slice_get xs k ≡ Some x → Contains xs x
    contained xs k x at = (k, slice_get_within xs k x at, get_or_from_slice_get xs k x x at)
