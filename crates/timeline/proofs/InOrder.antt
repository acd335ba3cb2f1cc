-- Marks in order: a search finds each, and an end is left of a beginning exactly where its operation precedes.
use Rattle.std.proofs.Common.{◌≡◌, ◌∙◌, ◌≤◌, ◌<◌, ◌⊎◌, inl, inr, ℕ, zero, suc, ◌+◌, Bool, true, false, List, [], ◌∷◌, ◌++◌, length, get_or, Some, None, Option, refl, sym, ap, subst, arith, rules}
use Rattle.std.proofs.lemmas.Bool.{cases_lt, lt-ltb}
use Rattle.std.proofs.lemmas.Cmp.{nat_cmp_total, ranked, tied_itself}
use Rattle.std.proofs.lemmas.List.Elements.{Contains-append_right, Contains-append_left}
use Rattle.std.proofs.lemmas.List.Sorted.{Contains-permutation, ranks_by, searchable_from_sorted, sorted_far}
use Rattle.std.proofs.lemmas.Option.{get_or_from_slice_get, same_Some, slice_get-get_or, slice_get_within}
use Rattle.std.specs.Prelude.{◌↔◌, All, Contains, IfSome, IsSorted, nat_lt, slice_index}
use Rattle.std.specs.List.{slice_get}
use Rattle.std.specs.List.Sorted.{IsNonDecreasingBy, IsPartitionPoint}
use Rattle.std.specs.Ordering.{is_lt, ordering_index, nat_cmp, bool_cmp, ordering_then}
use Rattle.std.specs.declared.cmp.Ordering.{Ordering}
use Rattle.std.specs.declared.cmp.Ordering.TheVariants.{Less, Equal, Greater}
use Rattle.intervals.specs.declared.operation.Op.{Op}
use Rattle.intervals.specs.declared.operation.Moment.{Moment}
use Rattle.intervals.specs.Operation.{EndsBefore, Precedes}
use Rattle.timeline.specs.declared.axis.Mark.{Mark}
use Rattle.timeline.specs.declared.axis.BarSpan.{BarSpan}
use Rattle.timeline.specs.contracts.axis.MarkOrd.TheImpl.Laws.{total-law}
use Rattle.timeline.specs.Axis.{AreMarks, AreSpans, IsEndAt, IsSpan, begin_mark, end_mark, end_marks, mark_cmp, marks_from}
use Rattle.timeline.specs.Place.{AreSpaced}
use Rattle.timeline.proofs.Loops.{get_pushed}
use Rattle.timeline.proofs.Placing.{present_right}

-- a binary search finds a mark that is there

less≢equal : Less ≡ Equal → ⊥
less≢equal is = absurd (cc)

greater≢equal : Greater ≡ Equal → ⊥
greater≢equal is = absurd (cc)

tied : (mark : Mark) → mark_cmp mark mark ≡ Equal
tied mark = tied_itself total-law mark

pub missed : (marks : List Mark) (mark : Mark) (number : ℕ) → IsSorted mark_cmp marks → Contains marks mark
    → (IsNonDecreasingBy (λ y. ordering_index (mark_cmp y mark)) marks → IsPartitionPoint (λ y. mark_cmp y mark ≡ Less) (λ y. mark_cmp y mark ≡ Greater) marks number) → ⊥
missed marks mark number sorted (k, within, is) gives = by_side (cases_lt k number)
  where
    parts : IsPartitionPoint (λ y. mark_cmp y mark ≡ Less) (λ y. mark_cmp y mark ≡ Greater) marks number
    parts = gives (searchable_from_sorted total-law (λ (m : Mark). m) marks mark sorted)

    by_side : (k < number) ⊎ (number ≤ k) → ⊥
    by_side (inl lt) = less≢equal (sym (subst (λ (m : Mark). mark_cmp m mark ≡ Less) is (parts.0 k mark (omega arith) lt)) ∙ tied mark)
    by_side (inr le) = greater≢equal (sym (subst (λ (m : Mark). mark_cmp m mark ≡ Greater) is (parts.1 k mark le within)) ∙ tied mark)

-- marks that compare as equal are equal

then_equal : (a b : Ordering) → ordering_then a b ≡ Equal → (a ≡ Equal) × (b ≡ Equal)
then_equal Less b is = absurd (less≢equal is)
then_equal Equal b is = (refl, is)
then_equal Greater b is = absurd (greater≢equal is)

one_number : (m n : ℕ) → nat_cmp m n ≡ Equal → m ≡ n
one_number m n is = ranked m n Equal (sym is)

one_bool : (a b : Bool) → bool_cmp a b ≡ Equal → a ≡ b
one_bool true true is = refl
one_bool true false is = absurd (cc)
one_bool false true is = absurd (cc)
one_bool false false is = refl

one_mark : (a b : Mark) → mark_cmp a b ≡ Equal → a ≡ b
one_mark a b is =
    let moments = then_equal (nat_cmp a.moment.0 b.moment.0) _ is in
    let rest = then_equal (bool_cmp a.is_end b.is_end) _ moments.1 in
    let m : a.moment.0 ≡ b.moment.0 = one_number _ _ moments.0 in
    let e : a.is_end ≡ b.is_end = one_bool _ _ rest.0 in
    let o : a.op ≡ b.op = one_number _ _ rest.1 in
    ap (λ (n : ℕ). record { moment = record { 0 = n }; is_end = a.is_end; op = a.op }) m
    ∙ ap (λ (t : Bool). record { moment = b.moment; is_end = t; op = a.op }) e
    ∙ ap (λ (n : ℕ). record { moment = b.moment; is_end = b.is_end; op = n }) o

pub found : (marks : List Mark) (mark : Mark) (number : ℕ) → number < length marks → ((d : Mark) → mark_cmp (get_or marks number d) mark ≡ Equal) → slice_get marks number ≡ Some mark
found marks mark number within is = slice_get-get_or marks number mark within ∙ ap Some (one_mark (get_or marks number mark) mark (is mark))

-- the marks of each operation are among all marks

pub begin_present : (first number at : ℕ) (ops : List Op) (op : Op) → at ≡ first + number → slice_get ops number ≡ Some op → Contains (marks_from first ops) (begin_mark at op)
begin_present first number at [] op is present = absurd (cc)
begin_present first zero at (o ∷ ops) op is present =
    let one : o ≡ op = search rules in
    let here : first ≡ at = omega (arith, is) in
    (0, omega arith, subst (λ (n : ℕ). begin_mark first o ≡ begin_mark n op) here (ap (λ (z : Op). begin_mark first z) one))
begin_present first (suc number) at (o ∷ ops) op is present =
    let later = begin_present (first + 1) number at ops op (omega (arith, is)) present in
    Contains-append_right (begin_mark first o ∷ end_marks first o.end) (marks_from (first + 1) ops) (begin_mark at op) later

end_among : (number : ℕ) (ended : Option Moment) (end : Moment) → ended ≡ Some end → Contains (end_marks number ended) (end_mark number end)
end_among number None end is = absurd (cc)
end_among number (Some e) end is = (0, omega arith, ap (λ (z : Moment). end_mark number z) (search rules))

pub end_present : (first number at : ℕ) (ops : List Op) (op : Op) (end : Moment) → at ≡ first + number → slice_get ops number ≡ Some op → op.end ≡ Some end → Contains (marks_from first ops) (end_mark at end)
end_present first number at [] op end is present ended = absurd (cc)
end_present first zero at (o ∷ ops) op end is present ended =
    let one : o ≡ op = search rules in
    let here : first ≡ at = omega (arith, is) in
    let theirs : o.end ≡ Some end = ap (λ (z : Op). z.end) one ∙ ended in
    subst (λ (n : ℕ). Contains (marks_from first (o ∷ ops)) (end_mark n end)) here
    (Contains-append_left (begin_mark first o ∷ end_marks first o.end) (marks_from (first + 1) ops) (end_mark first end)
    (Contains-append_right (begin_mark first o ∷ []) (end_marks first o.end) (end_mark first end) (end_among first o.end end theirs)))
end_present first (suc number) at (o ∷ ops) op end is present ended =
    let later = end_present (first + 1) number at ops op end (omega (arith, is)) present ended in
    Contains-append_right (begin_mark first o ∷ end_marks first o.end) (marks_from (first + 1) ops) (end_mark at end) later

pub end_among_all : (ops : List Op) (marks : List Mark) (number : ℕ) (op : Op) → AreMarks ops marks → slice_get ops number ≡ Some op → IfSome op.end (λ (end : Moment). Contains marks (end_mark number end))
end_among_all ops marks number op are present = by_end op.end refl
  where
    by_end : (ended : Option Moment) → op.end ≡ ended → IfSome ended (λ (end : Moment). Contains marks (end_mark number end))
    by_end None is = tt
    by_end (Some end) is = Contains-permutation (marks_from 0 ops) marks (end_mark number end) are.each_once (end_present 0 number number ops op end (omega arith) present is)

-- a span of the operation at a number is that of any operation at this number
pub span_there : (ops : List Op) (marks : List Mark) (number : ℕ) (op : Op) (span : BarSpan) → slice_get ops number ≡ Some op → IsSpan marks number op span → (other : Op) → slice_get ops number ≡ Some other → IsSpan marks number other span
span_there ops marks number op span present is other at = subst (λ (o : Op). IsSpan marks number o span) (same_Some op other (sym present ∙ at)) is

-- the spans with one more
pub spans_more : (ops : List Op) (marks : List Mark) (number : ℕ) (old new : List BarSpan) (span : BarSpan) → new ≡ old ++ span ∷ [] → length old ≡ number
    → ((n : ℕ) (op : Op) (s : BarSpan) → slice_get ops n ≡ Some op → slice_get old n ≡ Some s → IsSpan marks n op s)
    → ((op : Op) → slice_get ops number ≡ Some op → IsSpan marks number op span)
    → (n : ℕ) (op : Op) (s : BarSpan) → slice_get ops n ≡ Some op → slice_get new n ≡ Some s → IsSpan marks n op s
spans_more ops marks number old new span pushed many each here n op s at_op at_span =
    by_cases (get_pushed old span s n (subst (λ (ss : List BarSpan). slice_get ss n ≡ Some s) pushed at_span))
  where
    by_cases : (slice_get old n ≡ Some s) ⊎ ((n ≡ length old) × (span ≡ s)) → IsSpan marks n op s
    by_cases (inl before) = each n op s at_op before
    by_cases (inr (last, same)) =
        let now : number ≡ n = omega (arith, last, many) in
        subst (λ (k : ℕ). IsSpan marks k op s) now (subst (IsSpan marks number op) same (here op (subst (λ (k : ℕ). slice_get ops k ≡ Some op) (sym now) at_op)))

-- of two marks in order the first is not greater than the second

no_less : (marks : List Mark) (i j : ℕ) (a b : Mark) → IsSorted mark_cmp marks → i ≤ j → slice_get marks i ≡ Some a → slice_get marks j ≡ Some b → is_lt (mark_cmp b a) ≡ false
no_less marks i j a b sorted le at_a at_b =
    let far = sorted_far (λ (x y : Mark). is_lt (mark_cmp x y)) (ranks_by total-law (λ (m : Mark). m)) marks sorted i j a le (slice_get_within marks j b at_b) in
    subst (λ (y : Mark). is_lt (mark_cmp y a) ≡ false) (get_or_from_slice_get marks j b a at_b)
    (subst (λ (x : Mark). is_lt (mark_cmp (get_or marks j a) x) ≡ false) (get_or_from_slice_get marks i a a at_a) far)

-- an end comes before a beginning, in the order of marks, exactly where its moment is before

pub earlier : (m n : ℕ) → m < n → (rest : Ordering) → is_lt (ordering_then (nat_cmp m n) rest) ≡ true
earlier m n lt rest = let less : nat_lt m n ≡ true = lt-ltb m n lt in rw less refl

begin_first : (m n : ℕ) → m ≤ n → (rest : Ordering) → is_lt (ordering_then (nat_cmp m n) (ordering_then (bool_cmp false true) rest)) ≡ true
begin_first m n le rest = by_cases (cases_lt m n)
  where
    by_cases : (m < n) ⊎ (n ≤ m) → is_lt (ordering_then (nat_cmp m n) (ordering_then (bool_cmp false true) rest)) ≡ true
    by_cases (inl lt) = earlier m n lt (ordering_then (bool_cmp false true) rest)
    by_cases (inr ge) =
        let same : m ≡ n = omega (arith, le, ge) in
        let tie : nat_cmp m n ≡ Equal = subst (λ (k : ℕ). nat_cmp m k ≡ Equal) same (tied_itself nat_cmp_total m) in
        rw tie refl

pub present_before : (marks : List Mark) (i j number other : ℕ) (end : Moment) (op : Op) → IsSorted mark_cmp marks
    → slice_get marks i ≡ Some (end_mark number end) → slice_get marks j ≡ Some (begin_mark other op) → end.0 < op.begin.0 → i < j
present_before marks i j number other end op sorted at_end at_begin lt = by_cases (cases_lt i j)
  where
    by_cases : (i < j) ⊎ (j ≤ i) → i < j
    by_cases (inl less) = less
    by_cases (inr le) = absurd (let not_less = no_less marks j i (begin_mark other op) (end_mark number end) sorted le at_begin at_end in let is_less = earlier end.0 op.begin.0 lt (ordering_then (bool_cmp true false) (nat_cmp number other)) in cc)

pub precedes_it : (marks : List Mark) (i j number other : ℕ) (end : Moment) (op : Op) → IsSorted mark_cmp marks
    → slice_get marks i ≡ Some (end_mark number end) → slice_get marks j ≡ Some (begin_mark other op) → i < j → end.0 < op.begin.0
precedes_it marks i j number other end op sorted at_end at_begin lt = by_cases (cases_lt end.0 op.begin.0)
  where
    by_cases : (end.0 < op.begin.0) ⊎ (op.begin.0 ≤ end.0) → end.0 < op.begin.0
    by_cases (inl less) = less
    by_cases (inr le) = absurd (let not_less = no_less marks i j (end_mark number end) (begin_mark other op) sorted (omega (arith, lt)) at_end at_begin in let is_less = begin_first op.begin.0 end.0 le (nat_cmp other number) in cc)

-- an end is left of a beginning exactly where its operation precedes that of the beginning
module _ (ops : List Op) (marks : List Mark) (spans : List BarSpan) (steps places : List ℕ) (i j end : ℕ) (a b : Op) (s t : BarSpan)
    (are : AreMarks ops marks) (spanned : AreSpans ops marks spans) (apart : AreSpaced steps places) (room : length marks ≤ length places) (positive : All (λ (step : ℕ). 0 < step) steps) (many : length places ≡ length steps)
    (at_a : slice_get ops i ≡ Some a) (span_a : slice_get spans i ≡ Some s) (at_b : slice_get ops j ≡ Some b) (span_b : slice_get spans j ≡ Some t) (ends : s.end ≡ Some end) where
  begins : slice_get marks t.begin ≡ Some (begin_mark j b)
  begins = (spanned.each j b t at_b span_b).begin

  begins_within : t.begin < length marks
  begins_within = slice_get_within marks t.begin (begin_mark j b) begins

  pub record HasEnd : Type 0 where
    pub moment : Moment
    pub is : a.end ≡ Some moment
    pub marked : slice_get marks end ≡ Some (end_mark i moment)

  end_of : (ended : Option Moment) (at : Option ℕ) → a.end ≡ ended → at ≡ Some end → IsEndAt marks i ended at → HasEnd
  end_of None None is at_is there = absurd (cc)
  end_of None (Some n) is at_is there = absurd there
  end_of (Some m) None is at_is there = absurd there
  end_of (Some m) (Some n) is at_is there = record {
    moment = m;
    is = is;
    marked = subst (λ (k : ℕ). slice_get marks k ≡ Some (end_mark i m)) (same_Some n end at_is) there;
  }

  the_end : HasEnd
  the_end = end_of a.end s.end refl ends (spanned.each i a s at_a span_a).end

  pub left_exactly : Precedes a b ↔ (slice_index places end < slice_index places t.begin)
  left_exactly = (
    λ before.
        let moments : the_end.moment.0 < b.begin.0 = subst (λ (e : Option Moment). EndsBefore e b.begin) the_end.is before in
        present_right steps places end t.begin apart positive many (present_before marks end t.begin i j the_end.moment b are.in_order the_end.marked begins moments) (omega (arith, begins_within, room)),
    λ left. subst (λ (e : Option Moment). EndsBefore e b.begin) (sym the_end.is) (by_number left (cases_lt end t.begin)),
  )
    where
      end_within : end < length marks
      end_within = slice_get_within marks end (end_mark i the_end.moment) the_end.marked

      by_number : slice_index places end < slice_index places t.begin → (end < t.begin) ⊎ (t.begin ≤ end) → the_end.moment.0 < b.begin.0
      by_number left (inl lt) = precedes_it marks end t.begin i j the_end.moment b are.in_order the_end.marked begins lt
      by_number left (inr le) = by_more (cases_lt t.begin end)
        where
          by_more : (t.begin < end) ⊎ (end ≤ t.begin) → the_end.moment.0 < b.begin.0
          by_more (inl more) = absurd (omega (arith, left, present_right steps places t.begin end apart positive many more (omega (arith, end_within, room))))
          by_more (inr ge) =
              let same : end ≡ t.begin = omega (arith, le, ge) in
              absurd (omega (arith, left, ap (slice_index places) same))
