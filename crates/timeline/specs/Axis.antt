-- The marks of a picture: where operations begin and end, in order, and how many operations are left out between.
use Rattle.std.specs.Prelude.{◌≡◌, ◌+◌, ◌-◌, ℕ, true, false, nat_lt, List, [], ◌∷◌, ◌++◌, Option, Some, None, length, filter, if◌then◌else◌, IsPermutation, IsSorted}
use Rattle.std.specs.List.{slice_get}
use Rattle.std.specs.declared.cmp.Ordering.{Ordering}
use Rattle.intervals.specs.declared.operation.Op.{Op}
use Rattle.intervals.specs.declared.operation.Moment.{Moment}
use Rattle.timeline.specs.declared.axis.Mark.{Mark}
use Rattle.timeline.specs.declared.axis.BarSpan.{BarSpan}
use Rattle.timeline.specs.contracts.axis.MarkOrd.TheImpl as mark_ord

-- the mark of the beginning of the operation of this number
abbrev pub begin_mark : ℕ → Op → Mark
begin_mark number op = record { moment = op.begin; is_end = false; op = number }

-- the mark of the end, at this moment, of the operation of this number
abbrev pub end_mark : ℕ → Moment → Mark
end_mark number end = record { moment = end; is_end = true; op = number }

-- the mark of the optional end of the operation of this number, or no mark where there is no end
abbrev pub end_marks : ℕ → Option Moment → List Mark
end_marks number None = []
end_marks number (Some end) = end_mark number end ∷ []

-- the marks of all beginnings and ends of the operations, which are numbered from this number on
abbrev pub marks_from : ℕ → List Op → List Mark
marks_from number [] = []
marks_from number (op ∷ ops) = begin_mark number op ∷ (end_marks number op.end ++ marks_from (number + 1) ops)

-- the order of marks: by moment, at one moment beginnings before ends, then by the number of the operation
abbrev pub mark_cmp : Mark → Mark → Ordering
mark_cmp = (mark_ord.ghosts).cmp

-- the marks are those of the operations, each beginning and each end once, and are in order (`mark_cmp`)
pub record AreMarks (ops : List Op) (marks : List Mark) : Type 0 where
  pub each_once : IsPermutation (marks_from 0 ops) marks
  pub in_order : IsSorted mark_cmp marks

-- the optional index is that of the mark of the operation's optional end: either both are there or neither is
abbrev pub IsEndAt : List Mark → ℕ → Option Moment → Option ℕ → Type 0
IsEndAt marks number None None = Unit {0}
IsEndAt marks number (Some end) (Some at) = slice_get marks at ≡ Some (end_mark number end)
IsEndAt marks number None (Some at) = ⊥
IsEndAt marks number (Some end) None = ⊥

-- the span has the indices of the marks at which the operation of this number begins and, where it has an end, ends
pub record IsSpan (marks : List Mark) (number : ℕ) (op : Op) (span : BarSpan) : Type 0 where
  pub begin : slice_get marks span.begin ≡ Some (begin_mark number op)
  pub end : IsEndAt marks number op.end span.end

-- there is a span for each operation, in their order, and each is that of its operation (`IsSpan`)
pub record AreSpans (ops : List Op) (marks : List Mark) (spans : List BarSpan) : Type 0 where
  pub many : length spans ≡ length ops
  pub each : (number : ℕ) (op : Op) (span : BarSpan) → slice_get ops number ≡ Some op → slice_get spans number ≡ Some span → IsSpan marks number op span

-- how many of the moments come before this one
abbrev pub began : List Moment → Moment → ℕ
began moments moment = length (filter (λ began. nat_lt began.0 moment.0) moments)

-- for each mark how many of the moments come before it and not before the preceding mark, and last how many are left;
-- this number is subtracted from the first count
abbrev pub folded_of : ℕ → List Mark → List Moment → List ℕ
folded_of before [] moments = (length moments - before) ∷ []
folded_of before (mark ∷ marks) moments = (began moments mark.moment - before) ∷ folded_of (began moments mark.moment) marks moments

-- how many operations are ongoing after the mark, where this many are ongoing before it
abbrev pub ongoing_after : Mark → ℕ → ℕ
ongoing_after mark many = if mark.is_end then many - 1 else many + 1

-- how many operations are ongoing before each mark, where this many are ongoing before the first
abbrev pub ongoing_before : ℕ → List Mark → List ℕ
ongoing_before many [] = []
ongoing_before many (mark ∷ marks) = many ∷ ongoing_before (ongoing_after mark many) marks
