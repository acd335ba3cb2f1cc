-- Distinct moments and no overlapping writes: the writes follow one another, and no two reads end at one moment.
use Rattle.std.proofs.Common.{◌≡◌, ℕ, ◌<◌, ◌⊎◌, inl, inr, true, List, Option, Some, None, refl, sym, ap, ◌∙◌, arith}
use Rattle.std.specs.Prelude.{Contains, is_some}
use Rattle.std.specs.Option.{option_map_or}
use Rattle.std.proofs.lemmas.Bool.{and_parts}
use Rattle.std.proofs.lemmas.List.Elements.{All-contains}
use Rattle.intervals.specs.declared.operation.Op.{Op}
use Rattle.intervals.specs.declared.operation.Moment.{Moment}
use Rattle.intervals.specs.Operation.{Precedes, Overlaps, IsWrite, IsJudgedRead, precedes}
use Rattle.intervals.specs.Judging.{end_number}
use Rattle.intervals.specs.Standing.{ShareNoMoment, HasDistinctMoments, HasEndsAfterBeginnings, HasNoOverlappingWrites}
use Rattle.intervals.proofs.Agreement.{Decides-precedes}
use Rattle.intervals.proofs.Members.{one_or_so, begin_apart, share_none}
use Rattle.safe_regular.specs.Apart.{EndsAfterBeginning, AreSequential, HasDistinctEnds}
use Rattle.safe_regular.proofs.Apart.{either_way, begins_before}

-- an end that is there is the moment of its number
pub end_is : (end : Option Moment) → is_some end ≡ true → end ≡ Some (record { 0 = option_map_or (λ (e : Moment). e.0) end 0 })
end_is None e = absurd (cc)
end_is (Some end) e = refl

module _ (ops : List Op) (moments : HasDistinctMoments ops) where
  -- no two judged reads end at one moment
  pub distinct_ends : HasDistinctEnds ops
  distinct_ends a b sa sb ja jb e = by_cases (share_none ops moments a b sa sb)
    where
      end_of : (r : Op) → IsJudgedRead r → r.end ≡ Some (record { 0 = end_number r })
      end_of r j = end_is r.end (and_parts _ (is_some r.end) j).1

      by_cases : (a ≡ b) ⊎ ShareNoMoment a b → a ≡ b
      by_cases (inl same) = same
      by_cases (inr none) = absurd (none (record { 0 = end_number a }) (inr (end_of a ja)) (inr (end_of b jb ∙ ap (λ (k : ℕ). Some (record { 0 = k })) (sym e))))

abbrev NoOverlap : Op → Op → Type 0
NoOverlap v w = IsWrite v → IsWrite w → ¬ Overlaps v w

-- the writes follow one another, in a list with distinct moments, ends after beginnings and no overlapping writes
pub are_apart : (ops : List Op) → HasDistinctMoments ops → HasEndsAfterBeginnings ops → HasNoOverlappingWrites ops → AreSequential ops
are_apart ops moments ends over = record {
  proper = λ w present write. proper w present;
  apart = apart;
  one = λ v w sv sw wv ww. begin_apart ops moments v w sv sw;
}
  where
    proper : (w : Op) → Contains ops w → EndsAfterBeginning w
    proper w present = All-contains EndsAfterBeginning ops w ends present

    apart : (v w : Op) → Contains ops v → Contains ops w → IsWrite v → IsWrite w → v.begin.0 < w.begin.0 → Precedes v w
    apart v w sv sw wv ww lt = by_cases (one_or_so NoOverlap (λ a b none wb wa (q, p). none wa wb (p, q)) ops over v w sv sw) (either_way (precedes v w) (Decides-precedes v w)) (either_way (precedes w v) (Decides-precedes w v))
      where
        by_cases : (v ≡ w) ⊎ NoOverlap v w → Precedes v w ⊎ (¬ Precedes v w) → Precedes w v ⊎ (¬ Precedes w v) → Precedes v w
        by_cases _ (inl before) _ = before
        by_cases (inl same) (inr not) _ = absurd (let e = ap (λ (o : Op). o.begin.0) same in omega arith)
        by_cases (inr none) (inr not) (inl after) = absurd (let gt = begins_before w v (proper w sw) after in omega arith)
        by_cases (inr none) (inr not) (inr nor) = absurd (none wv ww (not, nor))
