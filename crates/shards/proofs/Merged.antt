-- Journals that fit the passes and have no stranger are settled for them.
use Rattle.std.proofs.Common.{◌≡◌, ℕ, ◌+◌, ◌<◌, Bool, true, false, List, [], ◌∷◌, Some, length, map, get_or, refl, sym, ap, subst, ◌∙◌, cond, arith, eqb-true}
use Rattle.std.specs.Prelude.{All, Contains}
use Rattle.std.specs.List.{AllByRecursion, filter, slice_get}
use Rattle.std.proofs.lemmas.List.{length-map}
use Rattle.std.proofs.lemmas.Simd.{map-map}
use Rattle.std.proofs.lemmas.List.Elements.{All-contains, All-map, All-weaker, Contains-get_or, recursion_from_All}
use Rattle.std.proofs.lemmas.Option.{get_or_from_slice_get, slice_get_within}
use Rattle.shards.specs.declared.entry.Entry.{Entry}
use Rattle.shards.specs.declared.entry.NumberedEntry.{NumberedEntry}
use Rattle.shards.specs.declared.shard.Shard.{Shard}
use Rattle.shards.specs.Plan.{Plan}
use Rattle.shards.specs.Plain.{PlainEntry, plain_entry, plain_numbered}
use Rattle.shards.specs.Journal.{IsJournalOf, count_by, is_by}
use Rattle.shards.specs.Pass.{PassModel, own_entries}
use Rattle.shards.specs.Merge.{SubmittedAt, numbered, is_numbered_by, entries_of}
use Rattle.shards.specs.Closing.{AreFit, Fits, ShardModel}
use Rattle.shards.specs.Shard.{AreOwned, IsShardOf, IsOwned, IsSettledFor, Rises, held_of}
use Rattle.shards.proofs.Covers.{IsAmong, Above, same_from_covers}

-- a feeder's numbered entries without their numbers are its entries
entries_by : (feeder n : ℕ) (journal : List Entry) → map (λ known. known.entry) (filter (is_numbered_by feeder) (numbered n journal)) ≡ filter (is_by feeder) journal
entries_by feeder n [] = refl
entries_by feeder n (entry ∷ journal) = by_test (is_by feeder entry) (entries_by feeder (n + 1) journal)
  where
    by_test : (t : Bool) → map (λ (known : NumberedEntry). known.entry) (filter (is_numbered_by feeder) (numbered (n + 1) journal)) ≡ filter (is_by feeder) journal
        → map (λ (known : NumberedEntry). known.entry) (cond t (record { number = n; entry = entry } ∷ filter (is_numbered_by feeder) (numbered (n + 1) journal)) (filter (is_numbered_by feeder) (numbered (n + 1) journal)))
        ≡ cond t (entry ∷ filter (is_by feeder) journal) (filter (is_by feeder) journal)
    by_test true e = ap (λ (xs : List Entry). entry ∷ xs) e
    by_test false e = e

count_of : (feeder : ℕ) (journal : List Entry) → length (entries_of feeder journal) ≡ count_by feeder journal
count_of feeder journal = sym (length-map (entries_of feeder journal) (λ known. known.entry)) ∙ ap length (entries_by feeder 0 journal)

above_numbered : (a : NumberedEntry) (n : ℕ) (journal : List Entry) → a.number < n → Above a (numbered n journal)
above_numbered a n [] l = tt
above_numbered a n (entry ∷ journal) l = (l, above_numbered a (n + 1) journal (omega arith))

numbers_rise : (n : ℕ) (journal : List Entry) → Rises (numbered n journal)
numbers_rise n [] = tt
numbers_rise n (entry ∷ journal) = (above_numbered (record { number = n; entry = entry }) (n + 1) journal (omega arith), numbers_rise (n + 1) journal)

above_filter : (test : NumberedEntry → Bool) (a : NumberedEntry) (xs : List NumberedEntry) → Above a xs → Above a (filter test xs)
above_filter test a [] up = tt
above_filter test a (x ∷ xs) up = by_test (test x) (above_filter test a xs up.1)
  where
    by_test : (t : Bool) → Above a (filter test xs) → Above a (cond t (x ∷ filter test xs) (filter test xs))
    by_test true rest = (up.0, rest)
    by_test false rest = rest

filter_rises : (test : NumberedEntry → Bool) (xs : List NumberedEntry) → Rises xs → Rises (filter test xs)
filter_rises test [] up = tt
filter_rises test (x ∷ xs) up = by_test (test x) (filter_rises test xs up.1)
  where
    by_test : (t : Bool) → Rises (filter test xs) → Rises (cond t (x ∷ filter test xs) (filter test xs))
    by_test true rest = (above_filter test x xs up.0, rest)
    by_test false rest = rest

module _ (at : ℕ) (passes : List PassModel) where
  -- the owned entries of a pass's feeder are among its own
  among_own : (pass : PassModel) → Contains passes pass → (xs : List NumberedEntry) → AllByRecursion (IsOwned passes at) xs → AllByRecursion (IsAmong (own_entries pass at)) (filter (is_numbered_by pass.feeder) xs)
  among_own pass h [] owned = tt
  among_own pass h (x ∷ xs) owned = by_test (is_numbered_by pass.feeder x) refl (among_own pass h xs owned.1)
    where
      by_test : (t : Bool) → is_numbered_by pass.feeder x ≡ t → AllByRecursion (IsAmong (own_entries pass at)) (filter (is_numbered_by pass.feeder) xs)
          → AllByRecursion (IsAmong (own_entries pass at)) (cond t (x ∷ filter (is_numbered_by pass.feeder) xs) (filter (is_numbered_by pass.feeder) xs))
      by_test true e rest = (All-contains (λ own. own.feeder ≡ x.entry.feeder → SubmittedAt own at x) passes pass owned.0 h (sym (eqb-true x.entry.feeder pass.feeder e)), rest)
      by_test false e rest = rest

  entries_are_own : (journal : List Entry) → AreOwned passes at journal → (pass : PassModel) → Contains passes pass → Rises (own_entries pass at) → count_by pass.feeder journal ≡ length (own_entries pass at)
      → map plain_numbered (entries_of pass.feeder journal) ≡ map plain_numbered (own_entries pass at)
  entries_are_own journal owned pass h up count =
      same_from_covers (entries_of pass.feeder journal) (own_entries pass at) (filter_rises (is_numbered_by pass.feeder) (numbered 0 journal) (numbers_rise 0 journal)) up
      (among_own pass h (numbered 0 journal) (recursion_from_All (IsOwned passes at) (numbered 0 journal) owned))
      (count_of pass.feeder journal ∙ count)

-- an entry without its number
abbrev plain_of : ℕ × PlainEntry → PlainEntry
plain_of pair = pair.1

pub as_submitted : (at : ℕ) (pass : PassModel) (journal : List Entry) → map plain_numbered (entries_of pass.feeder journal) ≡ map plain_numbered (own_entries pass at)
    → map plain_entry (filter (is_by pass.feeder) journal) ≡ map (λ own. plain_entry own.entry) (own_entries pass at)
as_submitted at pass journal same =
    ap (map plain_entry) (sym (entries_by pass.feeder 0 journal)) ∙ (map-map _ _ (entries_of pass.feeder journal) ∙ (sym (map-map _ _ (entries_of pass.feeder journal)) ∙ (ap (map plain_of) same ∙ map-map _ _ (own_entries pass at))))

module _ (plan : Plan) (passes : List PassModel) where
  settled_at : (place : ℕ) (shard : ShardModel) → IsJournalOf plan shard.at shard.journal → Fits passes place shard → All (λ pass. Rises (own_entries pass place)) passes → AreOwned passes place shard.journal → IsSettledFor plan passes place shard.journal
  settled_at place shard of_shard fits rise owned = record {
    of_shard = subst (λ (at : ℕ). IsJournalOf plan at shard.journal) fits.in_place of_shard;
    of_each = λ k d l. entries_are_own place passes shard.journal owned (get_or passes k d) (Contains-get_or passes k d l) (rise k d l) (fits.keeping k d l).count;
    farthest = λ k d l. (fits.keeping k d l).farthest;
  }

  -- shards that fit the passes and have no stranger are settled for them
  pub settled : (shards : List Shard) → All (IsShardOf plan) shards → AreFit passes (map held_of shards) → ((place : ℕ) → place < length shards → All (λ pass. Rises (own_entries pass place)) passes)
      → ((place : ℕ) (shard : ShardModel) → slice_get (map held_of shards) place ≡ Some shard → AreOwned passes place shard.journal)
      → (place : ℕ) (shard : ShardModel) → slice_get (map held_of shards) place ≡ Some shard → (shard.at ≡ place) × IsSettledFor plan passes place shard.journal
  settled shards kept fit rise owned place shard e =
      let within : place < length (map held_of shards) = slice_get_within (map held_of shards) place shard e in
      let long : length (map held_of shards) ≡ length shards = length-map shards held_of in
      let each : All (λ held. IsJournalOf plan held.at held.journal) (map held_of shards) =
      All-map (λ held. IsJournalOf plan held.at held.journal) held_of shards (All-weaker (IsShardOf plan) (λ s. IsJournalOf plan s.at s.entries) (λ s k. k.of_shard) shards kept) in
      let this : IsJournalOf plan shard.at shard.journal = subst (λ (held : ShardModel). IsJournalOf plan held.at held.journal) (get_or_from_slice_get (map held_of shards) place shard shard e) (each place shard within) in
      ((fit place shard e).in_place, settled_at place shard this (fit place shard e) (rise place (omega arith)) (owned place shard e))
