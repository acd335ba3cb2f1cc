-- Entries of a journal that the pass of their feeder submitted, and those that it did not.
use Rattle.std.proofs.Common.{◌≡◌, ℕ, ◌+◌, ◌<◌, ◌≤◌, ◌⊎◌, inl, inr, Bool, true, false, List, [], ◌∷◌, length, Option, Some, get_or, refl, sym, ap, subst, ◌∙◌, zero, suc, arith}
use Rattle.std.specs.Prelude.{◌↔◌, All, Contains, IsTrue, MatchBool}
use Rattle.std.specs.List.{slice_get}
use Rattle.std.proofs.lemmas.Bool.{cases_order, false≢true}
use Rattle.std.proofs.lemmas.List.Elements.{All-contains, All-weaker}
use Rattle.std.proofs.lemmas.Option.{same_Some}
use Rattle.shards.specs.declared.entry.Entry.{Entry}
use Rattle.shards.specs.declared.entry.NumberedEntry.{NumberedEntry}
use Rattle.shards.specs.Plain.{PlainEntry, plain_entry}
use Rattle.shards.specs.Pass.{PassModel}
use Rattle.shards.specs.Merge.{IsStranger, SubmittedAt, numbered}
use Rattle.shards.specs.Closing.{HasNoStranger, ShardModel, IsFirstStranger}
use Rattle.shards.specs.Shard.{AreOwned, IsOwned}
use Rattle.shards.proofs.Covers.{IsAmong}
use Rattle.shards.proofs.Passes.{AreApart, all_of_one}

abbrev number_of : NumberedEntry → ℕ
number_of known = known.number

-- an entry and the own one of a feeder with its number
module _ (own : List NumberedEntry) (known : NumberedEntry) where
  pub among_from : (x : NumberedEntry) → x.number ≡ known.number → Contains own x → plain_entry x.entry ≡ plain_entry known.entry → IsAmong own known
  among_from x n (k, within, is) e = (k, x, within, is, cc)

  pub reads_same : (found : Option NumberedEntry) → ((x : NumberedEntry) → Contains own x → x.number ≡ known.number → found ≡ Some x) → IsAmong own known → (x : NumberedEntry) × (found ≡ Some x) × (plain_entry x.entry ≡ plain_entry known.entry)
  reads_same found only (k, x, within, is, same) =
      (x, only x (k, within, is) (ap (λ (p : ℕ × PlainEntry). p.0) same), ap (λ (p : ℕ × PlainEntry). p.1) same)

-- the pass of its feeder decides whether an entry is a stranger
pub owned_by : (told : Bool) (passes : List PassModel) (at : ℕ) (known : NumberedEntry) (pass : PassModel) → AreApart passes → Contains passes pass → pass.feeder ≡ known.entry.feeder
    → IsTrue told ↔ SubmittedAt pass at known → MatchBool told (IsOwned passes at known) (IsStranger passes at known)
owned_by true passes at known pass apart here of is = all_of_one (λ other. SubmittedAt other at known) passes pass known.entry.feeder apart here of (is.0 refl)
owned_by false passes at known pass apart here of is = (here.0, pass, here.1, here.2, (of, λ told. false≢true (is.1 told)))

no_stranger_from : (passes : List PassModel) (at : ℕ) (known : NumberedEntry) → IsOwned passes at known → ¬ IsStranger passes at known
no_stranger_from passes at known owned (k, pass, within, is, (of, not_told)) =
    not_told (All-contains (λ other. other.feeder ≡ known.entry.feeder → SubmittedAt other at known) passes pass owned (k, within, is) of)

length-numbered : (n : ℕ) (journal : List Entry) → length (numbered n journal) ≡ length journal
length-numbered n [] = refl
length-numbered n (entry ∷ journal) = ap suc (length-numbered (n + 1) journal)

place_of : (n k : ℕ) (journal : List Entry) (d : NumberedEntry) (e : Entry) → k < length journal → get_or (numbered n journal) k d ≡ record { number = n + k; entry = get_or journal k e }
place_of n k [] d e l = absurd (omega arith)
place_of n zero (entry ∷ journal) d e l = ap (λ (m : ℕ). record { number = m; entry = entry }) (omega arith)
place_of n (suc k) (entry ∷ journal) d e l =
    place_of (n + 1) k journal d e (omega arith) ∙ ap (λ (m : ℕ). record { number = m; entry = get_or journal k e }) (omega arith)

at_place : (k : ℕ) (journal : List Entry) (d : NumberedEntry) (e : Entry) → k < length journal → get_or (numbered 0 journal) k d ≡ record { number = k; entry = get_or journal k e }
at_place k journal d e l = place_of 0 k journal d e l ∙ ap (λ (m : ℕ). record { number = m; entry = get_or journal k e }) (omega arith)

-- a walk over the numbers of a journal
module _ (journal : List Entry) (number : ℕ) where
  -- the entry that is read at the number
  abbrev pub read : Entry → NumberedEntry
  read d = record { number = number; entry = get_or journal number d }

  present : (d : Entry) → number < length journal → Contains (numbered 0 journal) (read d)
  present d l = (number, let m = length-numbered 0 journal in omega arith, at_place number journal (read d) d l)

  module _ (P : NumberedEntry → Type 0) where
    pub lesser_more : (d : Entry) → All (λ known. known.number < number → P known) (numbered 0 journal) → P (read d) → All (λ known. known.number < number + 1 → P known) (numbered 0 journal)
    lesser_more d below this k e within less = by_cases (cases_order k number)
      where
        is : get_or (numbered 0 journal) k e ≡ record { number = k; entry = get_or journal k d }
        is = at_place k journal e d (let m = length-numbered 0 journal in omega arith)

        by_cases : (k ≡ number) ⊎ ((k < number) ⊎ (number < k)) → P (get_or (numbered 0 journal) k e)
        by_cases (inl same) = subst P (ap (λ (m : ℕ). record { number = m; entry = get_or journal m d }) (sym same) ∙ sym is) this
        by_cases (inr (inl lt)) = below k e within (let n = ap number_of is in omega arith)
        by_cases (inr (inr gt)) = absurd (let n = ap number_of is in omega arith)

    pub lesser_all : length journal ≤ number → All (λ known. known.number < number → P known) (numbered 0 journal) → All P (numbered 0 journal)
    lesser_all l below k e within =
        below k e within (let m = length-numbered 0 journal in
        let i : k < length journal = omega arith in
        let n = ap number_of (at_place k journal e e.entry i) in
        omega arith)

  pub first_stranger_from : (passes : List PassModel) (at : ℕ) (d : Entry) → number < length journal → All (λ known. known.number < number → IsOwned passes at known) (numbered 0 journal) → IsStranger passes at (read d) → IsFirstStranger passes at journal (read d)
  first_stranger_from passes at d l below stranger = (
    present d l,
    stranger,
    All-weaker (λ known. known.number < number → IsOwned passes at known) (λ known. known.number < number → ¬ IsStranger passes at known)
        (λ known owned less. no_stranger_from passes at known (owned less)) (numbered 0 journal) below,
  )

pub no_strangers_from : (passes : List PassModel) (at : ℕ) (journal : List Entry) → AreOwned passes at journal → HasNoStranger passes at journal
no_strangers_from passes at journal owned =
    All-weaker (IsOwned passes at) (λ known. ¬ IsStranger passes at known) (no_stranger_from passes at) (numbered 0 journal) owned

-- a walk over shards
pub shards_more : (P : ℕ → ShardModel → Type 0) (shards : List ShardModel) (at : ℕ) (this : ShardModel) → slice_get shards at ≡ Some this → P at this
    → ((place : ℕ) (shard : ShardModel) → place < at → slice_get shards place ≡ Some shard → P place shard) → (place : ℕ) (shard : ShardModel) → place < at + 1 → slice_get shards place ≡ Some shard → P place shard
shards_more P shards at this is holds below place shard less e = by_cases (cases_order place at)
  where
    by_cases : (place ≡ at) ⊎ ((place < at) ⊎ (at < place)) → P place shard
    by_cases (inl same) =
        let f : this ≡ shard = same_Some this shard (sym is ∙ (ap (slice_get shards) (sym same) ∙ e)) in
        subst (λ (n : ℕ). P n shard) (sym same) (subst (P at) f holds)
    by_cases (inr (inl lt)) = below place shard lt e
    by_cases (inr (inr gt)) = absurd (omega arith)
