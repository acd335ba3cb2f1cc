-- The walk over a pass's own entries beside a journal, from a start for each feeder.
use Rattle.std.proofs.Common.{◌≡◌, ◌≢◌, ℕ, ◌+◌, ◌<◌, ◌≤◌, ◌⊎◌, inl, inr, List, [], ◌∷◌, length, get_or, set, replicate, zero, suc, Some, None, ap, sym, subst, ◌∙◌, refl, arith}
use Rattle.std.specs.Prelude.{◌↔◌, Any, Contains, option_map}
use Rattle.std.specs.List.{AllPairs, slice_get}
use Rattle.std.specs.List.Sorted.{IsPartitionPoint}
use Rattle.std.proofs.lemmas.Bool.{cases_eq, cases_order}
use Rattle.std.proofs.lemmas.List.{get_or_default, get_or-set_other, get_or-set_same}
use Rattle.std.proofs.lemmas.List.Elements.{All-from_recursion, Contains-get_or}
use Rattle.std.proofs.lemmas.List.Kept.{AllPairs-cons}
use Rattle.std.proofs.lemmas.Option.{same_Some, slice_get_cases}
use Rattle.shards.specs.declared.entry.NumberedEntry.{NumberedEntry}
use Rattle.shards.specs.Plain.{PlainEntry, plain_entry, plain_numbered}
use Rattle.shards.specs.Pass.{PassModel, own_entries}
use Rattle.shards.specs.Shard.{AreStarts, AreNumberedBelow, Rises}
use Rattle.shards.proofs.Passes.{AreApart, one_pass}

pairs_rise : (own : List NumberedEntry) → Rises own → AllPairs (λ a b. a.number < b.number) own
pairs_rise [] up = λ i j d l m. absurd (omega arith)
pairs_rise (x ∷ xs) up = AllPairs-cons (λ a b. a.number < b.number) x xs (All-from_recursion (λ b. x.number < b.number) xs up.0) (pairs_rise xs up.1)

-- the entries before the start have lesser numbers, and the others do not
abbrev pub Starts : List NumberedEntry → ℕ → ℕ → Type 0
Starts own number start = IsPartitionPoint (λ known. known.number < number) (λ known. number ≤ known.number) own start

pub starts_past : (own : List NumberedEntry) (number start : ℕ) → AreNumberedBelow own number start → length own ≤ start → Starts own number start
starts_past own number start below past = (below, λ k d low within. absurd (omega arith))

pub starts_there : (own : List NumberedEntry) (number start : ℕ) (d : NumberedEntry) → Rises own → AreNumberedBelow own number start → number ≤ (get_or own start d).number → Starts own number start
starts_there own number start d rises below least = (below, λ k e low within. by_cases k e low within (cases_order start k))
  where
    by_cases : (k : ℕ) (e : NumberedEntry) → start ≤ k → k < length own → (start ≡ k) ⊎ ((start < k) ⊎ (k < start)) → number ≤ (get_or own k e).number
    by_cases k e low within (inl same) =
        let default = ap (λ (known : NumberedEntry). known.number) (get_or_default own start d e (omega arith)) in
        let place = ap (λ (i : ℕ). (get_or own i e).number) same in
        omega arith
    by_cases k e low within (inr (inl less)) =
        let default = ap (λ (known : NumberedEntry). known.number) (get_or_default own start d e (omega arith)) in
        let up = pairs_rise own rises start k e less within in
        omega arith
    by_cases k e low within (inr (inr more)) = absurd (omega arith)

-- where a number is found at a place, an entry of that number is there
number_there : (own : List NumberedEntry) (start found : ℕ) → Some found ≡ option_map (λ known. known.number) (slice_get own start) → (x : NumberedEntry) × (get_or own start x ≡ x) × (x.number ≡ found)
number_there own start found is = by_cases (slice_get_cases own start).1
  where
    by_cases : ((x : NumberedEntry) × (start < length own) × (slice_get own start ≡ Some x) × (get_or own start x ≡ x)) ⊎ ((length own ≤ start) × (slice_get own start ≡ None))
        → (x : NumberedEntry) × (get_or own start x ≡ x) × (x.number ≡ found)
    by_cases (inl (x, within, there, at)) = (x, at, sym (same_Some found x.number (is ∙ ap (option_map (λ known. known.number)) there)))
    by_cases (inr (past, none)) = absurd (let never : Some found ≡ None = is ∙ ap (option_map (λ known. known.number)) none in cc)

pub starts_found : (own : List NumberedEntry) (number start found : ℕ) → Rises own → AreNumberedBelow own number start → Some found ≡ option_map (λ known. known.number) (slice_get own start) → number ≤ found → Starts own number start
starts_found own number start found rises below is least =
    let there = number_there own start found is in
    starts_there own number start there.0 rises below (let at = ap (λ (known : NumberedEntry). known.number) there.1 in let n = there.2 in omega (arith, at, n, least))

-- a place without an entry is past all of them
pub past_of : (own : List NumberedEntry) (start : ℕ) → None ≡ slice_get own start → length own ≤ start
past_of own start none = by_cases (slice_get_cases own start).1
  where
    by_cases : ((x : NumberedEntry) × (start < length own) × (slice_get own start ≡ Some x) × (get_or own start x ≡ x)) ⊎ ((length own ≤ start) × (slice_get own start ≡ None)) → length own ≤ start
    by_cases (inl (x, within, there, at)) = absurd (cc)
    by_cases (inr (past, is)) = past

pub past_of_number : (own : List NumberedEntry) (start : ℕ) → None ≡ option_map (λ known. known.number) (slice_get own start) → length own ≤ start
past_of_number own start none = by_cases (slice_get_cases own start).1
  where
    by_cases : ((x : NumberedEntry) × (start < length own) × (slice_get own start ≡ Some x) × (get_or own start x ≡ x)) ⊎ ((length own ≤ start) × (slice_get own start ≡ None)) → length own ≤ start
    by_cases (inl (x, within, there, at)) = absurd (let never : None ≡ Some x.number = none ∙ ap (option_map (λ known. known.number)) there in cc)
    by_cases (inr (past, is)) = past

-- an own entry of the number is at the start
found_at : (own : List NumberedEntry) (number start : ℕ) → Rises own → Starts own number start → (x : NumberedEntry) → Contains own x → x.number ≡ number → (start < length own) × (get_or own start x ≡ x)
found_at own number start rises (below, above) x (k, within, is) same = by_cases (cases_order k start)
  where
    number_is : (get_or own k x).number ≡ number
    number_is = ap (λ (y : NumberedEntry). y.number) is ∙ same

    by_cases : (k ≡ start) ⊎ ((k < start) ⊎ (start < k)) → (start < length own) × (get_or own start x ≡ x)
    by_cases (inl e) = (omega arith, subst (λ (j : ℕ). get_or own j x ≡ x) e is)
    by_cases (inr (inl less)) = absurd (let lesser = below k x (omega arith) less in let n = number_is in omega arith)
    by_cases (inr (inr more)) =
        absurd (let least = above start x (omega arith) (omega arith) in
        let up = pairs_rise own rises start k x more within in
        let n = number_is in
        omega arith)

-- the entry at the start decides whether an own entry reads as the journal's
pub among_there : (own : List NumberedEntry) (start : ℕ) (there known : NumberedEntry) → Rises own → Starts own known.number start → start < length own → there ≡ get_or own start there
    → ((there.number ≡ known.number) × (plain_entry there.entry ≡ plain_entry known.entry)) ↔ Any (λ x. plain_numbered x ≡ plain_numbered known) own
among_there own start there known rises starts within is = (
  λ reads. (start, there, within, sym is, let number = reads.0 in let entry = reads.1 in cc),
  λ among.
      let x = among.1 in
      let number : x.number ≡ known.number = ap (λ (p : ℕ × PlainEntry). p.0) among.4 in
      let entry : plain_entry x.entry ≡ plain_entry known.entry = ap (λ (p : ℕ × PlainEntry). p.1) among.4 in
      let at = found_at own known.number start rises starts x (among.0, among.2, among.3) number in
      let same : there ≡ x = is ∙ get_or_default own start there x within ∙ at.1 in
      (ap (λ (y : NumberedEntry). y.number) same ∙ number, ap (λ (y : NumberedEntry). plain_entry y.entry) same ∙ entry),
)

-- where the start is past all own entries, none reads as the journal's
pub none_past : (own : List NumberedEntry) (start : ℕ) (known : NumberedEntry) → Rises own → Starts own known.number start → length own ≤ start → ¬ Any (λ x. plain_numbered x ≡ plain_numbered known) own
none_past own start known rises starts past among =
    let at = found_at own known.number start rises starts among.1 (among.0, among.2, among.3) (ap (λ (p : ℕ × PlainEntry). p.0) among.4) in
    absurd (let within = at.0 in omega arith)

-- the start of one feeder moves on
pub starts_set : (passes : List PassModel) (at number : ℕ) (starts : List ℕ) (pass : PassModel) (feeder start : ℕ) → AreApart passes → AreStarts passes at number starts → Contains passes pass → pass.feeder ≡ feeder
    → feeder < length starts → AreNumberedBelow (own_entries pass at) number start → AreStarts passes at number (set starts feeder start)
starts_set passes at number starts pass feeder start apart are here is within this k d inside = by_cases (cases_eq (get_or passes k d).feeder feeder)
  where
    other : PassModel
    other = get_or passes k d

    by_cases : (other.feeder ≡ feeder) ⊎ (other.feeder ≢ feeder) → AreNumberedBelow (own_entries other at) number (get_or (set starts feeder start) other.feeder 0)
    by_cases (inl same) =
        let one : pass ≡ other = one_pass passes pass other apart here (Contains-get_or passes k d inside) (is ∙ sym same) in
        rw (same, get_or-set_same starts feeder start 0 within) (subst (λ (p : PassModel). AreNumberedBelow (own_entries p at) number start) one this)
    by_cases (inr differs) = rw (get_or-set_other starts feeder other.feeder start 0 differs) (are k d inside)

-- starts for a number are starts for the next one
pub starts_more : (passes : List PassModel) (at number : ℕ) (starts : List ℕ) → AreStarts passes at number starts → AreStarts passes at (number + 1) starts
starts_more passes at number starts are k d within j e low high = let less = are k d within j e low high in omega arith

zero_at : (n i : ℕ) → get_or (replicate {A = ℕ} n 0) i 0 ≡ 0
zero_at zero i = refl
zero_at (suc n) zero = refl
zero_at (suc n) (suc i) = zero_at n i

-- starts of 0 are starts for the first number
pub starts_new : (passes : List PassModel) (at n : ℕ) → AreStarts passes at 0 (replicate n 0)
starts_new passes at n k d within j e low high = absurd (let none = zero_at n (get_or passes k d).feeder in omega arith)
