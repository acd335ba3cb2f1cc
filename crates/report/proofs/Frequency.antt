-- Codes by frequency: how a code is put in its place, and that those that are as frequent stay in their order.
use Rattle.std.proofs.Common.{◌≡◌, ◌≤◌, ◌<◌, ◌+◌, ◌++◌, ◌∙◌, ap, sym, refl, ℕ, Bool, true, false, codes, cond, nat_eq, nat_lt, Bor, List, [], ◌∷◌, drop, length, map, slice_index_or, take, append_assoc, arith}
use Rattle.std.proofs.lemmas.Bool.Decides.{nat_tests}
use Rattle.std.proofs.lemmas.List.{append-nil, at_drop_all, at_drop_more, drop-map, map-append, take-map, take_more}
use Rattle.std.proofs.lemmas.List.Elements.{filter-append}
use Rattle.std.specs.List.{AllByRecursion, filter, flat_map, insert}
use Rattle.logs.specs.declared.log.Log.{Log}
use Rattle.report.specs.declared.refused.CodeTally.{CodeTally}
use Rattle.report.specs.Refused.{IsByFrequency, RefusedCode, by_frequency, code_text, codes_text, is_as_frequent, is_met, put_all_by_frequency, put_by_frequency, refused_by, refused_code_in, refused_codes}
use Rattle.report.specs.Tallied.{tallied, tallied_code}
use Rattle.texts.specs.declared.entry.Explanation.{Explanation}
use Rattle.texts.specs.Codes.{NamedCode, code_in, named_codes_of}

abbrev no_text : Bor (List ℕ)
no_text = record { ref_ptr = (0, 0); now = [] }

-- what stands for a code where there is none
abbrev pub no_tally : CodeTally
no_tally = record { code = no_text; name = no_text; many = 0 }

put_before : (one other : RefusedCode) (others : List RefusedCode) → nat_lt other.many one.many ≡ true → put_by_frequency one (other ∷ others) ≡ one ∷ other ∷ others
put_before one other others is = rw is refl

put_after : (one other : RefusedCode) (others : List RefusedCode) → nat_lt other.many one.many ≡ false → put_by_frequency one (other ∷ others) ≡ other ∷ put_by_frequency one others
put_after one other others is = rw is refl

-- the place is not before the next code
pub place_after : (one : RefusedCode) (tallies : List CodeTally) (i : ℕ) (d : CodeTally) → i < length tallies → one.many ≤ (slice_index_or tallies i d).many
    → tallied (take i tallies) ++ put_by_frequency one (tallied (drop i tallies)) ≡ tallied (take (i + 1) tallies) ++ put_by_frequency one (tallied (drop (i + 1) tallies))
place_after one tallies i d below most =
    let next = slice_index_or tallies i d in
    let is : nat_lt next.many one.many ≡ false = grind (arith, nat_tests, most) in
    let rest = put_by_frequency one (tallied (drop (i + 1) tallies)) in
    at_drop_more (λ (left : List CodeTally). tallied (take i tallies) ++ put_by_frequency one (tallied left)) tallies i d below
    ∙ ap (λ (left : List RefusedCode). tallied (take i tallies) ++ left) (put_after one (tallied_code next) (tallied (drop (i + 1) tallies)) is)
    ∙ sym (append_assoc (tallied (take i tallies)) (tallied_code next ∷ []) rest)
    ∙ ap (λ (front : List RefusedCode). front ++ rest) (sym (ap (λ (front : List CodeTally). tallied front) (take_more tallies i d below) ∙ map-append tallied_code (take i tallies) (next ∷ [])))

inserted : (one : RefusedCode) (tallies : List CodeTally) (i : ℕ) → tallied (take i tallies) ++ one ∷ tallied (drop i tallies) ≡ insert (tallied tallies) i one
inserted one tallies i = sym (λ k. take-map tallied_code i tallies k ++ one ∷ drop-map tallied_code i tallies k)

-- the place is before the next code
pub place_here : (one : RefusedCode) (tallies : List CodeTally) (i : ℕ) (d : CodeTally) → i < length tallies → (slice_index_or tallies i d).many < one.many
    → tallied (take i tallies) ++ put_by_frequency one (tallied (drop i tallies)) ≡ insert (tallied tallies) i one
place_here one tallies i d below less =
    let next = slice_index_or tallies i d in
    let is : nat_lt next.many one.many ≡ true = grind (arith, nat_tests, less) in
    at_drop_more (λ (left : List CodeTally). tallied (take i tallies) ++ put_by_frequency one (tallied left)) tallies i d below
    ∙ ap (λ (left : List RefusedCode). tallied (take i tallies) ++ left) (put_before one (tallied_code next) (tallied (drop (i + 1) tallies)) is)
    ∙ sym (at_drop_more (λ (left : List CodeTally). tallied (take i tallies) ++ one ∷ tallied left) tallies i d below)
    ∙ inserted one tallies i

-- the place is after all codes
pub place_last : (one : RefusedCode) (tallies : List CodeTally) (i : ℕ) → length tallies ≤ i → i ≤ length tallies
    → tallied (take i tallies) ++ put_by_frequency one (tallied (drop i tallies)) ≡ insert (tallied tallies) (length tallies) one
place_last one tallies i beyond within =
    let last : i ≡ length tallies = omega (arith, beyond, within) in
    at_drop_all (λ (left : List CodeTally). tallied (take i tallies) ++ put_by_frequency one (tallied left)) tallies i beyond
    ∙ sym (at_drop_all (λ (left : List CodeTally). tallied (take i tallies) ++ one ∷ tallied left) tallies i beyond)
    ∙ inserted one tallies i ∙ ap (λ (at : ℕ). insert (tallied tallies) at one) last

-- a code that is put in its place is put among the others
pub put_one : (logs : List Log) (entry : Explanation) (tallies new : List CodeTally) (i many : ℕ) → many ≡ refused_by entry.code.now logs → nat_eq many 0 ≡ false
    → ((one : RefusedCode) → one.many ≡ many → put_by_frequency one (tallied tallies) ≡ insert (tallied tallies) i one)
    → new ≡ insert tallies i (record { code = entry.code; name = entry.name; many = many })
    → tallied new ≡ put_all_by_frequency (refused_codes logs (code_in entry ∷ [])) (tallied tallies)
put_one logs entry tallies new i many counted met put is =
    let tally : CodeTally = record { code = entry.code; name = entry.name; many = many } in
    let same : refused_code_in logs (code_in entry) ≡ tallied_code tally = ap (λ (n : ℕ). record { code = entry.code.now; name = entry.name.now; many = n }) (sym counted) in
    ap (λ (these : List CodeTally). tallied these) is
    ∙ map-append tallied_code (take i tallies) (tally ∷ drop i tallies) ∙ inserted (tallied_code tally) tallies i ∙ sym (put (tallied_code tally) refl)
    ∙ sym (ap (λ (ones : List RefusedCode). put_all_by_frequency ones (tallied tallies)) (kept_met (refused_code_in logs (code_in entry)) (tallied_code tally) same met))
  where
    kept_met : (one other : RefusedCode) → one ≡ other → nat_eq other.many 0 ≡ false → filter is_met (one ∷ []) ≡ other ∷ []
    kept_met one other same met = ap (λ (these : RefusedCode). filter is_met (these ∷ [])) same ∙ rw met refl

put_all_append : (ones more sorted : List RefusedCode) → put_all_by_frequency (ones ++ more) sorted ≡ put_all_by_frequency more (put_all_by_frequency ones sorted)
put_all_append [] more sorted = refl
put_all_append (one ∷ ones) more sorted = put_all_append ones more (put_by_frequency one sorted)

-- codes that are put in turn are put together
pub codes_in_turn : (logs : List Log) (first more : List NamedCode) (sorted : List RefusedCode)
    → put_all_by_frequency (refused_codes logs (first ++ more)) sorted ≡ put_all_by_frequency (refused_codes logs more) (put_all_by_frequency (refused_codes logs first) sorted)
codes_in_turn logs first more sorted =
    ap (λ (ones : List RefusedCode). put_all_by_frequency ones sorted)
    (ap (λ (ones : List RefusedCode). filter is_met ones) (map-append (refused_code_in logs) first more) ∙ filter-append is_met (map (refused_code_in logs) first) (map (refused_code_in logs) more))
    ∙ put_all_append (refused_codes logs first) (refused_codes logs more) sorted

-- the codes that are left are put after the next one
pub next_code : (logs : List Log) (entries : List Explanation) (i : ℕ) (d : Explanation) (sorted new total : List RefusedCode) → i < length entries
    → new ≡ put_all_by_frequency (refused_codes logs (code_in (slice_index_or entries i d) ∷ [])) sorted
    → put_all_by_frequency (refused_codes logs (named_codes_of (drop i entries))) sorted ≡ total
    → put_all_by_frequency (refused_codes logs (named_codes_of (drop (i + 1) entries))) new ≡ total
next_code logs entries i d sorted new total below is so_far =
    let rest = named_codes_of (drop (i + 1) entries) in
    ap (λ (these : List RefusedCode). put_all_by_frequency (refused_codes logs rest) these) is
    ∙ sym (codes_in_turn logs (code_in (slice_index_or entries i d) ∷ []) rest sorted)
    ∙ sym (at_drop_more (λ (left : List Explanation). put_all_by_frequency (refused_codes logs (named_codes_of left)) sorted) entries i d below) ∙ so_far

-- the codes of the parts that are left are put after those of the next one
pub next_part : (logs : List Log) (parts : List (Bor (List Explanation))) (i : ℕ) (d : Bor (List Explanation)) (sorted new total : List RefusedCode) → i < length parts
    → new ≡ put_all_by_frequency (refused_codes logs (named_codes_of (slice_index_or parts i d).now)) sorted
    → put_all_by_frequency (refused_codes logs (flat_map (λ part. named_codes_of part.now) (drop i parts))) sorted ≡ total
    → put_all_by_frequency (refused_codes logs (flat_map (λ part. named_codes_of part.now) (drop (i + 1) parts))) new ≡ total
next_part logs parts i d sorted new total below is so_far =
    let rest = flat_map (λ (part : Bor (List Explanation)). named_codes_of part.now) (drop (i + 1) parts) in
    ap (λ (these : List RefusedCode). put_all_by_frequency (refused_codes logs rest) these) is
    ∙ sym (codes_in_turn logs (named_codes_of (slice_index_or parts i d).now) rest sorted)
    ∙ sym (at_drop_more (λ (left : List (Bor (List Explanation))). put_all_by_frequency (refused_codes logs (flat_map (λ part. named_codes_of part.now) left)) sorted) parts i d below) ∙ so_far

-- the text of the codes that are left is after that of the next one
pub next_text : (logs : List Log) (tallies : List CodeTally) (i : ℕ) (d : CodeTally) (before old middle new total : List ℕ) → i < length tallies
    → middle ≡ old ++ before → new ≡ middle ++ code_text logs (tallied_code (slice_index_or tallies i d))
    → old ++ codes_text logs before (tallied (drop i tallies)) ≡ total
    → new ++ codes_text logs (codes ", ") (tallied (drop (i + 1) tallies)) ≡ total
next_text logs tallies i d before old middle new total below first second so_far =
    let one = code_text logs (tallied_code (slice_index_or tallies i d)) in
    let rest = codes_text logs (codes ", ") (tallied (drop (i + 1) tallies)) in
    ap (λ (text : List ℕ). text ++ rest) (second ∙ ap (λ (text : List ℕ). text ++ one) first)
    ∙ ap (λ (text : List ℕ). text ++ rest) (append_assoc old before one) ∙ append_assoc old (before ++ one) rest
    ∙ sym (at_drop_more (λ (left : List CodeTally). old ++ codes_text logs before (tallied left)) tallies i d below) ∙ so_far

-- codes that are put in turn, where none was before, are by frequency
pub tallied_all : (logs : List Log) (named all : List NamedCode) (start new : List CodeTally) → named ≡ all → start ≡ []
    → tallied new ≡ put_all_by_frequency (refused_codes logs named) (tallied start) → tallied new ≡ by_frequency (refused_codes logs all)
tallied_all logs named all start new same none is = is ∙ (λ k. put_all_by_frequency (refused_codes logs (same k)) (tallied (none k)))

all_put : (P : RefusedCode → Type 0) (one : RefusedCode) (others : List RefusedCode) → P one → AllByRecursion P others → AllByRecursion P (put_by_frequency one others)
all_put P one [] is are = (is, tt)
all_put P one (other ∷ others) is are = by_test (nat_lt other.many one.many) (all_put P one others is are.1)
  where
    by_test : (t : Bool) → AllByRecursion P (put_by_frequency one others) → AllByRecursion P (cond t (one ∷ other ∷ others) (other ∷ put_by_frequency one others))
    by_test true rest = (is, are)
    by_test false rest = (are.0, rest)

all_weaken : {P Q : RefusedCode → Type 0} (listed : List RefusedCode) → ((one : RefusedCode) → P one → Q one) → AllByRecursion P listed → AllByRecursion Q listed
all_weaken [] so are = tt
all_weaken (one ∷ listed) so are = (so one are.0, all_weaken listed so are.1)

put_falls : (one : RefusedCode) (others : List RefusedCode) → IsByFrequency others → IsByFrequency (put_by_frequency one others)
put_falls one [] falls = (tt, tt)
put_falls one (other ∷ others) falls = by_test (nat_lt other.many one.many) refl (put_falls one others falls.1)
  where
    by_test : (t : Bool) → nat_lt other.many one.many ≡ t → IsByFrequency (put_by_frequency one others) → IsByFrequency (cond t (one ∷ other ∷ others) (other ∷ put_by_frequency one others))
    by_test true is rest =
        let below : other.many ≤ one.many = grind (arith, nat_tests, is) in
        ((below, all_weaken others (λ next le. omega (arith, below, le)) falls.0), falls)
    by_test false is rest =
        let below : one.many ≤ other.many = grind (arith, nat_tests, is) in
        (all_put (λ next. next.many ≤ other.many) one others below falls.0, rest)

all_fall : (ones sorted : List RefusedCode) → IsByFrequency sorted → IsByFrequency (put_all_by_frequency ones sorted)
all_fall [] sorted falls = falls
all_fall (one ∷ ones) sorted falls = all_fall ones (put_by_frequency one sorted) (put_falls one sorted falls)

-- no code is more frequent than one before it
pub falling : (listed : List RefusedCode) → IsByFrequency (by_frequency listed)
falling listed = all_fall listed [] tt

none_as_frequent : (many : ℕ) (listed : List RefusedCode) → AllByRecursion (λ one. one.many < many) listed → filter (is_as_frequent many) listed ≡ []
none_as_frequent many [] are = refl
none_as_frequent many (one ∷ listed) are = rw not_this (none_as_frequent many listed are.1)
  where
    not_this : nat_eq one.many many ≡ false
    not_this = grind (arith, nat_tests, are.0)

abbrev kept : ℕ → List RefusedCode → List RefusedCode
kept many listed = filter (is_as_frequent many) listed

kept_put : (many : ℕ) (one : RefusedCode) (sorted : List RefusedCode) → IsByFrequency sorted
    → kept many (put_by_frequency one sorted) ≡ kept many sorted ++ kept many (one ∷ [])
kept_put many one [] falls = refl
kept_put many one (other ∷ others) falls = by_test (nat_lt other.many one.many) refl (kept_put many one others falls.1)
  where
    by_one : (t : Bool) → nat_eq one.many many ≡ t → nat_lt other.many one.many ≡ true → cond t (one ∷ kept many (other ∷ others)) (kept many (other ∷ others)) ≡ kept many (other ∷ others) ++ cond t (one ∷ []) []
    by_one true is less =
        let below : other.many < many = grind (arith, nat_tests, is, less) in
        let none : kept many (other ∷ others) ≡ [] = none_as_frequent many (other ∷ others) (below, all_weaken others (λ next le. omega (arith, below, le)) falls.0) in
        rw none refl
    by_one false is less = sym (append-nil (kept many (other ∷ others)))

    by_other : (t : Bool) → kept many (put_by_frequency one others) ≡ kept many others ++ kept many (one ∷ []) → cond t (other ∷ kept many (put_by_frequency one others)) (kept many (put_by_frequency one others)) ≡ cond t (other ∷ kept many others) (kept many others) ++ kept many (one ∷ [])
    by_other true rest = ap (λ (left : List RefusedCode). other ∷ left) rest
    by_other false rest = rest

    by_test : (t : Bool) → nat_lt other.many one.many ≡ t → kept many (put_by_frequency one others) ≡ kept many others ++ kept many (one ∷ [])
        → kept many (cond t (one ∷ other ∷ others) (other ∷ put_by_frequency one others)) ≡ kept many (other ∷ others) ++ kept many (one ∷ [])
    by_test true is rest = by_one (nat_eq one.many many) refl is
    by_test false is rest = by_other (nat_eq other.many many) rest

kept_all : (many : ℕ) (ones sorted : List RefusedCode) → IsByFrequency sorted → filter (is_as_frequent many) (put_all_by_frequency ones sorted) ≡ filter (is_as_frequent many) sorted ++ filter (is_as_frequent many) ones
kept_all many [] sorted falls = sym (append-nil (filter (is_as_frequent many) sorted))
kept_all many (one ∷ ones) sorted falls =
    kept_all many ones (put_by_frequency one sorted) (put_falls one sorted falls)
    ∙ ap (λ front. front ++ filter (is_as_frequent many) ones) (kept_put many one sorted falls)
    ∙ append_assoc (filter (is_as_frequent many) sorted) (filter (is_as_frequent many) (one ∷ [])) (filter (is_as_frequent many) ones)
    ∙ ap (λ rest. filter (is_as_frequent many) sorted ++ rest) (sym (filter-append (is_as_frequent many) (one ∷ []) ones))

-- of the codes that are as frequent as each other all are there, in the order that they had
pub keeping : (listed : List RefusedCode) (many : ℕ) → filter (is_as_frequent many) (by_frequency listed) ≡ filter (is_as_frequent many) listed
keeping listed many = kept_all many listed [] tt
