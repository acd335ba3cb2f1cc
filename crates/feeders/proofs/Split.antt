-- Passes and what their feeders are given, one by one.
use Rattle.std.proofs.Common.{append-nil, ◌≡◌, ℕ, zero, suc, ◌+◌, ◌≤◌, ◌<◌, List, [], ◌∷◌, ◌++◌, length, map, Result, Ok, Err, IfOk, IfErr, All, get_or, refl, sym, ap, subst, ◌∙◌, arith}
use Rattle.std.specs.List.{AllByRecursion, range_with_len}
use Rattle.std.proofs.lemmas.List.{append_assoc, length-map}
use Rattle.shards.specs.Plan.{Plan}
use Rattle.shards.specs.Pass.{PassModel, new_pass}
use Rattle.feeders.specs.declared.outcome.FeederOutcome.{FeederOutcome}
use Rattle.feeders.specs.Progress.{AreFedBy, AreFresh, IsFresh}

-- the passes that an auditor gives are fresh
pub fresh_all : (plan : Plan) (first n : ℕ) → first + n ≤ plan.feeders → AreFresh plan (map (new_pass plan) (range_with_len first n))
fresh_all plan first zero within = tt
fresh_all plan first (suc n) within = ((refl, omega arith), fresh_all plan (first + 1) n (omega arith))

-- what a feeder left, behind what others left before it
moved : {V E : Type 0} (before : List V) (fed : V) (rest : List (Result V E)) → map Ok before ++ Ok fed ∷ rest ≡ map Ok (before ++ fed ∷ []) ++ rest
moved [] fed rest = refl
moved {V} {E} (one ∷ before) fed rest = ap (λ (ended : List (Result V E)). Ok one ∷ ended) (moved before fed rest)

pub grown : {V E : Type 0} (ended : List (Result V E)) (before all : List V) (left rest : List (Result V E)) (one : Result V E) (fed : V) → ended ≡ map Ok before ++ left → left ≡ one ∷ rest → one ≡ Ok fed → all ≡ before ++ fed ∷ []
    → ended ≡ map Ok all ++ rest
grown {V} {E} ended before all left rest one fed are is_left is_one are_all =
    are ∙ ap (λ (l : List (Result V E)). map Ok before ++ l) (is_left ∙ ap (λ (o : Result V E). o ∷ rest) is_one) ∙ moved before fed rest ∙ ap (λ (xs : List V). map Ok xs ++ rest) (sym are_all)

-- what holds of all holds of all but the first
pub all_but_first : {X : Type 0} (P : X → Type 0) (left rest : List X) (one : X) → All P left → left ≡ one ∷ rest → All P rest
all_but_first P left rest one all is = λ k d below. (subst (All P) is all) (suc k) d (omega arith)

fresh_in : {X : Type 0} (plan : Plan) (pairs : List (PassModel × X)) → AreFresh plan (map (λ pair. pair.0) pairs) → (i : ℕ) (pair : PassModel × X) → i < length pairs → pair ≡ get_or pairs i pair → IsFresh plan pair.0
fresh_in plan [] are i pair below is = absurd (omega arith)
fresh_in {X} plan (first ∷ pairs) are zero pair below is = subst (λ (p : PassModel × X). IsFresh plan p.0) (sym is) are.0
fresh_in plan (first ∷ pairs) are (suc i) pair below is = fresh_in plan pairs are.1 i pair (omega arith) is

-- each pair has a fresh pass
pub fresh_at : {X : Type 0} (plan : Plan) (pairs : List (PassModel × X)) (passes : List PassModel) → map (λ pair. pair.0) pairs ≡ passes → AreFresh plan passes → (i : ℕ) (pair : PassModel × X) → i < length pairs → pair ≡ get_or pairs i pair → IsFresh plan pair.0
fresh_at plan pairs passes is are = fresh_in plan pairs (subst (AreFresh plan) (sym is) are)

-- what the feeder that was given the pair at this place may have ended with
pub record Ends {X Y E : Type 0} (of : X → Y) (IsFedOf : ℕ → Y → FeederOutcome → Type 0) (pairs : List (PassModel × X)) (i : ℕ) (one : Result FeederOutcome E) : Type 0 where
  pub pair : PassModel × X
  pub is : (d : PassModel × X) → get_or pairs i d ≡ pair
  pub fed : IfOk one (IsFedOf pair.0.feeder (of pair.1))

module _ {X Y E : Type 0} (of : X → Y) (IsFedOf : ℕ → Y → FeederOutcome → Type 0) where
  fed_each : (pairs : List (PassModel × X)) (outcomes : List FeederOutcome) → length outcomes ≡ length pairs
      → ((i : ℕ) (d : Result FeederOutcome E) → i < length pairs → Ends of IsFedOf pairs i (get_or (map Ok outcomes) i d)) → AreFedBy IsFedOf (map (λ pair. pair.0) pairs) (map (λ pair. of pair.1) pairs) outcomes
  fed_each [] [] same each = tt
  fed_each [] (fed ∷ outcomes) same each = absurd (omega arith)
  fed_each (pair ∷ pairs) [] same each = absurd (omega arith)
  fed_each (pair ∷ pairs) (fed ∷ outcomes) same each =
      let one = each 0 (Ok fed) (omega arith) in
      let is : pair ≡ one.pair = one.is pair in (
        subst (λ (p : PassModel × X). IsFedOf p.0.feeder (of p.1) fed) (sym is) one.fed,
        fed_each pairs outcomes (omega arith) (λ i d below. let rest = each (suc i) d (omega arith) in record { pair = rest.pair; is = rest.is; fed = rest.fed }),
      )

  -- each feeder was given its pass and what stands at its place, and none failed
  pub fed_all : (pairs : List (PassModel × X)) (passes : List PassModel) (given : List Y) (ended : List (Result FeederOutcome E)) (outcomes : List FeederOutcome) → map (λ pair. pair.0) pairs ≡ passes → map (λ pair. of pair.1) pairs ≡ given
      → length ended ≡ length pairs → ((i : ℕ) (d : Result FeederOutcome E) → i < length pairs → Ends of IsFedOf pairs i (get_or ended i d)) → map Ok outcomes ≡ ended → AreFedBy IsFedOf passes given outcomes
  fed_all pairs passes given ended outcomes are_passes are_given same each are =
      let many : length outcomes ≡ length pairs = sym (length-map outcomes (λ (fed : FeederOutcome). Ok fed)) ∙ ap length are ∙ same in
      let fed = fed_each pairs outcomes many (λ i d below. subst (λ (es : List (Result FeederOutcome E)). Ends of IsFedOf pairs i (get_or es i d)) (sym are) (each i d below)) in
      subst (λ (ps : List PassModel). AreFedBy IsFedOf ps given outcomes) are_passes
      (subst (λ (xs : List Y). AreFedBy IsFedOf (map (λ (pair : PassModel × X). pair.0) pairs) xs outcomes) are_given fed)

-- what is said of the second parts of pairs
of_pairs : {X Y : Type 0} (of : X → Y) (pairs : List (PassModel × X)) → map (λ pair. of pair.1) pairs ≡ map of (map (λ pair. pair.1) pairs)
of_pairs of [] = refl
of_pairs {X} {Y} of (pair ∷ pairs) = ap (λ (ys : List Y). of pair.1 ∷ ys) (of_pairs of pairs)

pub of_given : {X Y : Type 0} (of : X → Y) (pairs : List (PassModel × X)) (given : List X) → map (λ pair. pair.1) pairs ≡ given → map (λ pair. of pair.1) pairs ≡ map of given
of_given of pairs given are = of_pairs of pairs ∙ ap (map of) are

pub err_then : {V E : Type 0} {P Q : E → Type 0} (result : Result V E) → IfErr result P → ((fault : E) → P fault → Q fault) → IfErr result Q
err_then (Ok value) is goes = tt
err_then (Err fault) is goes = goes fault is

pub ok_then : {V E : Type 0} {P Q : V → Type 0} (result : Result V E) → IfOk result P → ((v : V) → P v → Q v) → IfOk result Q
ok_then (Ok v) is then = then v is
ok_then (Err fault) is then = tt

-- what is said of each in two parts
pub fed_parts : {X : Type 0} (IsFedOf : ℕ → X → FeederOutcome → Type 0) (P : FeederOutcome → Type 0) (passes : List PassModel) (given : List X) (outcomes : List FeederOutcome)
    → AreFedBy (λ feeder one fed. IsFedOf feeder one fed × P fed) passes given outcomes → AreFedBy IsFedOf passes given outcomes × AllByRecursion P outcomes
fed_parts IsFedOf P [] [] [] are = (tt, tt)
fed_parts IsFedOf P [] [] (fed ∷ outcomes) are = absurd are
fed_parts IsFedOf P [] (one ∷ given) outcomes are = absurd are
fed_parts IsFedOf P (pass ∷ passes) [] outcomes are = absurd are
fed_parts IsFedOf P (pass ∷ passes) (one ∷ given) [] are = absurd are
fed_parts IsFedOf P (pass ∷ passes) (one ∷ given) (fed ∷ outcomes) are =
    let rest = fed_parts IsFedOf P passes given outcomes are.1 in
    ((are.0.0, rest.0), (are.0.1, rest.1))

-- what is still to be fed, and what each feeder leaves behind what others left before it
pub record Goes {X Y : Type 0} (of : X → Y) (IsFedOf : ℕ → Y → FeederOutcome → Type 0) (plan : Plan) (passes : List PassModel) (given : List Y) (before : List FeederOutcome) (left : List (PassModel × X)) : Type 0 where
  pub fresh : AreFresh plan (map (λ pair. pair.0) left)
  pub fed : (rest : List FeederOutcome) → AreFedBy IsFedOf (map (λ pair. pair.0) left) (map (λ pair. of pair.1) left) rest → AreFedBy IsFedOf passes given (before ++ rest)

module _ {X Y : Type 0} (of : X → Y) (IsFedOf : ℕ → Y → FeederOutcome → Type 0) (plan : Plan) (passes : List PassModel) (given : List Y) where
  pub begins : (pairs : List (PassModel × X)) → map (λ pair. pair.0) pairs ≡ passes → map (λ pair. of pair.1) pairs ≡ given → AreFresh plan passes → Goes of IsFedOf plan passes given [] pairs
  begins pairs are_passes are_given fresh = record {
    fresh = subst (AreFresh plan) (sym are_passes) fresh;
    fed = λ rest are. subst (λ (ps : List PassModel). AreFedBy IsFedOf ps given rest) are_passes
        (subst (λ (xs : List Y). AreFedBy IsFedOf (map (λ (pair : PassModel × X). pair.0) pairs) xs rest) are_given are);
  }

  pub goes_on : (before after : List FeederOutcome) (left more : List (PassModel × X)) (pair : PassModel × X) (fed : FeederOutcome) → Goes of IsFedOf plan passes given before left → left ≡ pair ∷ more → IsFedOf pair.0.feeder (of pair.1) fed
      → after ≡ before ++ fed ∷ [] → Goes of IsFedOf plan passes given after more
  goes_on before after left more pair fed goes is fed_is after_is =
      let here : Goes of IsFedOf plan passes given before (pair ∷ more) = subst (Goes of IsFedOf plan passes given before) is goes in
      subst (λ (done : List FeederOutcome). Goes of IsFedOf plan passes given done more) (sym after_is) (record {
        fresh = here.fresh.1;
        fed = λ rest are. subst (AreFedBy IsFedOf passes given) (sym (append_assoc before (fed ∷ []) rest)) (here.fed (fed ∷ rest) (fed_is, are));
      })

  pub ends : (before : List FeederOutcome) (left : List (PassModel × X)) → Goes of IsFedOf plan passes given before left → length left ≡ 0 → AreFedBy IsFedOf passes given before
  ends before [] goes none = subst (AreFedBy IsFedOf passes given) (append-nil before) (goes.fed [] tt)
  ends before (pair ∷ left) goes none = absurd (omega arith)
