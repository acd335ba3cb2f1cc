-- Passes by their feeders.
use Rattle.std.proofs.Common.{◌≡◌, ◌≢◌, ℕ, ◌+◌, ◌<◌, ◌≤◌, true, List, [], ◌∷◌, ◌++◌, length, take, Option, Some, None, Bor, sym, ap, ◌∙◌, subst, arith, ⊎_elim}
use Rattle.std.specs.Prelude.{All, Contains, IfSome, is_some, slice_index_or}
use Rattle.std.specs.List.{AllPairs, AllWithin}
use Rattle.std.proofs.lemmas.Bool.{cases_lt, cases_order, false≢true}
use Rattle.std.proofs.lemmas.Grind.{take_at_read}
use Rattle.std.proofs.lemmas.List.{get_or_default, get_or-take, length-take}
use Rattle.std.proofs.lemmas.List.Elements.{All-push, Contains-get_or}
use Rattle.std.proofs.lemmas.List.Quantifiers.{all_pairs_push}
use Rattle.shards.specs.Plan.{Plan}
use Rattle.shards.specs.Pass.{PassModel, IsPassOf}
use Rattle.shards.specs.Closing.{AreItsPasses, HasPassOf}

abbrev pub AreApart : List PassModel → Type 0
AreApart passes = AllPairs (λ a b. a.feeder ≢ b.feeder) passes

pub has_pass : (passes : List PassModel) (pass : PassModel) (feeder : ℕ) → Contains passes pass → pass.feeder ≡ feeder → HasPassOf passes feeder
has_pass passes pass feeder here is = (here.0, pass, here.1, here.2, is)

-- where `pass_of` finds a pass, the feeder has one
pub has_found : (found : Option (Bor PassModel)) (passes : List PassModel) (feeder : ℕ) → is_some found ≡ true → IfSome found (λ pass. (pass.now.feeder ≡ feeder) × Contains passes pass.now) → HasPassOf passes feeder
has_found None passes feeder some h = absurd (false≢true some)
has_found (Some pass) passes feeder some h = has_pass passes pass.now feeder h.1 h.0

-- where no pass is the feeder's, the feeder has none
pub none_of : (passes : List PassModel) (feeder upto : ℕ) → length passes ≤ upto → AllWithin (λ pass. pass.feeder ≢ feeder) passes 0 upto → ¬ HasPassOf passes feeder
none_of passes feeder upto all none has =
    none has.0 has.1 (omega arith) (omega (arith, all, has.2)) (ap (λ (pass : PassModel). pass.feeder) has.3 ∙ has.4)

pub its_push : (plan : Plan) (passes : List PassModel) (pass : PassModel) → AreItsPasses plan passes → IsPassOf plan pass → ¬ HasPassOf passes pass.feeder → AreItsPasses plan (passes ++ pass ∷ [])
its_push plan passes pass its of none = record {
  each = All-push (IsPassOf plan) passes pass its.each of;
  apart = all_pairs_push (λ a b. a.feeder ≢ b.feeder) passes pass its.apart
      (λ k d within same. none (has_pass passes (slice_index_or passes k d) pass.feeder (Contains-get_or passes k d within) same));
}

taken : (passes : List PassModel) (i : ℕ) (pass : PassModel) → i < length passes → pass ≡ slice_index_or passes i pass → take (i + 1) passes ≡ take i passes ++ pass ∷ []
taken passes i pass within is = (take_at_read passes i pass within).1 ∙ ap (λ (other : PassModel). take i passes ++ other ∷ []) (sym is)

pub its_more : (plan : Plan) (passes : List PassModel) (i : ℕ) (pass : PassModel) → i < length passes → pass ≡ slice_index_or passes i pass
    → AreItsPasses plan (take i passes) → IsPassOf plan pass → ¬ HasPassOf (take i passes) pass.feeder → AreItsPasses plan (take (i + 1) passes)
its_more plan passes i pass within is its of none =
    subst (λ (some : List PassModel). AreItsPasses plan some) (sym (taken passes i pass within is)) (its_push plan (take i passes) pass its of none)

-- passes of which two are of one feeder are not those of a plan
pub not_its : (plan : Plan) (passes : List PassModel) (i : ℕ) (pass : PassModel) → i < length passes → pass ≡ slice_index_or passes i pass → HasPassOf (take i passes) pass.feeder → ¬ AreItsPasses plan passes
not_its plan passes i pass within is has its =
    let low : has.0 < i = omega (arith, has.2, length-take i passes) in
    its.apart has.0 i has.1 low within
    (ap (λ (other : PassModel). other.feeder) (sym (get_or-take i passes has.0 has.1 low) ∙ has.3)
    ∙ has.4
    ∙ ap (λ (other : PassModel). other.feeder) (is ∙ get_or_default passes i pass has.1 within))

-- two passes of one feeder are at one place
same_place : (passes : List PassModel) (a b : PassModel) (i j : ℕ) → AreApart passes → i < length passes → j < length passes
    → slice_index_or passes i a ≡ a → slice_index_or passes j b ≡ b → a.feeder ≡ b.feeder → ¬ (i < j)
same_place passes a b i j apart i_in j_in at_i at_j same low =
    apart i j a low j_in
    (ap (λ (pass : PassModel). pass.feeder) at_i
    ∙ same
    ∙ ap (λ (pass : PassModel). pass.feeder) (sym at_j ∙ get_or_default passes j b a j_in))

-- two passes of one feeder are equal
pub one_pass : (passes : List PassModel) (a b : PassModel) → AreApart passes → Contains passes a → Contains passes b → a.feeder ≡ b.feeder → a ≡ b
one_pass passes a b apart in_a in_b same =
    ⊎_elim
    (λ (place : in_a.0 ≡ in_b.0). sym in_a.2 ∙ get_or_default passes in_a.0 a b in_a.1 ∙ ap (λ (k : ℕ). slice_index_or passes k b) place ∙ in_b.2)
    (λ other. ⊎_elim
    (λ low. absurd (same_place passes a b in_a.0 in_b.0 apart in_a.1 in_b.1 in_a.2 in_b.2 same low))
    (λ high. absurd (same_place passes b a in_b.0 in_a.0 apart in_b.1 in_a.1 in_b.2 in_a.2 (sym same) high))
    other)
    (cases_order in_a.0 in_b.0)

-- what holds of the passes of lesser feeders and of the next one's holds of those below the one after it
pub all_more : (P : PassModel → Type 0) (passes : List PassModel) (feeder : ℕ) → All (λ pass. pass.feeder < feeder → P pass) passes
    → All (λ pass. pass.feeder ≡ feeder → P pass) passes → All (λ pass. pass.feeder < feeder + 1 → P pass) passes
all_more P passes feeder before here k d within low =
    ⊎_elim
    (λ lesser. before k d within lesser)
    (λ least. here k d within (omega (arith, low, least)))
    (cases_lt (slice_index_or passes k d).feeder feeder)

pub all_of_one : (P : PassModel → Type 0) (passes : List PassModel) (pass : PassModel) (feeder : ℕ) → AreApart passes → Contains passes pass → pass.feeder ≡ feeder → P pass
    → All (λ other. other.feeder ≡ feeder → P other) passes
all_of_one P passes pass feeder apart here is p k d within same =
    subst P (one_pass passes pass (slice_index_or passes k d) apart here (Contains-get_or passes k d within) (is ∙ sym same)) p

pub all_of_none : (P : PassModel → Type 0) (passes : List PassModel) (feeder : ℕ) → ¬ HasPassOf passes feeder → All (λ other. other.feeder ≡ feeder → P other) passes
all_of_none P passes feeder none k d within same = absurd (none (has_pass passes (slice_index_or passes k d) feeder (Contains-get_or passes k d within) same))

-- what holds of the passes of all feeders of the plan holds of all passes
pub all_below : (P : PassModel → Type 0) (plan : Plan) (passes : List PassModel) (upto : ℕ) → AreItsPasses plan passes → plan.feeders ≤ upto
    → All (λ pass. pass.feeder < upto → P pass) passes → All P passes
all_below P plan passes upto its all below k d within = below k d within (omega (arith, (its.each k d within).2, all))
