-- The registers that the test by findings accepts are those that fail while all their parts hold.
use Rattle.std.proofs.Common.{◌≡◌, ◌∙◌, ◌<◌, ℕ, zero, suc, ◌+◌, Bool, true, false, List, [], ◌∷◌, ◌++◌, length, drop, Some, refl, sym, ap, subst, arith}
use Rattle.std.proofs.lemmas.Bool.{false≢true}
use Rattle.std.proofs.lemmas.List.{append_assoc}
use Rattle.std.proofs.lemmas.List.Elements.{All-nil, All-cons, All-head, All-tail}
use Rattle.std.proofs.lemmas.Option.{none-some, same_Some}
use Rattle.std.specs.Prelude.{◌&&◌, All, AllPairs, Contains, if◌then◌else◌}
use Rattle.std.specs.Option.{option_map_or}
use Rattle.std.specs.List.{list_all, slice_get}
use Rattle.intervals.specs.declared.operation.RegId.{RegId}
use Rattle.tower_file.specs.Contents.{TowerModel, Register}
use Rattle.shards.specs.Closing.{ClosedShard}
use Rattle.report.specs.declared.finding.Finding.{Finding}
use Rattle.report.specs.Finding.{AreFindings, IsOfTower, fails_of, fails_in, holds_in}
use Rattle.report.specs.Culprit.{RegisterHolds, IsCulprit, AreCulprits, is_culprit, culprits_from, culprits_of}
use Rattle.report.proofs.Found.{fails_by, holds_by, by_fails, by_holds}

-- the test `is_culprit`

both : (a b : Bool) → (a && b) ≡ true → (a ≡ true) × (b ≡ true)
both true b is = (refl, is)
both false b is = absurd (false≢true is)

of_both : (a b : Bool) → a ≡ true → b ≡ true → (a && b) ≡ true
of_both true b first second = second
of_both false b first second = first

parts_hold : (closed : List ClosedShard) (findings : List Finding) (parts : List RegId) → AreFindings closed 0 findings → list_all (λ part. holds_in (fails_of findings) part.0) parts ≡ true → All (λ part. RegisterHolds closed part.0) parts
parts_hold closed findings [] found is = All-nil (λ part. RegisterHolds closed part.0)
parts_hold closed findings (part ∷ parts) found is =
    let here = both (holds_in (fails_of findings) part.0) (list_all (λ part. holds_in (fails_of findings) part.0) parts) is in
    All-cons (λ part. RegisterHolds closed part.0) part parts (holds_by closed findings part.0 found here.0) (parts_hold closed findings parts found here.1)

hold_parts : (tower : TowerModel) (closed : List ClosedShard) (findings : List Finding) (parts : List RegId) → IsOfTower tower closed → length findings ≡ length tower.registers → AreFindings closed 0 findings → All (λ part. RegisterHolds closed part.0) parts → list_all (λ part. holds_in (fails_of findings) part.0) parts ≡ true
hold_parts tower closed findings [] of_tower many found all = refl
hold_parts tower closed findings (part ∷ parts) of_tower many found all =
    of_both (holds_in (fails_of findings) part.0) (list_all (λ part. holds_in (fails_of findings) part.0) parts) (by_holds tower closed findings part.0 of_tower many found (All-head (λ part. RegisterHolds closed part.0) part parts all)) (hold_parts tower closed findings parts of_tower many found (All-tail (λ part. RegisterHolds closed part.0) part parts all))

culprit_by : (tower : TowerModel) (closed : List ClosedShard) (findings : List Finding) (number : ℕ) (register : Register) → AreFindings closed 0 findings → slice_get tower.registers number ≡ Some register → is_culprit (fails_of findings) number register ≡ true → IsCulprit tower closed number
culprit_by tower closed findings number register found at is =
    let here = both (fails_in (fails_of findings) number) (list_all (λ part. holds_in (fails_of findings) part.0) register.parts) is in
    record {
      register = register;
      is = at;
      fails = fails_by closed findings number found here.0;
      parts = parts_hold closed findings register.parts found here.1;
    }

by_culprit : (tower : TowerModel) (closed : List ClosedShard) (findings : List Finding) (number : ℕ) → IsOfTower tower closed → length findings ≡ length tower.registers → AreFindings closed 0 findings → (is : IsCulprit tower closed number) → is_culprit (fails_of findings) number is.register ≡ true
by_culprit tower closed findings number of_tower many found is =
    of_both (fails_in (fails_of findings) number) (list_all (λ part. holds_in (fails_of findings) part.0) is.register.parts) (by_fails tower closed findings number of_tower many found is.fails) (hold_parts tower closed findings is.register.parts of_tower many found is.parts)

-- the list `culprits_from`

each_of : (P : ℕ → Type 0) (test : Bool) (number : ℕ) (rest : List RegId) → (test ≡ true → P number) → All (λ (id : RegId). P id.0) rest → All (λ (id : RegId). P id.0) (if test then record { 0 = number } ∷ rest else rest)
each_of P true number rest here each = All-cons (λ (id : RegId). P id.0) (record { 0 = number }) rest (here refl) each
each_of P false number rest here each = each

each_from : (fails : List Bool) (P : ℕ → Type 0) (first : ℕ) (registers : List Register) → ((k number : ℕ) (register : Register) → number ≡ first + k → slice_get registers k ≡ Some register → is_culprit fails number register ≡ true → P number) → All (λ (id : RegId). P id.0) (culprits_from fails first registers)
each_from fails P first [] gives = All-nil (λ (id : RegId). P id.0)
each_from fails P first (register ∷ registers) gives =
    each_of P (is_culprit fails first register) first (culprits_from fails (first + 1) registers) (gives zero first register (omega arith) refl) (each_from fails P (first + 1) registers (λ k number next at is. gives (suc k) number next (omega arith) is))

pairs_cons : (x : RegId) (xs : List RegId) → All (λ (y : RegId). x.0 < y.0) xs → AllPairs (λ (a b : RegId). a.0 < b.0) xs → AllPairs (λ (a b : RegId). a.0 < b.0) (x ∷ xs)
pairs_cons x xs above rise i zero d before within = absurd (omega arith)
pairs_cons x xs above rise zero (suc j) d before within = above j d (omega arith)
pairs_cons x xs above rise (suc i) (suc j) d before within = rise i j d (omega arith) (omega arith)

rise_of : (test : Bool) (x : RegId) (xs : List RegId) → All (λ (y : RegId). x.0 < y.0) xs → AllPairs (λ (a b : RegId). a.0 < b.0) xs → AllPairs (λ (a b : RegId). a.0 < b.0) (if test then x ∷ xs else xs)
rise_of true x xs above rise = pairs_cons x xs above rise
rise_of false x xs above rise = rise

rise_from : (fails : List Bool) (first : ℕ) (registers : List Register) → AllPairs (λ (a b : RegId). a.0 < b.0) (culprits_from fails first registers)
rise_from fails first [] = λ i j d before within. absurd (omega arith)
rise_from fails first (register ∷ registers) =
    rise_of (is_culprit fails first register) (record { 0 = first }) (culprits_from fails (first + 1) registers) (each_from fails (λ number. first < number) (first + 1) registers (λ k number next at is found. omega arith)) (rise_from fails (first + 1) registers)

head_in : (test : Bool) (x : RegId) (xs : List RegId) → test ≡ true → Contains (if test then x ∷ xs else xs) x
head_in true x xs is = (zero, omega arith, refl)
head_in false x xs is = absurd (false≢true is)

tail_in : (test : Bool) (x y : RegId) (xs : List RegId) → Contains xs y → Contains (if test then x ∷ xs else xs) y
tail_in true x y xs (k, within, is) = (suc k, omega arith, is)
tail_in false x y xs has = has

all_from : (fails : List Bool) (first : ℕ) (registers : List Register) (k number : ℕ) (register : Register) → number ≡ first + k → slice_get registers k ≡ Some register → is_culprit fails number register ≡ true → Contains (culprits_from fails first registers) (record { 0 = number })
all_from fails first [] k number register at there is = absurd (none-some register there)
all_from fails first (head ∷ registers) zero number register at there is =
    let here : number ≡ first = omega arith in
    let tested : is_culprit fails first head ≡ true = subst (λ (n : ℕ). is_culprit fails n head ≡ true) here (subst (λ (r : Register). is_culprit fails number r ≡ true) (sym (same_Some head register there)) is) in
    subst (λ (n : ℕ). Contains (culprits_from fails first (head ∷ registers)) (record { 0 = n })) (sym here) (head_in (is_culprit fails first head) (record { 0 = first }) (culprits_from fails (first + 1) registers) tested)
all_from fails first (head ∷ registers) (suc k) number register at there is =
    tail_in (is_culprit fails first head) (record { 0 = first }) (record { 0 = number }) (culprits_from fails (first + 1) registers) (all_from fails (first + 1) registers k number register (omega arith) there is)

pub are_culprits : (tower : TowerModel) (closed : List ClosedShard) (findings : List Finding) → IsOfTower tower closed → length findings ≡ length tower.registers → AreFindings closed 0 findings → AreCulprits tower closed (culprits_of tower findings)
are_culprits tower closed findings of_tower many found = record {
  rise = rise_from (fails_of findings) 0 tower.registers;
  each = each_from (fails_of findings) (IsCulprit tower closed) 0 tower.registers (λ k number register at there is.
      let here : k ≡ number = omega arith in
      culprit_by tower closed findings number register found (subst (λ (n : ℕ). slice_get tower.registers n ≡ Some register) here there) is);
  all = λ number is. all_from (fails_of findings) 0 tower.registers number number is.register (omega arith) is.is (by_culprit tower closed findings number of_tower many found is);
}

-- the list with one more register

from_place : (fails : List Bool) (number place : ℕ) (registers : List Register) → place < length registers → culprits_from fails number (drop place registers) ≡ (if option_map_or (is_culprit fails number) (slice_get registers place) false then record { 0 = number } ∷ culprits_from fails (number + 1) (drop (suc place) registers) else culprits_from fails (number + 1) (drop (suc place) registers))
from_place fails number place [] within = absurd (omega arith)
from_place fails number zero (register ∷ registers) within = refl
from_place fails number (suc place) (register ∷ registers) within = from_place fails number place registers (omega arith)

from_number : (fails : List Bool) (number : ℕ) (registers : List Register) → number < length registers → culprits_from fails number (drop number registers) ≡ (if option_map_or (is_culprit fails number) (slice_get registers number) false then record { 0 = number } ∷ culprits_from fails (number + 1) (drop (number + 1) registers) else culprits_from fails (number + 1) (drop (number + 1) registers))
from_number fails number registers within =
    let next : suc number ≡ number + 1 = omega arith in
    subst (λ (n : ℕ). culprits_from fails number (drop number registers) ≡ (if option_map_or (is_culprit fails number) (slice_get registers number) false then record { 0 = number } ∷ culprits_from fails (number + 1) (drop n registers) else culprits_from fails (number + 1) (drop n registers))) next (from_place fails number number registers within)

pub one_more : (fails : List Bool) (number : ℕ) (registers : List Register) (old new all : List RegId) → number < length registers → option_map_or (is_culprit fails number) (slice_get registers number) false ≡ true → new ≡ old ++ record { 0 = number } ∷ [] → old ++ culprits_from fails number (drop number registers) ≡ all → new ++ culprits_from fails (number + 1) (drop (number + 1) registers) ≡ all
one_more fails number registers old new all within is pushed so_far =
    let rest = culprits_from fails (number + 1) (drop (number + 1) registers) in
    let step : culprits_from fails number (drop number registers) ≡ record { 0 = number } ∷ rest =
    from_number fails number registers within ∙ ap (λ (test : Bool). if test then record { 0 = number } ∷ rest else rest) is in
    rw pushed (append_assoc old (record { 0 = number } ∷ []) rest ∙ ap (λ (left : List RegId). old ++ left) (sym step) ∙ so_far)

pub one_less : (fails : List Bool) (number : ℕ) (registers : List Register) (old new all : List RegId) → number < length registers → option_map_or (is_culprit fails number) (slice_get registers number) false ≡ false → new ≡ old → old ++ culprits_from fails number (drop number registers) ≡ all → new ++ culprits_from fails (number + 1) (drop (number + 1) registers) ≡ all
one_less fails number registers old new all within is same so_far =
    let rest = culprits_from fails (number + 1) (drop (number + 1) registers) in
    let step : culprits_from fails number (drop number registers) ≡ rest =
    from_number fails number registers within ∙ ap (λ (test : Bool). if test then record { 0 = number } ∷ rest else rest) is in
    rw same (ap (λ (left : List RegId). old ++ left) (sym step) ∙ so_far)
