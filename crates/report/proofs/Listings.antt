-- The lines so far and those of the registers that are left are the lines of the tower.
use Rattle.std.proofs.Common.{◌≡◌, ◌∙◌, ◌<◌, ℕ, zero, suc, ◌+◌, List, [], ◌∷◌, ◌++◌, length, drop, refl, sym, ap, subst, arith}
use Rattle.std.proofs.lemmas.List.{append_assoc}
use Rattle.std.specs.Option.{option_map_or}
use Rattle.std.specs.List.{slice_get}
use Rattle.tower_file.specs.Contents.{Register}
use Rattle.report.specs.Listing.{listing_line, register_lines_from}

abbrev line_at : List (List ℕ) → ℕ → ℕ → List Register → List ℕ
line_at levels number place registers = option_map_or (listing_line levels number) (slice_get registers place) []

from_place : (levels : List (List ℕ)) (number place : ℕ) (registers : List Register) → place < length registers → line_at levels number place registers ++ register_lines_from levels (number + 1) (drop (suc place) registers) ≡ register_lines_from levels number (drop place registers)
from_place levels number place [] within = absurd (omega arith)
from_place levels number zero (register ∷ registers) within = refl
from_place levels number (suc place) (register ∷ registers) within = from_place levels number place registers (omega arith)

pub one_more : (levels : List (List ℕ)) (number : ℕ) (registers : List Register) (old new all : List ℕ) → number < length registers → new ≡ old ++ line_at levels number number registers → old ++ register_lines_from levels number (drop number registers) ≡ all → new ++ register_lines_from levels (number + 1) (drop (number + 1) registers) ≡ all
one_more levels number registers old new all within is so_far =
    let next : number + 1 ≡ suc number = omega arith in
    let line = line_at levels number number registers in
    let step : line ++ register_lines_from levels (number + 1) (drop (number + 1) registers) ≡ register_lines_from levels number (drop number registers) =
    subst (λ (n : ℕ). line ++ register_lines_from levels (number + 1) (drop n registers) ≡ register_lines_from levels number (drop number registers)) (sym next) (from_place levels number number registers within) in
    rw is (append_assoc old line (register_lines_from levels (number + 1) (drop (number + 1) registers)) ∙ ap (λ (left : List ℕ). old ++ left) step ∙ so_far)
