-- The lines that list the registers of a tower.
use Rattle.std.specs.Prelude.{ℕ, ◌+◌, List, [], ◌∷◌, ◌++◌, unwrap_or, codes}
use Rattle.std.specs.List.{slice_get}
use Rattle.std.specs.Fmt.{decimal}
use Rattle.tower_file.specs.Contents.{Register, TowerModel}
use Rattle.phrases.specs.Names.{printed, kind_word}

-- the name of a level; empty where there is none of that number
abbrev pub level_name : List (List ℕ) → ℕ → List ℕ
level_name levels level = unwrap_or (slice_get levels level) []

-- the line that lists a register: its number, the name of its level, its name and its kind
abbrev pub listing_line : List (List ℕ) → ℕ → Register → List ℕ
listing_line levels number register =
    decimal number ++ codes " " ++ printed (level_name levels register.level) ++ codes " " ++ printed register.name ++ codes " " ++ kind_word register.claim.kind ++ 10 ∷ []

-- the lines that list registers, of which the first has this number
abbrev pub register_lines_from : List (List ℕ) → ℕ → List Register → List ℕ
register_lines_from levels number [] = []
register_lines_from levels number (register ∷ registers) = listing_line levels number register ++ register_lines_from levels (number + 1) registers

-- the list of a tower's registers: a line for each, by number
abbrev pub tower_lines : TowerModel → List ℕ
tower_lines tower = register_lines_from tower.levels 0 tower.registers
