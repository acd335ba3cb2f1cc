-- The lines of a summary on the registers that fail.
use Rattle.std.specs.Prelude.{ℕ, Bool, false, List, [], ◌∷◌, ◌++◌, ◌-◌, ◌&&◌, flat_map, filter, find, length, map, take, Option, not, is_some, codes, nat_lt, if◌then◌else◌}
use Rattle.std.specs.Option.{option_map_or}
use Rattle.std.specs.List.{range_with_len, slice_get}
use Rattle.std.specs.Fmt.{decimal}
use Rattle.intervals.specs.declared.operation.RegId.{RegId}
use Rattle.tower_file.specs.Contents.{TowerModel, Register}
use Rattle.register_book.specs.Fault.{ids_of}
use Rattle.report.specs.declared.finding.Finding.{Finding}
use Rattle.phrases.specs.Names.{printed, kind_word, register_name}
use Rattle.report.specs.Finding.{fails_in}
use Rattle.report.specs.Culprit.{is_culprit}
use Rattle.report.specs.Listing.{level_name}
use Rattle.phrases.specs.Fault.{fault_line}

-- the ids of all registers of a tower, by number
abbrev pub ids_of_tower : TowerModel → List RegId
ids_of_tower tower = map (λ number. record { 0 = number }) (range_with_len 0 (length tower.registers))

-- a register fails and is no culprit, since one of its parts fails too; by the list of which registers fail
abbrev pub is_other : TowerModel → List Bool → RegId → Bool
is_other tower fails id = fails_in fails id.0 && not (option_map_or (is_culprit fails id.0) (slice_get tower.registers id.0) false)

-- all registers that fail and are no culprits, by number
abbrev pub others_of : TowerModel → List Bool → List RegId
others_of tower fails = filter (is_other tower fails) (ids_of_tower tower)

-- the number of a register's level; 0 where there is no such register
abbrev pub level_of : List Register → RegId → ℕ
level_of registers id = option_map_or (λ register. register.level) (slice_get registers id.0) 0

-- the registers that a register is made of
abbrev pub parts_of : List Register → RegId → List RegId
parts_of registers id = option_map_or (λ register. register.parts) (slice_get registers id.0) []

-- the tower has more than one level
abbrev pub has_levels : TowerModel → Bool
has_levels tower = is_some (slice_get tower.levels 1)

-- two spaces and the name of a register's level, where the tower has more than one level
abbrev pub level_text : TowerModel → RegId → List ℕ
level_text tower id = if has_levels tower then codes "  " ++ printed (level_name tower.levels (level_of tower.registers id)) else []

-- a register in a summary: its level, its name, its kind and how many of its operations stand
abbrev pub register_text : TowerModel → RegId → Finding → List ℕ
register_text tower id finding =
    level_text tower id ++ codes "  " ++ printed (register_name tower.registers id) ++ codes "  " ++ kind_word finding.kind ++ codes "  " ++ decimal finding.operations

-- why a register fails, in the line of its fault; only the line's end where it holds
abbrev pub reason_text : Finding → List ℕ
reason_text finding = option_map_or (λ witness. fault_line (ids_of witness)) finding.witness (10 ∷ [])

-- the first of some parts that fails, or none
abbrev pub first_failing : List Bool → List RegId → Option RegId
first_failing fails parts = find (λ part. fails_in fails part.0) parts

-- the name of an optional register; empty where there is none
abbrev pub part_name_text : TowerModel → Option RegId → List ℕ
part_name_text tower part = option_map_or (λ id. printed (register_name tower.registers id)) part []

-- a culprit's line in a summary
abbrev pub culprit_text : TowerModel → RegId → Finding → List ℕ
culprit_text tower id finding = codes "  culprit" ++ register_text tower id finding ++ reason_text finding

-- a culprit's line in a summary, by what is found of all registers
abbrev pub blamed_line : TowerModel → List Finding → RegId → List ℕ
blamed_line tower findings id = option_map_or (culprit_text tower id) (slice_get findings id.0) []

-- the end of a line that says over which part a register fails
abbrev pub over_part_text : TowerModel → Option RegId → List ℕ
over_part_text tower part = codes "  fails over " ++ part_name_text tower part ++ 10 ∷ []

-- the line in a summary of a register that fails and is no culprit
abbrev pub other_text : TowerModel → List Bool → RegId → Finding → List ℕ
other_text tower fails id finding = register_text tower id finding ++ over_part_text tower (first_failing fails (parts_of tower.registers id))

-- the line in a summary of a register that fails and is no culprit, by what is found of all registers
abbrev pub other_line : TowerModel → List Finding → List Bool → RegId → List ℕ
other_line tower findings fails id = option_map_or (other_text tower fails id) (slice_get findings id.0) []

-- how many there are beyond the most that are named, with a text before and one after; empty where there are no more
abbrev pub more_text : List ℕ → ℕ → ℕ → List ℕ → List ℕ
more_text before most many after = if nat_lt most many then before ++ decimal (many - most) ++ after else []

-- the lines of the first 20 of some registers, and how many more there are
abbrev pub lines_text : (RegId → List ℕ) → List RegId → List ℕ
lines_text line ids = flat_map line (take 20 ids) ++ more_text (codes "  and ") 20 (length ids) (codes " more" ++ 10 ∷ [])
