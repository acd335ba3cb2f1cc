-- The registers whose failures rest on elements that were left out, and what a summary says of them.
use Rattle.std.specs.Prelude.{◌≡◌, ◌&&◌, not, ℕ, Bool, List, [], ◌∷◌, ◌++◌, flat_map, filter, length, take, Option, Some, None, is_none, is_some, codes, nat_eq, if◌then◌else◌}
use Rattle.std.specs.Option.{option_map_or}
use Rattle.std.specs.List.{list_any, range_with_len, slice_get}
use Rattle.std.specs.Fmt.{decimal}
use Rattle.intervals.specs.declared.operation.RegId.{RegId}
use Rattle.tower_file.specs.Contents.{TowerModel, Register}
use Rattle.phrases.specs.Names.{place_text, printed, register_name}
use Rattle.shards.specs.Closing.{ClosedShard}
use Rattle.logs.specs.declared.log.Log.{Log}
use Rattle.report.specs.declared.doubt.Doubt.{Doubt}
use Rattle.report.specs.declared.finding.Finding.{Finding}
use Rattle.report.specs.Doubt.{AreDoubts, rests_at, witness_at}
use Rattle.report.specs.Finding.{AreFindings}
use Rattle.report.specs.Failing.{ids_of_tower, more_text}

-- the first element on which the failure of a register rests, or none
abbrev pub first_rested : List Doubt → RegId → Option (ℕ × ℕ)
first_rested doubts id = option_map_or (λ doubt. slice_get doubt.rests_on.items 0) (slice_get doubts id.0) None

-- the failure of a register rests on an element that was left out
abbrev pub is_doubted : List Doubt → RegId → Bool
is_doubted doubts id = is_some (first_rested doubts id)

-- the register of this number fails, and its failure rests on no element that was left out
abbrev pub fails_for_sure : List Finding → List Doubt → ℕ → Bool
fails_for_sure findings doubts number = is_some (witness_at findings number) && is_none (slice_get (rests_at doubts number) 0)

-- of some register the failure rests on no element that was left out
abbrev pub any_for_sure : List Finding → List Doubt → Bool
any_for_sure findings doubts = list_any (fails_for_sure findings doubts) (range_with_len 0 (length findings))

-- of each register that fails, if any, the failure rests on elements that were left out
pub record AreAllInDoubt (tower : TowerModel) (closed : List ClosedShard) (logs : List Log) (all : Bool) : Type 0 where
  pub findings : List Finding
  pub many : length findings ≡ length tower.registers
  pub found : AreFindings closed 0 findings
  pub doubts : List Doubt
  pub doubted : AreDoubts findings logs doubts
  pub all_is : all ≡ not (any_for_sure findings doubts)

-- all registers whose failures rest on elements that were left out, by number
abbrev pub doubted_of : TowerModel → List Doubt → List RegId
doubted_of tower doubts = filter (is_doubted doubts) (ids_of_tower tower)

-- the place of an element, as the first of some; empty where there is none
abbrev pub first_text : Option (ℕ × ℕ) → List ℕ
first_text None = []
first_text (Some at) = codes " (first " ++ place_text at.0 at.1 ++ codes ")"

-- a space, the name of a register, and the first element on which its failure rests
abbrev pub doubted_name : List Register → List Doubt → RegId → List ℕ
doubted_name registers doubts id = codes " " ++ printed (register_name registers id) ++ first_text (first_rested doubts id)

-- how many registers are in doubt
abbrev pub doubted_count_text : ℕ → List ℕ
doubted_count_text many = codes "in doubt " ++ decimal many ++ codes ", since elements were left out:"

-- the names of the first 10 of some registers, and how many more there are
abbrev pub doubted_names : TowerModel → List Doubt → List RegId → List ℕ
doubted_names tower doubts ids = flat_map (doubted_name tower.registers doubts) (take 10 ids) ++ more_text (codes " and ") 10 (length ids) (codes " more")

-- the line of the registers in doubt, of which there are these
abbrev pub doubted_line : TowerModel → List Doubt → List RegId → List ℕ
doubted_line tower doubts ids = if nat_eq (length ids) 0 then [] else doubted_count_text (length ids) ++ doubted_names tower doubts ids ++ 10 ∷ []

-- the line of the registers whose failures rest on elements that were left out; empty where there is none
abbrev pub doubted_text : TowerModel → List Doubt → List ℕ
doubted_text tower doubts = doubted_line tower doubts (doubted_of tower doubts)
