-- The tower of the registers that traces name.
use Rattle.std.specs.Prelude.{ℤ, pos, Bool, true, false, List, [], ◌∷◌, Option, Some, None, codes, map, unwrap_or}
use Rattle.intervals.specs.Terms.{ClaimModel, is_known, value_at_first}
use Rattle.tower_file.specs.Contents.{Register, TowerModel}
use Rattle.keys.specs.declared.file.NameClaim.{NameClaim}
use Rattle.keys.specs.Named.{NamedModel, NamesModel, registers_named}

-- the writers of a register: any process, or the one that writes first, process 0 where none does
abbrev pub writers_claimed : Bool → Option ℤ → Option (List ℤ)
writers_claimed true writer = None
writers_claimed false writer = Some (unwrap_or writer (pos 0) ∷ [])

-- what a register claims that this process writes first
abbrev pub claim_of_named : NameClaim → Option ℤ → ClaimModel
claim_of_named claim writer = record {
  kind = claim.kind;
  writers = writers_claimed claim.any_writes writer;
  initial = value_at_first claim.initial;
  known = is_known claim.initial;
  domain = None;
  fixed = false;
}

-- the register of a name, which is made of no others
abbrev pub register_of_named : NameClaim → NamedModel → Register
register_of_named claim named = record { name = named.name; claim = claim_of_named claim named.writer; level = 0; parts = [] }

-- the tower of what is named: one level, and on it a register for each name, in their order, each of this claim
abbrev pub tower_of_names : NameClaim → NamesModel → TowerModel
tower_of_names claim named = record { levels = codes "keys" ∷ []; registers = map (register_of_named claim) (registers_named named) }
