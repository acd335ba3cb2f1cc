-- The record of a register.
use Rattle.std.specs.Prelude.{ℕ, Bool, List, [], ◌∷◌, ◌++◌, Option, Some, None, codes, flat_map, is_none, length, map}
use Rattle.register_book.specs.declared.fault.Witness.{Witness}
use Rattle.register_book.specs.Fault.{ops_in_roles, roles_of}
use Rattle.report.specs.declared.finding.Finding.{Finding}
use Rattle.phrases.specs.Names.{kind_word}
use Rattle.places.specs.Spots.{PlacesModel}
use Rattle.records.specs.declared.allowed.Allowed.{Allowed}
use Rattle.records.specs.Fault.{fault_symbols}
use Rattle.records.specs.Field.{end_symbols, flag_symbols, list_symbols, number_symbols, text_field, type_symbols, word_symbols}
use Rattle.records.specs.Operation.{op_symbols}
use Rattle.records.specs.Symbol.{Symbol, begin_list, end_list, key, nothing, place}

-- why a register fails: the fault, and the operations that show it
unfoldable pub witness_symbols : PlacesModel → List Allowed → Witness → List Symbol
witness_symbols places allowed witness =
    (key (codes "fault") ∷ []) ++ fault_symbols places allowed witness ++ list_symbols (codes "witness")
    ++ flat_map (op_symbols places) (ops_in_roles (roles_of witness)) ++ end_list ∷ []

-- the fault of a register with the operations that show it, or none
abbrev pub found_symbols : PlacesModel → List Allowed → Option Witness → List Symbol
found_symbols places allowed None = key (codes "fault") ∷ nothing ∷ key (codes "witness") ∷ begin_list ∷ end_list ∷ []
found_symbols places allowed (Some witness) = witness_symbols places allowed witness

-- the number of a register, the name of its level, and its name
abbrev pub register_names : ℕ → List ℕ → List ℕ → List Symbol
register_names n level name = number_symbols (codes "number") n ++ text_field (codes "level") level ++ text_field (codes "name") name

-- the verdict on a register: its kind, and whether it holds
abbrev pub verdict_symbols : Finding → List Symbol
verdict_symbols finding = word_symbols (codes "kind") (kind_word finding.kind) ++ flag_symbols (codes "holds") (is_none finding.witness)

-- how many operations of a register stand, and whether it is to blame
abbrev pub blame_symbols : ℕ → Bool → List Symbol
blame_symbols operations culprit = number_symbols (codes "operations") operations ++ flag_symbols (codes "culprit") culprit

-- how many elements of a register were left out, and those of them on which its failure rests, in a list that is still
-- open
unfoldable pub doubt_list : List (ℕ × ℕ) → List (ℕ × ℕ) → List Symbol
doubt_list left_out rests_on = number_symbols (codes "left_out") (length left_out) ++ list_symbols (codes "rests_on") ++ map (λ at. place at.0 at.1) rests_on

-- what is in doubt of a register, with which its record ends
unfoldable pub doubt_symbols : List (ℕ × ℕ) → List (ℕ × ℕ) → List Symbol
doubt_symbols left_out rests_on = doubt_list left_out rests_on ++ end_symbols

-- the record of a register
unfoldable pub register_symbols : PlacesModel → ℕ → List ℕ → List ℕ → Finding → Bool → List Allowed → List (ℕ × ℕ) → List (ℕ × ℕ) → List Symbol
register_symbols places n level name finding culprit allowed left_out rests_on =
    type_symbols (codes "register") ++ register_names n level name ++ verdict_symbols finding ++ blame_symbols finding.operations culprit
    ++ found_symbols places allowed finding.witness ++ doubt_symbols left_out rests_on
