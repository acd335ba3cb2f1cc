-- What is printed of a register: its verdict, and the operations that show it where it fails.
use Rattle.std.specs.Prelude.{ℕ, List, [], ◌∷◌, ◌++◌, flat_map, Option, Some, None, is_none, codes}
use Rattle.std.specs.Option.{option_map_or}
use Rattle.std.specs.Borrow.{Bor}
use Rattle.intervals.specs.declared.operation.Op.{Op}
use Rattle.tower_file.specs.Contents.{Register}
use Rattle.register_book.specs.declared.fault.Witness.{Witness}
use Rattle.register_book.specs.Fault.{ids_of, ops_in_roles, roles_of}
use Rattle.report.specs.declared.finding.Finding.{Finding}
use Rattle.phrases.specs.Names.{printed}
use Rattle.phrases.specs.Fault.{fault_line}
use Rattle.phrases.specs.Register.{register_line}

-- the line of a lent text, which begins with a bar
abbrev pub part_line : List ℕ → List ℕ
part_line text = codes "  | " ++ printed text ++ 10 ∷ []

-- the line of an optional lent text; empty where there is none
abbrev pub part_line_of : Option (Bor (List ℕ)) → List ℕ
part_line_of None = []
part_line_of (Some text) = part_line text.now

-- the lines of an operation: its invocation, its answer and its last amendment
abbrev pub part_lines : Op → List ℕ
part_lines op = part_line op.parts.invocation.now ++ part_line_of op.parts.answer ++ part_line_of op.parts.amendment

-- the lines of a witness: its fault, and the texts of its operations, each once
abbrev pub witness_text : Witness → List ℕ
witness_text witness = fault_line (ids_of witness) ++ flat_map part_lines (ops_in_roles (roles_of witness))

-- the lines of a register: its verdict, and its witness where it fails
abbrev pub section_text : Register → Finding → List ℕ
section_text register finding =
    register_line register.name finding.kind (is_none finding.witness) finding.operations ++ option_map_or witness_text finding.witness []

-- the lines of registers, by number, with what is found of each
abbrev pub sections_text : List Register → List Finding → List ℕ
sections_text [] findings = []
sections_text (register ∷ registers) [] = []
sections_text (register ∷ registers) (finding ∷ findings) = section_text register finding ++ sections_text registers findings
