-- Operations and edits without the texts that they were read from.
use Rattle.std.specs.Prelude.{ℕ, List, [], map, None}
use Rattle.std.specs.Borrow.{Bor}
use Rattle.intervals.specs.declared.operation.Op.{Op}
use Rattle.intervals.specs.declared.operation.OpParts.{OpParts}
use Rattle.intervals.specs.declared.edit.Change.{Change}
use Rattle.intervals.specs.declared.edit.Lent.TheVariants.{Answer}
use Rattle.intervals.specs.declared.edit.Edit.{Edit}
use Rattle.intervals.specs.declared.edit.Edit.TheVariants.{Append, Amend, Withdraw, Claim}
use Rattle.intervals.specs.Terms.{RegisterState}

-- an empty text
abbrev pub no_text : Bor (List ℕ)
no_text = record { ref_ptr = (0, 0); now = [] }

-- the parts of an operation without texts: an empty invocation, no answer, and no amendment
abbrev pub no_parts : OpParts
no_parts = record { invocation = no_text; answer = None; amendment = None }

-- the operation without its texts
abbrev pub bare : Op → Op
bare op = record op { parts = no_parts }

-- the change with an empty text as the answer in place of its own text
abbrev pub bare_change : Change → Change
bare_change change = record change { lent = Answer no_text }

-- the edit without its texts
abbrev pub bare_edit : Edit → Edit
bare_edit (Append op) = Append (bare op)
bare_edit (Amend id change) = Amend id (bare_change change)
bare_edit (Withdraw id) = Withdraw id
bare_edit (Claim kind) = Claim kind

-- the state of a register without the texts of its operations
abbrev pub bare_held : RegisterState → RegisterState
bare_held held = record { claim = held.claim; ops = map bare held.ops }
