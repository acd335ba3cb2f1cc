-- Worked edits after which a register that failed holds again. Their texts are left empty.
use Rattle.std.specs.Prelude.{ℕ, false, pos, List, [], ◌∷◌, Some, None}
use Rattle.intervals.specs.declared.operation.Act.TheVariants.{Read, Write}
use Rattle.intervals.specs.declared.operation.Value.{Value}
use Rattle.intervals.specs.declared.operation.Value.TheVariants.{Nil}
use Rattle.intervals.specs.declared.edit.Lent.TheVariants.{Answer}
use Rattle.intervals.specs.declared.edit.Edit.{Edit}
use Rattle.intervals.specs.declared.edit.Edit.TheVariants.{Append, Amend, Withdraw}
use Rattle.intervals.specs.declared.claim.Kind.TheVariants.{Regular, Atomic}
use Rattle.intervals.specs.Terms.{ClaimModel}
use Rattle.intervals.specs.Bare.{no_text}
use Rattle.intervals.specs.Histories.{number, place, op, plain_claim}

-- a claim to be atomic, of a register whose initial value nobody knows
abbrev pub of_unknown_initial : ClaimModel
of_unknown_initial = record (plain_claim Atomic Nil None) { known = false }

-- a claim to be regular, of a register that begins with nil and that process 0 alone writes
abbrev pub of_one_process : ClaimModel
of_one_process = record (plain_claim Regular Nil None) { writers = Some (pos 0 ∷ []) }

-- an amendment that gives the read at this place of trace 0 this value and this end
abbrev pub answered_at : ℕ → Value → ℕ → Edit
answered_at n value end = Amend (place n) (record { value = Some value; begin = None; end = Some (Some (record { 0 = end })); lent = Answer no_text })

-- a read of 7, and after it the invocation of a write of 7
abbrev pub read_then_invoked : List Edit
read_then_invoked = Append (op 0 (Read Nil) 0 None) ∷ answered_at 0 (number 7) 1 ∷ Append (op 2 (Write (number 7)) 2 None) ∷ []

-- the withdrawal of that write
abbrev pub write_withdrawn : Edit
write_withdrawn = Withdraw (place 2)

-- a read of 1, from 2 to 3
abbrev pub read_of_one : List Edit
read_of_one = Append (op 0 (Read Nil) 2 None) ∷ answered_at 0 (number 1) 3 ∷ []

-- the invocation of a write of 1 at the moment 0, as of another trace that is read later
abbrev pub older_write : Edit
older_write = Append (record (op 0 (Write (number 1)) 0 None) { id = record { feeder = 1; event = 0 } })

-- a write of 1 that begins at 0, and within it a read of 7
abbrev pub seven_within_write : List Edit
seven_within_write = Append (op 0 (Write (number 1)) 0 None) ∷ Append (op 1 (Read Nil) 1 None) ∷ answered_at 1 (number 7) 2 ∷ []
