-- Worked histories and edits, small enough to judge by eye. Their texts are left empty.
use Rattle.std.specs.Prelude.{ℕ, true, false, pos, List, [], ◌∷◌, map, take, Option, Some, None, option_map}
use Rattle.intervals.specs.declared.operation.Op.{Op}
use Rattle.intervals.specs.declared.operation.OpId.{OpId}
use Rattle.intervals.specs.declared.operation.Moment.{Moment}
use Rattle.intervals.specs.declared.operation.Act.{Act}
use Rattle.intervals.specs.declared.operation.Act.TheVariants.{Read, Write}
use Rattle.intervals.specs.declared.operation.Value.{Value}
use Rattle.intervals.specs.declared.operation.Value.TheVariants.{Nil, Int}
use Rattle.intervals.specs.declared.edit.Lent.TheVariants.{Amendment}
use Rattle.intervals.specs.declared.edit.Edit.{Edit}
use Rattle.intervals.specs.declared.edit.Edit.TheVariants.{Append, Amend, Withdraw, Claim}
use Rattle.intervals.specs.declared.claim.Kind.{Kind}
use Rattle.intervals.specs.declared.claim.Kind.TheVariants.{Regular, Atomic}
use Rattle.intervals.specs.Terms.{ClaimModel}
use Rattle.intervals.specs.Judging.{first_wrong}
use Rattle.intervals.specs.Bare.{no_text, no_parts}

-- the natural number as a value of a register
abbrev pub number : ℕ → Value
number n = Int (pos n)

-- the id of the operation that was invoked at this place of trace 0
abbrev pub place : ℕ → OpId
place n = record { feeder = 0; event = n }

-- an operation at this place of trace 0, by process 0, from the beginning to the optional end
abbrev pub op : ℕ → Act → ℕ → Option Moment → Op
op n act begin end = record {
  id = place n;
  process = pos 0;
  act = act;
  begin = record { 0 = begin };
  end = end;
  parts = no_parts;
}

-- an operation at this place of trace 0, by process 0, from the one moment to the other
abbrev pub from_to : ℕ → Act → ℕ → ℕ → Op
from_to n act begin end = op n act begin (Some (record { 0 = end }))

-- a claim of this kind that any process may write, with this known initial value and this optional domain
abbrev pub plain_claim : Kind → Value → Option (List Value) → ClaimModel
plain_claim kind initial domain = record { kind = kind; writers = None; initial = initial; known = true; domain = domain; fixed = false }

-- a write of 1, and after it a read that returns this value
abbrev pub read_after_write : Value → List Op
read_after_write returned = from_to 0 (Write (number 1)) 0 1 ∷ from_to 2 (Read returned) 2 3 ∷ []

-- a write of 1, and within it a read that returns this value
abbrev pub read_within_write : Value → List Op
read_within_write returned = from_to 0 (Write (number 1)) 0 3 ∷ from_to 1 (Read returned) 1 2 ∷ []

-- the values 0 to 9
abbrev pub ten_values : List Value
ten_values = number 0 ∷ number 1 ∷ number 2 ∷ number 3 ∷ number 4 ∷ number 5 ∷ number 6 ∷ number 7 ∷ number 8 ∷ number 9 ∷ []

-- a write of 1, after it a write of 2, and within that a read of 2 and then a read of 1
abbrev pub new_before_old : List Op
new_before_old =
    from_to 0 (Write (number 1)) 0 1 ∷ from_to 2 (Write (number 2)) 2 9
    ∷ from_to 3 (Read (number 2)) 4 5 ∷ from_to 5 (Read (number 1)) 6 7 ∷ []

-- a write of 1, a read of 1, and then a read of 0 that overlaps a write of 0 and a later write of 1
abbrev pub older_of_two : List Op
older_of_two =
    from_to 0 (Write (number 1)) 0 1 ∷ from_to 2 (Write (number 0)) 2 7
    ∷ from_to 3 (Read (number 1)) 3 4 ∷ from_to 5 (Read (number 0)) 6 10 ∷ from_to 7 (Write (number 1)) 8 11 ∷ []

-- a write of 1, a write of 2, a read of 1 and a read of 2, each after the one before it
abbrev pub old_before_new : List Op
old_before_new =
    from_to 0 (Write (number 1)) 0 1 ∷ from_to 2 (Write (number 2)) 2 3
    ∷ from_to 4 (Read (number 1)) 4 5 ∷ from_to 6 (Read (number 2)) 6 7 ∷ []

-- a write of 1 that begins at 0 and has no end
abbrev pub unfinished : Op
unfinished = op 0 (Write (number 1)) 0 None

-- a read of nil, from 2 to 3
abbrev pub before_it : Op
before_it = from_to 2 (Read Nil) 2 3

-- a read of 1, from 5 to 6
abbrev pub after_it : Op
after_it = from_to 4 (Read (number 1)) 5 6

-- an unfinished write of 1, a read of nil and a read of 1, in the order of their beginnings
abbrev pub unfinished_write : List Op
unfinished_write = unfinished ∷ before_it ∷ after_it ∷ []

-- an unfinished write of 1, a read of nil and a read of 1, listed with the write between the reads
abbrev pub write_between : List Op
write_between = before_it ∷ unfinished ∷ after_it ∷ []

-- a write of 1, from 0 to 1, and a read that begins at 5 and has no end
abbrev pub a_write_and_a_read : List Op
a_write_and_a_read = from_to 0 (Write (number 1)) 0 1 ∷ op 2 (Read Nil) 5 None ∷ []

-- an amendment that gives the operation at this place of trace 0 this end, and nothing else but an empty text
abbrev pub end_at : ℕ → ℕ → Edit
end_at n end = Amend (place n) (record { value = None; begin = None; end = Some (Some (record { 0 = end })); lent = Amendment no_text })

-- the operation with the empty text that an amendment by `end_at` leaves in it
abbrev pub mended : Op → Op
mended a = record a { parts = record no_parts { amendment = Some no_text } }

-- two appends, an append that is refused for its moment, an amendment, an append, a withdrawal that is refused for its
-- id, and a withdrawal of the first read
abbrev pub edits_with_refused_ones : List Edit
edits_with_refused_ones =
    Append (op 0 (Write (number 1)) 0 None) ∷ Append (op 1 (Read Nil) 2 None) ∷ Append (op 3 (Read Nil) 2 None)
    ∷ end_at 0 9 ∷ Append (op 4 (Read Nil) 4 None) ∷ Withdraw (place 7)
    ∷ Withdraw (place 1) ∷ []

-- a claim to be regular that processes 0 and 3 may write, with the initial value nil and the domain of 1 and 2
abbrev pub two_writers : ClaimModel
two_writers = record { kind = Regular; writers = Some (pos 0 ∷ pos 3 ∷ []); initial = Nil; known = true; domain = Some (number 1 ∷ number 2 ∷ []); fixed = false }

-- a write of 1 from 0 to 3, and a write of 2 from 4 to 9
abbrev pub two_writes : List Op
two_writes = from_to 0 (Write (number 1)) 0 3 ∷ from_to 1 (Write (number 2)) 4 9 ∷ []

-- the operation with this process in place of its own
abbrev pub op_by : ℕ → Op → Op
op_by process a = record a { process = pos process }

-- a write at this place of trace 0, by this process, of this value, from this beginning and without end
abbrev pub written_by : ℕ → ℕ → ℕ → ℕ → Op
written_by n process value begin = op_by process (op n (Write (number value)) begin None)

-- the id of the first wrong read, or none, under a claim of this kind with initial value 0 and no domain
abbrev pub first_wrong_id : Kind → List Op → Option OpId
first_wrong_id kind ops = option_map (λ r. r.id) (first_wrong (plain_claim kind (number 0) None) ops)

-- a write of 1, a read of 7 within it, and after it a read of 0 and a read of 5, of which the latter ended first
abbrev pub late_reads : List Op
late_reads =
    from_to 0 (Write (number 1)) 0 3 ∷ from_to 1 (Read (number 7)) 1 2
    ∷ from_to 2 (Read (number 0)) 10 12 ∷ from_to 3 (Read (number 5)) 9 11 ∷ []

-- a write of 1, and after it a write of 2; a read within the first, one between the two, and two around the second
abbrev pub reads_over_two : List Op
reads_over_two =
    from_to 0 (Write (number 1)) 0 3 ∷ from_to 1 (Read (number 0)) 1 2
    ∷ from_to 2 (Read (number 0)) 4 6 ∷ from_to 3 (Read (number 2)) 5 9
    ∷ from_to 4 (Read (number 7)) 5 10 ∷ from_to 5 (Write (number 2)) 7 8 ∷ []

-- of the first 1, 2, .., 6 operations of `reads_over_two`, on a regular register: the first wrong read's id, or none
abbrev pub faults_one_by_one : List (Option OpId)
faults_one_by_one = map (λ n. first_wrong_id Regular (take n reads_over_two)) (1 ∷ 2 ∷ 3 ∷ 4 ∷ 5 ∷ 6 ∷ [])

-- a claim of this kind that process 0 alone may write, with initial value 0 and no domain
abbrev pub claim_of_one : Kind → ClaimModel
claim_of_one kind = record (plain_claim kind (number 0) None) { writers = Some (pos 0 ∷ []) }

-- two writes without end that overlap, and after them in the list two that overlap and ended before those began
abbrev pub writes_over_writes : List Op
writes_over_writes =
    op 5 (Write (number 1)) 50 None ∷ op 6 (Write (number 2)) 60 None
    ∷ from_to 2 (Write (number 3)) 20 29 ∷ from_to 3 (Write (number 2)) 25 35 ∷ []

-- for an atomic register: a write of 1; another write of 1, refused; a claim to be regular; that write again, accepted;
-- and a claim to be atomic, refused
abbrev pub claims_and_writes : List Edit
claims_and_writes =
    Append (from_to 0 (Write (number 1)) 0 1) ∷ Append (from_to 2 (Write (number 1)) 2 3)
    ∷ Claim Regular ∷ Append (from_to 2 (Write (number 1)) 2 3) ∷ Claim Atomic ∷ []
