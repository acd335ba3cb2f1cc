-- The unanswered invocation of each process, as a pairing keeps it.
use Rattle.std.specs.Prelude.{ℕ, ℤ, pos, negsuc, nat_lt, List, slice_index_or, Option, Some, None, if◌then◌else◌}
use Rattle.std.specs.Ordering.{int_cmp}
use Rattle.std.specs.BTreeMap.{is_at}
use Rattle.std.specs.Map.{lookup}
use Rattle.pairing.specs.declared.invocation.Invocation.{Invocation}

-- the model of an `Unanswered`: as many slots as were needed for the processes from 0 to 1,023, by number, and the
-- unanswered invocations of all other processes
pub record Waiting : Type 0 where
  pub by_number : List (Option Invocation)
  pub others : List (ℤ × Invocation)

-- the slot of a process, or none: its number, where that is from 0 to 1,023
abbrev pub slot_of : ℤ → Option ℕ
slot_of (pos number) = if nat_lt number 1024 then Some number else None
slot_of (negsuc number) = None

-- the invocation in a slot, or none; none where there are fewer slots
abbrev pub in_slot : List (Option Invocation) → ℕ → Option Invocation
in_slot slots slot = slice_index_or slots slot None

-- the invocation of a process among those that are kept by process, or none
abbrev pub beside : List (ℤ × Invocation) → ℤ → Option Invocation
beside others process = lookup (is_at (int_cmp process)) others

-- the unanswered invocation of a process, or none: the one in its slot, where it has a slot, else among the others
abbrev pub waits_in : Waiting → ℤ → Option ℕ → Option Invocation
waits_in waiting process (Some slot) = in_slot waiting.by_number slot
waits_in waiting process None = beside waiting.others process

-- the unanswered invocation of a process, or none
abbrev pub waits_at : Waiting → ℤ → Option Invocation
waits_at waiting process = waits_in waiting process (slot_of process)
