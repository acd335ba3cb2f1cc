-- Which registers have no operation, and which processes have no event.
use Rattle.std.specs.Prelude.{ℕ, ℤ, Bool, false, not, ◌&&◌, ◌==◌, List, Option, Some, None, length, map}
use Rattle.std.specs.List.{list_any, range_with_len}
use Rattle.std.specs.Ordering.{int_cmp}
use Rattle.std.specs.BTreeSet.{contains_by}
use Rattle.intervals.specs.Terms.{RegisterState}
use Rattle.shards.specs.Closing.{ClosedShard, book_of}
use Rattle.lint.specs.declared.finding.TraceFindings.{TraceFindings}

-- there is such a register, and none of its operations stands
abbrev pub is_unused : Option RegisterState → Bool
is_unused None = false
is_unused (Some state) = length state.ops == 0

-- of each of the first registers, so many, whether none of its operations stands
abbrev pub unused_among : List ClosedShard → ℕ → List Bool
unused_among closed many = map (λ register. is_unused (book_of closed register)) (range_with_len 0 many)

-- an event of the trace is of the process
abbrev pub has_event_of : ℤ → TraceFindings → Bool
has_event_of process trace = contains_by (int_cmp process) trace.processes

-- there are traces, and none has an event of the process
abbrev pub is_silent : ℤ → List TraceFindings → Bool
is_silent process traces = not (length traces == 0) && not (list_any (has_event_of process) traces)
