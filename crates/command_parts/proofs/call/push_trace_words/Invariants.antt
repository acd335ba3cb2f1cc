-- the words so far and those of the names that are left are all words
use Rattle.std.proofs.Common.{◌≡◌, ◌++◌, drop, map, string_bytes}
use Rattle.std.specs.Borrow.{Bor}
use Rattle.std.specs.List.{flat_map}
use Rattle.std.specs.Prelude.{ℕ, List}
use Rattle.command_parts.specs.Call.{trace_word}
use Rattle.command_parts.proofs.call.push_trace_words.Given as goal

abbrev pub invariant-loop-name : goal.invariant-loop-name
invariant-loop-name l = string_bytes l.text ++ flat_map trace_word (map (λ (name : Bor (List ℕ)). name.now) (drop l.name-index l.traces)) ≡ string_bytes l.fn.text ++ flat_map trace_word (map (λ (name : Bor (List ℕ)). name.now) l.fn.traces)
