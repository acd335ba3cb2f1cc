-- the text so far and the lines of the entries that are left are the lines of all
use Rattle.std.proofs.Common.{◌≡◌, ◌++◌, drop, string_bytes}
use Rattle.texts.specs.Printing.{list_text}
use Rattle.texts.proofs.listed.push_lines.Given as goal

abbrev pub invariant-loop-entry : goal.invariant-loop-entry
invariant-loop-entry l = string_bytes l.text ++ list_text (drop l.entry-index l.entries) ≡ string_bytes l.fn.text ++ list_text l.fn.entries
