-- the text so far and the blanks that are left make the column
use Rattle.std.proofs.Common.{◌≡◌, ◌++◌, ◌-◌, replicate, string_bytes}
use Rattle.texts.specs.Printing.{column}
use Rattle.texts.proofs.entry.push_column.Given as goal

abbrev pub invariant-loop-blank : goal.invariant-loop-blank
invariant-loop-blank l = string_bytes l.text ++ replicate (l.columns - l._blank) 32 ≡ string_bytes l.fn.text ++ column l.columns l.word
