-- the characters so far and those that are left are the text's
use Rattle.std.proofs.Common.{◌≡◌, ◌++◌, string_bytes}
use Rattle.std.specs.Prelude.{flat_map}
use Rattle.show.specs.Escape.{escaped, escaped_char}
use Rattle.show.proofs.escape.push_escaped.Given as goal

abbrev pub invariant-loop-character : goal.invariant-loop-character
invariant-loop-character l = string_bytes l.text ++ flat_map escaped_char l.character-iterator ≡ string_bytes l.fn.text ++ escaped l.fn.plain
