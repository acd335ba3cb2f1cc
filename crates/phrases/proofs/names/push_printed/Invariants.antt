-- the characters so far and those that are left are the name's
use Rattle.std.proofs.Common.{◌≡◌, ◌++◌, map, string_bytes}
use Rattle.std.specs.Prelude.{encode_utf8_all}
use Rattle.phrases.specs.Names.{printed, printed_char}
use Rattle.phrases.proofs.names.push_printed.Given as goal

abbrev pub invariant-loop-character : goal.invariant-loop-character
invariant-loop-character l = string_bytes l.text ++ encode_utf8_all (map printed_char l.character-iterator) ≡ string_bytes l.fn.text ++ printed l.fn.name
