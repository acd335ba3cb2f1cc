-- the characters so far and those that are left are the text's
use Rattle.std.proofs.Common.{◌≡◌, ◌++◌, map, flat_map, string_bytes}
use Rattle.std.specs.Prelude.{codes, encode_utf8_all}
use Rattle.bstr.specs.Utf8.{lossy_chars}
use Rattle.phrases.specs.Names.{printed_char}
use Rattle.records.specs.Edn.{edn_char}
use Rattle.records.proofs.edn.push_text.Given as goal

abbrev pub invariant-loop-character : goal.invariant-loop-character
invariant-loop-character l = string_bytes l.text ++ encode_utf8_all (flat_map edn_char (map printed_char l.character-iterator)) ≡ string_bytes l.fn.text ++ codes "\"" ++ encode_utf8_all (flat_map edn_char (map printed_char (lossy_chars l.fn.bytes)))
