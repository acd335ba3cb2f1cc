-- the characters so far and those that are left are all characters
use Rattle.std.proofs.Common.{◌≡◌, [], ◌∷◌, ◌++◌, string_bytes}
use Rattle.std.specs.List.{flat_map}
use Rattle.std.specs.Prelude.{encode_utf8_all}
use Rattle.lint.specs.Quoted.{quoted_character, quoted}
use Rattle.lint.proofs.quoted.push_quoted.Given as goal

abbrev pub invariant-loop-character : goal.invariant-loop-character
invariant-loop-character l = string_bytes l.text ++ (encode_utf8_all (flat_map quoted_character l.character-iterator) ++ 34 ∷ []) ≡ string_bytes l.fn.text ++ quoted l.fn.bytes
