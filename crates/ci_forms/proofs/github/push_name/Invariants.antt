-- the characters so far and those that are left are the name's
use Rattle.std.proofs.Common.{◌≡◌, ◌++◌, map, string_bytes}
use Rattle.std.specs.Prelude.{flat_map}
use Rattle.phrases.specs.Names.{printed_char}
use Rattle.ci_forms.specs.GitHub.{name_property, property_char}
use Rattle.ci_forms.proofs.github.push_name.Given as goal

abbrev pub invariant-loop-character : goal.invariant-loop-character
invariant-loop-character l = string_bytes l.text ++ flat_map property_char (map printed_char l.character-iterator) ≡ string_bytes l.fn.text ++ name_property l.fn.name
