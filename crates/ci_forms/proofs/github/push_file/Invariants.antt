-- the characters so far and those that are left are the file's name
use Rattle.std.proofs.Common.{◌≡◌, ◌++◌, string_bytes}
use Rattle.std.specs.Prelude.{flat_map}
use Rattle.ci_forms.specs.GitHub.{file_property, property_char}
use Rattle.ci_forms.proofs.github.push_file.Given as goal

abbrev pub invariant-loop-character : goal.invariant-loop-character
invariant-loop-character l = string_bytes l.text ++ flat_map property_char l.character-iterator ≡ string_bytes l.fn.text ++ file_property l.fn.name
