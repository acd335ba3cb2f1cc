-- the characters so far and those that are left are the text's
use Rattle.std.proofs.Common.{◌≡◌, ◌++◌, string_bytes}
use Rattle.std.specs.Prelude.{flat_map}
use Rattle.ci_forms.specs.Xml.{xml_char, xml_text}
use Rattle.ci_forms.proofs.xml.push_xml.Given as goal

abbrev pub invariant-loop-character : goal.invariant-loop-character
invariant-loop-character l = string_bytes l.text ++ flat_map xml_char l.character-iterator ≡ string_bytes l.fn.text ++ xml_text l.fn.plain
