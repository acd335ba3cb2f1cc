use Rattle.edn_reader.proofs.Prefixes.{elements_before, elements_so_far, elements_of_text}
use Rattle.edn_reader.proofs.laws.elements_of_a_prefix.Goals as goal

pub returns : goal.returns
returns c = record { before = elements_before; so_far = elements_so_far; text = elements_of_text }
