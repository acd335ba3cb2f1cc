use Rattle.edn_reader.proofs.Lent.{lent_is_element}
use Rattle.edn_reader.proofs.laws.each_lent_is_element.Goals as goal

pub returns : goal.returns
returns c = lent_is_element
