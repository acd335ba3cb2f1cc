use Rattle.records.proofs.EdnElements.{one_element}
use Rattle.records.proofs.laws.a_record_is_one_element.Goals as goal

pub returns : goal.returns
returns c = one_element
