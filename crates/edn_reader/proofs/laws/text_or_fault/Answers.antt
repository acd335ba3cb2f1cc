use Rattle.edn_reader.proofs.Viable.{no_fault}
use Rattle.edn_reader.proofs.Reading.{settled_text}
use Rattle.edn_reader.proofs.laws.text_or_fault.Goals as goal

pub returns : goal.returns
returns c = record { one = settled_text; not_both = no_fault }
