use Rattle.tower_file.proofs.Answering as answering
use Rattle.tower_file.proofs.laws.no_text_wants_memory.Goals as goal

pub returns : goal.returns
returns c = answering.no_text_wants_memory
