use Rattle.tower_file.proofs.Unique.{one_file_of}
use Rattle.tower_file.proofs.Answering as answering
use Rattle.tower_file.proofs.laws.one_tower.Goals as goal

pub returns : goal.returns
returns c = answering.one_tower (one_file_of c.pairs_of_map.ensures.one c.members_of_vector.ensures.one c.one_division.ensures)
