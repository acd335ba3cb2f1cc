use Rattle.tower_file.proofs.Unique.{one_file_of}
use Rattle.tower_file.proofs.Answering as answering
use Rattle.tower_file.proofs.laws.one_tower_fault.Goals as goal

pub returns : goal.returns
returns c bytes =
    let one = one_file_of c.pairs_of_map.ensures.one c.members_of_vector.ensures.one c.one_division.ensures in
    answering.one_tower_fault one bytes (c.text_or_fault.ensures.not_both bytes) (c.one_fault.ensures bytes)
