use Rattle.tower_file.specs.Form.{AreRegisterFields, AreLevelFields}
use Rattle.tower_file.proofs.Unique.{one_map, one_register, one_level}
use Rattle.tower_file.proofs.OnePlace as places
use Rattle.tower_file.proofs.laws.one_place.Goals as goal

pub returns : goal.returns
returns c bytes =
    let pairs = c.pairs_of_map.ensures.one in
    let members = c.members_of_vector.ensures.one in
    places.one_place pairs members (one_map pairs members AreRegisterFields (one_register pairs members)) (one_map pairs members AreLevelFields (one_level pairs members)) bytes
    (c.text_or_fault.ensures.not_both bytes) (c.one_division.ensures bytes)
