use Rattle.tower_file.proofs.Forms.{file_some}
use Rattle.tower_file.proofs.Unique.{one_file_of}
use Rattle.tower_file.proofs.Answering as answering
use Rattle.tower_file.proofs.laws.tower_or_fault.Goals as goal

pub returns : goal.returns
returns c =
    let one = one_file_of c.pairs_of_map.ensures.one c.members_of_vector.ensures.one c.one_division.ensures in
    let some = file_some c.pairs_of_map.ensures.some c.pairs_of_map.ensures.elements c.members_of_vector.ensures.some c.members_of_vector.ensures.elements in
    record {
      one = λ bytes. answering.tower_or_fault bytes some (λ pieces text. c.each_is_element.ensures bytes pieces text.0 text.2) (c.text_or_fault.ensures.one bytes);
      not_both = λ bytes. answering.not_both one bytes (c.text_or_fault.ensures.not_both bytes);
    }
