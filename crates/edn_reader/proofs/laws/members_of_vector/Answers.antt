use Rattle.edn_reader.specs.declared.bytes.Bracket.TheVariants.{Square}
use Rattle.edn_reader.proofs.Views as views
use Rattle.edn_reader.proofs.laws.members_of_vector.Goals as goal

pub returns : goal.returns
returns c = record {
  some = λ piece h kind. let m = views.has_parts Square piece h kind in (m.0, m.1);
  one = views.one_list_of_parts Square;
  elements = λ piece members h. views.parts_are_elements h.inside;
}
