use Rattle.ci_forms.proofs.Escapes.{entities_stay, file_stays, name_stays, text_stays}
use Rattle.ci_forms.proofs.laws.names_stay_in_their_places.Goals as goal

pub returns-clause-file : goal.returns-clause-file
returns-clause-file c = file_stays

pub returns-clause-title : goal.returns-clause-title
returns-clause-title c = name_stays

pub returns-clause-xml : goal.returns-clause-xml
returns-clause-xml c = text_stays

pub returns-clause-entities : goal.returns-clause-entities
returns-clause-entities c = entities_stay
