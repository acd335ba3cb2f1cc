use Rattle.words.proofs.Asking.{plain_keys, one_writer_keys, whole_keys, no_fit, no_value}
use Rattle.words.proofs.laws.keys_in_turn.Goals as goal

pub returns-clause-plain : goal.returns-clause-plain
returns-clause-plain c = plain_keys

pub returns-clause-one_writer : goal.returns-clause-one_writer
returns-clause-one_writer c = one_writer_keys

pub returns-clause-whole : goal.returns-clause-whole
returns-clause-whole c = whole_keys

pub returns-clause-no_fit : goal.returns-clause-no_fit
returns-clause-no_fit c = no_fit

pub returns-clause-no_value : goal.returns-clause-no_value
returns-clause-no_value c = no_value
