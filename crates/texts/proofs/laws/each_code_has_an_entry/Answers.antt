use Rattle.texts.proofs.EachCode.{break_listed, form_listed, pair_listed, refusal_listed, shard_listed, tower_listed}
use Rattle.texts.proofs.laws.each_code_has_an_entry.Goals as goal

pub returns-clause-breaks : goal.returns-clause-breaks
returns-clause-breaks c = break_listed

pub returns-clause-forms : goal.returns-clause-forms
returns-clause-forms c = form_listed

pub returns-clause-pairs : goal.returns-clause-pairs
returns-clause-pairs c = pair_listed

pub returns-clause-refusals : goal.returns-clause-refusals
returns-clause-refusals c = refusal_listed

pub returns-clause-towers : goal.returns-clause-towers
returns-clause-towers c = tower_listed

pub returns-clause-shards : goal.returns-clause-shards
returns-clause-shards c = shard_listed
