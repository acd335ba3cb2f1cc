use Rattle.shards.proofs.Lone.{all_of_it, as_many, its_length, its_number}
use Rattle.shards.proofs.laws.a_lone_feeder_has_all_entries.Goals as goal

pub returns : goal.returns
returns c = record { all = all_of_it; counted = as_many; submitted = its_number; live = its_length }
