use Rattle.shards.proofs.EachChange.{each_has_its_change, each_is_by_an_entry, they_rise}
use Rattle.shards.proofs.laws.changes_are_the_entries_that_change_a_verdict.Goals as goal

pub returns : goal.returns
returns c = record { each = each_has_its_change; only = each_is_by_an_entry; rise = they_rise }
