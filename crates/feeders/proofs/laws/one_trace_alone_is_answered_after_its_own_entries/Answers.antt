use Rattle.std.proofs.Common.{◌%◌, length, sym, ap, ◌∙◌}
use Rattle.feeders.proofs.laws.one_trace_alone_is_answered_after_its_own_entries.Goals as goal

pub returns : goal.returns
returns c = λ plan before register answer one is.
    is.standing.number ∙ sym (ap length (c.a_lone_feeder_has_all_entries.ensures.all plan (register.0 % plan.shards) is.journal one is.of_shard)) ∙ is.own
