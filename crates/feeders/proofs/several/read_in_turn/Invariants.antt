-- what is still to be fed
use Rattle.std.proofs.Common.{◌≡◌, ◌≤◌, ◌+◌, length, map, vec_len, vec_capacity}
use Rattle.std.specs.Vec.Iter.{into_iter_items, into_iter_len}
use Rattle.feeders.specs.Progress.{IsReadAndFed}
use Rattle.logs.specs.Start.{first_start}
use Rattle.feeders.specs.Setting.{setting_of}
use Rattle.feeders.proofs.Split.{Goes}
use Rattle.feeders.proofs.several.read_in_turn.Given as goal

abbrev pub invariant-loop-pair : goal.invariant-loop-pair
invariant-loop-pair g l = record {
  can_next : (goal.iterator-loop-pair g).can_next l.pair-iterator;
  finite : (goal.iterator-loop-pair g).is_finite l.pair-iterator;
  long : into_iter_len l.pair-iterator ≡ length (into_iter_items l.pair-iterator);
  goes : Goes g.S.Read.remaining (λ feeder left fed. IsReadAndFed (setting_of g.O.Opening.plan l.fn.site.tower.now l.fn.site.field (first_start feeder)) left fed) g.O.Opening.plan l.fn.passes.items (map g.S.Read.remaining l.fn.readers.items) l.outcomes.items (into_iter_items l.pair-iterator);
  room : vec_len l.outcomes + into_iter_len l.pair-iterator ≤ vec_capacity l.outcomes;
}
