use Rattle.std.proofs.Common.{Some, ◌∙◌}
use Rattle.std.specs.HashMap.{get}
use Rattle.std.specs.Map.{lookup}
use Rattle.intervals.proofs.RisingRows.{absent_alike, none_past, past_alike, past_front, past_set, pushed, rising_push, rising_set, set_row, still_none, value_beside, value_put}
use Rattle.intervals.proofs.rising.RisingMap.put.Goals as goal

pub returns-then-is_past-clause-order : goal.returns-then-is_past-clause-order
returns-then-is_past-clause-order g c =
    let rows = c.args.self.now.rows.items in
    let past = rw c.as_slice.ensures.value at (c.is_past.ensures.0 c.if-is_past.true) in
    record {
      rows = rw c.push_reserved.ensures.items (rising_push g.K.PartialEq.eq g.K.Ord.cmp g.met.K.Ord.total g.met.K.Ord.matches_eq rows c.requires.order.rows c.args.key (Some c.args.value) past);
      past = λ q all. c.requires.order.past q (past_front g.K.PartialEq.eq g.K.Ord.cmp g.met.K.Ord.total g.met.K.Ord.matches_eq rows c.requires.order.rows c.args.key q (Some c.args.value) (rw c.push_reserved.ensures.items at all));
    }

pub returns-then-is_past-clause-values : goal.returns-then-is_past-clause-values
returns-then-is_past-clause-values g c other =
    let rows = c.args.self.now.rows.items in
    let past = rw c.as_slice.ensures.value at (c.is_past.ensures.0 c.if-is_past.true) in
    let none = none_past g.K.PartialEq.eq g.K.Ord.cmp g.met.K.Ord.total g.met.K.Ord.matches_eq rows c.requires.order.rows c.args.key past in
    rw (c.push_reserved.ensures.items, pushed g.K.PartialEq.eq g.met.K.Eq.laws rows c.args.key other (Some c.args.value) none)
    (value_put (g.K.PartialEq.eq c.args.key other) c.args.value (lookup (g.K.PartialEq.eq other) rows) (get g.K.PartialEq.eq c.args.self.now.others other))

pub returns-in-Some-clause-order : goal.returns-in-Some-clause-order
returns-in-Some-clause-order g c =
    let rows = c.args.self.now.rows.items in
    let within = rw c.as_slice-else-is_past.ensures.value at c.in-Some.ensures.within in
    record {
      rows = rising_set g.K.PartialEq.eq g.K.Ord.cmp g.met.K.Ord.total g.met.K.Ord.matches_eq rows c.requires.order.rows c.in-Some.row c.index_mut.result.now (Some c.args.value) c.index_mut.ensures.value within;
      past = λ q all. c.requires.order.past q (past_set g.K.PartialEq.eq g.K.Ord.cmp g.met.K.Ord.total g.met.K.Ord.matches_eq rows c.requires.order.rows c.in-Some.row c.index_mut.result.now (Some c.args.value) q c.index_mut.ensures.value within all);
    }

pub returns-in-Some-clause-values : goal.returns-in-Some-clause-values
returns-in-Some-clause-values g c other =
    let rows = c.args.self.now.rows.items in
    let within = rw c.as_slice-else-is_past.ensures.value at c.in-Some.ensures.within in
    let first = rw c.as_slice-else-is_past.ensures.value at c.in-Some.ensures.first in
    rw (set_row g.K.PartialEq.eq g.met.K.Eq.laws rows c.args.key other c.in-Some.row c.index_mut.result.now (Some c.args.value) c.index_mut.ensures.value within first)
    (value_put (g.K.PartialEq.eq c.args.key other) c.args.value (lookup (g.K.PartialEq.eq other) rows) (get g.K.PartialEq.eq c.args.self.now.others other))

pub returns-in-Ok-clause-order : goal.returns-in-Ok-clause-order
returns-in-Ok-clause-order g c =
    let rows = c.args.self.now.rows.items in
    record {
      rows = c.requires.order.rows;
      past = λ q all.
          c.in-Ok.ensures.updates.0 q
          ∙ still_none (g.K.PartialEq.eq c.args.key q) (Some c.args.value) (get g.K.PartialEq.eq c.args.self.now.others q) (c.requires.order.past q all)
          (λ same.
          let past = past_alike g.K.PartialEq.eq g.K.Ord.cmp g.met.K.Ord.total g.met.K.Ord.matches_eq rows c.requires.order.rows c.args.key q same all in
          let t = c.is_past.ensures.1 (rw c.as_slice.ensures.value past) in
          let f = c.if-is_past.false in
          absurd (cc));
    }

pub returns-in-Ok-clause-values : goal.returns-in-Ok-clause-values
returns-in-Ok-clause-values g c other =
    let rows = c.args.self.now.rows.items in
    let none = rw c.as_slice-else-is_past.ensures.value at (c.row_of.ensures.none c.in_default.is) in
    rw (c.in-Ok.ensures.updates.0 other)
    (value_beside (g.K.PartialEq.eq c.args.key other) c.args.value (lookup (g.K.PartialEq.eq other) rows) (get g.K.PartialEq.eq c.args.self.now.others other)
    (absent_alike g.K.PartialEq.eq g.met.K.Eq.laws rows c.args.key other none))
