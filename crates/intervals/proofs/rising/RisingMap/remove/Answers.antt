use Rattle.std.proofs.Common.{None, refl, ◌∙◌}
use Rattle.std.specs.HashMap.{get}
use Rattle.std.specs.Map.{lookup}
use Rattle.intervals.proofs.RisingRows.{absent_alike, none_gone, past_set, rising_set, set_row, still_none, value_gone}
use Rattle.intervals.proofs.rising.RisingMap.remove.Goals.{in-Some, in_default}
use Rattle.intervals.proofs.rising.RisingMap.remove.Goals as goal

pub returns-clause-order : goal.returns-clause-order
returns-clause-order g c =
    let rows = c.args.self.now.rows.items in
    record {
      rows = elim c.match-row_of.branch [
        | in-Some w ↦
            let within = rw c.as_slice.ensures.value at w.in-Some.ensures.within in
            rw w.self-is (rising_set g.K.PartialEq.eq g.K.Ord.cmp g.met.K.Ord.total g.met.K.Ord.matches_eq rows c.requires.rows w.in-Some.row w.index_mut.result.now None w.index_mut.ensures.value within)
        | in_default w ↦ rw w.self-is c.requires.rows
      ];
      past = λ q all.
          c.remove.ensures.updates.0 q
          ∙ still_none (g.K.PartialEq.eq c.args.key q) None (get g.K.PartialEq.eq c.match-row_of.self.others q)
          (elim c.match-row_of.branch [
            | in-Some w ↦
                let within = rw c.as_slice.ensures.value at w.in-Some.ensures.within in
                rw w.self-is (c.requires.past q (past_set g.K.PartialEq.eq g.K.Ord.cmp g.met.K.Ord.total g.met.K.Ord.matches_eq rows c.requires.rows w.in-Some.row w.index_mut.result.now None q w.index_mut.ensures.value within (rw w.self-is at all)))
            | in_default w ↦ rw w.self-is (c.requires.past q (rw w.self-is at all))
          ])
          (λ same. refl);
    }

pub returns-clause-values : goal.returns-clause-values
returns-clause-values g c other =
    let rows = c.args.self.now.rows.items in
    rw (c.remove.ensures.updates.0 other)
    (elim c.match-row_of.branch [
      | in-Some w ↦
          let within = rw c.as_slice.ensures.value at w.in-Some.ensures.within in
          let first = rw c.as_slice.ensures.value at w.in-Some.ensures.first in
          rw (w.self-is, set_row g.K.PartialEq.eq g.met.K.Eq.laws rows c.args.key other w.in-Some.row w.index_mut.result.now None w.index_mut.ensures.value within first)
          (value_gone (g.K.PartialEq.eq c.args.key other) (lookup (g.K.PartialEq.eq other) rows) (get g.K.PartialEq.eq c.args.self.now.others other))
      | in_default w ↦
          let none = rw c.as_slice.ensures.value at (c.row_of.ensures.none w.in_default.is) in
          rw w.self-is
          (none_gone (g.K.PartialEq.eq c.args.key other) (lookup (g.K.PartialEq.eq other) rows) (get g.K.PartialEq.eq c.args.self.now.others other)
          (absent_alike g.K.PartialEq.eq g.met.K.Eq.laws rows c.args.key other none))
    ])
