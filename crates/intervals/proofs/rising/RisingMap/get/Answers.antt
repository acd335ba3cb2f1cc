use Rattle.std.proofs.Common.{refl}
use Rattle.intervals.proofs.RisingRows.{absent, none_past}
use Rattle.intervals.proofs.rising.RisingMap.get.Goals as goal

pub returns-then-is_past : goal.returns-then-is_past
returns-then-is_past g c =
    let rows = c.args.self.now.rows.items in
    let past = rw c.as_slice.ensures.value at (c.is_past.ensures.0 c.if-is_past.true) in
    rw (absent g.K.PartialEq.eq g.met.K.Eq.laws rows c.args.key (none_past g.K.PartialEq.eq g.K.Ord.cmp g.met.K.Ord.total g.met.K.Ord.matches_eq rows c.requires.rows c.args.key past), c.requires.past c.args.key past) refl
