use Rattle.zones.specs.declared.index.IndexKind.TheVariants.{Ends, Begins}
use Rattle.std.proofs.Common.{None}
use Rattle.zones.proofs.Held.{by_rows, released_row}
use Rattle.zones.proofs.Rows.{same_rows}
use Rattle.zones.proofs.index.Members.release.Goals as goal

pub returns-clause-members : goal.returns-clause-members
returns-clause-members c ops = same_rows ops c.args.self.now c.release.new.shelf c.release-2.new.shelf c.release.ensures.ids c.release-2.ensures.ids

pub returns-clause-only : goal.returns-clause-only
returns-clause-only c only =
    let before = c.args.self.now in
    by_rows None c.release.new.shelf c.release-2.new.shelf
    (released_row Ends c.args.op.now before.ends c.release.new.shelf c.spot_on.result c.spot_on.ensures c.release.ensures.gone c.release.ensures.ids c.release.ensures.others (only Ends))
    (released_row Begins c.args.op.now before.begins c.release-2.new.shelf c.spot_on-2.result c.spot_on-2.ensures c.release-2.ensures.gone c.release-2.ensures.ids c.release-2.ensures.others (only Begins))
