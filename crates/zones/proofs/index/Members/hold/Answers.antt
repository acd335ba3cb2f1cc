use Rattle.std.proofs.Common.{◌≡◌, Some, refl, ◌∙◌}
use Rattle.intervals.specs.declared.ordered_index.Spot.{Spot}
use Rattle.intervals.specs.OrderedIndex.{place_at}
use Rattle.zones.specs.Index.{shelf_of}
use Rattle.zones.specs.declared.index.IndexKind.TheVariants.{Ends, Begins}
use Rattle.zones.proofs.Held.{by_rows, held_row, made_and_gone}
use Rattle.zones.proofs.Rows.{of_rows, same_rows}
use Rattle.zones.proofs.index.Members.hold.Goals as goal

pub returns-in_err-ends-clause-members : goal.returns-in_err-ends-clause-members
returns-in_err-ends-clause-members c ops = same_rows ops c.args.self.now c.hold.new.shelf c.args.self.now.begins c.hold.ensures.ids (λ spot. refl)

pub returns-in-Err-clause-members : goal.returns-in-Err-clause-members
returns-in-Err-clause-members c ops =
    same_rows ops c.args.self.now c.release.new.shelf c.hold-2.new.shelf (λ spot. c.release.ensures.ids spot ∙ c.hold.ensures.ids spot) c.hold-2.ensures.ids

pub returns-clause-members : goal.returns-clause-members
returns-clause-members c ops = same_rows ops c.args.self.now c.hold.new.shelf c.hold-2.new.shelf c.hold.ensures.ids c.hold-2.ensures.ids

pub returns-clause-only : goal.returns-clause-only
returns-clause-only c only =
    let before = c.args.self.now in
    by_rows (Some c.args.op.now) c.hold.new.shelf c.hold-2.new.shelf
    (held_row Ends c.args.op.now before.ends c.hold.new.shelf c.spot_on.result c.spot_on.ensures c.hold.ensures.others (only Ends))
    (held_row Begins c.args.op.now before.begins c.hold-2.new.shelf c.spot_on-2.result c.spot_on-2.ensures c.hold-2.ensures.others (only Begins))

pub returns-in-Err-clause-err : goal.returns-in-Err-clause-err
returns-in-Err-clause-err c =
    let before = c.args.self.now in
    of_rows (λ row. (spot : Spot) → place_at (shelf_of (record { ends = c.release.new.shelf; begins = c.hold-2.new.shelf }) row) spot ≡ place_at (shelf_of before row) spot)
    (made_and_gone before.ends c.hold.new.shelf c.release.new.shelf c.in_ok-ends.ends c.in_ok-ends.ensures.made c.hold.ensures.ids c.release.ensures.gone c.release.ensures.others)
    c.in-Err.ensures.err
