use Rattle.zones.specs.declared.index.IndexKind.TheVariants.{Ends, Begins}
use Rattle.zones.proofs.Held.{changed_only}
use Rattle.zones.proofs.Rows.{place_of, changed_rows, changed_places, of_rows}
use Rattle.zones.specs.Index.{IsInTime, spot_in}
use Rattle.zones.proofs.index.Members.change.Goals as goal

pub change_row-requires-clause-place : goal.change_row-requires-clause-place
change_row-requires-clause-place c = place_of Ends c.args.prepared.now c.args.self.now c.requires.places

pub change_row-requires-2-clause-place : goal.change_row-requires-2-clause-place
change_row-requires-2-clause-place c = place_of Begins c.args.prepared.now c.args.self.now c.requires.places

pub returns-clause-members : goal.returns-clause-members
returns-clause-members c before after =
    changed_rows c.args.old.now c.args.new.now c.args.self.now c.change_row.new.shelf c.change_row-2.new.shelf
    c.args.prepared.now c.change_row.ensures.places c.change_row-2.ensures.places
    (of_rows (λ row. IsInTime (spot_in row c.args.new.now)) c.change_row.ensures.in_time c.change_row-2.ensures.in_time) before after

pub returns-clause-places : goal.returns-clause-places
returns-clause-places c =
    changed_places c.args.old.now c.args.new.now c.args.self.now c.change_row.new.shelf c.change_row-2.new.shelf
    c.args.prepared.now c.change_row.ensures.places c.change_row-2.ensures.places c.requires.places

pub returns-clause-only : goal.returns-clause-only
returns-clause-only c =
    changed_only c.args.self.now c.change_row.new.shelf c.change_row-2.new.shelf
    c.args.old.now c.args.new.now c.args.prepared.now c.requires.prepared c.change_row.ensures.places c.change_row-2.ensures.places
