-- The judge of an atomic register, and how its parts belong together.
use Rattle.std.specs.Prelude.{ℕ, ◌+◌, ◌≤◌, List, length, Option, IfSome}
use Rattle.intervals.specs.declared.operation.Op.{Op}
use Rattle.intervals.specs.Terms.{ClaimModel}
use Rattle.intervals.specs.Table.{TableModel}
use Rattle.zone_tree.specs.StretchOrder.{StretchContents as Stretches}
use Rattle.zone_tree.specs.Order.{ZoneContents as Zones}
use Rattle.zones.specs.declared.index.Members.{Members}
use Rattle.zones.specs.declared.records.Records.{Records}
use Rattle.zones.specs.Index.{AreMembers, HasPlaces, ReservesOnlyForMember}
use Rattle.zones.specs.Faults.{AreStretched}
use Rattle.zones.specs.Records.{AreRecords, room_in}
use Rattle.zones.specs.Zoned.{AreManyWriters, AreZoned}

-- the judge of an atomic register: its claim, the operations that stand, the optional one that there is room for, and
-- how many levels its tree of zones has gone down for edits
pub record ClustersModel : Type 0 where
  pub claim : ClaimModel
  pub ops : List Op
  pub prepared : Option Op
  pub steps : ℕ

-- there is room for the operation: its places in both indexes, one record, two zones, and z + 6 stretches, z the number
-- of zones
pub record HasRoomInClusters (members : Members) (records : Records) (zones : Zones) (stretches : Stretches) (op : Op) : Type 0 where
  pub places : HasPlaces op members
  pub records_free : 1 ≤ room_in records
  pub zones_free : 2 ≤ zones.free
  pub stretches_free : length zones.zones + 6 ≤ stretches.free

-- indexes, records, zones and stretches are those of the operations; z + 2 stretches more have places, z the number of
-- zones; there is room for the prepared operation, and the indexes reserve places for it alone
pub record AreOfOneRegister (claim : ClaimModel) (table : TableModel) (members : Members) (records : Records) (zones : Zones) (stretches : Stretches) : Type 0 where
  pub apart : AreManyWriters claim table.ops
  pub members_of : AreMembers table.ops members
  pub records_of : AreRecords table.ops records
  pub zoned : AreZoned table.ops zones.zones
  pub stretched : AreStretched claim table.ops stretches.stretches
  pub spare : length zones.zones + 2 ≤ stretches.free
  pub room : IfSome table.prepared (HasRoomInClusters members records zones stretches)
  pub only : ReservesOnlyForMember table.prepared members
