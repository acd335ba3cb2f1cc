-- An edit of an operation that is not judged leaves the indexes and the trees as they are.
use Rattle.std.proofs.Common.{◌≡◌, inr, false, List, Option, Some, None, refl, subst, arith}
use Rattle.std.specs.Prelude.{IfSome, is_some}
use Rattle.intervals.specs.declared.operation.Op.{Op}
use Rattle.intervals.specs.declared.edit.Edit.{Edit}
use Rattle.intervals.specs.Edit.{new_op, edited, edit_id, found_by}
use Rattle.intervals.specs.Refusal.{reply_to}
use Rattle.intervals.specs.Table.{TableModel, admitted, prepared_after}
use Rattle.intervals.specs.Terms.{ClaimModel, state_of}
use Rattle.zone_tree.specs.declared.zone.Zone.{Zone}
use Rattle.zone_tree.specs.Order.{ZoneContents as Zones}
use Rattle.zone_tree.specs.declared.stretch.Stretch.{Stretch}
use Rattle.zone_tree.specs.StretchOrder.{StretchContents as Stretches}
use Rattle.zones.specs.declared.index.Members.{Members}
use Rattle.zones.specs.declared.index.IndexKind.{IndexKind}
use Rattle.zones.specs.declared.records.Records.{Records}
use Rattle.zones.specs.declared.index.IndexKind.TheVariants.{Ends, Begins}
use Rattle.zones.specs.Index.{AreMembers, HasPlacesOf, ReservesOnlyForMember, IsShelfOf, shelf_of}
use Rattle.zones.specs.Members.{IsChange}
use Rattle.zones.specs.Moves.{AreExchanged}
use Rattle.zones.specs.Faults.{stretch_shape}
use Rattle.zones.specs.Records.{AreRecords, edges_at}
use Rattle.zones.specs.Together.{HasRoomInClusters, AreOfOneRegister}
use Rattle.zones.specs.Zoned.{judged_part, zone_shape}
use Rattle.zones.proofs.Admitted.{IsMade, apart_after, change_is, room_after, stretched_after, zoned_after}
use Rattle.zones.proofs.EdgesOf.{edges_elsewhere}
use Rattle.zones.proofs.Held.{only_after}
use Rattle.zones.proofs.Rows.{changed_rows, of_rows}

-- an optional operation that is not there is none
pub not_there : (op : Option Op) → is_some op ≡ false → op ≡ None
not_there None e = refl
not_there (Some op) e = absurd (cc)

-- the places of the prepared operation
places_of : (prepared : Option Op) (members : Members) (records : Records) (zones : Zones) (stretches : Stretches) → IfSome prepared (HasRoomInClusters members records zones stretches) → HasPlacesOf prepared members
places_of None members records zones stretches h = tt
places_of (Some op) members records zones stretches h = h.places

-- where nothing goes and nothing comes the zones and the stretches stay
no_zones : (zones : List Zone) → AreExchanged zone_shape (None, None) (None, None) zones zones
no_zones zones = record { gone = (None, None); come = (None, None); changes = record { one = inr (refl, refl); other = inr (refl, refl) }; moves = refl }

no_stretches : (stretches : List Stretch) → AreExchanged stretch_shape (None, None) (None, None) stretches stretches
no_stretches stretches = record { gone = (None, None); come = (None, None); changes = record { one = inr (refl, refl); other = inr (refl, refl) }; moves = refl }

-- the indexes are those of the operations after the edit
same_members : (before after : List Op) (members : Members) → AreMembers before members → IsChange before None None after → AreMembers after members
same_members before after members are change =
    let all = changed_rows None None members members.ends members.begins None (λ spot. refl) (λ spot. refl) (λ row. tt) before after are change in
    of_rows (λ (row : IndexKind). IsShelfOf row after (shelf_of members row)) (all Ends) (all Begins)

-- the records are those of the operations after the edit
same_records : (before after : List Op) (records : Records) → AreRecords before records → IsChange before None None after → AreRecords after records
same_records before after records are change = record {
  edges = λ v. edges_elsewhere before None None after change v (edges_at records v) tt tt (are.edges v);
  filled = are.filled;
}

pub together_unjudged : (claim : ClaimModel) (table : TableModel) (members : Members) (records : Records) (zones : Zones) (stretches : Stretches) → AreOfOneRegister claim table members records zones stretches
    → (edit : Edit) → reply_to (state_of claim table.ops) edit ≡ None → None ≡ judged_part (found_by table.ops (edit_id edit)) → None ≡ judged_part (new_op table.ops edit)
    → IfSome (new_op table.ops edit) (λ op. table.prepared ≡ Some op) → AreOfOneRegister claim (admitted table edit) members records zones stretches
together_unjudged claim table members records zones stretches together edit accepted old_is new_is held =
    let ops = table.ops in
    let after = edited ops edit in
    let new = new_op ops edit in
    let is_made : IsMade claim ops edit None None after = record { apart = together.apart; accepted = accepted; goes = old_is; comes = new_is; made = refl } in
    let change = change_is is_made in
    record {
      apart = apart_after is_made;
      members_of = same_members ops after members together.members_of change;
      records_of = same_records ops after records together.records_of change;
      zoned = zoned_after is_made (None, None) (None, None) zones together.zoned
          (record { one = refl; other = refl }) (record { one = refl; other = refl }) zones.zones (no_zones zones.zones);
      stretched = stretched_after is_made (None, None) (None, None) stretches together.stretched
          (record { one = refl; other = refl }) (record { one = refl; other = refl }) stretches.stretches (no_stretches stretches.stretches);
      spare = together.spare;
      room = room_after members records zones stretches table.prepared together.room members records zones stretches new (places_of table.prepared members records zones stretches together.room) (λ none. omega arith) (λ none. omega arith) (λ none. omega arith);
      only = only_after new table.prepared members held (subst (λ (n : Option Op). ReservesOnlyForMember (prepared_after n table.prepared) members) new_is together.only);
    }
