use Rattle.std.proofs.Common.{◌≡◌, ◌+◌, ◌*◌, ◌≤◌, ℕ, length, None, Some, Option, ap, sym, subst, ◌∙◌, rules, arith}
use Rattle.std.specs.Prelude.{IfSome, IsSome, is_some}
use Rattle.intervals.specs.declared.operation.Op.{Op}
use Rattle.intervals.specs.Operation.{writes}
use Rattle.intervals.specs.Edit.{new_op, edited}
use Rattle.intervals.specs.Table.{TableModel, prepared_after}
use Rattle.intervals.specs.Terms.{terms_of, state_of}
use Rattle.intervals.proofs.Accepted.{edit_accepted}
use Rattle.zone_tree.specs.Digits.{binary_digits}
use Rattle.zones.specs.Index.{AreMembers, HasPlacesOf, ReservesOnlyForMember}
use Rattle.zones.specs.Members.{IsChange}
use Rattle.zones.specs.Edges.{AreEdgesAt}
use Rattle.zones.specs.Records.{room_in}
use Rattle.zones.specs.Together.{ClustersModel, HasRoomInClusters}
use Rattle.zones.specs.Zoned.{judged_part, value_in}
use Rattle.zones.proofs.Admitted.{IsAsked, IsMade, apart_after, as_many_writes, came, can_exchange_stretches, can_exchange_zones, change_is, judged_prepared, room_after, room_for, room_left, spare_after, stretched_after, zoned_after, zones_need_no_room}
use Rattle.zones.proofs.Held.{only_after}
use Rattle.zones.proofs.Lengths.{more_length}
use Rattle.zones.proofs.Recorded.{at_values, first_recorded, second_none, second_some}
use Rattle.zones.proofs.register.Clusters.settle_judged.Goals as goal
use Rattle.zones.proofs.register.Clusters.settle_judged.Goals.{After-edges_after-after, After-prepared}

-- what the clauses ask of the edit, at the parts
asked : (c : After-prepared) → IsAsked (terms_of c.self.inside.claim) c.self.inside.table.ops c.self.inside.table.prepared c.args.edit.now c.args.target.now
asked c =
    subst (λ (x : ClustersModel). IsAsked x.claim x.ops x.prepared c.args.edit.now c.args.target.now) (sym c.self.view_is)
    (record { accepted = c.requires.accepted; target_is = c.requires.target; held = c.requires.prepared })

asked_later : (c : After-edges_after-after) → IsAsked (terms_of c.self.inside.claim) c.self.inside.table.ops c.self.inside.table.prepared c.args.edit.now c.args.target.now
asked_later c =
    subst (λ (x : ClustersModel). IsAsked x.claim x.ops x.prepared c.args.edit.now c.args.target.now) (sym c.self.view_is)
    (record { accepted = c.requires.accepted; target_is = c.requires.target; held = c.requires.prepared })

-- the edit, with what goes and what comes, and the operations after it
made : (c : After-edges_after-after) → IsMade (terms_of c.self.inside.claim) c.self.inside.table.ops c.args.edit.now c.args.old.now c.args.new.now c.admit.new.self.ops
made c =
    let is = asked_later c in
    record {
      apart = c.self.invariant.apart;
      accepted = is.accepted;
      goes = c.requires.old ∙ ap judged_part is.target_is.old;
      comes = c.requires.new ∙ ap judged_part is.target_is.new;
      made = ap (λ (t : TableModel). t.ops) c.admit.ensures;
    }

change : (c : After-edges_after-after) → IsChange c.self.inside.table.ops c.args.old.now c.args.new.now c.admit.new.self.ops
change c = change_is (made c)

members : (c : After-edges_after-after) → AreMembers c.admit.new.self.ops c.change.new.self
members c = c.change.ensures.members c.self.inside.table.ops c.admit.new.self.ops c.self.invariant.members_of (change c)

-- the edges of the two values before and after the edit
earlier : (c : After-edges_after-after) → AreEdgesAt c.self.inside.table.ops (value_in c.args.old.now) (came c.args.old.now c.args.new.now) c.edges_in-edges.result
earlier c =
    let ops = c.self.inside.table.ops in
    at_values ops c.args.old.now c.args.new.now c.value_in-first.result c.other_value-second.result (search rules) (search rules) c.edges_in-edges.result (c.edges_in-edges.ensures ops c.self.invariant.records_of)

later : (c : After-edges_after-after) → AreEdgesAt c.admit.new.self.ops (value_in c.args.old.now) (came c.args.old.now c.args.new.now) c.edges_after-after.result
later c = c.edges_after-after.ensures c.self.inside.table.ops c.admit.new.self.ops (value_in c.args.old.now) (came c.args.old.now c.args.new.now) (earlier c) (change c) (members c)

-- the room for what comes
room : (c : After-edges_after-after) → IsSome c.args.new.now → (2 ≤ c.self.inside.zones.free) × (length c.self.inside.zones.zones + 6 ≤ c.self.inside.stretches.free) × (1 ≤ room_in c.self.inside.records)
room c some =
    let parts = c.self.inside in
    room_for parts.members parts.records parts.zones parts.stretches parts.table.prepared c.self.invariant.room c.args.target.now.new (asked_later c).held (subst (λ (n : Option Op). IsSome n) c.requires.new some)

pub change-requires-clause-prepared : goal.change-requires-clause-prepared
change-requires-clause-prepared c =
    let held = subst (λ (p : Option Op). IfSome c.args.target.now.new (λ op. p ≡ Some op)) (sym c.prepared.ensures) (asked (goal.at.change-requires-clause-prepared c).After-prepared).held in
    subst (λ (n : Option Op). IfSome n (λ op. c.prepared.result ≡ Some op)) (sym c.requires.new) (judged_prepared c.args.target.now.new c.prepared.result held)

pub admit-requires-clause-accepted : goal.admit-requires-clause-accepted
admit-requires-clause-accepted c = edit_accepted (state_of (terms_of c.self.inside.claim) c.self.inside.table.ops) c.args.edit.now (asked (goal.at.admit-requires-clause-accepted c).After-prepared).accepted

pub admit-requires-clause-target : goal.admit-requires-clause-target
admit-requires-clause-target c = (asked (goal.at.admit-requires-clause-target c).After-prepared).target_is

pub admit-requires-clause-room : goal.admit-requires-clause-room
admit-requires-clause-room c = subst (λ (n : Option Op). IfSome n (λ op. c.self.inside.table.prepared ≡ Some op)) (asked (goal.at.admit-requires-clause-room c).After-prepared).target_is.new (asked (goal.at.admit-requires-clause-room c).After-prepared).held

pub put_both-requires-clause-first : goal.put_both-requires-clause-first
put_both-requires-clause-first c =
    let at = (goal.at.put_both-requires-clause-first c).After-edges_after-after in
    first_recorded c.self.inside.table.ops c.args.old.now c.args.new.now c.admit.new.self.ops (change at) c.self.inside.records c.edges_after-after.result c.self.invariant.records_of (later at)

pub put_both-requires-clause-second : goal.put_both-requires-clause-second
put_both-requires-clause-second c some =
    let at = (goal.at.put_both-requires-clause-second c).After-edges_after-after in
    (room at (second_some c.self.inside.table.ops c.args.old.now c.args.new.now c.admit.new.self.ops (change at) c.edges_after-after.result (later at) some)).2

pub exchange-requires : goal.exchange-requires
exchange-requires c =
    let at = (goal.at.exchange-requires c).After-edges_after-after in
    let ops = c.self.inside.table.ops in
    let first = value_in c.args.old.now in
    let second = came c.args.old.now c.args.new.now in
    can_exchange_zones (made at) c.zones_in-zones.result c.zones_in-zones_after.result c.self.inside.zones c.self.invariant.zoned
    (c.zones_in-zones.ensures ops first second (earlier at)) (c.zones_in-zones_after.ensures c.admit.new.self.ops first second (later at)) (λ some. (room at some).0)

pub exchange_stretches-requires-clause-room : goal.exchange_stretches-requires-clause-room
exchange_stretches-requires-clause-room c = let a = c.self.invariant.spare in omega arith

pub exchange_stretches-requires-clause-new : goal.exchange_stretches-requires-clause-new
exchange_stretches-requires-clause-new c =
    let at = (goal.at.exchange_stretches-requires-clause-new c).After-edges_after-after in
    let ops = c.self.inside.table.ops in
    let first = value_in c.args.old.now in
    let second = came c.args.old.now c.args.new.now in
    can_exchange_stretches (made at) c.stretches_in-stretches.result c.stretches_in-stretches_after.result c.self.inside.stretches c.self.invariant.stretched
    (c.stretches_in-stretches.ensures ops first second (earlier at)) (c.stretches_in-stretches_after.ensures c.admit.new.self.ops first second (later at))

pub invariant_of-self : goal.invariant_of-self
invariant_of-self c =
    let at = (goal.at.invariant_of-self c).After-edges_after-after in
    let parts = c.self.inside in
    let ops = parts.table.ops in
    let after = c.admit.new.self.ops in
    let zones = parts.zones in
    let stretches = parts.stretches in
    let old = c.args.old.now in
    let new = c.args.new.now in
    let is = asked_later at in
    let zones_before = c.zones_in-zones.ensures ops (value_in old) (came old new) (earlier at) in
    let zones_later = c.zones_in-zones_after.ensures after (value_in old) (came old new) (later at) in
    let stretches_before = c.stretches_in-stretches.ensures ops (value_in old) (came old new) (earlier at) in
    let stretches_later = c.stretches_in-stretches_after.ensures after (value_in old) (came old new) (later at) in
    let no_fewer : new ≡ None → length c.exchange.new.tree.zones + stretches.free ≤ length zones.zones + c.exchange_stretches.new.tree.free =
    λ none. room_left (made at) none
    c.zones_in-zones.result c.zones_in-zones_after.result zones c.self.invariant.zoned zones_before zones_later c.exchange.new.tree.zones c.exchange.ensures.zones
    c.stretches_in-stretches.result c.stretches_in-stretches_after.result stretches c.self.invariant.stretched stretches_before stretches_later
    c.exchange_stretches.new.tree.free c.exchange_stretches.ensures.one c.exchange_stretches.ensures.kept
    in
    record {
      apart = apart_after (made at);
      members_of = members at;
      records_of = c.put_both.ensures.records ops after old new c.self.invariant.records_of (change at) (later at);
      zoned = zoned_after (made at) c.zones_in-zones.result c.zones_in-zones_after.result zones c.self.invariant.zoned zones_before zones_later c.exchange.new.tree.zones c.exchange.ensures.zones;
      stretched = stretched_after (made at) c.stretches_in-stretches.result c.stretches_in-stretches_after.result stretches c.self.invariant.stretched
          stretches_before stretches_later c.exchange_stretches.new.tree.stretches c.exchange_stretches.ensures.stretches;
      spare = spare_after parts.members parts.records zones stretches parts.table.prepared c.self.invariant.room c.self.invariant.spare c.args.target.now.new is.held c.exchange.new.tree.zones c.exchange_stretches.new.tree.free
          (subst (λ (n : Option Op). n ≡ None → length c.exchange.new.tree.zones + stretches.free ≤ length zones.zones + c.exchange_stretches.new.tree.free) c.requires.new no_fewer)
          (more_length c.exchange.ensures.zones.gone c.exchange.ensures.zones.come zones.zones c.exchange.new.tree.zones c.exchange.ensures.zones.moves) c.exchange_stretches.ensures.room;
      room = subst (λ (p : Option Op). IfSome p (HasRoomInClusters c.change.new.self c.put_both.new.self c.exchange.new.tree c.exchange_stretches.new.tree)) (sym (ap (λ (t : TableModel). t.prepared) c.admit.ensures))
          (room_after parts.members parts.records zones stretches parts.table.prepared c.self.invariant.room c.change.new.self c.put_both.new.self c.exchange.new.tree c.exchange_stretches.new.tree (new_op ops c.args.edit.now)
          (subst (λ (p : Option Op). HasPlacesOf p c.change.new.self) c.prepared.ensures c.change.ensures.places)
          (λ none. c.put_both.ensures.room (ap is_some (second_none ops old new after (change at) ((made at).comes ∙ none) c.edges_after-after.result (later at))))
          (λ none. c.exchange.ensures.room (zones_need_no_room (made at) c.zones_in-zones.result c.zones_in-zones_after.result zones c.self.invariant.zoned zones_before zones_later ((made at).comes ∙ none)))
          (λ none. no_fewer ((made at).comes ∙ none)));
      only = subst (λ (p : Option Op). ReservesOnlyForMember p c.change.new.self) (sym (ap (λ (t : TableModel). t.prepared) c.admit.ensures ∙ ap (λ (n : Option Op). prepared_after n parts.table.prepared) (sym is.target_is.new)))
          (only_after c.args.target.now.new parts.table.prepared c.change.new.self is.held
          (subst (λ (n : Option Op). ReservesOnlyForMember (prepared_after n parts.table.prepared) c.change.new.self) c.requires.new
          (subst (λ (p : Option Op). ReservesOnlyForMember p parts.members → ReservesOnlyForMember (prepared_after new p) c.change.new.self) c.prepared.ensures c.change.ensures.only c.self.invariant.only)));
    }

pub returns-clause-edited : goal.returns-clause-edited
returns-clause-edited c =
    let claim = terms_of c.self.inside.claim in
    let table = c.self.inside.table in
    let steps = c.exchange.new.tree.steps in
    let is = asked (goal.at.returns-clause-edited c).After-prepared in
    ap {B = ClustersModel} (λ (t : TableModel). record { claim = claim; ops = t.ops; prepared = t.prepared; steps = steps }) c.admit.ensures
    ∙ (ap {B = ClustersModel} (λ (n : Option Op). record { claim = claim; ops = edited table.ops c.args.edit.now; prepared = prepared_after n table.prepared; steps = steps }) (sym is.target_is.new)
    ∙ ap {B = ClustersModel} (λ (x : ClustersModel). record { claim = x.claim; ops = edited x.ops c.args.edit.now; prepared = prepared_after c.args.target.now.new x.prepared; steps = steps }) c.self.view_is)

pub returns-clause-steps : goal.returns-clause-steps
returns-clause-steps c =
    let claim = terms_of c.self.inside.claim in
    let zones = c.self.inside.zones in
    let many = as_many_writes claim c.self.inside.table.ops zones.zones c.self.invariant.apart c.iter.ensures.order c.self.invariant.zoned in
    subst (λ (x : ClustersModel). c.exchange.new.tree.steps ≤ x.steps + 4 * (2 * binary_digits (length (writes x.ops) + 1) + 1)) c.self.view_is
    (subst (λ (n : ℕ). c.exchange.new.tree.steps ≤ zones.steps + 4 * (2 * binary_digits (n + 1) + 1)) many c.exchange.ensures.steps)
