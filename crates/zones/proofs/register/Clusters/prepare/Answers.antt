use Rattle.std.proofs.Common.{◌≡◌, ℕ, ◌+◌, ◌≤◌, length, None, Option, refl, ap, subst, sym, ◌∙◌, arith, rules}
use Rattle.intervals.specs.declared.operation.Op.{Op}
use Rattle.intervals.specs.Table.{TableModel}
use Rattle.intervals.specs.Terms.{terms_of}
use Rattle.zones.specs.Index.{ReservesOnlyForMember}
use Rattle.zones.specs.Together.{ClustersModel}
use Rattle.zones.proofs.Admitted.{together_kept, room_of_none, room_of_one}
use Rattle.zones.proofs.register.Clusters.prepare.Goals as goal

pub invariant_of-self-in_err-reserve-3 : goal.invariant_of-self-in_err-reserve-3
invariant_of-self-in_err-reserve-3 c =
    let none = ap (λ (x : ClustersModel). x.prepared) c.self.view_is ∙ c.requires in
    together_kept (terms_of c.self.inside.claim) c.self.inside.table c.self.inside.table c.self.inside.members c.self.inside.members
    c.self.inside.records c.reserve-3.new.self c.self.inside.zones c.reserve.new.self c.self.inside.stretches c.reserve-2.new.self c.self.invariant
    refl c.self.invariant.members_of (c.reserve-3.ensures.records c.self.inside.table.ops c.self.invariant.records_of) c.reserve.ensures.zones c.reserve-2.ensures.stretches (omega (arith, c.in_ok-reserve-2.ensures.free))
    (room_of_none c.self.inside.members c.reserve-3.new.self c.reserve.new.self c.reserve-2.new.self c.self.inside.table.prepared none)
    c.self.invariant.only

pub invariant_of-self-in_err-hold : goal.invariant_of-self-in_err-hold
invariant_of-self-in_err-hold c =
    let none = ap (λ (x : ClustersModel). x.prepared) c.self.view_is ∙ c.requires in
    together_kept (terms_of c.self.inside.claim) c.self.inside.table c.self.inside.table c.self.inside.members c.hold.new.self
    c.self.inside.records c.reserve-3.new.self c.self.inside.zones c.reserve.new.self c.self.inside.stretches c.reserve-2.new.self c.self.invariant
    refl (c.hold.ensures.members c.self.inside.table.ops c.self.invariant.members_of) (c.reserve-3.ensures.records c.self.inside.table.ops c.self.invariant.records_of) c.reserve.ensures.zones c.reserve-2.ensures.stretches (omega (arith, c.in_ok-reserve-2.ensures.free))
    (room_of_none c.hold.new.self c.reserve-3.new.self c.reserve.new.self c.reserve-2.new.self c.self.inside.table.prepared none)
    (λ row spot held. c.self.invariant.only row spot (sym (c.in_err-hold.ensures.err row spot) ∙ held))

pub invariant_of-self-in-Err : goal.invariant_of-self-in-Err
invariant_of-self-in-Err c =
    let ops = c.self.inside.table.ops in
    let table : c.prepare.new.self ≡ c.self.inside.table = c.in-Err.ensures.err in
    let none : c.prepare.new.self.prepared ≡ None = ap (λ (t : TableModel). t.prepared) table ∙ (ap (λ (x : ClustersModel). x.prepared) c.self.view_is ∙ c.requires) in
    together_kept (terms_of c.self.inside.claim) c.self.inside.table c.prepare.new.self c.self.inside.members c.release.new.self
    c.self.inside.records c.reserve-3.new.self c.self.inside.zones c.reserve.new.self c.self.inside.stretches c.reserve-2.new.self c.self.invariant
    (ap (λ (t : TableModel). t.ops) table) (c.release.ensures.members ops (c.hold.ensures.members ops c.self.invariant.members_of)) (c.reserve-3.ensures.records c.self.inside.table.ops c.self.invariant.records_of) c.reserve.ensures.zones c.reserve-2.ensures.stretches (omega (arith, c.in_ok-reserve-2.ensures.free))
    (room_of_none c.release.new.self c.reserve-3.new.self c.reserve.new.self c.reserve-2.new.self c.prepare.new.self.prepared none)
    (subst (λ (o : Option Op). ReservesOnlyForMember o c.release.new.self) (sym none) (c.release.ensures.only (c.in_ok-hold.ensures.only (subst (λ (o : Option Op). ReservesOnlyForMember o c.self.inside.members) (ap (λ (x : ClustersModel). x.prepared) c.self.view_is ∙ c.requires) c.self.invariant.only))))

pub invariant_of-self-in_default : goal.invariant_of-self-in_default
invariant_of-self-in_default c =
    let ops = c.self.inside.table.ops in
    let places : c.in_ok-places.places ≡ length c.reserve.new.self.zones + 6 = search rules in
    together_kept (terms_of c.self.inside.claim) c.self.inside.table c.prepare.new.self c.self.inside.members c.hold.new.self
    c.self.inside.records c.reserve-3.new.self c.self.inside.zones c.reserve.new.self c.self.inside.stretches c.reserve-2.new.self c.self.invariant
    (ap (λ (t : TableModel). t.ops) c.in_default.ensures.ok) (c.hold.ensures.members ops c.self.invariant.members_of) (c.reserve-3.ensures.records c.self.inside.table.ops c.self.invariant.records_of) c.reserve.ensures.zones c.reserve-2.ensures.stretches (omega (arith, c.in_ok-reserve-2.ensures.free))
    (room_of_one c.hold.new.self c.reserve-3.new.self c.reserve.new.self c.reserve-2.new.self c.prepare.new.self.prepared c.args.op.now (ap (λ (t : TableModel). t.prepared) c.in_default.ensures.ok)
    c.in_ok-hold.ensures.places c.in_ok-reserve-3.ensures.ok (omega (arith, c.in_ok-reserve.ensures.free)) (subst (λ (n : ℕ). n ≤ c.reserve-2.new.self.free) places (omega (arith, c.in_ok-reserve-2.ensures.free))))
    (subst (λ (o : Option Op). ReservesOnlyForMember o c.hold.new.self) (sym (ap (λ (t : TableModel). t.prepared) c.in_default.ensures.ok)) (c.in_ok-hold.ensures.only (subst (λ (o : Option Op). ReservesOnlyForMember o c.self.inside.members) (ap (λ (x : ClustersModel). x.prepared) c.self.view_is ∙ c.requires) c.self.invariant.only)))
