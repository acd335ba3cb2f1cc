use Rattle.std.proofs.Common.{Option, ap, refl, subst, sym, ◌∙◌, arith}
use Rattle.intervals.specs.declared.operation.Op.{Op}
use Rattle.intervals.specs.Table.{TableModel}
use Rattle.intervals.specs.Terms.{terms_of}
use Rattle.zones.specs.Index.{ReservesOnlyForMember}
use Rattle.zones.specs.Together.{ClustersModel}
use Rattle.zones.proofs.Admitted.{together_kept, room_of_none}
use Rattle.zones.proofs.register.Clusters.release.Goals as goal

pub invariant_of-self : goal.invariant_of-self
invariant_of-self c =
    together_kept (terms_of c.self.inside.claim) c.self.inside.table c.release-2.new.self c.self.inside.members c.release.new.self
    c.self.inside.records c.self.inside.records c.self.inside.zones c.self.inside.zones c.self.inside.stretches c.self.inside.stretches c.self.invariant
    (ap (λ (t : TableModel). t.ops) c.release-2.ensures) (c.release.ensures.members c.self.inside.table.ops c.self.invariant.members_of) c.self.invariant.records_of refl refl (omega arith)
    (room_of_none c.release.new.self c.self.inside.records c.self.inside.zones c.self.inside.stretches c.release-2.new.self.prepared (ap (λ (t : TableModel). t.prepared) c.release-2.ensures))
    (subst (λ (o : Option Op). ReservesOnlyForMember o c.release.new.self) (sym (ap (λ (t : TableModel). t.prepared) c.release-2.ensures))
    (c.release.ensures.only (subst (λ (o : Option Op). ReservesOnlyForMember o c.self.inside.members) (ap (λ (x : ClustersModel). x.prepared) c.self.view_is ∙ c.requires) c.self.invariant.only)))
