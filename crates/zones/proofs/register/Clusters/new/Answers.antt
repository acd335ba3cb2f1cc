use Rattle.std.proofs.Common.{◌≡◌, ◌∙◌, arith, subst, sym}
use Rattle.intervals.specs.declared.claim.Kind.TheVariants.{Atomic}
use Rattle.intervals.specs.Terms.{ClaimModel, terms_of}
use Rattle.zones.proofs.Admitted.{together_at_first}
use Rattle.zones.proofs.register.Clusters.new.Goals as goal

pub invariant_of-result : goal.invariant_of-result
invariant_of-result c =
    let claim = terms_of c.in_ok-claim.claim in
    let atomic : claim.kind ≡ Atomic = subst (λ (t : ClaimModel). t.kind ≡ Atomic) (sym c.in_ok-claim.ensures) c.requires in
    together_at_first claim atomic c.new-table.result c.new-members.result c.new-records.result c.new-zones.result c.reserve.new.self
    c.new-table.ensures c.new-members.ensures.members c.new-records.ensures c.new-members.ensures.only c.new-zones.ensures.zones (c.reserve.ensures.stretches ∙ c.new-stretches.ensures.stretches) (omega (arith, c.in_ok-reserve.ensures.free))
