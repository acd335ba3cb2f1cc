use Rattle.std.proofs.Common.{option_map, ap, ◌∙◌}
use Rattle.intervals.specs.declared.operation.Op.{Op}
use Rattle.intervals.specs.Terms.{terms_of}
use Rattle.zones.specs.Fault.{first_early}
use Rattle.zones.specs.Together.{ClustersModel}
use Rattle.zones.proofs.register.Clusters.first_early.Goals as goal

pub returns-in_err-read : goal.returns-in_err-read
returns-in_err-read c =
    let held = c.self.invariant in
    let none = c.in_err-read.ensures (terms_of c.self.inside.claim) held.members_of held.records_of held.apart held.stretched in
    c.from_residual.ensures ∙ (ap (option_map (λ (pair : Op × Op). (pair.0.id, pair.1.id))) none ∙ ap (λ (x : ClustersModel). option_map (λ (pair : Op × Op). (pair.0.id, pair.1.id)) (first_early x.ops)) c.self.view_is)

pub returns : goal.returns
returns c =
    let held = c.self.invariant in
    let some = c.in_ok-read.ensures (terms_of c.self.inside.claim) held.members_of held.records_of held.apart held.stretched in
    ap (option_map (λ (pair : Op × Op). (pair.0.id, pair.1.id))) some ∙ ap (λ (x : ClustersModel). option_map (λ (pair : Op × Op). (pair.0.id, pair.1.id)) (first_early x.ops)) c.self.view_is
