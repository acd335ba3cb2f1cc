use Rattle.std.proofs.Common.{◌∙◌, ap, length, sym}
use Rattle.std.proofs.lemmas.List.{length-map}
use Rattle.shards.specs.Plan.{Plan}
use Rattle.shards.proofs.lone_auditor.LoneAuditor.open.Goals as goal

pub invariant_of-result : goal.invariant_of-result
invariant_of-result g c = (
  rw c.requires.opening.1 (c.in_ok-open_shards.ensures.alone c.requires.opening.0),
  c.len.ensures.length ∙ sym (length-map c.args.tower.now.registers (λ register. register.claim)) ∙ ap (λ (plan : Plan). length plan.claims) (sym c.requires.opening.1),
)
