use Rattle.std.proofs.Common.{map, ap, ◌∙◌}
use Rattle.zones.proofs.KeyOrder.{named}
use Rattle.zones.proofs.register.Clusters.order.Goals as goal

pub returns-clause-order : goal.returns-clause-order
returns-clause-order c = record {
  order = map (λ p. p.op) c.in_ok-placed.placed.items;
  named = c.in_ok-ids.ensures ∙ (ap (map (λ p. p.op.id)) c.deref.ensures.value ∙ named c.in_ok-placed.placed.items);
  arranges = c.in_ok-placed.ensures.arranges;
  in_turn = c.in_ok-placed.ensures.in_turn;
}
