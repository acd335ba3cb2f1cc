use Rattle.std.proofs.Common.{map, rules}
use Rattle.std.proofs.lemmas.Fn.{always_returns_same}
use Rattle.intervals.specs.Terms.{ClaimModel, state_of}
use Rattle.zones.specs.AtFirst.{with_start}
use Rattle.zones.proofs.Existence.{turn_arranges}
use Rattle.zones.proofs.KeyOrder.{each_once, sorted_in_turn}
use Rattle.zones.proofs.register.Clusters.in_turn.Goals as goal

pub returns : goal.returns
returns c =
    let claim : ClaimModel = with_start (state_of c.args.self.now.claim c.args.self.now.ops) in
    let ops = c.args.self.now.ops in
    let placed = c.in_ok-placed.placed.items in
    let sorted = c.sort_unstable_by_key.new.self.items in
    let moved = c.sort_unstable_by_key.ensures.permutation in
    let turn =
    sorted_in_turn claim.initial ops placed sorted c.in_ok-placed.ensures moved
    (c.sort_unstable_by_key.ensures.sorted (λ p. p.turn) (always_returns_same _ _ _ (λ a r f h. search rules)))
    in
    record {
      arranges = turn_arranges claim ops (map (λ p. p.op) sorted) c.operations.ensures.apart.0 c.operations.ensures.apart.1 c.requires (each_once claim.initial ops placed sorted c.in_ok-placed.ensures moved) turn;
      in_turn = turn;
    }
