use Rattle.std.proofs.Common.{◌≡◌, ◌∙◌, ap, length, arith}
use Rattle.shards.specs.Closing.{ShardModel}
use Rattle.shards.proofs.OpenedAlone.{all_fresh, all_opened_alone, one_opened_alone}
use Rattle.shards.proofs.lone_auditor.open_shards.Goals as goal

pub loop-at-preserved : goal.loop-at-preserved
loop-at-preserved c = record {
  opened = rw c.push_reserved.ensures.items
      (one_opened_alone c.args.tower.now c.args.shards c.args.feeders c.loop-at.own.items c.in_ok-new.field-0 c.loop-at.invariant.opened (record {
        in_place = ap (λ (held : ShardModel). held.at) c.in_ok-new.ensures.empty ∙ omega (arith, c.loop-at.invariant.many, c.loop-at.own.ok.0);
        none = ap (λ (held : ShardModel). held.journal) c.in_ok-new.ensures.empty;
        of_tower = c.in_ok-new.ensures.kept;
      }));
  many = omega (arith, c.loop-at.invariant.many);
  room = omega (arith, c.loop-at.invariant.room);
}

pub returns-clause-alone : goal.returns-clause-alone
returns-clause-alone c =
    let many : length c.loop-at.own.items ≡ c.args.shards = omega (arith, c.loop-at.invariant.many, c.loop-at.own.ok.0, c.loop-at-test.false, c.loop-at.auto) in
    all_opened_alone c.args.tower.now c.args.shards c.args.feeders c.loop-at.own.items c.loop-at.invariant.opened many (omega (arith, c.requires.shards)) (omega (arith, c.requires.shards))

pub returns-clause-fresh : goal.returns-clause-fresh
returns-clause-fresh c =
    let many : length c.loop-at.own.items ≡ c.args.shards = omega (arith, c.loop-at.invariant.many, c.loop-at.own.ok.0, c.loop-at-test.false, c.loop-at.auto) in
    all_fresh c.args.tower.now c.args.shards c.args.feeders c.loop-at.own.items c.loop-at.invariant.opened many
