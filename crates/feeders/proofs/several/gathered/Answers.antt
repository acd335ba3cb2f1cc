use Rattle.std.proofs.Common.{rules}
use Rattle.std.specs.Vec.Iter.{into_iter_items}
use Rattle.feeders.proofs.Split.{grown}
use Rattle.feeders.proofs.several.gathered.Goals as goal

pub loop-one-preserved : goal.loop-one-preserved
loop-one-preserved c =
    let left = into_iter_items c.loop-one.one-iterator in
    let rest = into_iter_items c.next.new.self in
    record {
      can_next = tt;
      finite = tt;
      long = search rules;
      all = grown c.args.ended.items c.loop-one.outcomes.items c.push_reserved.new.self.items left rest c.in-Some.one c.in_ok-one.field-0 c.loop-one.invariant.all c.in-Some.ensures.steps.0 c.in_ok-one.was c.push_reserved.ensures.items;
      room = search rules;
    }
