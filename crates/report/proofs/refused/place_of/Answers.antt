use Rattle.std.proofs.Common.{◌<◌, ◌≤◌, ◌∙◌, arith, rules, slice_index_or}
use Rattle.report.proofs.Frequency.{no_tally, place_after, place_here, place_last}
use Rattle.report.proofs.refused.place_of.Goals as goal

pub returns-then-tallies-at-clause-put : goal.returns-then-tallies-at-clause-put
returns-then-tallies-at-clause-put c one same =
    let tallies = c.args.tallies.now in
    let less : (slice_index_or tallies c.loop-at.at no_tally).many < c.args.many = search rules in
    c.loop-at.invariant.put one same ∙ place_here one tallies c.loop-at.at no_tally c.loop-at-test.true (omega (arith, less, same))

pub loop-at-preserved : goal.loop-at-preserved
loop-at-preserved c =
    let tallies = c.args.tallies.now in
    let most : c.args.many ≤ (slice_index_or tallies c.loop-at.at no_tally).many = search rules in
    record {
      within = omega (arith, c.loop-at-test.true);
      put = λ one same. c.loop-at.invariant.put one same ∙ place_after one tallies c.loop-at.at no_tally c.loop-at-test.true (omega (arith, most, same));
    }

pub returns-clause-put : goal.returns-clause-put
returns-clause-put c one same = c.loop-at.invariant.put one same ∙ place_last one c.args.tallies.now c.loop-at.at c.loop-at-test.false c.loop-at.invariant.within
