use Rattle.std.proofs.Common.{◌+◌, ◌<◌, ap, ◌∙◌, arith}
use Rattle.edn_reader.specs.Skipping.{counts_after}
use Rattle.edn_reader.specs.declared.lookahead.OpenCounts.{OpenCounts}
use Rattle.edn_reader.specs.declared.token.Found.{Found}
use Rattle.edn_reader.specs.declared.token.Token.{Token}
use Rattle.edn_reader.proofs.Skipping.{counts_of, counted_bound, scanned_first, scanned_more, skips_element}
use Rattle.edn_reader.proofs.lookahead.end_after.Goals as goal

pub loop-at-init : goal.loop-at-init
loop-at-init c =
    let bound = counted_bound c.args.front.found.token (counts_of 0 1) in
    let sums = ap (λ (k : OpenCounts). k.brackets + k.elements) c.counts_after-counts.ensures in
    record {
      within = c.requires.within;
      after = c.requires.forward;
      few = omega (arith, bound, sums, c.requires.forward);
      scanned = scanned_first c.args.bytes.now c.args.front c.counts_after-counts.result c.requires c.counts_after-counts.ensures;
    }

pub loop-at-preserved : goal.loop-at-preserved
loop-at-preserved c =
    let busy : 0 < c.loop-at.counts.brackets + c.loop-at.counts.elements = omega arith in
    let found = c.read_token-found.ensures.found in
    let token = ap (λ (f : Found). f.token) found in
    let bound = counted_bound c.read_token-found.result.token c.loop-at.counts in
    let sums = ap (λ (k : OpenCounts). k.brackets + k.elements) c.counts_after-counts-in-loop-at.ensures in
    record {
      within = c.read_token-found.ensures.within;
      after = omega arith;
      few = omega (arith, bound, sums);
      scanned = scanned_more c.args.bytes.now c.args.front.at c.loop-at.at c.read_token-found.result.end c.loop-at.counts c.counts_after-counts-in-loop-at.result c.loop-at.invariant.scanned busy
          (c.counts_after-counts-in-loop-at.ensures ∙ ap (λ (t : Token). counts_after t c.loop-at.counts) token) (ap (λ (f : Found). f.end) found);
    }

pub returns-else-counts-gt0-2-clause-end : goal.returns-else-counts-gt0-2-clause-end
returns-else-counts-gt0-2-clause-end c =
    skips_element c.args.bytes.now c.args.front.at c.loop-at.at c.loop-at.counts c.loop-at.invariant.scanned (λ lt. omega arith)

pub returns-after-loop-at-clause-end : goal.returns-after-loop-at-clause-end
returns-after-loop-at-clause-end c =
    skips_element c.args.bytes.now c.args.front.at c.loop-at.at c.loop-at.counts c.loop-at.invariant.scanned (λ lt. absurd (omega arith))
