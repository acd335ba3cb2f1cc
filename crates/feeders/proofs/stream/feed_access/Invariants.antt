-- what the source gave is fed
use Rattle.std.proofs.Common.{◌≡◌, ◌-◌, ◌≤◌, length}
use Rattle.feeders.specs.declared.feeder.FeedState.TheVariants.{Open}
use Rattle.feeders.specs.declared.source.TheConstants.{CALL_LIMIT}
use Rattle.logs.specs.Start.{first_start}
use Rattle.feeders.proofs.Streaming.{HasStreamed}
use Rattle.feeders.proofs.stream.feed_access.Given as goal

abbrev pub invariant-loop-count : goal.invariant-loop-count
invariant-loop-count g l = record {
  room : length l.buffer ≡ 65536;
  going : l.feeder.state ≡ Open;
  chosen : l.feeder.chosen ≡ l.fn.site.field;
  tower : l.feeder.tower ≡ l.fn.site.tower.now;
  counted : l.feeder.intake.splitter.taken ≡ l.source.given;
  limit : l.source.given ≤ 1073741824;
  so_far : HasStreamed g.O.Opening.plan (first_start l.fn.access.pass.feeder) (g.S.Read.remaining l.fn.reader) (g.S.Read.remaining l.source.reader) l.source.past l.feeder l.access.pass;
}

abbrev pub decreases-loop-count : goal.decreases-loop-count
decreases-loop-count g l = CALL_LIMIT - l.source.calls
