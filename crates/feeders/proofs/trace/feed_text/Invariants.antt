-- the state is that of the elements up to the reader's place
use Rattle.std.proofs.Common.{◌≡◌, ◌≤◌, ◌-◌, length}
use Rattle.feeders.specs.Progress.{IsAhead}
use Rattle.logs.specs.Start.{first_start}
use Rattle.feeders.specs.Setting.{setting_of}
use Rattle.feeders.proofs.Reading.{HasRead}
use Rattle.feeders.proofs.trace.feed_text.Given as goal

abbrev pub invariant-loop-element : goal.invariant-loop-element
invariant-loop-element g l = record {
  input : l.reader.input ≡ l.trace;
  within : l.reader.at ≤ length l.trace;
  place : l.progress.place ≤ l.reader.at;
  ahead : IsAhead l.progress;
  so_far : HasRead (setting_of g.O.Opening.plan l.site.tower.now l.site.field (first_start l.fn.access.pass.feeder)) l.trace l.reader.at l.progress l.access.pass;
}

abbrev pub decreases-loop-element : goal.decreases-loop-element
decreases-loop-element g l = length l.trace - l.reader.at
