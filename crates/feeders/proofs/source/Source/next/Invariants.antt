-- nothing was given yet, and the reader has what it had
use Rattle.std.proofs.Common.{◌-◌, ◌≡◌, ◌≤◌, false, length}
use Rattle.std.specs.Io.KnownBytes.{Keeps}
use Rattle.feeders.specs.declared.source.TheConstants.{CALL_LIMIT}
use Rattle.feeders.proofs.source.Source.next.Given as goal

abbrev pub invariant-loop-self : goal.invariant-loop-self
invariant-loop-self g l = record {
  kept : Keeps (g.R.Read.remaining l.fn.self.reader) (g.R.Read.remaining l.self.reader);
  given : l.self.given ≡ l.fn.self.given;
  whole : l.self.past ≡ false;
  before : l.fn.self.past ≡ false;
  counted : l.fn.self.calls ≤ l.self.calls;
  length : length l.buffer ≡ length l.fn.buffer;
}

abbrev pub decreases-loop-self : goal.decreases-loop-self
decreases-loop-self g l = CALL_LIMIT - l.self.calls
