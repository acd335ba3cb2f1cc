-- the bytes so far are those that the source has given
use Rattle.std.proofs.Common.{◌≡◌, ◌≤◌, ◌-◌, take, vec_len}
use Rattle.feeders.specs.Source.{AreBytesOf}
use Rattle.feeders.specs.declared.source.TheConstants.{CALL_LIMIT}
use Rattle.feeders.proofs.whole.read_whole.Given as goal

abbrev pub invariant-loop-bytes : goal.invariant-loop-bytes
invariant-loop-bytes g l = record {
  given : AreBytesOf (g.R.Read.remaining l.fn.reader) (take l.used l.bytes.items) (g.R.Read.remaining l.source.reader) l.source.past;
  counted : l.source.given ≡ l.used;
  there : l.used ≤ vec_len l.bytes;
}

abbrev pub decreases-loop-bytes : goal.decreases-loop-bytes
decreases-loop-bytes g l = CALL_LIMIT - l.source.calls
