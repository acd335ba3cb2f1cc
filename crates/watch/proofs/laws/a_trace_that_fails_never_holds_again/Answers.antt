use Rattle.watch.proofs.Elements.{trace_fails_known, trace_fails_unread, trace_fails_unfailed}
use Rattle.watch.proofs.laws.a_trace_that_fails_never_holds_again.Goals as goal

pub returns : goal.returns
returns c = record {
  known = λ claim feeder register items more known trace. trace_fails_known claim feeder register items more trace known;
  without_fail = λ claim feeder register items more none trace. trace_fails_unfailed claim feeder register items more trace none;
  unread = λ claim feeder register items more trace. trace_fails_unread claim feeder register items more trace;
}
