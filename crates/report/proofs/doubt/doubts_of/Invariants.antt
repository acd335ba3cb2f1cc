-- what is noted so far, with the logs that are left, is what is to be noted
use Rattle.report.proofs.Doubts.{NotedLogs}
use Rattle.report.proofs.doubt.doubts_of.Given as goal

abbrev pub invariant-loop-feeder : goal.invariant-loop-feeder
invariant-loop-feeder l = NotedLogs l.fn.findings l.doubts.items l.fn.logs l.feeder
