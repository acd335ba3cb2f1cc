-- what is noted so far, with the lines that are left, is what is to be noted
use Rattle.std.proofs.Common.{ℕ, Bool, List}
use Rattle.pairing.specs.declared.about.About.{About}
use Rattle.report.specs.Doubting.{AreNotedSoFar}
use Rattle.report.proofs.Doubts.{NotedLines}
use Rattle.report.proofs.doubt.note_log.Given as goal

abbrev pub invariant-loop-line : goal.invariant-loop-line
invariant-loop-line l =
    (left : (About → Bool) → List (ℕ × ℕ)) → AreNotedSoFar l.fn.findings l.fn.doubts.items left → NotedLines l.fn.findings l.doubts.items l.fn.feeder l.fn.log.lines.items l.line-index left
