-- the files hold what they held
use Rattle.std.proofs.Common.{◌≡◌}
use Rattle.command_parts.proofs.files.need_again.Given as goal

abbrev pub invariant-loop-name : goal.invariant-loop-name
invariant-loop-name g l = g.F.Files.held l.files ≡ g.F.Files.held l.fn.files
