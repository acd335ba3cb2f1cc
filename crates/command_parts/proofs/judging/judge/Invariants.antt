-- the texts that the readers have left
use Rattle.std.proofs.Common.{map}
use Rattle.command_parts.proofs.judging.judge.Given as goal

abbrev pub ghosts-judge_copied : goal.ghosts-judge_copied
ghosts-judge_copied g a = record { texts = map g.S.Read.remaining a.readers.items }
