use Rattle.intervals.proofs.Verdicts.{Decides-wrong_safe, Decides-wrong_regular}
use Rattle.intervals.proofs.laws.wrong_reads_break_their_sentence.Goals as goal

pub returns : goal.returns
returns c = record { safe = Decides-wrong_safe; regular = Decides-wrong_regular }
