use Rattle.intervals.proofs.JudgedAlone.{is_wrong_read-writes, first_wrong-writes, write_refusal-writes}
use Rattle.intervals.proofs.laws.writes_alone_decide.Goals as goal

pub returns : goal.returns
returns c = record { read = is_wrong_read-writes; fault = first_wrong-writes; refusal = write_refusal-writes }
