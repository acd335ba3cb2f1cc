use Rattle.std.proofs.Common.{◌-◌, length}
use Rattle.safe_regular.proofs.judged.JudgedReads.+judge_rows.Given as goal

-- the number of rows that are left
abbrev pub decreases-judge_rows : goal.decreases-judge_rows
decreases-judge_rows l = length l.self.now.rows.items - l.at
