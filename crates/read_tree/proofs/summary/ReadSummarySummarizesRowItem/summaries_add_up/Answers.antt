use Rattle.read_tree.proofs.Joins.{summary_of_one, joined_summary}
use Rattle.read_tree.proofs.summary.ReadSummarySummarizesRowItem.summaries_add_up.Goals as goal

pub returns : goal.returns
returns c = record { one = summary_of_one; join = joined_summary }
