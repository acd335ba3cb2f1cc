use Rattle.zone_tree.proofs.StretchSummaries.{summary_of_one, summary_of_joined}
use Rattle.zone_tree.proofs.stretch_summary.StretchSummarySummarizesStretch.summaries_add_up.Goals as goal

pub returns : goal.returns
returns c = record { one = summary_of_one; join = summary_of_joined }
