use Rattle.std.proofs.Common.{◌∙◌, ◌++◌, ◌∷◌, [], Bool, ap}
use Rattle.report.proofs.Found.{has_book}
use Rattle.report.proofs.Batches.{one_more}
use Rattle.report.proofs.batch.Batch.add.Goals as goal

pub finding_of-finding-requires : goal.finding_of-finding-requires
finding_of-finding-requires c = record { there = has_book c.args.tower.now c.args.closed.now c.args.number c.requires.of_tower c.requires.within }

pub returns : goal.returns
returns c = λ first. one_more c.args.tower.now c.args.closed.now first c.args.number c.finding_of-finding.result c.args.self.now (record { text = c.push_section.new.text; failing = c.push.new.self })
    c.finding_of-finding.ensures c.in_ok-push_section.ensures (c.in_ok-push.ensures.items ∙ ap (λ (failed : Bool). c.args.self.now.failing.items ++ failed ∷ []) c.is_some.ensures)
