use Rattle.std.proofs.Common.{ap, sym, subst, ◌∙◌}
use Rattle.feeders.specs.Feeding.{FeederModel}
use Rattle.feeders.specs.Intake.{IsAtEnd}
use Rattle.feeders.specs.Readers.{broke_reading}
use Rattle.feeders.specs.Setting.{setting_of}
use Rattle.feeders.proofs.Feeds.{ended}
use Rattle.feeders.proofs.feeder.Feeder.settle_last.Goals as goal

pub returns-in-Ok-clause-fed : goal.returns-in-Ok-clause-fed
returns-in-Ok-clause-fed g c start bytes was =
    let setting = setting_of g.O.Opening.plan c.args.site.tower.now c.args.site.field start in
    let at : IsAtEnd setting bytes c.self.inside.intake c.args.access.now.pass = subst (λ (f : FeederModel). IsAtEnd setting bytes f.intake c.args.access.now.pass) (sym c.self.view_is) was in
    let e = c.in-Ok.ensures in
    (ended setting bytes c.self.inside.intake c.settle.new.self c.args.access.now.pass c.settle.new.access.pass at (e.done start at.items at.waiting at.pending) e.beside.broken, ap broke_reading e.beside.broken ∙ at.by_text)
