use Rattle.std.proofs.Common.{[], refl}
use Rattle.feeders.specs.declared.intake.Intake.{Intake}
use Rattle.feeders.specs.declared.pending.Pending.TheVariants.{Nothing}
use Rattle.feeders.specs.Setting.{setting_of}
use Rattle.feeders.proofs.Feeds.{can_begin, fed_nothing}
use Rattle.feeders.proofs.Pieces.{taken_is}
use Rattle.feeders.proofs.feeder.Feeder.new.Goals as goal

pub invariant_of-result : goal.invariant_of-result
invariant_of-result c =
    let intake : Intake = record { splitter = c.new.result; kept = c.new-2.result; progress = c.new-3.result; pending = Nothing } in
    (λ going. (can_begin intake refl c.new.ensures c.new-2.ensures c.new-3.ensures.place c.new-3.ensures.ahead, refl), λ is. absurd cc)

pub returns-clause-going : goal.returns-clause-going
returns-clause-going c = (refl, taken_is [] [] [] c.new.result (c.new.ensures []))

pub returns-clause-fed : goal.returns-clause-fed
returns-clause-fed c plan start pass is same =
    fed_nothing (setting_of plan c.args.tower.now c.args.field start) (record { splitter = c.new.result; kept = c.new-2.result; progress = c.new-3.result; pending = Nothing }) pass refl
    c.new.ensures c.new-2.ensures c.new-3.ensures.place c.new-3.ensures.unbroken (c.new-3.ensures.at plan start pass is same)
