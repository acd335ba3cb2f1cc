use Rattle.std.proofs.Common.{◌≡◌, [], Some, sym, subst, refl}
use Rattle.feeders.specs.declared.feeder.FeedState.TheVariants.{Open}
use Rattle.feeders.specs.Feeding.{FeederModel}
use Rattle.feeders.specs.Intake.{HasFed}
use Rattle.feeders.specs.Setting.{setting_of}
use Rattle.feeders.proofs.Feeds.{broke_off, by_course}
use Rattle.feeders.proofs.feeder.Feeder.break_off.Goals as goal

pub returns-clause-fed : goal.returns-clause-fed
returns-clause-fed c plan start bytes pass fed =
    let setting = setting_of plan c.args.self.now.tower c.args.self.now.chosen start in
    let old = c.self.inside.intake in
    broke_off setting bytes (record { code = c.args.code; place = c.taken.result }) old
    (record { splitter = old.splitter; kept = old.kept; progress = record old.progress { log = record { lines = old.progress.log.lines; broken = Some (record { code = c.args.code; place = c.taken.result }) } }; pending = old.pending }) pass
    (c.self.invariant.0 (subst (λ (f : FeederModel). f.state ≡ Open) (sym c.self.view_is) c.requires.going)).1
    c.no_fault_so_far.ensures (λ bytes. c.told_so_far.ensures bytes []) c.requires.reading c.taken.ensures refl refl
    (subst (λ (f : FeederModel). HasFed setting bytes [] f.intake pass) (sym c.self.view_is) (by_course plan start bytes [] c.args.self.now pass Open c.requires.going fed))
