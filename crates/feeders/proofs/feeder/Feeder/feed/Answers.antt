use Rattle.std.proofs.Common.{◌≡◌, ◌++◌, [], Bool, refl, sym, subst}
use Rattle.shards.specs.Plan.{claims_of}
use Rattle.feeders.specs.declared.feeder.FeedState.TheVariants.{Open}
use Rattle.feeders.specs.Feeding.{FeederModel}
use Rattle.feeders.specs.Intake.{CanGoOn, GoesOver, HasFed}
use Rattle.feeders.specs.Setting.{setting_of}
use Rattle.feeders.proofs.Feeds.{can_feed, fed_before}
use Rattle.feeders.proofs.feeder.Feeder.feed.Goals as goal

pub take_piece-requires-clause-can : goal.take_piece-requires-clause-can
take_piece-requires-clause-can g c κs lives =
    let old = c.args.self.now in
    subst (λ (f : FeederModel). CanGoOn c.args.piece.now f.intake) (sym c.self.view_is)
    (can_feed old c.args.piece.now old.state refl (λ is. let yes = c.is_over.ensures.1 is in let no = c.if-is_over.false in cc) c.requires.not_ending
    (λ is. subst (λ (f : FeederModel). CanGoOn [] f.intake) c.self.view_is (c.self.invariant.0 (subst (λ (f : FeederModel). f.state ≡ Open) (sym c.self.view_is) is)).0) c.requires.rest)

pub returns-in-Ok-true-clause-fed : goal.returns-in-Ok-true-clause-fed
returns-in-Ok-true-clause-fed g c start bytes fed =
    let plan = g.O.Opening.plan in
    let old = c.args.self.now in
    let piece = c.args.piece.now in
    let before : HasFed (setting_of plan c.self.inside.tower.now c.self.inside.field start) bytes piece c.self.inside.intake c.args.access.now.pass =
    subst (λ (f : FeederModel). HasFed (setting_of plan f.tower f.chosen start) bytes piece f.intake c.args.access.now.pass) (sym c.self.view_is)
    (fed_before plan start bytes piece old c.args.access.now.pass old.state refl (λ is. let yes = c.is_over.ensures.1 is in let no = c.if-is_over.false in cc) c.requires.not_ending fed) in
    subst (λ (on : Bool). GoesOver on (setting_of plan c.self.inside.tower.now c.self.inside.field start) (bytes ++ piece) c.take_piece.new.self c.take_piece.new.access.pass) c.in-Ok-true.field-0-test
    (c.in-Ok-true.ensures.goes start bytes before)

pub returns-in-Ok-false-clause-fed : goal.returns-in-Ok-false-clause-fed
returns-in-Ok-false-clause-fed g c start bytes fed =
    let plan = g.O.Opening.plan in
    let old = c.args.self.now in
    let piece = c.args.piece.now in
    let before : HasFed (setting_of plan c.self.inside.tower.now c.self.inside.field start) bytes piece c.self.inside.intake c.args.access.now.pass =
    subst (λ (f : FeederModel). HasFed (setting_of plan f.tower f.chosen start) bytes piece f.intake c.args.access.now.pass) (sym c.self.view_is)
    (fed_before plan start bytes piece old c.args.access.now.pass old.state refl (λ is. let yes = c.is_over.ensures.1 is in let no = c.if-is_over.false in cc) c.requires.not_ending fed) in
    subst (λ (on : Bool). GoesOver on (setting_of plan c.self.inside.tower.now c.self.inside.field start) (bytes ++ piece) c.take_piece.new.self c.take_piece.new.access.pass) c.in-Ok-false.field-0-test
    (c.in-Ok-false.ensures.goes start bytes before)

pub returns-in-Err-clause-waits : goal.returns-in-Err-clause-waits
returns-in-Err-clause-waits g c start bytes fed =
    let plan = g.O.Opening.plan in
    let old = c.args.self.now in
    let piece = c.args.piece.now in
    c.in-Err.ensures.waits start bytes
    (subst (λ (f : FeederModel). HasFed (setting_of plan f.tower f.chosen start) bytes piece f.intake c.args.access.now.pass) (sym c.self.view_is)
    (fed_before plan start bytes piece old c.args.access.now.pass old.state refl (λ is. let yes = c.is_over.ensures.1 is in let no = c.if-is_over.false in cc) c.requires.not_ending fed))

pub returns-in-Err-clause-fault : goal.returns-in-Err-clause-fault
returns-in-Err-clause-fault g c start bytes fed claims =
    let plan = g.O.Opening.plan in
    let old = c.args.self.now in
    let piece = c.args.piece.now in
    c.in-Err.ensures.fault start bytes
    (subst (λ (f : FeederModel). HasFed (setting_of plan f.tower f.chosen start) bytes piece f.intake c.args.access.now.pass) (sym c.self.view_is)
    (fed_before plan start bytes piece old c.args.access.now.pass old.state refl (λ is. let yes = c.is_over.ensures.1 is in let no = c.if-is_over.false in cc) c.requires.not_ending fed))
    (subst (λ (f : FeederModel). plan.claims ≡ claims_of f.tower) (sym c.self.view_is) claims)
