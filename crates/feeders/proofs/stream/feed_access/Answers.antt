use Rattle.std.proofs.Common.{◌∙◌, ◌++◌, [], Ok, take, ap, refl, sym, subst, rules}
use Rattle.tower_file.specs.Contents.{TowerModel}
use Rattle.jepsen_form.specs.declared.item.MomentField.{MomentField}
use Rattle.shards.specs.Plan.{claims_of}
use Rattle.feeders.specs.declared.outcome.FeederOutcome.{FeederOutcome}
use Rattle.feeders.specs.declared.feeder.FeedState.TheVariants.{Broke}
use Rattle.feeders.specs.Progress.{IsReadAndFed}
use Rattle.logs.specs.Start.{first_start}
use Rattle.feeders.specs.Setting.{setting_of}
use Rattle.feeders.proofs.Doing.{first_is_start}
use Rattle.feeders.proofs.Feeds.{by_course, open_next}
use Rattle.feeders.proofs.Streaming.{broke_within, code_of_reading, read_up_to, read_whole}
use Rattle.feeders.proofs.Stopping.{stop_ends}
use Rattle.feeders.proofs.stream.feed_access.Goals as goal

pub loop-count-init : goal.loop-count-init
loop-count-init g c =
    let plan = g.O.Opening.plan in
    let start = first_start c.args.access.now.pass.feeder in
    record {
      room = search rules;
      going = c.new-feeder.ensures.going.0;
      chosen = c.new-feeder.ensures.read.0;
      tower = c.new-feeder.ensures.read.1;
      counted = search rules;
      limit = search rules;
      so_far = record {
        bytes = [];
        given = c.new-source.ensures.given (g.S.Read.remaining c.args.reader) refl;
        fed = c.new-feeder.ensures.fed plan start c.args.access.now.pass (first_is_start plan c.args.access.now.pass c.requires.fresh c.requires.known (c.what_was_told_stays.ensures.fresh plan c.args.access.now.pass.feeder)) (sym c.feeder.ensures);
      };
    }

pub returns-in-Err-feed-clause-fault : goal.returns-in-Err-feed-clause-fault
returns-in-Err-feed-clause-fault g c =
    let plan = g.O.Opening.plan in
    let start = first_start c.args.access.now.pass.feeder in
    let state = c.loop-count.invariant in
    let so_far = state.so_far in
    let piece = take c.in-Ok.count c.next.new.buffer in
    stop_ends plan c.feed.new.access.pass c.in-Err-feed.failed.fault
    (c.in-Err-feed.ensures.fault start so_far.bytes (open_next plan start so_far.bytes piece c.loop-count.feeder c.loop-count.access.pass state.going so_far.fed)
    (c.requires.of_tower ∙ ap claims_of (sym state.tower)))

pub returns-then-count-eq0-clause-fed : goal.returns-then-count-eq0-clause-fed
returns-then-count-eq0-clause-fed g c =
    let plan = g.O.Opening.plan in
    let start = first_start c.args.access.now.pass.feeder in
    let old = c.loop-count.feeder in
    let state = c.loop-count.invariant in
    let so_far = state.so_far in
    let left = g.S.Read.remaining c.args.reader in
    let outcome : FeederOutcome = record { pass = c.end.new.access.pass; log = c.close.result } in
    subst (λ (tower : TowerModel). IsReadAndFed (setting_of plan tower c.args.site.field start) left outcome) state.tower
    (subst (λ (chosen : MomentField). IsReadAndFed (setting_of plan old.tower chosen start) left outcome) state.chosen
    (read_whole (setting_of plan old.tower old.chosen start) left so_far.bytes c.end.new.self.intake c.end.new.access.pass outcome
    (c.in-Ok.ensures.end (ap Ok c.if-count-eq0.true) left so_far.bytes so_far.given)
    (c.in_ok-end-in-Ok.ensures.fed start so_far.bytes so_far.fed) refl c.close.ensures))

pub returns-then-has_broken-clause-fed : goal.returns-then-has_broken-clause-fed
returns-then-has_broken-clause-fed g c =
    let plan = g.O.Opening.plan in
    let start = first_start c.args.access.now.pass.feeder in
    let old = c.feed.new.self in
    let state = c.loop-count.invariant in
    let so_far = state.so_far in
    let left = g.S.Read.remaining c.args.reader in
    let piece = take c.in-Ok.count c.next.new.buffer in
    let bytes = so_far.bytes ++ piece in
    let outcome : FeederOutcome = record { pass = c.feed.new.access.pass; log = c.close-then-has_broken.result } in
    let fed = c.in_default.ensures.fed start so_far.bytes (open_next plan start so_far.bytes piece c.loop-count.feeder c.loop-count.access.pass state.going so_far.fed) in
    subst (λ (tower : TowerModel). IsReadAndFed (setting_of plan tower c.args.site.field start) left outcome) (c.in_default.ensures.read.1 ∙ state.tower)
    (subst (λ (chosen : MomentField). IsReadAndFed (setting_of plan old.tower chosen start) left outcome) (c.in_default.ensures.read.0 ∙ state.chosen)
    (broke_within (setting_of plan old.tower old.chosen start) left (g.S.Read.remaining c.next.new.self.reader) c.next.new.self.past bytes old.intake c.feed.new.access.pass outcome
    (c.in-Ok.ensures.given left so_far.bytes so_far.given)
    (by_course plan start bytes [] old c.feed.new.access.pass Broke (c.has_broken.ensures.0 c.if-has_broken.true) fed)
    refl c.close-then-has_broken.ensures))

pub returns-in-Err-clause-fed : goal.returns-in-Err-clause-fed
returns-in-Err-clause-fed g c =
    let plan = g.O.Opening.plan in
    let start = first_start c.args.access.now.pass.feeder in
    let old = c.loop-count.feeder in
    let state = c.loop-count.invariant in
    let so_far = state.so_far in
    let left = g.S.Read.remaining c.args.reader in
    let outcome : FeederOutcome = record { pass = c.loop-count.access.pass; log = c.close-in-Err.result } in
    subst (λ (tower : TowerModel). IsReadAndFed (setting_of plan tower c.args.site.field start) left outcome) state.tower
    (subst (λ (chosen : MomentField). IsReadAndFed (setting_of plan old.tower chosen start) left outcome) state.chosen
    (read_up_to (setting_of plan old.tower old.chosen start) left (g.S.Read.remaining c.next.new.self.reader) c.next.new.self.past so_far.bytes
    (record { code = c.in-Err.code; place = old.intake.splitter.taken }) c.break_off.new.self.intake c.loop-count.access.pass outcome
    (c.in-Err.ensures.none_given left so_far.bytes so_far.given) (code_of_reading c.in-Err.code c.in-Err.ensures.code) c.break_off.ensures.broken
    (c.break_off.ensures.fed plan start so_far.bytes c.loop-count.access.pass so_far.fed) refl c.close-in-Err.ensures))
