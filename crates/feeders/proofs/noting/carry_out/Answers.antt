use Rattle.std.proofs.Common.{Ok, Some, refl, sym, append-nil}
use Rattle.pairing.specs.declared.step.Step.TheVariants.{Edit, Ask}
use Rattle.logs.specs.declared.log.Log.{Log}
use Rattle.logs.specs.Doings.{nothing}
use Rattle.feeders.proofs.Doing.{goes_on, told_nothing}
use Rattle.feeders.proofs.Split.{err_then}
use Rattle.feeders.proofs.Stopping.{goes_with_room, kept_with_room, may_stop}
use Rattle.feeders.proofs.noting.carry_out.Goals as goal

pub returns-in_default-clause-done : goal.returns-in_default-clause-done
returns-in_default-clause-done g c =
    let plan = g.O.Opening.plan in
    let lines = c.args.log.now.lines.items in
    rw c.in_default.is (goes_on plan c.args.access.now.pass c.args.access.now.pass lines lines c.args.place nothing
    (told_nothing plan.shards nothing c.args.access.now.pass (λ feeder at. refl)) (sym (append-nil lines)) (λ start doings feeder own. tt))

pub returns-in-Edit-clause-done : goal.returns-in-Edit-clause-done
returns-in-Edit-clause-done g c =
    let old = c.args.log.now in
    let roomed : Log = record { lines = c.reserve.new.self; broken = old.broken } in
    rw (c.in-Some.is, c.in-Edit.is) (goes_with_room g.O.Opening.plan c.args.access.now.pass c.submit.new.access.pass old roomed c.submit.new.log c.args.place (Ok (Some (Edit c.in-Edit.register c.in-Edit.edit))) c.submit.result
    c.reserve.ensures.items c.submit.ensures.done)

pub returns-in-Edit-clause-kept : goal.returns-in-Edit-clause-kept
returns-in-Edit-clause-kept g c =
    let old = c.args.log.now in
    kept_with_room c.args.access.now c.submit.new.access old (record { lines = c.reserve.new.self; broken = old.broken }) c.submit.new.log c.submit.result c.reserve.ensures.items refl c.submit.ensures.kept

pub returns-in-Edit-clause-fault : goal.returns-in-Edit-clause-fault
returns-in-Edit-clause-fault g c =
    let roomed : Log = record { lines = c.reserve.new.self; broken = c.args.log.now.broken } in
    rw (c.in-Some.is, c.in-Edit.is) (may_stop g.O.Opening.plan c.args.access.now c.submit.new.access roomed c.submit.new.log c.in-Edit.register.0 c.submit.result c.submit.ensures.fault c.submit.ensures.kept)

pub returns-in-Ask-clause-done : goal.returns-in-Ask-clause-done
returns-in-Ask-clause-done g c =
    let old = c.args.log.now in
    let roomed : Log = record { lines = c.reserve.new.self; broken = old.broken } in
    rw (c.in-Some.is, c.in-Ask.is) (goes_with_room g.O.Opening.plan c.args.access.now.pass c.ask.new.access.pass old roomed c.ask.new.log c.args.place (Ok (Some (Ask c.in-Ask.register))) c.ask.result
    c.reserve.ensures.items c.ask.ensures.done)

pub returns-in-Ask-clause-kept : goal.returns-in-Ask-clause-kept
returns-in-Ask-clause-kept g c =
    let old = c.args.log.now in
    kept_with_room c.args.access.now c.ask.new.access old (record { lines = c.reserve.new.self; broken = old.broken }) c.ask.new.log c.ask.result c.reserve.ensures.items refl c.ask.ensures.kept

pub returns-in-Ask-clause-fault : goal.returns-in-Ask-clause-fault
returns-in-Ask-clause-fault g c =
    let roomed : Log = record { lines = c.reserve.new.self; broken = c.args.log.now.broken } in
    rw (c.in-Some.is, c.in-Ask.is) (may_stop g.O.Opening.plan c.args.access.now c.ask.new.access roomed c.ask.new.log c.in-Ask.register.0 c.ask.result
    (err_then c.ask.result c.ask.ensures.fault (λ fault is. is.0)) c.ask.ensures.kept)
