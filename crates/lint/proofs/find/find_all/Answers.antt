use Rattle.std.proofs.Common.{ℕ, ◌<◌, List, [], get_or, ◌+◌, length, sym, subst, arith}
use Rattle.std.specs.Borrow.{Bor}
use Rattle.logs.specs.declared.log.Log.{Log}
use Rattle.lint.specs.declared.finding.TraceFindings.{TraceFindings}
use Rattle.lint.specs.Found.{IsFoundIn, NamesElements}
use Rattle.lint.proofs.Found.{GoesOn, begun, goes_on, went, zip_at}
use Rattle.lint.proofs.find.find_all.Goals as goal

pub loop-number-init : goal.loop-number-init
loop-number-init c = begun (λ text. text.now) c.args.texts.now c.args.logs.now c.new-traces.result.items c.new-traces.ensures.items

pub loop-number-preserved : goal.loop-number-preserved
loop-number-preserved c =
    let texts = c.args.texts.now in
    let logs = c.args.logs.now in
    let number = c.loop-number.number in
    let none : Bor (List ℕ) = record { ref_ptr = (0, 0); now = [] } in
    let text = get_or texts number none in
    let one = c.in_ok-find_in.field-0 in
    let in_logs : number < length logs = omega (arith, c.requires.each, c.loop-number-test.true) in
    let found : IsFoundIn text.now c.index-logs-number.result one = c.in_ok-find_in.ensures.found in
    subst (λ (found : List TraceFindings). GoesOn (λ text. text.now) texts logs (number + 1) found) (sym c.in_ok-push.ensures.items)
    (goes_on (λ text. text.now) texts logs number none c.index-logs-number.result c.loop-number.traces.items one c.loop-number-test.true in_logs c.index-logs-number.is found c.loop-number.invariant)

pub find_in-requires : goal.find_in-requires
find_in-requires c =
    let none : Bor (List ℕ) = record { ref_ptr = (0, 0); now = [] } in
    let texts = c.args.texts.now in
    record {
      named = subst (λ (log : Log). NamesElements (get_or texts c.loop-number.number none).now log) (sym c.index-logs-number.is)
          (zip_at NamesElements (λ text. text.now) texts c.args.logs.now c.loop-number.number none c.index-logs-number.result c.requires.named c.loop-number-test.true);
    }

pub returns : goal.returns
returns c =
    record {
      found =
          went (λ text. text.now) c.args.texts.now c.args.logs.now c.loop-number.number c.loop-number.traces.items c.loop-number-test.false (omega (arith, c.requires.each, c.loop-number-test.false)) c.loop-number.invariant;
    }
