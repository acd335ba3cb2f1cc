use Rattle.std.proofs.Common.{◌≡◌, ◌∙◌, false, Some, None, sym, rules}
use Rattle.intervals.specs.Operation.{value_of}
use Rattle.intervals.specs.Refusal.{is_initial}
use Rattle.intervals.specs.Terms.{terms_of}
use Rattle.zones.proofs.WriteHolder.{held_by}
use Rattle.zones.proofs.writes.holder_of.Goals as goal

pub returns-in_err-write : goal.returns-in_err-write
returns-in_err-write c is distinct apart =
    let ops = c.args.table.now.ops in
    let claim = terms_of c.args.claim.now in
    let other : is_initial claim (value_of c.args.op.now.act) ≡ false = search rules in
    c.from_residual.ensures
    ∙ sym (held_by claim ops c.args.op.now None other (c.in_err-write.ensures claim is distinct apart))

pub returns : goal.returns
returns c is distinct apart =
    let ops = c.args.table.now.ops in
    let claim = terms_of c.args.claim.now in
    let other : is_initial claim (value_of c.args.op.now.act) ≡ false = search rules in
    sym (held_by claim ops c.args.op.now (Some c.in_ok-write.write) other (c.in_ok-write.ensures claim is distinct apart))
