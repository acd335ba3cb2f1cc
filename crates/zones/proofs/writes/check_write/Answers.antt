use Rattle.std.proofs.Common.{◌∙◌, ap}
use Rattle.intervals.specs.Refusal.{ok_unless}
use Rattle.intervals.specs.Terms.{terms_of}
use Rattle.zones.proofs.WriteHolder.{beside_is}
use Rattle.zones.proofs.writes.check_write.Goals as goal

pub returns : goal.returns
returns c is distinct apart =
    let ops = c.args.table.now.ops in
    let claim = terms_of c.args.claim.now in
    c.check_beside.ensures ∙ ap ok_unless (beside_is claim ops c.args.op.now c.holder_of.result apart.atomic (c.holder_of.ensures is distinct apart))
