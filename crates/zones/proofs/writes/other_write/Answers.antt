use Rattle.std.proofs.Common.{◌≡◌, ◌≢◌, ◌∙◌, true, false, sym, subst, rules}
use Rattle.std.specs.Prelude.{All}
use Rattle.intervals.specs.declared.operation.Value.{Value}
use Rattle.intervals.specs.Operation.{IsWrite, same_id, value_of}
use Rattle.zones.specs.Members.{IsTheWriteAt}
use Rattle.zones.proofs.WriteHolder.{none_holds, itself_holds, other_holds}
use Rattle.zones.proofs.writes.other_write.Goals as goal

pub returns-in_err-write : goal.returns-in_err-write
returns-in_err-write c claim is distinct apart =
    let ops = c.args.table.now.ops in
    let value : c.value.result ≡ value_of c.args.op.now.act = search rules in
    c.from_residual.ensures
    ∙ sym (none_holds claim ops c.args.op.now (subst (λ (v : Value). All (λ w. IsWrite w → value_of w.act ≢ v) ops) value (c.in_err-write.ensures is distinct)))

pub returns-then-has_id : goal.returns-then-has_id
returns-then-has_id c claim is distinct apart =
    let ops = c.args.table.now.ops in
    let value : c.value.result ≡ value_of c.args.op.now.act = search rules in
    let same : same_id c.in_ok-write.write.id c.args.op.now.id ≡ true = search rules in
    sym (itself_holds claim ops c.args.op.now apart c.in_ok-write.write (subst (λ (v : Value). IsTheWriteAt ops v c.in_ok-write.write) value (c.in_ok-write.ensures is distinct)) same)

pub returns-else-has_id : goal.returns-else-has_id
returns-else-has_id c claim is distinct apart =
    let ops = c.args.table.now.ops in
    let value : c.value.result ≡ value_of c.args.op.now.act = search rules in
    let other : same_id c.in_ok-write.write.id c.args.op.now.id ≡ false = search rules in
    sym (other_holds claim ops c.args.op.now apart c.in_ok-write.write (subst (λ (v : Value). IsTheWriteAt ops v c.in_ok-write.write) value (c.in_ok-write.ensures is distinct)) other)
