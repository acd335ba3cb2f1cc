use Rattle.std.proofs.Common.{◌∙◌}
use Rattle.zones.proofs.Ends.{last_read_found}
use Rattle.zones.proofs.crossing.last_read.Goals as goal

pub returns : goal.returns
returns c is distinct =
    let ops = c.args.table.now.ops in
    last_read_found ops c.args.value distinct c.in_ok-id.field-0-0 c.in_ok-id.id (c.in_ok-id.ensures ops is) c.copied.result (c.copied.ensures ∙ c.get.ensures)
