use Rattle.std.proofs.Common.{Option, Some, refl, sym, subst, option_map}
use Rattle.std.specs.Prelude.{List, Vec}
use Rattle.std.specs.declared.alloc.Global.{Global}
use Rattle.intervals.specs.declared.operation.OpId.{OpId}
use Rattle.intervals.specs.declared.operation.RegId.{RegId}
use Rattle.report.specs.Order.{IsAsked}
use Rattle.records.proofs.run.RecordWriter.push_asked.Goals as goal

pub returns-clause-asked : goal.returns-clause-asked
returns-clause-asked c =
    let asked : Option (RegId × Option (List OpId)) = Some (c.in-Some.id, option_map (λ (ids : Vec OpId Global). ids.items) c.in_ok-found.found) in
    (asked, subst (λ (order : Option RegId). IsAsked c.args.closed.now order asked) (sym c.in-Some.is) (refl, c.in_ok-found.ensures), c.in_ok-push_order.ensures)
