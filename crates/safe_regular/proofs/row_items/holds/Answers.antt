use Rattle.safe_regular.proofs.Named.{AreToldOf, none_where_none}
use Rattle.safe_regular.proofs.row_items.holds.Goals as goal

pub returns : goal.returns
returns c claim ops apart laid =
    let items = c.args.line.now.items in
    let told : AreToldOf items = record {
      none = c.short_reads_are_told.ensures.none items laid.order;
      found = λ r. c.short_reads_are_told.ensures.found items r laid.order;
      some = c.short_reads_are_told.ensures.some items;
      cover = λ spot. c.each_spot_has_a_last_cover.ensures items spot laid.order;
    } in
    none_where_none claim ops apart items laid told c.has_uncovered.result c.has_uncovered.ensures.uncovered
