use Rattle.std.proofs.Common.{◌∙◌, sym}
use Rattle.safe_regular.proofs.Named.{AreToldOf, named, none_named}
use Rattle.safe_regular.proofs.row_items.first_wrong.Goals as goal

pub returns-in_err-item : goal.returns-in_err-item
returns-in_err-item c claim apart laid =
    let items = c.args.line.now.items in
    let told : AreToldOf items = record {
      none = c.short_reads_are_told.ensures.none items laid.order;
      found = λ r. c.short_reads_are_told.ensures.found items r laid.order;
      some = c.short_reads_are_told.ensures.some items;
      cover = λ spot. c.each_spot_has_a_last_cover.ensures items spot laid.order;
    } in
    c.from_residual.ensures ∙ sym (none_named claim c.args.table.now.ops apart items laid told (told.some.1 (sym c.in_err-item.ensures.first)))

pub returns : goal.returns
returns c claim apart laid =
    let items = c.args.line.now.items in
    let told : AreToldOf items = record {
      none = c.short_reads_are_told.ensures.none items laid.order;
      found = λ r. c.short_reads_are_told.ensures.found items r laid.order;
      some = c.short_reads_are_told.ensures.some items;
      cover = λ spot. c.each_spot_has_a_last_cover.ensures items spot laid.order;
    } in
    c.find.ensures ∙ named claim c.args.table.now.ops apart items laid told c.in_ok-item.item (sym c.in_ok-item.ensures.first)
