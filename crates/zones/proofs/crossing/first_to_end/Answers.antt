use Rattle.std.proofs.Common.{◌≡◌, true, false, rules, subst, sym}
use Rattle.zones.specs.Crossing.{HasLeastEnd}
use Rattle.zones.specs.Zoned.{is_that}
use Rattle.zones.proofs.Extremes.{may_not_start, may_start}
use Rattle.zones.proofs.Ends.{least_found}
use Rattle.zones.proofs.crossing.first_to_end.Goals as goal

pub returns-then-is_initial : goal.returns-then-is_initial
returns-then-is_initial c start may is recorded distinct ends =
    let it : is_that c.args.initial c.args.value ≡ true = search rules in
    may_start c.args.initial start c.args.value may it

pub returns : goal.returns
returns c start may is recorded distinct ends =
    let ops = c.args.table.now.ops in
    let other : is_that c.args.initial c.args.value ≡ false = search rules in
    subst (HasLeastEnd start ops c.args.value) (sym c.ended_first.ensures)
    (least_found ops c.args.value distinct start (recorded.edges c.args.value).write.one (may_not_start c.args.initial start c.args.value may other) c.write_of.result c.first_read.result (c.write_of.ensures recorded distinct) (c.first_read.ensures is distinct) ends)
