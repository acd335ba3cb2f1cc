use Rattle.std.proofs.Common.{◌≡◌, rules, ◌∙◌}
use Rattle.std.specs.Prelude.{option_map}
use Rattle.zones.specs.AtFirst.{first_split}
use Rattle.intervals.proofs.Ids.{found_by_id}
use Rattle.register_book.specs.Judge.{pair_by}
use Rattle.register_book.proofs.Ids.{pair_found_again}
use Rattle.register_book.proofs.many_writers.first_split.Goals as goal

pub returns : goal.returns
returns c =
    let held = c.args.clusters.now in
    let by : c.ops_by.result ≡ pair_by held.ops (option_map (λ pair. (pair.0.id, pair.1.id)) (first_split held.claim held.ops)) = search rules in
    by
    ∙ pair_found_again held.ops (first_split held.claim held.ops) (λ a b e.
    let s = c.first_split_ended_first.ensures.split held.claim held.ops a b e in
    (found_by_id held.ops a c.requires s.a_present, found_by_id held.ops b c.requires s.b_present))
