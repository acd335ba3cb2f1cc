use Rattle.std.proofs.Common.{◌≡◌, rules, ◌∙◌}
use Rattle.std.specs.Prelude.{option_map}
use Rattle.zones.specs.Fault.{first_early}
use Rattle.intervals.proofs.Ids.{found_by_id}
use Rattle.register_book.specs.Judge.{pair_by}
use Rattle.register_book.proofs.Ids.{pair_found_again}
use Rattle.register_book.proofs.many_writers.first_early.Goals as goal

pub returns : goal.returns
returns c =
    let held = c.args.clusters.now in
    let by : c.ops_by.result ≡ pair_by held.ops (option_map (λ pair. (pair.0.id, pair.1.id)) (first_early held.ops)) = search rules in
    by ∙ pair_found_again held.ops (first_early held.ops) (λ r w e.
    let h = c.first_early_ended_first.ensures.first held.ops r w e in
    (found_by_id held.ops r c.requires h.0.present, found_by_id held.ops w c.requires h.1))
