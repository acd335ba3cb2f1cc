use Rattle.std.proofs.Common.{◌≡◌, rules, ◌∙◌}
use Rattle.std.specs.Prelude.{option_map}
use Rattle.zones.specs.AtFirst.{unwritten_of}
use Rattle.intervals.proofs.Ids.{found_by_id}
use Rattle.intervals.specs.Edit.{found_by}
use Rattle.register_book.proofs.Excluding.{unwritten_known}
use Rattle.register_book.proofs.Ids.{found_again}
use Rattle.register_book.proofs.many_writers.first_unwritten.Goals as goal

pub returns : goal.returns
returns c =
    let held = c.args.clusters.now in
    let by : c.find.result ≡ found_by held.ops (option_map (λ op. op.id) (unwritten_of held.claim held.ops)) = search rules in
    by
    ∙ found_again held.ops (unwritten_of held.claim held.ops) (λ r e.
    found_by_id held.ops r c.requires (c.first_unwritten_ended_first.ensures.first held.claim.initial held.ops r (unwritten_known held.claim held.ops r e).1).present)
