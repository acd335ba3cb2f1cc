use Rattle.std.proofs.Common.{◌∙◌, ◌∷◌, [], Some, arith, map}
use Rattle.std.proofs.lemmas.List.{map-append}
use Rattle.command_parts.proofs.Readings.{as_some, open_more}
use Rattle.command_parts.proofs.files.read_files.Goals as goal

pub loop-name-preserved : goal.loop-name-preserved
loop-name-preserved g c =
    let so_far = c.loop-name.invariant in
    let text = c.in_ok-read_file.field-0 in
    record {
      held = λ known held.
          rw c.push_reserved.ensures.items
          (map-append (λ text. Some text.items) c.loop-name.texts.items (text ∷ [])
          ∙ open_more (g.F.Files.held c.args.files.now) (g.F.Files.held c.loop-name.files) c.args.names.now (map (λ text. Some text.items) c.loop-name.texts.items) known (Some text.items) c.loop-name.name-index _ c.loop-name-test.true so_far.stays (as_some _ text.items c.in_ok-read_file.ensures.held) (so_far.held known) held);
      stays = c.read_file.ensures.stays ∙ so_far.stays;
      many = omega arith;
      room = omega arith;
    }
