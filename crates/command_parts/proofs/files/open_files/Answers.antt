use Rattle.std.proofs.Common.{◌∙◌, ◌∷◌, [], arith, map}
use Rattle.std.proofs.lemmas.List.{map-append}
use Rattle.command_parts.proofs.Readings.{open_more}
use Rattle.command_parts.proofs.files.open_files.Goals as goal

pub loop-name-preserved : goal.loop-name-preserved
loop-name-preserved g c =
    let so_far = c.loop-name.invariant in
    let reader = c.in_ok-open_file.field-0 in
    let left = g.F.Reader.Read.remaining in
    record {
      held = λ known held.
          rw c.push_reserved.ensures.items
          (map-append left c.loop-name.readers.items (reader ∷ [])
          ∙ open_more (g.F.Files.held c.args.files.now) (g.F.Files.held c.loop-name.files) c.args.names.now (map left c.loop-name.readers.items) known (left reader) c.loop-name.name-index _ c.loop-name-test.true so_far.stays c.in_ok-open_file.ensures.reader (so_far.held known) held);
      stays = c.open_file.ensures.stays ∙ so_far.stays;
      many = omega arith;
      room = omega arith;
    }
