use Rattle.std.proofs.Common.{sym, ◌∙◌}
use Rattle.intervals.proofs.Ids.{one_of_id}
use Rattle.safe_regular.proofs.Overlap.{overlapped_beside}
use Rattle.safe_regular.proofs.writes.first_overlapped.Goals as goal

pub returns : goal.returns
returns c are apart distinct =
    c.first_of_three.ensures
    ∙ sym (overlapped_beside c.args.table.now.ops c.args.op.now apart (λ v w sv sw wv ww. one_of_id c.args.table.now.ops distinct v w sv sw) c.last_before-below.result c.first_from-above.result c.first_beyond-beyond.result
    (record {
      below_is = c.last_before-below.ensures are distinct;
      above_is = c.first_from-above.ensures are distinct;
      beyond_is = c.first_beyond-beyond.ensures are distinct;
    }))
