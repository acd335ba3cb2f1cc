use Rattle.std.proofs.Common.{sym, ◌∙◌}
use Rattle.intervals.proofs.InTurn.{none_there, some_there, turn_with_read, turn_with_second, turn_with_write}
use Rattle.intervals.proofs.overlap.put_in_turn.Goals.{else-is_write-via-then-is_write+else-is_none, else-is_write-via-else-is_write}
use Rattle.intervals.proofs.overlap.put_in_turn.Goals as goal

pub returns-in_ok-hold : goal.returns-in_ok-hold
returns-in_ok-hold c before are =
    turn_with_write before c.args.op.now c.args.turn.now c.hold.new.self c.put.new.self are (sym c.is_write.ensures ∙ c.if-is_write.true)
    (sym c.get.ensures ∙ none_there c.get.result c.is_none.result c.is_none.ensures c.if-is_none.true) c.hold.ensures.ids c.put.ensures

pub returns-else-is_write : goal.returns-else-is_write
returns-else-is_write c before are =
    elim c.else-is_write.branch [
      | else-is_write-via-then-is_write+else-is_none w ↦
          let there = some_there w.get.result w.is_none.result w.is_none.ensures w.if-is_none.false in
          turn_with_second before c.args.op.now c.args.turn.now there.0 are (sym w.get.ensures ∙ there.1)
      | else-is_write-via-else-is_write w ↦ turn_with_read before c.args.op.now c.args.turn.now are (sym c.is_write.ensures ∙ w.if-is_write.false)
    ]
