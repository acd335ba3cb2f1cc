use Rattle.std.proofs.Common.{◌+◌, ◌-◌, length, take, drop, length-drop, refl, arith}
use Rattle.std.proofs.lemmas.List.{take_all}
use Rattle.feeders.proofs.Holding.{taken_anew, taken_more}
use Rattle.feeders.proofs.tail_buffer.TailBuffer.take.Goals as goal

pub returns-clause-holds : goal.returns-clause-holds
returns-clause-holds c =
    let piece = c.args.piece.now in
    let passed = c.min-passed.result in
    taken_anew piece c.clear.new.self.items (take (length piece - passed) (drop passed piece)) c.args.self.now (c.args.self.now.from + c.len.result) passed
    (record { from = c.args.self.now.from + c.len.result + passed; bytes = c.extend_from_slice-2.new.self })
    c.extend_from_slice-2.result (c.extend_from_slice-2.ensures.succeeds (omega (arith, c.clear.ensures.len, c.clear.ensures.capacity, c.requires.room, length-drop passed piece))) (omega (arith, c.len.ensures)) (omega (arith, c.min-passed.ensures)) refl c.extend_from_slice-2.ensures.items c.clear.ensures.items
    (take_all (length piece - passed) (drop passed piece) (omega (arith, length-drop passed piece)))

pub returns-then-keep-end-clause-holds : goal.returns-then-keep-end-clause-holds
returns-then-keep-end-clause-holds c =
    taken_more c.args.piece.now c.args.self.now (record { from = c.args.self.now.from; bytes = c.extend_from_slice.new.self }) c.extend_from_slice.result
    (c.extend_from_slice.ensures.succeeds c.requires.room) refl c.extend_from_slice.ensures.items
