use Rattle.std.proofs.Common.{◌+◌, drop, sym, ◌∙◌, arith}
use Rattle.edn_reader.specs.Bytes.{is_run, stretch}
use Rattle.edn_reader.proofs.Stretches.{same_goes, same_stops}
use Rattle.edn_reader.proofs.bytes.run_end.Goals as goal

pub returns-then-not-is_run_byte-3-clause-end : goal.returns-then-not-is_run_byte-3-clause-end
returns-then-not-is_run_byte-3-clause-end c =
    let xs = c.args.input.now in
    let end = c.loop-end.end in
    let total = c.args.at + stretch is_run (drop c.args.at xs) in
    let one = same_goes is_run xs end (end + 1) total (omega arith) (omega arith) (sym c.is_run_byte.ensures ∙ c.if-not-is_run_byte.false) c.loop-end.invariant.same in
    let two = same_goes is_run xs (end + 1) (end + 2) total (omega arith) (omega arith) (sym c.is_run_byte-in-loop-end.ensures ∙ c.if-not-is_run_byte-2.false) one in
    same_stops is_run xs (end + 2) total (omega arith) (sym c.is_run_byte-in-loop-end-2.ensures ∙ c.if-not-is_run_byte-3.true) two

pub returns-then-not-is_run_byte-4-clause-end : goal.returns-then-not-is_run_byte-4-clause-end
returns-then-not-is_run_byte-4-clause-end c =
    let xs = c.args.input.now in
    let end = c.loop-end.end in
    let total = c.args.at + stretch is_run (drop c.args.at xs) in
    let one = same_goes is_run xs end (end + 1) total (omega arith) (omega arith) (sym c.is_run_byte.ensures ∙ c.if-not-is_run_byte.false) c.loop-end.invariant.same in
    let two = same_goes is_run xs (end + 1) (end + 2) total (omega arith) (omega arith) (sym c.is_run_byte-in-loop-end.ensures ∙ c.if-not-is_run_byte-2.false) one in
    let three = same_goes is_run xs (end + 2) (end + 3) total (omega arith) (omega arith) (sym c.is_run_byte-in-loop-end-2.ensures ∙ c.if-not-is_run_byte-3.false) two in
    same_stops is_run xs (end + 3) total (omega arith) (sym c.is_run_byte-in-loop-end-3.ensures ∙ c.if-not-is_run_byte-4.true) three

pub loop-end-preserved : goal.loop-end-preserved
loop-end-preserved c =
    let xs = c.args.input.now in
    let end = c.loop-end.end in
    let total = c.args.at + stretch is_run (drop c.args.at xs) in
    let one = same_goes is_run xs end (end + 1) total (omega arith) (omega arith) (sym c.is_run_byte.ensures ∙ c.if-not-is_run_byte.false) c.loop-end.invariant.same in
    let two = same_goes is_run xs (end + 1) (end + 2) total (omega arith) (omega arith) (sym c.is_run_byte-in-loop-end.ensures ∙ c.if-not-is_run_byte-2.false) one in
    let three = same_goes is_run xs (end + 2) (end + 3) total (omega arith) (omega arith) (sym c.is_run_byte-in-loop-end-2.ensures ∙ c.if-not-is_run_byte-3.false) two in
    let four = same_goes is_run xs (end + 3) (end + 4) total (omega arith) (omega arith) (sym c.is_run_byte-in-loop-end-3.ensures ∙ c.if-not-is_run_byte-4.false) three in
    record { within = omega arith; same = four }
