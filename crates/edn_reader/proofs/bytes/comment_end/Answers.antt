use Rattle.std.proofs.Common.{ℕ, List, length, drop, subst, arith, length-drop}
use Rattle.memchr.specs.Find.{NoneBefore, Nowhere, Passes, is_byte}
use Rattle.edn_reader.proofs.Stretches.{from_index, comment_found, comment_open}
use Rattle.edn_reader.proofs.bytes.comment_end.Goals as goal

pub returns-in-Some-clause-end : goal.returns-in-Some-clause-end
returns-in-Some-clause-end c =
    let bytes = drop c.args.at c.args.input.now in
    let n = c.in-Some.length in
    let found = subst (λ (xs : List ℕ). NoneBefore (Passes (is_byte 10) xs) 0 (length xs) n × Passes (is_byte 10) xs n) (from_index c.args.input.now c.args.at) c.in-Some.ensures in
    omega (arith, comment_found bytes n found.0 found.1)

pub returns-in-None-clause-end : goal.returns-in-None-clause-end
returns-in-None-clause-end c =
    let bytes = drop c.args.at c.args.input.now in
    let nowhere = subst (λ (xs : List ℕ). Nowhere (Passes (is_byte 10) xs) 0 (length xs)) (from_index c.args.input.now c.args.at) c.in-None.ensures in
    omega (arith, comment_open bytes nowhere, length-drop c.args.at c.args.input.now)
