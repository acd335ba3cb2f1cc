use Rattle.std.proofs.Common.{sym, arith}
use Rattle.std.proofs.lemmas.List.{ext_get_or}
use Rattle.std.proofs.lemmas.Slice.Eq.{bytes_eq-Decides}
use Rattle.jepsen_form.proofs.form.is.Goals as goal

pub returns : goal.returns
returns c =
    let word = c.args.word.now in
    let key = c.args.key.now in
    sym ((bytes_eq-Decides word key).1 (ext_get_or 0 word key (omega (arith, c.if-word-key.false)) (λ i lt. c.loop-at.invariant.same i (omega (arith, lt, c.if-word-key.false, c.loop-at-test.false)))))
