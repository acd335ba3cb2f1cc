use Rattle.std.proofs.Common.{◌∷◌, [], sym, arith}
use Rattle.std.proofs.lemmas.List.{map-append, map_more}
use Rattle.lint_command.proofs.looking.slices_of.Goals as goal

pub loop-number-preserved : goal.loop-number-preserved
loop-number-preserved c = record {
  within = omega (arith, c.loop-number-test.true);
  lent =
      rw (c.in_ok-push.ensures.items, map-append (λ slice. slice.now) c.loop-number.slices.items (c.as_slice.result ∷ []), c.loop-number.invariant.lent, c.as_slice.ensures.value, c.index-texts-number.is)
      (sym (map_more (λ text. text.items) c.args.texts.now c.loop-number.number _ c.loop-number-test.true));
}
