use Rattle.std.proofs.Common.{◌∙◌, ◌+◌, ℕ, sym, ap, arith, length}
use Rattle.std.proofs.lemmas.List.{length-append, map-append, map_more}
use Rattle.lint_command.proofs.looking.sources_of.Goals as goal

pub loop-number-preserved : goal.loop-number-preserved
loop-number-preserved c = record {
  within = omega (arith, c.loop-number-test.true);
  many = ap length c.in_ok-push.ensures.items ∙ length-append c.loop-number.sources.items _ ∙ ap (λ (n : ℕ). n + 1) c.loop-number.invariant.many;
  named =
      rw (c.in_ok-push.ensures.items, map-append (λ source. source.name.now) c.loop-number.sources.items _, c.loop-number.invariant.named)
      (sym (map_more (λ name. name.now) c.args.names.now c.loop-number.number _ c.loop-number-test.true));
}
