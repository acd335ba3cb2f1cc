use Rattle.std.proofs.Common.{◌∷◌, [], refl, string_bytes}
use Rattle.report.proofs.Frequency.{next_text}
use Rattle.report.proofs.refused.push_tallies.Goals as goal

pub loop-tally-preserved : goal.loop-tally-preserved
unfolding lib.Utf8.encode
loop-tally-preserved c = (
  (44 ∷ 32 ∷ [], (refl, refl)),
  next_text c.args.logs.now c.args.tallies.now c.loop-tally.tally-index _ c.loop-tally.before.now (string_bytes c.loop-tally.text) (string_bytes c.push_str.new.self) (string_bytes c.push_tally.new.text) _ c.loop-tally-test.true
      c.in_ok-push_str.ensures.bytes c.in_ok-push_tally.ensures c.loop-tally.invariant.1,
)
