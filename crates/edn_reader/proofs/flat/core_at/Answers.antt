use Rattle.std.proofs.Common.{sym, ◌∙◌, arith}
use Rattle.edn_reader.proofs.FlatMaps.{core_following}
use Rattle.edn_reader.proofs.flat.core_at.Goals as goal

pub returns : goal.returns
returns c = (
  core_following c.args.bytes.now c.args.start c.run_end.result c.white_end.result (omega (arith, c.requires, c.if-start-bytes.false, c.if-name-bytes.false)) c.if-bytes-start-ne35.false
      (sym c.is_plain.ensures ∙ c.if-not-is_plain.false) c.if-bytes-name-eq95.false c.run_end.ensures.end c.white_end.ensures.end,
  c.white_end.ensures.within,
)
