use Rattle.std.proofs.Common.{sym, ◌∙◌, arith}
use Rattle.edn_reader.proofs.FlatMaps.{word_at}
use Rattle.edn_reader.proofs.flat.word_end.Goals as goal

pub returns : goal.returns
returns c =
    word_at c.args.bytes.now c.args.at c.run_end-end.result (omega (arith, c.requires, c.if-at-bytes.false)) (sym c.is_plain.ensures ∙ c.if-not-is_plain.false) c.run_end-end.ensures.end c.run_end-end.ensures.within c.if-end-bytes.false
