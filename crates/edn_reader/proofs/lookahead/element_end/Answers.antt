use Rattle.std.proofs.Common.{arith}
use Rattle.edn_reader.proofs.Skipping.{skips_nothing}
use Rattle.edn_reader.proofs.lookahead.element_end.Goals as goal

pub returns-then-from-bytes-clause-end : goal.returns-then-from-bytes-clause-end
returns-then-from-bytes-clause-end c = skips_nothing c.args.bytes.now c.args.from (omega arith)
