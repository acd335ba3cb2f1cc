use Rattle.std.proofs.Common.{refl, arith}
use Rattle.edn_reader.specs.declared.bytes.TheConstants.{MARKS}
use Rattle.edn_reader.specs.Bytes.{class_of, is_run}
use Rattle.edn_reader.proofs.Tables.{agree_below, below_table}
use Rattle.edn_reader.proofs.bytes.is_run_byte.Goals as goal

pub returns : goal.returns
unfolding agree_below class_of
returns c = below_table MARKS 43 is_run c.args.byte (omega arith) refl
