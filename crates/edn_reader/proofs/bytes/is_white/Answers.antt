use Rattle.std.proofs.Common.{refl, arith}
use Rattle.edn_reader.specs.declared.bytes.TheConstants.{MARKS}
use Rattle.edn_reader.specs.Bytes.{class_of, is_white}
use Rattle.edn_reader.proofs.Tables.{agree_below, from_table}
use Rattle.edn_reader.proofs.bytes.is_white.Goals as goal

pub returns : goal.returns
unfolding agree_below class_of
returns c = from_table MARKS 46 is_white c.args.byte (omega arith) refl
