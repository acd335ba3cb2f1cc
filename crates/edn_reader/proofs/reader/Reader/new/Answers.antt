use Rattle.std.proofs.Common.{[], arith}
use Rattle.edn_reader.specs.Grammar.{none}
use Rattle.edn_reader.proofs.reader.Reader.new.Goals as goal

pub invariant_of-result : goal.invariant_of-result
invariant_of-result c = record { within = omega arith; front = ([], none); none_open = λ e. c.new.ensures; met = tt; memory = tt }

pub returns-clause-begins : goal.returns-clause-begins
returns-clause-begins c = none
