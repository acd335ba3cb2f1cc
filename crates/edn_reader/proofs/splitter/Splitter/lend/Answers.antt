use Rattle.std.proofs.Common.{ap, arith, length}
use Rattle.edn_reader.specs.declared.element.Core.{Core}
use Rattle.edn_reader.proofs.SoFar.{core_inside}
use Rattle.edn_reader.proofs.splitter.Splitter.lend.Goals as goal

pub new-requires-clause-after : goal.new-requires-clause-after
new-requires-clause-after c =
    let said = rw (← c.self.view_is) at c.requires.element in
    omega (arith, (core_inside said.0 said.2).0, ap (λ (core : Core). core.start) said.1.2, said.1.1)

pub new-requires-clause-within : goal.new-requires-clause-within
new-requires-clause-within c =
    let said = rw (← c.self.view_is) at c.requires.element in
    omega (arith, (core_inside said.0 said.2).1, ap (λ (core : Core). core.start) said.1.2, said.1.1, ap length said.3)
