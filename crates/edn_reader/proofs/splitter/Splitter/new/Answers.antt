use Rattle.std.proofs.Common.{[], None, List, sym, subst}
use Rattle.edn_reader.specs.declared.nesting.Open.{Open}
use Rattle.edn_reader.specs.declared.resume.Part.TheVariants.{Nothing}
use Rattle.edn_reader.specs.Splitting.{StandsAfter}
use Rattle.edn_reader.proofs.Splitting.{after_nothing}
use Rattle.edn_reader.proofs.splitter.Splitter.new.Goals as goal

pub returns : goal.returns
returns c next =
    rw c.nothing.ensures (subst (λ (opens : List Open). StandsAfter [] next [] (record { taken = 0; begun = record { start = 0; part = Nothing }; opens = opens; fault = None; ended = c.plain_span.result })) (sym c.new.ensures) (after_nothing next c.plain_span.result))
