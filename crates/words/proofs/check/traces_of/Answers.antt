use Rattle.std.proofs.Common.{codes, map, ap, refl}
use Rattle.std.proofs.lemmas.Result.{IfOk-weaker}
use Rattle.words.proofs.Arguments.{values_in}
use Rattle.words.proofs.check.traces_of.Goals as goal

pub returns-in-Some : goal.returns-in-Some
returns-in-Some c =
    rw (values_in c.args.found.now (codes "TRACE") _ c.in-Some.ensures) (IfOk-weaker c.copied.result _ _ (λ traces h. ap (map (λ name. name.now)) h) c.copied.ensures)

pub returns-in-None : goal.returns-in-None
returns-in-None c = rw (values_in c.args.found.now (codes "TRACE") _ c.in-None.ensures, c.new.ensures.items) refl
