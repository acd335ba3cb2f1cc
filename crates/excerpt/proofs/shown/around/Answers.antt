use Rattle.std.proofs.lemmas.Result.{IfOk-weaker}
use Rattle.excerpt.proofs.shown.around.Goals as goal

pub returns : goal.returns
returns c = IfOk-weaker c.told_by.result _ _ (λ found is. (c.in_ok-around.around, c.in_ok-around.ensures, is)) c.told_by.ensures
