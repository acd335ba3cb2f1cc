use Rattle.std.proofs.Common.{sym, ◌∙◌}
use Rattle.tower_file.specs.Located.{pairs_under}
use Rattle.tower_file.proofs.Locating.{vector_at}
use Rattle.tower_file.proofs.level.vector_under.Goals as goal

pub returns-in-Ok-clause-vector : goal.returns-in-Ok-clause-vector
returns-in-Ok-clause-vector c pairs h =
    let v = c.in-Ok.ensures.vector in
    vector_at c.in-Ok.view v.0 (pairs_under c.args.key.now pairs) (sym v.1 ∙ c.field.ensures.values pairs h) v.2
