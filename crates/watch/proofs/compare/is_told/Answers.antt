use Rattle.std.proofs.Common.{refl, subst, sym}
use Rattle.std.specs.Prelude.{IsNone}
use Rattle.watch.specs.Watched.{changes_in}
use Rattle.watch.proofs.Fronts.{none_told}
use Rattle.watch.proofs.compare.is_told.Goals as goal

pub returns-in-None : goal.returns-in-None
returns-in-None c =
    (λ no. absurd (cc), λ is. absurd (none_told c.args.stopped (changes_in c.args.shards c.args.at c.args.notices.now) c.args.own.now (c.rest_of.ensures.none (subst IsNone (sym c.in-None.is) refl)) is))
