use Rattle.std.proofs.Common.{refl, subst, sym}
use Rattle.std.specs.Prelude.{IsNone, filter_map}
use Rattle.watch.specs.Noted.{note_of, notes_of_log}
use Rattle.watch.proofs.Fronts.{none_told}
use Rattle.watch.proofs.noted.is_noted.Goals as goal

pub returns-in-None : goal.returns-in-None
returns-in-None c =
    (λ no. absurd (cc), λ is. absurd (none_told c.args.stopped (filter_map (note_of c.args.at) c.args.notices.now) (notes_of_log c.args.log.now) (c.rest_of.ensures.none (subst IsNone (sym c.in-None.is) refl)) is))
