use Rattle.std.proofs.Common.{refl}
use Rattle.watch.proofs.Advancing.{left_all, no_failure, none_new}
use Rattle.watch.proofs.settling.passed_on.Goals as goal

pub returns-in-Refused-clause-held : goal.returns-in-Refused-clause-held
returns-in-Refused-clause-held c =
    none_new c.args.progress.now c.args.settle c.args.notice c.args.held.now.items c.args.held.now.items
    (left_all c.args.notice c.args.held.now.items c.args.held.now.items refl)
    (λ some fails. no_failure c.args.notice c.in-Refused.is fails)
