use Rattle.std.proofs.Common.{Err, ap, sym, ◌∙◌}
use Rattle.pairing.specs.declared.about.About.{About}
use Rattle.pairing.specs.Accepted.{accepted}
use Rattle.pairing.specs.About.{about_gist, gist_of_item}
use Rattle.logs.specs.declared.log.Code.TheVariants.{Pair}
use Rattle.logs.specs.Steps.{by_pairing}
use Rattle.feeders.proofs.progress.taken_by.Goals as goal

pub returns-in-Err : goal.returns-in-Err
returns-in-Err c items knows =
    let pairing = c.args.pairing.now in
    ap (λ (about : About). Err (record { code = Pair c.in-Err.fault; about = about }))
    (c.about.ensures items knows ∙ ap (about_gist pairing.feeder (accepted items)) c.gist_of_item.ensures)
    ∙ ap (by_pairing (about_gist pairing.feeder (accepted items) (gist_of_item c.args.item.now))) (sym c.in-Err.is)
