use Rattle.std.proofs.Common.{◌≡◌, List, false, nat_eq, rules, subst}
use Rattle.std.specs.List.{insert}
use Rattle.report.specs.declared.refused.CodeTally.{CodeTally}
use Rattle.report.specs.Refused.{RefusedCode, put_by_frequency}
use Rattle.report.specs.Tallied.{tallied}
use Rattle.report.proofs.Frequency.{put_one}
use Rattle.report.proofs.refused.add_code.Goals as goal

pub returns : goal.returns
returns c =
    let many = c.count_refused_by-many.result in
    let at = c.place_of-at.result in
    let met : nat_eq many 0 ≡ false = search rules in
    let put = subst (λ (these : List CodeTally). (one : RefusedCode) → one.many ≡ many → put_by_frequency one (tallied these) ≡ insert (tallied these) at one) c.deref.ensures.value c.place_of-at.ensures.put in
    put_one c.args.logs.now c.args.entry.now c.args.tallies.now.items c.insert.new.self.items at many c.count_refused_by-many.ensures met put c.in_ok-insert.ensures.items
