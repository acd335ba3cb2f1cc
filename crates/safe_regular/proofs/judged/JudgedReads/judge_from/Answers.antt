use Rattle.std.proofs.Common.{List, subst}
use Rattle.safe_regular.specs.declared.judged.JudgedRead.{JudgedRead}
use Rattle.safe_regular.specs.Rows.{AreRising, IsPlaceOf}
use Rattle.safe_regular.proofs.judged.JudgedReads.judge_from.Goals as goal

pub returns-clause-judged : goal.returns-clause-judged
returns-clause-judged c ok are apart up =
    let place = subst (λ (l : List JudgedRead). AreRising l → IsPlaceOf c.args.number l c.in-Some.place) c.as_slice.ensures.value c.in-Some.ensures.place in
    c.judge_rows.ensures.judged ok are apart up c.args.number (place up)
