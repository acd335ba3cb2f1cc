use Rattle.std.proofs.Common.{◌≡◌, ℕ, List, subst}
use Rattle.intervals.specs.Terms.{terms_of}
use Rattle.safe_regular.specs.declared.judged.JudgedRead.{JudgedRead}
use Rattle.safe_regular.specs.Rows.{AreRising, IsPlaceOf}
use Rattle.safe_regular.proofs.Rows.{judged_none, none_there}
use Rattle.safe_regular.proofs.judged.JudgedReads.judge_at.Goals as goal

pub returns-then-is_end_at-clause-judged : goal.returns-then-is_end_at-clause-judged
returns-then-is_end_at-clause-judged c ok are apart up =
    let there = rw c.as_slice-2.ensures.value at (c.is_end_at.ensures.there c.if-is_end_at.true) in
    c.judge_row.ensures.judged ok are apart up c.args.number there.1

pub returns-else-is_end_at-clause-judged : goal.returns-else-is_end_at-clause-judged
returns-else-is_end_at-clause-judged c _ are apart up =
    let rows = c.args.self.now.rows.items in
    let none = rw c.as_slice-2.ensures.value at (c.is_end_at.ensures.not c.if-is_end_at.false) in
    let place = subst (λ (l : List JudgedRead). AreRising l → IsPlaceOf c.args.number l c.place_of-place.result) c.as_slice.ensures.value c.place_of-place.ensures.place in
    judged_none (terms_of c.args.claim.now) c.args.table.now.ops (λ (n : ℕ). n ≡ c.args.number) rows (none_there c.args.number rows c.place_of-place.result up (place up) (λ d lt. none lt d))
