use Rattle.std.proofs.Common.{◌+◌, ◌<◌, false, length, arith}
use Rattle.intervals.specs.Terms.{terms_of}
use Rattle.safe_regular.specs.declared.judged.JudgedRead.{JudgedRead}
use Rattle.safe_regular.proofs.Rows.{end_in, here_is, judged_from, kept_rising, place_next}
use Rattle.safe_regular.proofs.judged.JudgedReads.+judge_rows.Goals as goal

abbrev spare : JudgedRead
spare = record { end = record { 0 = 0 }; id = record { feeder = 0; event = 0 }; wrong = false }

pub judge_rows-requires : goal.judge_rows-requires
judge_rows-requires t c =
    let long = c.judge_row.ensures.kept.len in
    let lt = c.if-len-at.false in
    let is = c.len.ensures in
    let own = c.args.self.now.rows.ok.0 in
    (omega (arith, long, lt, is, own, c.decreases), tt)

pub returns-clause-judged : goal.returns-clause-judged
returns-clause-judged t c true_is are apart up number is =
    let a = c.args.self.now in
    let b = c.judge_row.new.self in
    let lt : c.args.at < length a.rows.items = (let le = c.if-len-at.false in let v = c.len.ensures in let own = a.rows.ok.0 in omega (arith, le, v, own)) in
    let kept = c.judge_row.ensures.kept in
    let end = end_in a.rows.items c.args.at spare in
    judged_from (terms_of c.args.claim.now) c.args.table.now.ops a b c.judge_rows.new.self kept up number c.args.at lt is spare
    (c.judge_row.ensures.judged c.if-not-judge_row.false are apart up end (λ d. here_is a b kept up number c.args.at lt is spare d))
    (c.judge_rows.ensures.judged true_is are apart (kept_rising a b kept up) (end + 1) (place_next a b kept up number c.args.at lt is spare))
