use Rattle.std.proofs.Common.{◌<◌, ◌∙◌, length, ap, arith}
use Rattle.std.proofs.lemmas.List.{get_or_read}
use Rattle.intervals.specs.Terms.{terms_of}
use Rattle.safe_regular.specs.declared.judged.JudgedRead.{JudgedRead}
use Rattle.safe_regular.proofs.Rows.{set_judged}
use Rattle.safe_regular.proofs.judged.JudgedReads.judge_row.Goals as goal

pub returns-then-at-self-clause-judged : goal.returns-then-at-self-clause-judged
returns-then-at-self-clause-judged c _ are apart up number there =
    let rows = c.args.self.now.rows.items in
    let lt : c.args.at < length rows = (let within = c.requires.within in let own = c.args.self.now.rows.ok.0 in omega (arith, within, own)) in
    let row : JudgedRead = record { end = c.index.result.now.end; id = c.index.result.now.id; wrong = c.in-Some.wrong } in
    set_judged rows c.args.at row lt (terms_of c.args.claim.now) c.args.table.now.ops number up there
    (ap (λ (r : JudgedRead). r.end.0) c.index.ensures ∙ there c.index.result.now)
    (λ d. ap (λ (r : JudgedRead). r.id) (get_or_read rows c.args.at c.index.result.now lt c.index.ensures d)) (c.in-Some.ensures are apart)

pub returns-else-wrong-clause-judged : goal.returns-else-wrong-clause-judged
returns-else-wrong-clause-judged c _ are apart up number there =
    let rows = c.args.self.now.rows.items in
    let lt : c.args.at < length rows = (let within = c.requires.within in let own = c.args.self.now.rows.ok.0 in omega (arith, within, own)) in
    let row : JudgedRead = record { end = c.index.result.now.end; id = c.index.result.now.id; wrong = c.in-Some.wrong } in
    set_judged rows c.args.at row lt (terms_of c.args.claim.now) c.args.table.now.ops number up there
    (ap (λ (r : JudgedRead). r.end.0) c.index.ensures ∙ there c.index.result.now)
    (λ d. ap (λ (r : JudgedRead). r.id) (get_or_read rows c.args.at c.index.result.now lt c.index.ensures d)) (c.in-Some.ensures are apart)
