use Rattle.std.proofs.Common.{leb-true, le-leb, arith}
use Rattle.safe_regular.proofs.RowsAfter.{is_none_told}
use Rattle.safe_regular.proofs.judged.JudgedReads.holds.Goals as goal

pub returns : goal.returns
returns c claim ops apart are =
    let told = is_none_told claim ops apart c.args.self.now are in
    let is = c.len.ensures in
    let own = c.args.self.now.rows.ok.0 in (
      (λ t. let le = leb-true c.len.result c.args.self.now.first t in told.1 (omega (arith, le, is, own))),
      (λ none. let le = told.0 none in le-leb c.len.result c.args.self.now.first (omega (arith, le, is, own))),
    )
