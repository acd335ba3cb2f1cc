use Rattle.std.proofs.Common.{rules, sym}
use Rattle.std.proofs.lemmas.List.Sorted.{answers_always}
use Rattle.pairing.proofs.Rows.{found_row, no_row_found}
use Rattle.pairing.proofs.registers.register_at.Goals as goal

-- the closure gives the place of a row, and the row that was found is that of the place
pub returns-in-Ok : goal.returns-in-Ok
returns-in-Ok c =
    let facts = c.in-Ok.ensures in
    sym (found_row _ c.requires c.args.place _ facts.bound (facts.position (λ row. row.0) (answers_always _ _ _ (λ f a r g called. search rules))))

pub returns-in-Err : goal.returns-in-Err
returns-in-Err c =
    let facts = c.in-Err.ensures in
    sym (no_row_found _ c.requires c.args.place _ facts.bound (facts.position (λ row. row.0) (answers_always _ _ _ (λ f a r g called. search rules))))
