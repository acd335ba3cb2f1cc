use Rattle.std.proofs.Common.{◌≡◌, ◌∙◌, ◌∷◌, [], List, Option, ap, sym}
use Rattle.intervals.specs.declared.operation.Op.{Op}
use Rattle.intervals.specs.declared.refusal.Refusal.{Refusal}
use Rattle.intervals.specs.Edit.{new_op}
use Rattle.intervals.specs.Refusal.{claim_refusal, first_present, first_refusal, new_write_refusal}
use Rattle.register_book.specs.Judge.{held_by}
use Rattle.register_book.proofs.Refusals.{if_ok, is_first, is_later, is_only, on_err}
use Rattle.register_book.proofs.refused.refusal_of.Goals as goal

pub returns-then-is_some-clause-refusal : goal.returns-then-is_some-clause-refusal
returns-then-is_some-clause-refusal c =
    let held = held_by c.args.judge.now in
    let edit = c.args.edit.now in
    is_first c.list_refusal-refusal.result (first_refusal held.ops edit) (new_write_refusal held.claim held.ops (new_op held.ops edit) ∷ claim_refusal held.claim held.ops edit ∷ [])
    (c.list_refusal-refusal.ensures ∙ ap (λ (ops : List Op). first_refusal ops edit) c.operations.ensures) (sym c.is_some.ensures ∙ c.if-is_some.true)

pub returns-then-is_some-2-clause-refusal : goal.returns-then-is_some-2-clause-refusal
returns-then-is_some-2-clause-refusal c =
    let held = held_by c.args.judge.now in
    let edit = c.args.edit.now in
    let listed : c.list_refusal-refusal.result ≡ first_refusal held.ops edit = c.list_refusal-refusal.ensures ∙ ap (λ (ops : List Op). first_refusal ops edit) c.operations.ensures in
    let written : c.new_write_refusal_of-refusal.result ≡ new_write_refusal held.claim held.ops (new_op held.ops edit) =
    c.new_write_refusal_of-refusal.ensures ∙ ap (new_write_refusal held.claim held.ops) c.requires.target.new in
    let claimed : List (Option Refusal) = claim_refusal held.claim held.ops edit ∷ [] in
    is_later c.new_write_refusal_of-refusal.result c.list_refusal-refusal.result (first_refusal held.ops edit) (new_write_refusal held.claim held.ops (new_op held.ops edit) ∷ claimed) listed (sym c.is_some.ensures ∙ c.if-is_some.false)
    (is_first c.new_write_refusal_of-refusal.result (new_write_refusal held.claim held.ops (new_op held.ops edit)) claimed written (sym c.is_some-2.ensures ∙ c.if-is_some-2.true))

pub returns-clause-refusal : goal.returns-clause-refusal
returns-clause-refusal c =
    let held = held_by c.args.judge.now in
    let edit = c.args.edit.now in
    let listed : c.list_refusal-refusal.result ≡ first_refusal held.ops edit = c.list_refusal-refusal.ensures ∙ ap (λ (ops : List Op). first_refusal ops edit) c.operations.ensures in
    let written : c.new_write_refusal_of-refusal.result ≡ new_write_refusal held.claim held.ops (new_op held.ops edit) =
    c.new_write_refusal_of-refusal.ensures ∙ ap (new_write_refusal held.claim held.ops) c.requires.target.new in
    let claimed : Option Refusal = claim_refusal held.claim held.ops edit in
    if_ok c.claim_refusal_of.result claimed (first_present (first_refusal held.ops edit ∷ new_write_refusal held.claim held.ops (new_op held.ops edit) ∷ claimed ∷ []))
    (λ found is. is_later found c.list_refusal-refusal.result (first_refusal held.ops edit) (new_write_refusal held.claim held.ops (new_op held.ops edit) ∷ claimed ∷ []) listed (sym c.is_some.ensures ∙ c.if-is_some.false)
    (is_later found c.new_write_refusal_of-refusal.result (new_write_refusal held.claim held.ops (new_op held.ops edit)) (claimed ∷ []) written (sym c.is_some-2.ensures ∙ c.if-is_some-2.false) (is_only found claimed is)))
    c.claim_refusal_of.ensures.refusal

pub returns-clause-memory : goal.returns-clause-memory
returns-clause-memory c =
    let held = held_by c.args.judge.now in
    let edit = c.args.edit.now in
    let listed : c.list_refusal-refusal.result ≡ first_refusal held.ops edit = c.list_refusal-refusal.ensures ∙ ap (λ (ops : List Op). first_refusal ops edit) c.operations.ensures in
    let written : c.new_write_refusal_of-refusal.result ≡ new_write_refusal held.claim held.ops (new_op held.ops edit) =
    c.new_write_refusal_of-refusal.ensures ∙ ap (new_write_refusal held.claim held.ops) c.requires.target.new in
    let claimed : Option Refusal = claim_refusal held.claim held.ops edit in
    on_err c.claim_refusal_of.result claimed (first_present (first_refusal held.ops edit ∷ new_write_refusal held.claim held.ops (new_op held.ops edit) ∷ claimed ∷ []))
    (λ found is. is_later found c.list_refusal-refusal.result (first_refusal held.ops edit) (new_write_refusal held.claim held.ops (new_op held.ops edit) ∷ claimed ∷ []) listed (sym c.is_some.ensures ∙ c.if-is_some.false)
    (is_later found c.new_write_refusal_of-refusal.result (new_write_refusal held.claim held.ops (new_op held.ops edit)) (claimed ∷ []) written (sym c.is_some-2.ensures ∙ c.if-is_some-2.false) (is_only found claimed is)))
    c.claim_refusal_of.ensures.memory
