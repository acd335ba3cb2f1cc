use Rattle.std.proofs.Common.{◌∙◌, ℕ, List, ap, codes, map, sym}
use Rattle.std.specs.Borrow.{Bor}
use Rattle.clap.specs.Words.{found_of, rows_of}
use Rattle.words.specs.Words.{asked_tower, is_nothing}
use Rattle.words.proofs.Arguments.{value_in}
use Rattle.words.proofs.Commands.{colours_by, is_lint, is_no_lint, no_tower_to_lint}
use Rattle.words.proofs.lint.lint_of.Goals as goal

pub returns-in_default : goal.returns-in_default
returns-in_default c = no_tower_to_lint (rows_of (found_of c.args.found.now)) c.in_default.ensures

pub returns-then-is_nothing : goal.returns-then-is_nothing
returns-then-is_nothing c =
    let found = c.args.found.now in
    is_no_lint (rows_of (found_of found)) (asked_tower c.in-Some.tower) c.in-Some-moments_of.moments c.in-Some-lint_form_of.form c.in-Some-count_of.most c.in-Some-colours_of.colours (map (λ name. name.now) c.in_ok-traces.traces.items)
    c.in-Some.ensures c.in-Some-moments_of.ensures c.in-Some-lint_form_of.ensures c.in-Some-count_of.ensures (colours_by (rows_of (found_of found)) _ _ _ c.is_for_people.ensures c.in-Some-colours_of.ensures) c.in_ok-traces.ensures
    (ap (λ (names : List (Bor (List ℕ))). is_nothing (asked_tower c.in-Some.tower) (map (λ name. name.now) names)) (sym c.deref.ensures.value) ∙ sym c.is_nothing.ensures ∙ c.if-is_nothing.true)

pub returns : goal.returns
returns c =
    let found = c.args.found.now in
    is_lint (rows_of (found_of found)) (asked_tower c.in-Some.tower) c.in-Some-moments_of.moments c.in-Some-lint_form_of.form c.in-Some-count_of.most _ c.in-Some-colours_of.colours (map (λ name. name.now) c.in_ok-traces.traces.items)
    c.in-Some.ensures c.in-Some-moments_of.ensures c.in-Some-lint_form_of.ensures c.in-Some-count_of.ensures
    (value_in found (codes "deny") _ c.get_str.ensures) (colours_by (rows_of (found_of found)) _ _ _ c.is_for_people.ensures c.in-Some-colours_of.ensures) c.in_ok-traces.ensures
    (ap (λ (names : List (Bor (List ℕ))). is_nothing (asked_tower c.in-Some.tower) (map (λ name. name.now) names)) (sym c.deref.ensures.value) ∙ sym c.is_nothing.ensures ∙ c.if-is_nothing.false)
