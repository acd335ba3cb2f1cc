use Rattle.std.proofs.Common.{◌≡◌, ◌∙◌, ◌++◌, ◌∷◌, [], List, ℕ, ap, codes}
use Rattle.std.proofs.lemmas.List.{append_assoc}
use Rattle.std.proofs.lemmas.Result.{on_ok_weaker}
use Rattle.report.specs.Failing.{part_name_text}
use Rattle.report.proofs.failing.push_over.Goals as goal

in_two_steps : (old middle new head part last : List ℕ) → middle ≡ old ++ head → new ≡ middle ++ part ++ last → new ≡ old ++ (head ++ part ++ last)
in_two_steps old middle new head part last first second =
    second ∙ ap (λ (text : List ℕ). text ++ part ++ last) first ∙ ap (λ (text : List ℕ). text ++ last) (append_assoc old head part) ∙ append_assoc old (head ++ part) last

pub returns : goal.returns
returns c =
    on_ok_weaker c.push_part_end.result (in_two_steps _ _ _ (codes "  fails over ") (part_name_text c.args.tower.now c.args.part) (10 ∷ []) c.in_ok-push_str.ensures.bytes) c.push_part_end.ensures
