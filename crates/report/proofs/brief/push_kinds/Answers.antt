use Rattle.std.proofs.Common.{◌∙◌, ◌∷◌, [], string_bytes, sym}
use Rattle.std.proofs.lemmas.List.{append-nil}
use Rattle.intervals.specs.declared.claim.Kind.TheVariants.{Regular, Atomic}
use Rattle.report.proofs.brief.push_kinds.Goals as goal

pub returns : goal.returns
returns c =
    sym (append-nil (string_bytes c.push_kind-3.new.text)) ∙ c.in_ok-push_kind.ensures [] ∙ c.in_ok-before-2.ensures (Atomic ∷ [])
    ∙ c.in_ok-before.ensures (Regular ∷ Atomic ∷ [])
