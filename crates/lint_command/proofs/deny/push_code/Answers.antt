use Rattle.std.proofs.Common.{◌∙◌, ◌∷◌, [], ap, map, sym}
use Rattle.std.proofs.lemmas.List.{map-append}
use Rattle.lint_command.proofs.deny.push_code.Goals as goal

pub returns-in-Ok-clause-named : goal.returns-in-Ok-clause-named
returns-in-Ok-clause-named c = (
  c.in-Some.note.now.code.now,
  sym c.in-Some.ensures,
  ap (map (λ code. code.now)) c.in-Ok.ensures.items ∙ map-append (λ code. code.now) c.args.denied.now.items (c.in-Some.note.now.code ∷ []),
)
