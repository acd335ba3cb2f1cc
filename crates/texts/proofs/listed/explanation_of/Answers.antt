use Rattle.std.proofs.Common.{◌∙◌, ap, Option, List, ℕ}
use Rattle.std.specs.Option.{option_or}
use Rattle.texts.specs.Codes.{code_by_name, named_codes}
use Rattle.texts.proofs.listed.explanation_of.Goals as goal

pub returns-in-Some : goal.returns-in-Some
returns-in-Some c = ap (λ (found : Option (List ℕ)). option_or found (code_by_name named_codes c.args.word.now)) c.in-Some.ensures

pub returns-in-None : goal.returns-in-None
returns-in-None c = c.entry_named.ensures ∙ ap (λ (found : Option (List ℕ)). option_or found (code_by_name named_codes c.args.word.now)) c.in-None.ensures
