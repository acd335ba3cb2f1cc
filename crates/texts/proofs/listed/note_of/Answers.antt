use Rattle.std.proofs.Common.{◌∙◌, ap, List, ℕ}
use Rattle.texts.specs.Codes.{code_among}
use Rattle.texts.proofs.Parts.{code_found}
use Rattle.texts.proofs.listed.note_of.Goals as goal

pub returns : goal.returns
returns c =
    code_found c.notes.result.now c.args.word.now c.find_among.result c.find_among.ensures
    ∙ ap (λ (listed : List (List ℕ)). code_among listed c.args.word.now) c.notes.ensures
