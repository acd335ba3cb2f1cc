use Rattle.zones.specs.AtFirst.{start_of}
use Rattle.register_book.proofs.OneWitness.{one_witness}
use Rattle.register_book.proofs.laws.one_witness.Goals as goal

pub returns : goal.returns
returns c = λ claim ops witness other moments h k.
    let as_one = c.one_first_crossing.ensures.start claim ops in
    one_witness claim ops (λ a b c' d e f g i x y. c.one_first_crossing.ensures.one (start_of claim ops) ops a b c' d e f g i moments (as_one a b c' d x) (as_one e f g i y)) witness other h k
