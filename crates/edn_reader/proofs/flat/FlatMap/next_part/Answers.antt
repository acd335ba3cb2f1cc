use Rattle.std.proofs.Common.{◌++◌, [], ◌∷◌, subst, sym, arith}
use Rattle.edn_reader.specs.Flat.{HasRead, piece_at}
use Rattle.edn_reader.specs.Grammar.{ElementModel}
use Rattle.edn_reader.specs.Lent.{piece_of}
use Rattle.edn_reader.proofs.FlatMaps.{gap_white, value_of_word, map_next, read_to}
use Rattle.edn_reader.proofs.flat.FlatMap.next_part.Goals as goal

pub whole-requires-clause-brace : goal.whole-requires-clause-brace
whole-requires-clause-brace c =
    let map = c.args.self.now in
    let brace = c.white_end-key_at.result in (
      omega (arith, c.white_end-key_at.ensures.end),
      c.if-key_at-bytes.true,
      c.if-bytes-key_at-eq125.true,
      λ room. gap_white map.bytes.now map.base room map.at brace c.white_end-key_at.ensures.end,
    )

pub element_between-requires-clause-value : goal.element_between-requires-clause-value
element_between-requires-clause-value c = value_of_word c.args.self.now.bytes.now c.white_end-key_at.result c.in-Some.key_end c.in-Some.ensures

pub returns-clause-part : goal.returns-clause-part
returns-clause-part c pairs read =
    let map = c.args.self.now in
    let end = c.in-Some-value_end.value_end in
    let made = map_next map pairs c.white_end-key_at.result c.in-Some.key_end c.white_end-value_at.result end c.in-Some-value_end.kind read
    c.white_end-key_at.ensures.end c.in-Some.ensures c.white_end-value_at.ensures.end c.in-Some-value_end.ensures in
    subst (λ (value : ElementModel). HasRead (read_to map end) (pairs ++ (piece_of c.element_between.result, value) ∷ [])) (sym c.element_between-2.ensures)
    (subst (λ (key : ElementModel). HasRead (read_to map end) (pairs ++ (key, piece_at map.bytes.now map.base c.in-Some-value_end.kind c.white_end-value_at.result end) ∷ [])) (sym c.element_between.ensures) made)
