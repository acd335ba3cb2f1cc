use Rattle.std.proofs.Common.{◌+◌, subst, sym, ◌∙◌, arith}
use Rattle.edn_reader.specs.Grammar.{ElementModel, IsElement}
use Rattle.edn_reader.specs.Flat.{BeginsWithElement}
use Rattle.edn_reader.specs.Pairs.{HasPairs}
use Rattle.edn_reader.proofs.FlatMaps.{made_piece, map_is_element, map_is_first, map_has_pairs}
use Rattle.edn_reader.proofs.flat.FlatMap.whole.Goals as goal

pub new-requires-clause-whole : goal.new-requires-clause-whole
new-requires-clause-whole c =
    let map = c.args.self.now in
    let brace = c.args.brace in
    let read = c.requires.read in
    ∣ subst IsElement (sym (made_piece map brace (brace + 1) c.kind_with.result c.kind_with.ensures (omega arith))) (map_is_element map read.0 brace read.1 c.requires.brace) ∣₁

pub returns : goal.returns
returns c pairs read =
    let map = c.args.self.now in
    let brace = c.args.brace in
    subst (λ (piece : ElementModel). BeginsWithElement map.bytes.now map.base piece × HasPairs piece pairs)
    (sym (c.new.ensures ∙ made_piece map brace (brace + 1) c.kind_with.result c.kind_with.ensures (omega arith)))
    (map_is_first map pairs brace read c.requires.brace, map_has_pairs map pairs brace read c.requires.brace)
