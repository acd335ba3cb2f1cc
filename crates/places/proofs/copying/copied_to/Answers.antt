use Rattle.std.proofs.Common.{rules, ◌≡◌, List, ◌++◌, ap, ◌∙◌, length, map}
use Rattle.std.specs.Vec.Iter.{into_iter_items}
use Rattle.places.proofs.Copied.{gives_all}
use Rattle.places.proofs.copying.copied_to.Goals as goal

pub invariant_of-push : goal.invariant_of-push
invariant_of-push g c =
    let number : c.loop-reader.number ≡ length c.loop-reader.wrapped.items = search rules in
    gives_all g.B.Originals.texts c.loop-reader.wrapped.items (map g.S.Read.remaining (into_iter_items c.next.new.self)) (g.S.Read.remaining c.in-Some.reader) c.loop-reader.number
    (c.requires.texts ∙ c.loop-reader.invariant.readers ∙ ap (λ (left : List g.row.S.Denot). c.loop-reader.wrapped.items ++ map g.S.Read.remaining left) c.in-Some.ensures.steps.0) number
