use Rattle.places.proofs.Copied.{nothing_kept}
use Rattle.places.proofs.copying.Copy.new.Goals as goal

pub invariant_of-result : goal.invariant_of-result
invariant_of-result g c = nothing_kept g.B.Originals.texts c.args.number c.new.result.items c.new.ensures.items
