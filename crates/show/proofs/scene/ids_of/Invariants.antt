-- the ids so far and those of the letters left are all
use Rattle.std.proofs.Common.{◌≡◌, ◌++◌, drop, map}
use Rattle.show.specs.declared.letter.Lettered.{Lettered}
use Rattle.show.proofs.scene.ids_of.Given as goal

abbrev pub invariant-loop-lettered : goal.invariant-loop-lettered
invariant-loop-lettered l = l.ids.items ++ map (λ (lettered : Lettered). lettered.id) (drop l.lettered-index l.letters) ≡ map (λ (lettered : Lettered). lettered.id) l.letters
