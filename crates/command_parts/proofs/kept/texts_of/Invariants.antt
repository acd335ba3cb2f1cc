-- the texts of the copies so far, and the copies that are left
use Rattle.std.proofs.Common.{◌≡◌, ◌++◌, ℕ, List, Vec, map}
use Rattle.std.specs.Vec.Iter.{into_iter_items}
use Rattle.std.specs.declared.alloc.Global.{Global}
use Rattle.places.specs.declared.copying.Kept.{Kept}
use Rattle.command_parts.proofs.KeptTexts.{AreTextsOf}
use Rattle.command_parts.proofs.kept.texts_of.Given as goal

abbrev pub invariant-loop-one : goal.invariant-loop-one
invariant-loop-one l =
    (front : List Kept) × (l.fn.kept.items ≡ front ++ into_iter_items l.one-iterator) × AreTextsOf l.logs front (map (λ (text : Vec ℕ Global). text.items) l.texts.items)
