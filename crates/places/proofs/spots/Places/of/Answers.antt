use Rattle.std.proofs.Common.{◌≡◌, ◌∙◌, ◌+◌, ◌++◌, [], ◌∷◌, ℕ, List, Vec, get_or, map, take, ap, sym, subst}
use Rattle.std.proofs.lemmas.List.{map-append}
use Rattle.std.specs.List.{AllZip}
use Rattle.std.specs.declared.alloc.Global.{Global}
use Rattle.places.specs.declared.location.Location.{Location}
use Rattle.places.specs.Spots.{AreSpotsOf}
use Rattle.places.proofs.Zipped.{zip_next}
use Rattle.places.proofs.spots.Places.of.Goals as goal

pub loop-text-preserved : goal.loop-text-preserved
loop-text-preserved c =
    let texts = c.args.texts.now in
    let i = c.loop-text.text-index in
    let text = c.text-item.result in
    let one = c.in_ok-spots_of.field-0 in
    let before = c.loop-text.spots.items in
    let items : List (Vec Location Global) → List (List Location) = map (λ (spots : Vec Location Global). spots.items) in
    let here : AreSpotsOf text.items one.items = subst (λ (bytes : List ℕ). AreSpotsOf bytes one.items) c.deref.ensures.value c.in_ok-spots_of.ensures in
    let at : AreSpotsOf (get_or texts i text).items one.items = subst (λ (t : Vec ℕ Global). AreSpotsOf t.items one.items) c.text-item.is here in
    let more : items c.push.new.self.items ≡ items before ++ one.items ∷ [] = ap items c.in_ok-push.ensures.items ∙ map-append (λ (spots : Vec Location Global). spots.items) before (one ∷ []) in
    subst (λ (found : List (List Location)). AllZip AreSpotsOf (map (λ (t : Vec ℕ Global). t.items) (take (i + 1) texts)) found) (sym more)
    (zip_next AreSpotsOf (λ (t : Vec ℕ Global). t.items) texts (items before) i text one.items c.loop-text-test.true c.loop-text.invariant at)
