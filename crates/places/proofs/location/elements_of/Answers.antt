use Rattle.std.proofs.Common.{◌≡◌, ℕ, List, [], ◌∷◌, ◌++◌, map, rules, sym, ap, subst, ◌∙◌}
use Rattle.std.proofs.lemmas.List.{map-append}
use Rattle.edn_reader.specs.Grammar.{ElementModel}
use Rattle.edn_reader.specs.Lent.{piece_of}
use Rattle.edn_reader.specs.Text.{IsFront}
use Rattle.places.specs.declared.location.Location.{Location}
use Rattle.places.specs.Location.{element_spot}
use Rattle.places.proofs.location.elements_of.Goals as goal

pub loop-element-preserved : goal.loop-element-preserved
loop-element-preserved c =
    let text = c.args.text.now in
    let piece = piece_of c.in-Ok-Some.element in
    let same = c.loop-element.invariant.input in
    let old = c.loop-element.elements.items in
    let elements : c.push-in-Ok-Some.new.self.items ≡ old ++ c.in-Ok-Some.element ∷ [] = search rules in
    let pieces : map piece_of c.push-in-Ok-Some.new.self.items ≡ map piece_of old ++ piece ∷ [] = ap (map piece_of) elements ∙ map-append piece_of old (c.in-Ok-Some.element ∷ []) in
    let forward = rw (c.in-Ok-Some.field-0-is, same) at c.in-Ok-Some.ensures.forward in
    let goes = rw (c.in-Ok-Some.field-0-is, same) at c.in-Ok-Some.ensures.element in
    let spot : c.spot_in.result ≡ element_spot text piece = c.spot_in.ensures.spot ∙ ap (λ (t : List ℕ). element_spot t piece) c.loop-element.invariant.cursor in
    let pushed : c.push.new.self.items ≡ c.loop-element.spots.items ++ c.spot_in.result ∷ [] = c.in_ok-push-in-Ok-Some.ensures.items in
    record {
      input = c.next.ensures.input ∙ same;
      cursor = ap (λ t. t.now) c.spot_in.ensures.text ∙ c.loop-element.invariant.cursor;
      within = forward.1;
      so_far = subst (λ (ps : List ElementModel). IsFront text ps c.next.new.self.at) (sym pieces) (goes (map piece_of old) c.loop-element.invariant.so_far);
      spots = pushed ∙ ap (λ (xs : List Location). xs ++ c.spot_in.result ∷ []) c.loop-element.invariant.spots ∙ ap (λ (s : Location). map (element_spot text) (map piece_of old) ++ s ∷ []) spot
          ∙ sym (map-append (element_spot text) (map piece_of old) (piece ∷ [])) ∙ ap (map (element_spot text)) (sym pieces);
      each = search rules;
    }
