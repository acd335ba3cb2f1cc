use Rattle.std.proofs.Common.{refl, rules, Some, length, ◌≡◌, ◌∙◌, ◌++◌, ◌∷◌, [], ℕ, List, Vec, ap, append-nil, map, subst, sym}
use Rattle.std.proofs.lemmas.List.{append_assoc, length-map, map-append}
use Rattle.std.specs.declared.alloc.Global.{Global}
use Rattle.std.specs.List.{slice_get}
use Rattle.std.specs.Vec.Iter.{into_iter_items}
use Rattle.logs.specs.declared.log.Log.{Log}
use Rattle.command_parts.specs.Kept.{IsTextOf}
use Rattle.places.specs.declared.copying.Kept.{Kept}
use Rattle.command_parts.proofs.KeptTexts.{AreTextsOf, are_kept, one_more}
use Rattle.command_parts.proofs.kept.texts_of.Goals as goal

pub loop-one-preserved : goal.loop-one-preserved
loop-one-preserved c =
    let so = c.loop-one.invariant in
    let text_items : Vec ℕ Global → List ℕ = λ text. text.items in
    let one = c.in-Some.one in
    let text = c.in_ok-text_of.field-0 in
    let len : c.len.result ≡ length c.loop-one.texts.items = search rules in
    let many : c.len.result ≡ length (map text_items c.loop-one.texts.items) = len ∙ sym (length-map c.loop-one.texts.items text_items) in
    let more = one_more c.args.logs.now so.0 (map text_items c.loop-one.texts.items) one text.items so.2 (subst (λ (n : ℕ). (log : Log) → slice_get c.args.logs.now n ≡ Some log → IsTextOf log one text.items) many c.in_ok-text_of.ensures) in (
      so.0 ++ one ∷ [],
      so.1 ∙ ap (λ (rest : List Kept). so.0 ++ rest) c.in-Some.ensures.steps.0 ∙ sym (append_assoc so.0 (one ∷ []) _),
      subst (λ (texts : List (List ℕ)). AreTextsOf c.args.logs.now (so.0 ++ one ∷ []) texts) (sym (ap (map text_items) c.in_ok-push.ensures.items ∙ map-append text_items c.loop-one.texts.items (text ∷ []))) more,
    )

nothing : {X : Type 0} (xs : List X) → length xs ≡ 0 → xs ≡ []
nothing [] none = refl
nothing (x ∷ xs) none = absurd (cc)

pub returns : goal.returns
returns c lefts many copies =
    let so = c.loop-one.invariant in
    let zero : length (into_iter_items c.loop-one.one-iterator) ≡ 0 = search rules in
    let none : into_iter_items c.loop-one.one-iterator ≡ [] = nothing (into_iter_items c.loop-one.one-iterator) zero in
    let all : c.args.kept.items ≡ so.0 = so.1 ∙ ap (λ (rest : List Kept). so.0 ++ rest) none ∙ append-nil so.0 in
    are_kept lefts c.args.logs.now c.args.kept.items _ (subst (λ (kept : List Kept). AreTextsOf c.args.logs.now kept (map (λ (text : Vec ℕ Global). text.items) c.loop-one.texts.items)) (sym all) so.2) many copies
