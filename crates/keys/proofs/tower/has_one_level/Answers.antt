use Rattle.std.proofs.Common.{◌≡◌, ◌∙◌, List, ℕ, Option, Some, ap, sym}
use Rattle.std.specs.Prelude.{codes, option_map}
use Rattle.std.specs.Borrow.{Bor}
use Rattle.std.specs.List.{slice_get}
use Rattle.std.proofs.lemmas.Slice.Eq.{bytes_eq-Decides}
use Rattle.keys.proofs.Alike.{one_alone}
use Rattle.keys.proofs.tower.has_one_level.Goals as goal

pub returns-in-Some-None : goal.returns-in-Some-None
returns-in-Some-None c =
    let bytes : Option (Bor (List ℕ)) → Option (List ℕ) = option_map (λ name. name.now) in
    let name = c.in-Some-None.name.now in
    let first : slice_get c.args.tower.now.levels 0 ≡ Some name = sym c.level_name.ensures ∙ ap bytes c.in-Some-None.is-0 in (
      λ same.
          one_alone c.args.tower.now.levels _ (first ∙ ap Some ((bytes_eq-Decides name c.as_slice.result.now).0 (sym c.eq.ensures ∙ same) ∙ c.as_slice.ensures)) (sym c.level_name-2.ensures ∙ ap bytes c.in-Some-None.is-1),
      λ are.
          let is : Some name ≡ Some (codes "keys") = sym first ∙ ap (λ (levels : List (List ℕ)). slice_get levels 0) are in
          let name_is : name ≡ codes "keys" = cc in
          c.eq.ensures ∙ (bytes_eq-Decides name c.as_slice.result.now).1 (name_is ∙ sym c.as_slice.ensures),
    )
