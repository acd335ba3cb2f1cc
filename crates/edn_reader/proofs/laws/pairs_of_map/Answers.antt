use Rattle.std.proofs.Common.{◌≡◌, ℕ, Bool, true, false, List, [], ◌∷◌, refl}
use Rattle.std.specs.List.{AllByRecursion}
use Rattle.edn_reader.specs.Grammar.{ElementModel, IsElement}
use Rattle.edn_reader.specs.Pairs.{is_word, values_of}
use Rattle.edn_reader.proofs.Views as views
use Rattle.edn_reader.proofs.laws.pairs_of_map.Goals as goal

value_by : (key : List ℕ) (pair : ElementModel × ElementModel) (pairs : List (ElementModel × ElementModel)) (t : Bool) → is_word key pair.0 ≡ t → IsElement pair.1 → AllByRecursion IsElement (values_of key pairs)
    → AllByRecursion IsElement (values_of key (pair ∷ pairs))
value_by key pair pairs true e element values = rw e (element, values)
value_by key pair pairs false e element values = rw e values

values_are : (key : List ℕ) (pairs : List (ElementModel × ElementModel)) → AllByRecursion (λ pair. IsElement pair.0 × IsElement pair.1) pairs → AllByRecursion IsElement (values_of key pairs)
values_are key [] elements = tt
values_are key (pair ∷ pairs) elements = value_by key pair pairs (is_word key pair.0) refl elements.0.1 (values_are key pairs elements.1)

pub returns : goal.returns
returns c = record {
  some = views.has_pairs;
  one = views.one_list_of_pairs;
  elements = λ piece pairs h. views.pairs_are_elements pairs h.inside;
  values = values_are;
}
