-- What the program finds under `:value` is what the field says there, in one way only.
use Rattle.std.proofs.Common.{◌≡◌, ◌↔◌, List, [], ◌∷◌, Option, Some, None, refl, ap, ◌∙◌}
use Rattle.edn_reader.specs.declared.element.Element.{Element}
use Rattle.edn_reader.specs.declared.element.ElementKind.TheVariants as kinds
use Rattle.edn_reader.specs.declared.view.VectorView.{VectorView}
use Rattle.edn_reader.specs.Grammar.{ElementModel}
use Rattle.edn_reader.specs.Pairs.{HasMembers}
use Rattle.edn_reader.specs.Lent.{piece_of, MembersLeft, NextMember}
use Rattle.edn_reader.specs.Given.{One}
use Rattle.jepsen_form.specs.Fields.{UnderValue, AValue, IsUnderValue, plain, vector, two_of, by_two}

-- a view gives this element first, whatever members it has left
abbrev Next : VectorView → Element → VectorView → Type 0
Next view element after = (members : List ElementModel) → MembersLeft view members → NextMember (Some element) after members

abbrev Ended : VectorView → VectorView → Type 0
Ended view after = (members : List ElementModel) → MembersLeft view members → NextMember None after members

pub no_first : (view after : VectorView) → Ended view after → (members : List ElementModel) → MembersLeft view members → None ≡ two_of members
no_first view after ended members left = let nothing : members ≡ [] = ended members left in rw nothing refl

pub no_second : (view one after : VectorView) (first : Element) → Next view first one → Ended one after → (members : List ElementModel) → MembersLeft view members → None ≡ two_of members
no_second view one after first next ended members left = by_members members (next members left)
  where
    by_members : (members : List ElementModel) → NextMember (Some first) one members → None ≡ two_of members
    by_members [] given = absurd given
    by_members (piece ∷ pieces) given = let nothing : pieces ≡ [] = ended pieces given.1 in rw nothing refl

pub a_third : (view one two after : VectorView) (first second third : Element) → Next view first one → Next one second two → Next two third after → (members : List ElementModel) → MembersLeft view members → None ≡ two_of members
a_third view one two after first second third next_first next_second next_third members left = by_members members (next_first members left)
  where
    by_members : (members : List ElementModel) → NextMember (Some first) one members → None ≡ two_of members
    by_members [] given = refl
    by_members (piece ∷ []) given = refl
    by_members (piece ∷ other ∷ []) given = absurd (next_third [] (next_second (other ∷ []) given.1).1)
    by_members (piece ∷ other ∷ more ∷ pieces) given = refl

pub both : (view one two after : VectorView) (first second : Element) → Next view first one → Next one second two → Ended two after → (members : List ElementModel) → MembersLeft view members → Some (piece_of first, piece_of second) ≡ two_of members
both view one two after first second next_first next_second ended members left = by_members members (next_first members left)
  where
    by_members : (members : List ElementModel) → NextMember (Some first) one members → Some (piece_of first, piece_of second) ≡ two_of members
    by_members [] given = absurd given
    by_members (piece ∷ []) given = absurd (next_second [] given.1)
    by_members (piece ∷ other ∷ pieces) given =
        let second_is = next_second (other ∷ pieces) given.1 in
        let nothing : pieces ≡ [] = ended pieces second_is.1 in
        rw (given.0, second_is.0, nothing) refl

pub no_vector : (piece : ElementModel) → ((members : List ElementModel) → HasMembers piece members → ⊥) → (said : UnderValue) → IsUnderValue (One piece) said → AValue piece ≡ said
no_vector piece none said (plain other) = refl
no_vector piece none said (vector members has is) = absurd (none members has)

pub of_vector : (piece : ElementModel) (view : VectorView) (two : Option (ElementModel × ElementModel)) → piece.core.kind ≡ kinds.Vector → ((members : List ElementModel) → HasMembers piece members ↔ MembersLeft view members)
    → ((members : List ElementModel) → MembersLeft view members → two ≡ two_of members) → (said : UnderValue) → IsUnderValue (One piece) said → by_two piece two ≡ said
of_vector piece view two kind same found said (plain other) = absurd (other kind)
of_vector piece view two kind same found said (vector members has is) = ap (by_two piece) (found members ((same members).0 has)) ∙ is
