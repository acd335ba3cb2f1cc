use Rattle.std.proofs.Common.{sym, subst}
use Rattle.edn_reader.specs.declared.bytes.Bracket.TheVariants.{Square}
use Rattle.edn_reader.specs.declared.parts.Parts.{Parts}
use Rattle.edn_reader.specs.declared.token.Opener.TheVariants.{Vector}
use Rattle.edn_reader.specs.Lent.{piece_of, PartsLeft}
use Rattle.edn_reader.proofs.Views.{square, parts_of_inside, no_parts, has_parts}
use Rattle.edn_reader.proofs.Lent.{lent_is_element, members_inside}
use Rattle.edn_reader.proofs.element.Element.as_vector.Goals as goal

pub new-requires-clause-whole : goal.new-requires-clause-whole
new-requires-clause-whole c = let element = c.args.self.now in ∣ members_inside c.in-Some.parts (piece_of element) c.in-Some.ensures (lent_is_element element) ∣₁

pub returns-in-Some-clause-members : goal.returns-in-Some-clause-members
returns-in-Some-clause-members c =
    let inside = parts_of_inside Square 91 square c.in-Some.parts (piece_of c.args.self.now) c.in-Some.ensures in (
      c.in-Some.ensures.0,
      λ members. (
        λ h. subst (λ (p : Parts). PartsLeft Vector p members) (sym c.new.ensures) ((inside members).0 h),
        λ h. (inside members).1 (subst (λ (p : Parts). PartsLeft Vector p members) c.new.ensures h),
      ),
    )

pub returns-in-Some-clause-some : goal.returns-in-Some-clause-some
returns-in-Some-clause-some c =
    let element = c.args.self.now in
    let found = has_parts Square (piece_of element) (lent_is_element element) c.in-Some.ensures.0 in
    (found.0, found.1, ((returns-in-Some-clause-members c).1 found.0).0 found.1)

pub returns-in-None-clause-members : goal.returns-in-None-clause-members
returns-in-None-clause-members c members h = no_parts Square 91 square (piece_of c.args.self.now) c.in-None.ensures members h

pub returns-in-None-clause-some : goal.returns-in-None-clause-some
returns-in-None-clause-some c kind =
    let element = c.args.self.now in
    let found = has_parts Square (piece_of element) (lent_is_element element) kind in
    returns-in-None-clause-members c found.0 found.1
