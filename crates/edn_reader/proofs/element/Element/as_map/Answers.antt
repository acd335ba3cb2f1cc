use Rattle.std.proofs.Common.{sym, subst}
use Rattle.edn_reader.specs.declared.bytes.Bracket.TheVariants.{Curly}
use Rattle.edn_reader.specs.declared.parts.Parts.{Parts}
use Rattle.edn_reader.specs.declared.token.Opener.TheVariants.{Map}
use Rattle.edn_reader.specs.Pairs.{in_turn}
use Rattle.edn_reader.specs.Lent.{piece_of, PartsLeft}
use Rattle.edn_reader.proofs.Views.{curly, parts_of_inside, no_parts, has_pairs}
use Rattle.edn_reader.proofs.Lent.{lent_is_element, pairs_inside}
use Rattle.edn_reader.proofs.element.Element.as_map.Goals as goal

pub new-requires-clause-whole : goal.new-requires-clause-whole
new-requires-clause-whole c = let element = c.args.self.now in ∣ pairs_inside c.in-Some.parts (piece_of element) c.in-Some.ensures (lent_is_element element) ∣₁

pub returns-in-Some-clause-pairs : goal.returns-in-Some-clause-pairs
returns-in-Some-clause-pairs c =
    let inside = parts_of_inside Curly 123 curly c.in-Some.parts (piece_of c.args.self.now) c.in-Some.ensures in (
      c.in-Some.ensures.0,
      λ pairs. (
        λ h. subst (λ (p : Parts). PartsLeft Map p (in_turn pairs)) (sym c.new.ensures) ((inside (in_turn pairs)).0 h),
        λ h. (inside (in_turn pairs)).1 (subst (λ (p : Parts). PartsLeft Map p (in_turn pairs)) c.new.ensures h),
      ),
    )

pub returns-in-Some-clause-some : goal.returns-in-Some-clause-some
returns-in-Some-clause-some c =
    let element = c.args.self.now in
    let found = has_pairs (piece_of element) (lent_is_element element) c.in-Some.ensures.0 in
    (found.0, found.1, ((returns-in-Some-clause-pairs c).1 found.0).0 found.1)

pub returns-in-None-clause-pairs : goal.returns-in-None-clause-pairs
returns-in-None-clause-pairs c pairs h = no_parts Curly 123 curly (piece_of c.args.self.now) c.in-None.ensures (in_turn pairs) h

pub returns-in-None-clause-some : goal.returns-in-None-clause-some
returns-in-None-clause-some c kind =
    let element = c.args.self.now in
    let found = has_pairs (piece_of element) (lent_is_element element) kind in
    returns-in-None-clause-pairs c found.0 found.1
