use Rattle.std.proofs.Common.{List, ℕ, ◌-◌, ap, sym, subst, ◌∙◌}
use Rattle.edn_reader.specs.Grammar.{IsElement}
use Rattle.edn_reader.specs.Lent.{piece_of}
use Rattle.edn_reader.proofs.Stretches.{from_index}
use Rattle.edn_reader.proofs.Lent.{untagged_whole}
use Rattle.edn_reader.proofs.element.Element.untagged.Goals as goal

pub new-requires-clause-whole : goal.new-requires-clause-whole
new-requires-clause-whole c =
    let self = c.args.self.now in
    subst (λ (bytes : List ℕ). ∥ IsElement (record { kind = self.core.kind; start = self.core.start; text = bytes; core = self.core }) ∥₁)
    (sym (from_index self.text.now (self.core.start - self.start))) (untagged_whole (piece_of self) self.whole)

pub returns : goal.returns
returns c =
    let self = c.args.self.now in
    c.new.ensures
    ∙ ap (λ (bytes : List ℕ). record { kind = self.core.kind; start = self.core.start; text = bytes; core = self.core }) (from_index self.text.now (self.core.start - self.start))
