use Rattle.std.proofs.Common.{sym, subst, ◌∙◌}
use Rattle.edn_reader.specs.Grammar.{ElementModel}
use Rattle.edn_reader.specs.Given.{Given}
use Rattle.tower_file.specs.Form.{IsGiven, IsSequence, AreVectorElements}
use Rattle.tower_file.proofs.said.look_up.Goals as goal

pub returns : goal.returns
returns c pairs form h k =
    let name = c.field.ensures.values pairs h in
    let kind = c.field-2.ensures.values pairs h in
    let writers = c.field-3.ensures.values pairs h in
    let initial = c.field-4.ensures.values pairs h in
    let domain = c.field-5.ensures.values pairs h in
    let parts = c.field-6.ensures.values pairs h in
    let fixed = c.field-7.ensures.values pairs h in
    record {
      name = k.name ∙ sym name;
      kind = k.kind ∙ sym kind;
      writers = subst (λ (given : Given ElementModel). IsGiven IsSequence given form.writers) (sym writers) k.writers;
      initial = k.initial ∙ sym initial;
      domain = subst (λ (given : Given ElementModel). IsGiven AreVectorElements given form.domain) (sym domain) k.domain;
      parts = subst (λ (given : Given ElementModel). IsGiven AreVectorElements given form.parts) (sym parts) k.parts;
      fixed = k.fixed ∙ sym fixed;
    }
