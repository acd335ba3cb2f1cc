use Rattle.std.proofs.Common.{◌∙◌, ◌++◌, ◌∷◌, [], ◌<◌, ◌≤◌, ℕ, List, Option, length, subst, sym}
use Rattle.std.specs.Prelude.{IfSome}
use Rattle.edn_reader.specs.declared.element.Element.{Element}
use Rattle.edn_reader.specs.Grammar.{ElementModel}
use Rattle.edn_reader.specs.Lent.{piece_of}
use Rattle.edn_reader.specs.Text.{IsFront}
use Rattle.keys.proofs.Adding.{AddedUpTo, one_added}
use Rattle.keys.specs.Named.{NamesModel}
use Rattle.keys.proofs.names.TraceNames.add_trace.Goals as goal

pub loop-element-preserved : goal.loop-element-preserved
loop-element-preserved c =
    let text = c.args.text.now in
    let at = c.loop-element.reader.at in
    let next = c.next.new.self.at in
    let piece = piece_of c.in-Ok-Some.element in
    let so_far = c.loop-element.invariant in
    let input = c.loop-element.reader.input in
    let Goes : Element → Type 0 = λ element. (pieces : List ElementModel) → IsFront input pieces at → IsFront input (pieces ++ piece_of element ∷ []) next in
    let Forward : Element → Type 0 = λ element. (at < next) × (next ≤ length input) in
    let found = subst (λ (found : Option Element). IfSome found Goes) c.in-Ok-Some.field-0-is c.in-Ok-Some.ensures.element in
    let forward = subst (λ (found : Option Element). IfSome found Forward) c.in-Ok-Some.field-0-is c.in-Ok-Some.ensures.forward in
    let goes = subst (λ (input : List ℕ). (pieces : List ElementModel) → IsFront input pieces at → IsFront input (pieces ++ piece ∷ []) next) so_far.input found in
    let said = c.in_ok-add_element-in-Ok-Some.ensures in
    let added = one_added c.args.self.now text at next c.loop-element.self piece said.0 so_far.added goes said.1 in
    record {
      input = c.next.ensures.input ∙ so_far.input;
      within = subst (λ (input : List ℕ). next ≤ length input) so_far.input forward.1;
      added = subst (λ (named : NamesModel). AddedUpTo c.args.self.now text next named) (sym said.2) added;
    }
