-- A feeder with one more element: paired, and then carried out.
use Rattle.std.proofs.Common.{◌≡◌, ◌≢◌, ℕ, ◌+◌, List, [], ◌∷◌, ◌++◌, length, Option, Result, Ok, Err, refl, sym, ap, subst, ◌∙◌, arith}
use Rattle.std.proofs.lemmas.List.{length_push}
use Rattle.jepsen_form.specs.declared.gist.Gist.{Gist}
use Rattle.jepsen_form.specs.declared.gist.RefusedForm.{RefusedForm}
use Rattle.jepsen_form.specs.declared.item.Item.{Item}
use Rattle.pairing.specs.declared.about.About.{About}
use Rattle.pairing.specs.declared.fault.PairFault.{PairFault}
use Rattle.pairing.specs.declared.fault.PairFault.TheVariants as pairs
use Rattle.pairing.specs.declared.step.Step.{Step}
use Rattle.pairing.specs.About.{about_gist, gist_of_item}
use Rattle.pairing.specs.Accepted.{Placed, accepted}
use Rattle.pairing.specs.Step.{step_of}
use Rattle.pairing.specs.Known.{PairingModel, KnowsItems}
use Rattle.shards.specs.Plan.{Plan}
use Rattle.shards.specs.Pass.{PassModel}
use Rattle.logs.specs.declared.log.Code.TheVariants.{Form}
use Rattle.logs.specs.declared.log.Log.{Log}
use Rattle.feeders.specs.declared.progress.Progress.{Progress}
use Rattle.logs.specs.Steps.{StepResult, about_after, by_pairing, placed, step_after, steps_of}
use Rattle.feeders.specs.Progress.{GoesOn, HasDone, IsAt, IsPaired}
use Rattle.feeders.specs.Setting.{IsAtStart}
use Rattle.logs.specs.Start.{Start}
use Rattle.feeders.proofs.Doing.{nothing_done}
use Rattle.feeders.proofs.Items.{not_placed, one_step_each, placed_on, steps_on}

-- before the first element
pub at_first : (plan : Plan) (start : Start) (pass : PassModel) (progress : Progress) → IsAtStart plan start pass → progress.place ≡ 0 → progress.pairing.feeder ≡ start.feeder
    → KnowsItems progress.pairing [] → progress.log.lines.items ≡ [] → IsAt plan start [] progress pass
at_first plan start pass progress is place of present empty = record {
  place = place;
  feeder_is = of;
  pairing = present;
  done = nothing_done plan start pass progress.log.lines.items is empty;
}

-- the place after one item more
further : (place : ℕ) (items : List (Result Item RefusedForm)) (item : Result Item RefusedForm) → place ≡ length items → place + 1 ≡ length (items ++ item ∷ [])
further place items item is = omega (arith, is, length_push items item)

-- the steps that were done, with that of one element more
done_on : (plan : Plan) (start : Start) (items : List (Result Item RefusedForm)) (item : Result Item RefusedForm) (old new : PassModel) (log more : Log) (place : ℕ) (step : StepResult)
    → place ≡ length items → step ≡ step_after start.feeder items item → GoesOn plan old log new more place step
    → HasDone plan start old log.lines.items (steps_of start.feeder items) → HasDone plan start new more.lines.items (steps_of start.feeder (items ++ item ∷ []))
done_on plan start items item old new log more place step at is goes done =
    subst (HasDone plan start new more.lines.items) (sym (steps_on start.feeder items item))
    (subst (λ (s : StepResult). HasDone plan start new more.lines.items (steps_of start.feeder items ++ s ∷ [])) is
    (goes start (steps_of start.feeder items) (at ∙ sym (one_step_each start.feeder items)) done))

-- the pairing knows what an element is about of which this can be read
abbrev pub KnowsAbout : PairingModel → Gist → About → Type 0
KnowsAbout pairing gist about = (items : List Placed) → KnowsItems pairing items → about ≡ about_gist pairing.feeder (accepted items) gist

-- an element that is refused by its form is paired with that refusal
pub unformed : (plan : Plan) (progress : Progress) (refused : RefusedForm) (about : About) → KnowsAbout progress.pairing refused.gist about
    → (start : Start) (items : List (Result Item RefusedForm)) (pass : PassModel)
    → IsAt plan start items progress pass → IsPaired plan start items (Err refused) (Err (record { code = Form refused.fault; about = about })) progress pass
unformed plan progress refused about knows start items pass at = record {
  place = at.place;
  feeder_is = at.feeder_is;
  pairing = subst (KnowsItems progress.pairing) (sym (not_placed items refused)) at.pairing;
  step_is = ap (λ (about : About). Err (record { code = Form refused.fault; about = about }))
      (knows (placed items) at.pairing ∙ ap (λ (f : ℕ). about_gist f (accepted (placed items)) refused.gist) at.feeder_is);
  done = at.done;
}

-- what the pairing answered to an item is the same, whatever the item is about where it was accepted
same_answer : (about due : About) (answer : Result (Option Step) PairFault) → ((fault : PairFault) → answer ≡ Err fault → about ≡ due) → by_pairing about answer ≡ by_pairing due answer
same_answer about due (Ok step) same = refl
same_answer about due (Err fault) same = ap (λ (about : About). by_pairing about (Err fault)) (same fault refl)

-- a law of pairing: an item that is refused changes nothing of which items are accepted
abbrev pub LeavesAccepted : Type 0
LeavesAccepted = (feeder place : ℕ) (items : List Placed) (item : Item) (fault : PairFault) → step_of feeder (accepted items) place item ≡ Err fault
    → accepted (items ++ record { place = place; item = item } ∷ []) ≡ accepted items

-- the answer to an item is this step, where the pairing knows the items so far
abbrev pub KnowsAnswer : PairingModel → Item → Result (Option Step) PairFault → StepResult → Type 0
KnowsAnswer pairing item answer step = (items : List Placed) → KnowsItems pairing items → step ≡ by_pairing (about_gist pairing.feeder (accepted items) (gist_of_item item)) answer

-- an item is paired with the step that the pairing gives, or with its refusal
pub paired : (plan : Plan) (old : Progress) (pairing : PairingModel) (item : Item) (answer : Result (Option Step) PairFault) (step : StepResult) → LeavesAccepted
    → answer ≢ Err pairs.Memory
    → (answer ≢ Err pairs.Memory → (items : List Placed) → KnowsItems old.pairing items → answer ≡ step_of old.pairing.feeder (accepted items) old.place item)
    → (answer ≢ Err pairs.Memory → (items : List Placed) → KnowsItems old.pairing items → KnowsItems pairing (items ++ record { place = old.place; item = item } ∷ []))
    → pairing.feeder ≡ old.pairing.feeder → KnowsAnswer pairing item answer step
    → (start : Start) (items : List (Result Item RefusedForm)) (pass : PassModel) → IsAt plan start items old pass → IsPaired plan start items (Ok item) step (record old { pairing = pairing }) pass
paired plan old pairing item answer step leaves other gives present same knows start items pass at =
    let gist = gist_of_item item in
    let more : List Placed = placed items ++ record { place = old.place; item = item } ∷ [] in
    let due : About = about_after start.feeder items gist in
    let known = present other (placed items) at.pairing in
    let is : answer ≡ step_of start.feeder (accepted (placed items)) (length items) item =
    gives other (placed items) at.pairing
    ∙ ap (λ (f : ℕ). step_of f (accepted (placed items)) old.place item) at.feeder_is
    ∙ ap (λ (n : ℕ). step_of start.feeder (accepted (placed items)) n item) at.place in
    let about_is : (fault : PairFault) → answer ≡ Err fault → about_gist pairing.feeder (accepted more) gist ≡ due =
    λ fault refused. ap (λ (xs : List Placed). about_gist pairing.feeder xs gist)
    (leaves old.pairing.feeder old.place (placed items) item fault (sym (gives other (placed items) at.pairing) ∙ refused))
    ∙ ap (λ (f : ℕ). about_gist f (accepted (placed items)) gist) (same ∙ at.feeder_is) in
    record {
      place = at.place;
      feeder_is = same ∙ at.feeder_is;
      pairing = subst (KnowsItems pairing) (sym (placed_on items item))
          (subst (λ (n : ℕ). KnowsItems pairing (placed items ++ record { place = n; item = item } ∷ [])) at.place known);
      step_is = knows more known ∙ same_answer (about_gist pairing.feeder (accepted more) gist) due answer about_is ∙ ap (by_pairing due) is;
      done = at.done;
    }

-- its step is carried out
pub carried : (plan : Plan) (old : Progress) (pass new : PassModel) (log : Log) (step : StepResult) → GoesOn plan pass old.log new log old.place step
    → (start : Start) (items : List (Result Item RefusedForm)) (item : Result Item RefusedForm) → IsPaired plan start items item step old pass
    → IsAt plan start (items ++ item ∷ []) (record old { place = old.place + 1; log = log }) new
carried plan old pass new log step goes start items item paired = record {
  place = further old.place items item paired.place;
  feeder_is = paired.feeder_is;
  pairing = paired.pairing;
  done = done_on plan start items item pass new old.log log old.place step paired.place paired.step_is goes paired.done;
}
