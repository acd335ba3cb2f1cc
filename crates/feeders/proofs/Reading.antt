-- A trace that is in memory as a whole: one element more, and its end.
use Rattle.std.proofs.Common.{◌≡◌, ◌⊎◌, inl, inr, ℕ, List, [], ◌∷◌, ◌++◌, Option, Some, Result, sym, subst}
use Rattle.std.specs.List.{AllZip}
use Rattle.edn_reader.specs.declared.fault.EdnFault.{EdnFault}
use Rattle.edn_reader.specs.declared.fault.EdnFault.TheVariants as edn
use Rattle.edn_reader.specs.Grammar.{ElementModel}
use Rattle.edn_reader.specs.Text.{IsFront}
use Rattle.edn_reader.specs.Fault.{IsMemory, FaultOf, AreElementsBefore}
use Rattle.jepsen_form.specs.declared.gist.RefusedForm.{RefusedForm}
use Rattle.jepsen_form.specs.declared.item.Item.{Item}
use Rattle.jepsen_form.specs.Item.{IsItem}
use Rattle.shards.specs.Plan.{Plan, claims_of}
use Rattle.shards.specs.Pass.{IsPassOf, PassModel}
use Rattle.feeders.specs.declared.outcome.FeederOutcome.{FeederOutcome}
use Rattle.logs.specs.declared.log.Broken.{Broken}
use Rattle.feeders.specs.declared.progress.Progress.{Progress}
use Rattle.logs.specs.Broken.{AreElements, broken_by}
use Rattle.feeders.specs.Setting.{Setting}
use Rattle.logs.specs.Start.{Start}
use Rattle.feeders.specs.Progress.{IsKnownStep, HasDone, IsAt, IsFed, IsPaired}
use Rattle.logs.specs.Steps.{StepResult, steps_of}
use Rattle.feeders.proofs.Naming.{ItemsName, StepsAreOn, known_step}

-- the state is that of the elements up to a place
pub record HasRead (setting : Setting) (trace : List ℕ) (at : ℕ) (progress : Progress) (pass : PassModel) : Type 0 where
  pub pieces : List ElementModel
  pub front : IsFront trace pieces at
  pub items : List (Result Item RefusedForm)
  pub read : AllZip (IsItem setting.tower setting.chosen) pieces items
  pub is_at : IsAt setting.plan setting.start items progress pass

-- two lists that go together, with one more each
pub zip_push : {A B : Type 0} (R : A → B → Type 0) (xs : List A) (ys : List B) (x : A) (y : B) → AllZip R xs ys → R x y → AllZip R (xs ++ x ∷ []) (ys ++ y ∷ [])
zip_push R [] [] x y both is = (is, tt)
zip_push R [] (first ∷ ys) x y both is = absurd both
zip_push R (first ∷ xs) [] x y both is = absurd both
zip_push R (first ∷ xs) (other ∷ ys) x y both is = (both.0, zip_push R xs ys x y both.1 is)

pub begun : (setting : Setting) (trace : List ℕ) (progress : Progress) (pass : PassModel) → IsFront trace [] 0 → IsAt setting.plan setting.start [] progress pass → HasRead setting trace 0 progress pass
begun setting trace progress pass front at = record { pieces = []; front = front; items = []; read = tt; is_at = at }

pub read_on : (setting : Setting) (trace : List ℕ) (at to : ℕ) (old mid new : Progress) (pass after : PassModel) (piece : ElementModel) (item : Result Item RefusedForm) (step : StepResult)
    → HasRead setting trace at old pass
    → ((pieces : List ElementModel) → IsFront trace pieces at → IsFront trace (pieces ++ piece ∷ []) to)
    → IsItem setting.tower setting.chosen piece item
    → ((plan : Plan) (start : Start) (items : List (Result Item RefusedForm)) (pass : PassModel) → IsAt plan start items old pass → IsPaired plan start items item step mid pass)
    → ((start : Start) (items : List (Result Item RefusedForm)) (item : Result Item RefusedForm) → IsPaired setting.plan start items item step mid pass → IsAt setting.plan start (items ++ item ∷ []) new after)
    → HasRead setting trace to new after
read_on setting trace at to old mid new pass after piece item step so_far goes is paired carried = record {
  pieces = so_far.pieces ++ piece ∷ [];
  front = goes so_far.pieces so_far.front;
  items = so_far.items ++ item ∷ [];
  read = zip_push (IsItem setting.tower setting.chosen) so_far.pieces so_far.items piece item so_far.read is;
  is_at = carried setting.start so_far.items item (paired setting.plan setting.start so_far.items pass so_far.is_at);
}

-- the register of an element's step is one of the plan's, and the pass is the plan's
pub read_known : (setting : Setting) (trace : List ℕ) (at : ℕ) (old mid : Progress) (pass : PassModel) (piece : ElementModel) (item : Result Item RefusedForm) (step : StepResult) → ItemsName → StepsAreOn
    → setting.plan.claims ≡ claims_of setting.tower → HasRead setting trace at old pass → IsItem setting.tower setting.chosen piece item
    → ((plan : Plan) (start : Start) (items : List (Result Item RefusedForm)) (pass : PassModel) → IsAt plan start items old pass → IsPaired plan start items item step mid pass)
    → IsPassOf setting.plan pass × IsKnownStep setting.plan step
read_known setting trace at old mid pass piece item step name on claims so_far is paired =
    let one = paired setting.plan setting.start so_far.items pass so_far.is_at in
    (one.done.of_plan, known_step setting.plan setting.tower setting.chosen name on setting.start.feeder so_far.pieces so_far.items piece item step claims so_far.read is one.step_is)

pub ends : (setting : Setting) (trace : List ℕ) (at : ℕ) (progress : Progress) (before : PassModel) (broken : Option Broken) (fed : FeederOutcome)
    → HasRead setting trace at progress before
    → ((pieces : List ElementModel) → IsFront trace pieces at → AreElements trace broken pieces)
    → fed.pass ≡ before → fed.log.lines ≡ progress.log.lines → fed.log.broken ≡ broken
    → IsFed setting trace fed
ends setting trace at progress before broken fed so_far elements pass lines is = record {
  items = so_far.items;
  are = record {
    pieces = so_far.pieces;
    elements = subst (λ (b : Option Broken). AreElements trace b so_far.pieces) (sym is) (elements so_far.pieces so_far.front);
    read = so_far.read;
  };
  done = subst (λ (p : PassModel). HasDone setting.plan setting.start p fed.log.lines.items (steps_of setting.start.feeder so_far.items)) (sym pass)
      (subst (λ l. HasDone setting.plan setting.start before l.items (steps_of setting.start.feeder so_far.items)) (sym lines) so_far.is_at.done);
}

pub no_memory : (fault : EdnFault) (broken : Broken) → broken_by fault ≡ Some broken → ¬ IsMemory fault
no_memory (edn.Memory place) broken is memory = cc
no_memory fault broken is memory = memory

-- a trace that broke at a place broke by the fault of its text
pub broken_at : (trace : List ℕ) (at : ℕ) (fault : EdnFault) (broken : Broken) → broken_by fault ≡ Some broken
    → IsMemory fault ⊎ (FaultOf trace fault × ((pieces : List ElementModel) → IsFront trace pieces at → AreElementsBefore trace pieces))
    → (pieces : List ElementModel) → IsFront trace pieces at → AreElements trace (Some broken) pieces
broken_at trace at fault broken is (inl memory) pieces front = absurd (no_memory fault broken is memory)
broken_at trace at fault broken is (inr met) pieces front = inl (fault, met.0, met.1 pieces front, is)
