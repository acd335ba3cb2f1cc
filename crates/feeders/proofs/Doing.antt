-- One doing more: the pass and the log have its entry and its line, and its step is done.
use Rattle.std.proofs.Common.{◌≡◌, ℕ, ◌+◌, ◌<◌, List, [], ◌∷◌, ◌++◌, length, Option, Some, None, refl, sym, ap, subst, ◌∙◌, arith, append-nil, append_assoc}
use Rattle.std.specs.Prelude.{option_to_list}
use Rattle.std.proofs.lemmas.List.{map-append, length-map, length-replicate}
use Rattle.std.proofs.lemmas.List.Elements.{filter_map-append}
use Rattle.shards.specs.declared.entry.NumberedEntry.{NumberedEntry}
use Rattle.shards.specs.Journal.{EachAfter}
use Rattle.shards.specs.Plan.{Plan}
use Rattle.shards.specs.Pass.{IsPassOf, IsSightOf, PassModel, new_pass, own_entries}
use Rattle.logs.specs.declared.log.Line.{Line}
use Rattle.logs.specs.Steps.{StepResult}
use Rattle.logs.specs.Doings.{Doing, IsAnsweredAfter, entered_in, entry_in, lines_at, lines_from, own_after, taken_of, what_of}
use Rattle.feeders.specs.Setting.{IsAtStart}
use Rattle.logs.specs.Start.{Start, first_start}
use Rattle.feeders.specs.Progress.{HasDone}

each_after_push : {X : Type 0} (R : List X → X → Type 0) (before xs : List X) (x : X) → EachAfter R before xs → R (before ++ xs) x → EachAfter R before (xs ++ x ∷ [])
each_after_push {X = X} R before [] x each is = (subst (λ (front : List X). R front x) (append-nil before) is, tt)
each_after_push {X = X} R before (y ∷ ys) x each is = (each.0, each_after_push R (before ++ y ∷ []) ys x each.1 (subst (λ (front : List X). R front x) (sym (append_assoc before (y ∷ []) ys)) is))

-- the log lines of one doing more come last
lines_on : (place : ℕ) (doings : List Doing) (doing : Doing) → lines_from place (doings ++ doing ∷ []) ≡ lines_from place doings ++ lines_at (place + length doings) (what_of doing)
lines_on place [] doing = append-nil (lines_at place (what_of doing)) ∙ ap (λ (n : ℕ). lines_at n (what_of doing)) (omega arith)
lines_on place (first ∷ doings) doing =
    ap (λ (rest : List Line). lines_at place (what_of first) ++ rest) (lines_on (place + 1) doings doing)
    ∙ sym (append_assoc (lines_at place (what_of first)) (lines_from (place + 1) doings) (lines_at (place + 1 + length doings) (what_of doing)))
    ∙ ap (λ (n : ℕ). (lines_at place (what_of first) ++ lines_from (place + 1) doings) ++ lines_at n (what_of doing)) (omega arith)

listed : (shards feeder at : ℕ) (doing : Doing) (found : Option NumberedEntry) → entry_in shards feeder at doing ≡ found → entered_in shards feeder at (doing ∷ []) ≡ option_to_list (entry_in shards feeder at doing)
listed shards feeder at doing None is = rw is refl
listed shards feeder at doing (Some known) is = rw is refl

-- the entry of one doing more comes last
entered_on : (shards feeder at : ℕ) (doings : List Doing) (doing : Doing) → entered_in shards feeder at (doings ++ doing ∷ []) ≡ entered_in shards feeder at doings ++ option_to_list (entry_in shards feeder at doing)
entered_on shards feeder at doings doing =
    filter_map-append (entry_in shards feeder at) doings (doing ∷ [])
    ∙ ap (λ (more : List NumberedEntry). entered_in shards feeder at doings ++ more) (listed shards feeder at doing (entry_in shards feeder at doing) refl)

-- the pass has the entry of the doing, as many shards as before, and what it has seen is of the auditor that it was of
pub record IsTold (shards : ℕ) (doing : Doing) (old new : PassModel) : Type 0 where
  pub feeder_is : new.feeder ≡ old.feeder
  pub many : length new.own ≡ length old.own
  pub sight : (plan : Plan) → IsSightOf plan old.seen → IsSightOf plan new.seen
  pub own : (at : ℕ) → at < shards → own_entries new at ≡ own_entries old at ++ option_to_list (entry_in shards old.feeder at doing)

-- a pass that was not changed has the entry of a doing that made none
pub told_nothing : (shards : ℕ) (doing : Doing) (pass : PassModel) → ((feeder at : ℕ) → entry_in shards feeder at doing ≡ None) → IsTold shards doing pass pass
told_nothing shards doing pass none = record {
  feeder_is = refl;
  many = refl;
  sight = λ plan is. is;
  own = λ at within. sym (append-nil (own_entries pass at)) ∙ ap (λ (found : Option NumberedEntry). own_entries pass at ++ option_to_list found) (sym (none pass.feeder at));
}

pub goes_on : (plan : Plan) (old new : PassModel) (lines more : List Line) (place : ℕ) (doing : Doing)
    → IsTold plan.shards doing old new
    → more ≡ lines ++ lines_at place (what_of doing)
    → ((start : Start) (doings : List Doing) → old.feeder ≡ start.feeder → ((at : ℕ) → at < plan.shards → own_entries old at ≡ own_after plan.shards start at doings) → IsAnsweredAfter plan start doings doing)
    → (start : Start) (steps : List StepResult) → place ≡ length steps → HasDone plan start old lines steps → HasDone plan start new more (steps ++ taken_of doing ∷ [])
goes_on plan old new lines more place doing told_is noted answered start steps at has =
    let many : length has.doings ≡ length steps = sym (length-map has.doings taken_of) ∙ ap length has.done.for_steps in
    let following : place ≡ 0 + length has.doings = omega arith in
    record {
      doings = has.doings ++ doing ∷ [];
      done = record {
        for_steps = map-append taken_of has.doings (doing ∷ []) ∙ ap (λ (front : List StepResult). front ++ taken_of doing ∷ []) has.done.for_steps;
        noted = noted
            ∙ ap (λ (front : List Line). front ++ lines_at place (what_of doing)) has.done.noted
            ∙ ap (λ (n : ℕ). lines_from 0 has.doings ++ lines_at n (what_of doing)) following
            ∙ sym (lines_on 0 has.doings doing);
        answers = each_after_push (IsAnsweredAfter plan start) [] has.doings doing has.done.answers (answered start has.doings has.feeder_is has.own);
      };
      feeder_is = told_is.feeder_is ∙ has.feeder_is;
      of_plan = (told_is.sight plan has.of_plan.0, told_is.many ∙ has.of_plan.1, subst (λ (f : ℕ). f < plan.feeders) (sym told_is.feeder_is) has.of_plan.2);
      own = λ n within.
          told_is.own n within
          ∙ ap (λ (f : ℕ). own_entries old n ++ option_to_list (entry_in plan.shards f n doing)) has.feeder_is
          ∙ ap (λ (front : List NumberedEntry). front ++ option_to_list (entry_in plan.shards start.feeder n doing)) (has.own n within)
          ∙ append_assoc (start.had n) (entered_in plan.shards start.feeder n has.doings) (option_to_list (entry_in plan.shards start.feeder n doing))
          ∙ ap (λ (back : List NumberedEntry). start.had n ++ back) (sym (entered_on plan.shards start.feeder n has.doings doing));
    }

-- a fresh pass of one of the feeders is the plan's
pub fresh_is_of : (plan : Plan) (pass : PassModel) → pass ≡ new_pass plan pass.feeder → pass.feeder < plan.feeders → IsPassOf plan pass
fresh_is_of plan pass is known = (
  (ap (λ (p : PassModel). p.seen.auditor) is, ap (λ (p : PassModel). length p.seen.farthest) is ∙ length-replicate {A = Option NumberedEntry} plan.shards None),
  ap (λ (p : PassModel). length p.own) is ∙ length-replicate {A = List NumberedEntry} plan.shards [],
  known,
)

-- a fresh pass is as at the first start
pub first_is_start : (plan : Plan) (pass : PassModel) → pass ≡ new_pass plan pass.feeder → pass.feeder < plan.feeders → ((at : ℕ) → own_entries (new_pass plan pass.feeder) at ≡ []) → IsAtStart plan (first_start pass.feeder) pass
first_is_start plan pass is known none = record {
  of_plan = fresh_is_of plan pass is known;
  feeder_is = refl;
  had = λ at within. ap (λ (p : PassModel). own_entries p at) is ∙ none at;
}

-- before any step nothing was done
pub nothing_done : (plan : Plan) (start : Start) (pass : PassModel) (lines : List Line) → IsAtStart plan start pass → lines ≡ [] → HasDone plan start pass lines []
nothing_done plan start pass lines is empty = record {
  doings = [];
  done = record { for_steps = refl; noted = empty; answers = tt };
  feeder_is = is.feeder_is;
  of_plan = is.of_plan;
  own = λ at within. is.had at within ∙ sym (append-nil (start.had at));
}
