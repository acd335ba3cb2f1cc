-- The refusals that are noted of a feeder's doings are those of its steps.
use Rattle.std.proofs.Common.{◌≡◌, ◌↔◌, ◌⊎◌, ◌+◌, ℕ, Bool, true, false, not, ◌||◌, List, [], ◌∷◌, ◌++◌, map, refl, sym, ap, subst, ◌∙◌, inl, inr, IsTrue}
use Rattle.std.specs.List.{list_any}
use Rattle.std.proofs.lemmas.List.{append-nil, append_assoc}
use Rattle.std.proofs.lemmas.List.Folds.{list_any-append}
use Rattle.register_book.specs.declared.reply.Reply.{Reply}
use Rattle.register_book.specs.declared.reply.Reply.TheVariants.{Accepted, Refused}
use Rattle.shards.specs.Journal.{is_accepted}
use Rattle.logs.specs.Steps.{StepResult}
use Rattle.logs.specs.Doings.{Doing, refused, nothing, entered, answered, taken_of, what_of, what_of_reply, lines_at, lines_from}
use Rattle.report.specs.Refused.{is_refused_line}
use Rattle.check_command.specs.Verdict.{IsRefused, HasRefused}
use Rattle.check_command.proofs.AloneReplies.{either_true, true_either}

-- what became of an element is a refusal
abbrev pub is_refusing : Doing → Bool
is_refusing (refused code) = true
is_refusing nothing = false
is_refusing (entered register edit number reply) = not (is_accepted reply)
is_refusing (answered register answer) = false

-- each doing is a refusal exactly where its step is refused after those before it
abbrev pub AreReplied : List StepResult → List Doing → Type 0
AreReplied before [] = Unit {0}
AreReplied before (doing ∷ doings) = (IsTrue (is_refusing doing) ↔ IsRefused before (taken_of doing)) × AreReplied (before ++ taken_of doing ∷ []) doings

-- one of the steps after these is refused
record HasRefusedBehind (before taken : List StepResult) : Type 0 where
  front : List StepResult
  step : StepResult
  rest : List StepResult
  parts : taken ≡ front ++ step ∷ rest
  refuses : IsRefused (before ++ front) step

refused_first : (before : List StepResult) (step : StepResult) (rest : List StepResult) → IsRefused before step → HasRefusedBehind before (step ∷ rest)
refused_first before step rest is = record {
  front = [];
  step = step;
  rest = rest;
  parts = refl;
  refuses = subst (λ (l : List StepResult). IsRefused l step) (sym (append-nil before)) is;
}

refused_later : (before : List StepResult) (step : StepResult) (rest : List StepResult) → HasRefusedBehind (before ++ step ∷ []) rest → HasRefusedBehind before (step ∷ rest)
refused_later before step rest has = record {
  front = step ∷ has.front;
  step = has.step;
  rest = has.rest;
  parts = ap (λ (l : List StepResult). step ∷ l) has.parts;
  refuses = subst (λ (l : List StepResult). IsRefused l has.step) (append_assoc before (step ∷ []) has.front) has.refuses;
}

refused_cases : (before : List StepResult) (step : StepResult) (rest front : List StepResult) (one : StepResult) (left : List StepResult) → step ∷ rest ≡ front ++ one ∷ left → IsRefused (before ++ front) one
    → IsRefused before step ⊎ HasRefusedBehind (before ++ step ∷ []) rest
refused_cases before step rest [] one left parts is =
    let first : one ≡ step = cc in
    inl (subst (λ (s : StepResult). IsRefused before s) first (subst (λ (l : List StepResult). IsRefused l one) (append-nil before) is))
refused_cases before step rest (x ∷ front) one left parts is =
    let first : x ≡ step = cc in
    let later : rest ≡ front ++ one ∷ left = cc in
    inr (record {
      front = front;
      step = one;
      rest = left;
      parts = later;
      refuses = subst (λ (l : List StepResult). IsRefused l one) (ap (λ (s : StepResult). before ++ s ∷ front) first ∙ sym (append_assoc before (step ∷ []) front)) is;
    })

what_is_noted : (place : ℕ) (doing : Doing) → list_any is_refused_line (lines_at place (what_of doing)) ≡ is_refusing doing
what_is_noted place (refused left_out) = refl
what_is_noted place nothing = refl
what_is_noted place (entered register edit number reply) = by_reply reply
  where
    by_reply : (reply : Reply) → list_any is_refused_line (lines_at place (what_of_reply register edit reply)) ≡ not (is_accepted reply)
    by_reply (Accepted holds) = refl
    by_reply (Refused refusal) = refl
what_is_noted place (answered register answer) = refl

noted_first : (place : ℕ) (doing : Doing) (doings : List Doing) → list_any is_refused_line (lines_from place (doing ∷ doings)) ≡ (is_refusing doing || list_any is_refused_line (lines_from (place + 1) doings))
noted_first place doing doings =
    list_any-append is_refused_line (lines_at place (what_of doing)) (lines_from (place + 1) doings)
    ∙ ap (λ (b : Bool). b || list_any is_refused_line (lines_from (place + 1) doings)) (what_is_noted place doing)

noted_to : (place : ℕ) (before : List StepResult) (doings : List Doing) → AreReplied before doings → IsTrue (list_any is_refused_line (lines_from place doings)) → HasRefusedBehind before (map taken_of doings)
noted_to place before [] replied is = cc
noted_to place before (doing ∷ doings) replied is =
    elim (either_true (is_refusing doing) (list_any is_refused_line (lines_from (place + 1) doings)) (sym (noted_first place doing doings) ∙ is)) [
      | inl here ↦ refused_first before (taken_of doing) (map taken_of doings) (replied.0.0 here)
      | inr later ↦ refused_later before (taken_of doing) (map taken_of doings) (noted_to (place + 1) (before ++ taken_of doing ∷ []) doings replied.1 later)
    ]

noted_from : (place : ℕ) (before : List StepResult) (doings : List Doing) → AreReplied before doings → HasRefusedBehind before (map taken_of doings) → IsTrue (list_any is_refused_line (lines_from place doings))
noted_from place before [] replied has = absurd (none_there has.front has.step has.rest has.parts)
  where
    none_there : (front : List StepResult) (step : StepResult) (rest : List StepResult) → [] ≡ front ++ step ∷ rest → ⊥
    none_there [] step rest parts = cc
    none_there (x ∷ front) step rest parts = cc
noted_from place before (doing ∷ doings) replied has =
    noted_first place doing doings
    ∙ true_either (is_refusing doing) (list_any is_refused_line (lines_from (place + 1) doings)) (elim (refused_cases before (taken_of doing) (map taken_of doings) has.front has.step has.rest has.parts has.refuses) [
      | inl here ↦ inl (replied.0.1 here)
      | inr later ↦ inr (noted_from (place + 1) (before ++ taken_of doing ∷ []) doings replied.1 later)
    ])

-- a refusal is noted exactly where a step is refused
pub refusals : (doings : List Doing) → AreReplied [] doings → IsTrue (list_any is_refused_line (lines_from 0 doings)) ↔ HasRefused (map taken_of doings)
refusals doings replied = (
  (λ is. let has = noted_to 0 [] doings replied is in record { before = has.front; step = has.step; rest = has.rest; parts = has.parts; refused = has.refuses }),
  (λ has. noted_from 0 [] doings replied (record { front = has.before; step = has.step; rest = has.rest; parts = has.parts; refuses = has.refused })),
)
