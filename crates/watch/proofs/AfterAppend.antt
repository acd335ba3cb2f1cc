-- An append that comes last: the verdict before it from that after it.
use Rattle.std.proofs.Common.{◌≡◌, ◌≢◌, ◌≤◌, ◌<◌, ◌⊎◌, inl, inr, Bool, true, false, not, List, [], ◌∷◌, ◌++◌, Option, Some, None, refl, sym, ap, ◌∙◌, subst, arith}
use Rattle.std.specs.Prelude.{All, Contains, IfSome, filter}
use Rattle.std.proofs.lemmas.Bool.{cases_order}
use Rattle.std.proofs.lemmas.List.Elements.{All-contains, All-weaker, Contains-append_left, Contains-push_cases}
use Rattle.intervals.specs.declared.operation.Op.{Op}
use Rattle.intervals.specs.declared.operation.Moment.{Moment}
use Rattle.intervals.specs.declared.operation.Value.{Value}
use Rattle.intervals.specs.declared.edit.Edit.TheVariants.{Append}
use Rattle.intervals.specs.Terms.{ClaimModel, state_of}
use Rattle.intervals.specs.Operation.{EndsBefore, Precedes, IsWrite, IsJudgedRead, same_id, value_of, judged}
use Rattle.intervals.specs.Edit.{op_of}
use Rattle.intervals.specs.Kind.{HasNoWrite}
use Rattle.intervals.specs.Refusal.{first_refusal, moments_refusal, reply_to}
use Rattle.intervals.specs.Standing.{ShareNoMoment}
use Rattle.intervals.proofs.Accepted.{edit_accepted, moments_accepted, shares_none}
use Rattle.intervals.proofs.Ids.{none_of, not_taken, same_id-refl}
use Rattle.intervals.proofs.Members.{all_from, same_moment}
use Rattle.watch.specs.Coming.{IsLatest}
use Rattle.watch.proofs.JudgedOps.{is_judged, judged_cases, judged_present, end_of, unfinished_write, filtered_push}
use Rattle.watch.proofs.Orders.{IsOrdered, MayGo, ordered_without}
use Rattle.watch.proofs.RightReads.{StayUnder}

ends_sooner : (a b : Moment) → a.0 ≤ b.0 → a ≢ b → a.0 < b.0
ends_sooner a b le apart = by_cases (cases_order a.0 b.0)
  where
    by_cases : (a.0 ≡ b.0) ⊎ ((a.0 < b.0) ⊎ (b.0 < a.0)) → a.0 < b.0
    by_cases (inl e) = absurd (apart (same_moment a b e))
    by_cases (inr (inl lt)) = lt
    by_cases (inr (inr gt)) = absurd (omega arith)

module _ (claim : ClaimModel) (ops : List Op) (op : Op) (accepted : reply_to (state_of claim ops) (Append op) ≡ None) (no_end : op.end ≡ None) (latest : IsLatest ops op.begin) where
  first : first_refusal ops (Append op) ≡ None
  first = edit_accepted (state_of claim ops) (Append op) accepted

  -- the id of the operation is new
  new_id : All (λ other. same_id other.id op.id ≡ false) ops
  new_id = none_of ops op.id (not_taken (op_of ops op.id) (moments_refusal ops op) first)

  -- each judged read ended before the operation began
  sooner : (r : Op) → Contains ops r → IsJudgedRead r → Precedes r op
  sooner r h read =
      let (end, is) = end_of r read in
      let apart : ShareNoMoment op r = All-contains (λ other. same_id other.id op.id ≡ false → ShareNoMoment op other) ops r (shares_none ops op (moments_accepted ops (Append op) op first refl)) h
      (All-contains (λ other. same_id other.id op.id ≡ false) ops r new_id h) in
      let no_later : IfSome r.end (λ e. e.0 ≤ op.begin.0) = (All-contains (λ o. (o.begin.0 ≤ op.begin.0) × IfSome o.end (λ e. e.0 ≤ op.begin.0)) ops r latest h).1 in
      let le : end.0 ≤ op.begin.0 = subst (λ (o : Option Moment). IfSome o (λ e. e.0 ≤ op.begin.0)) is no_later in
      subst (λ (o : Option Moment). EndsBefore o op.begin) (sym is)
      (ends_sooner end op.begin le (λ e. apart op.begin (inl refl) (inr (subst (λ (m : Moment). r.end ≡ Some m) e is))))

  precedes_none : (r : Op) → ¬ Precedes op r
  precedes_none r p = subst (λ (end : Option Moment). EndsBefore end r.begin) no_end p

  pub stay_under_append : StayUnder ops (ops ++ op ∷ [])
  stay_under_append r h read = record {
    stays = Contains-append_left ops (op ∷ []) r h;
    came = λ v write before k. Contains-append_left ops (op ∷ []) v k;
    stood = λ v write before k. stood v before (Contains-push_cases ops op v k);
    over = λ v write over k. (v, overlaps v over.1 (Contains-push_cases ops op v k), write, over, refl);
  }
    where
      stood : (v : Op) → Precedes v r → Contains ops v ⊎ (op ≡ v) → Contains ops v
      stood v before (inl k) = k
      stood v before (inr e) = absurd (precedes_none r (subst (λ (o : Op). Precedes o r) (sym e) before))

      overlaps : (v : Op) → ¬ Precedes r v → Contains ops v ⊎ (op ≡ v) → Contains ops v
      overlaps v not_before (inl k) = k
      overlaps v not_before (inr e) = absurd (not_before (subst (λ (o : Op). Precedes r o) e (sooner r h read)))

  abbrev is_other : Op → Bool
  is_other a = not (same_id a.id op.id)

  others : All (λ a. is_other a ≡ true) ops
  others = All-weaker (λ a. same_id a.id op.id ≡ false) (λ a. is_other a ≡ true) (λ a f. rw f refl) ops new_id

  is_left : filter is_other (judged (ops ++ op ∷ [])) ≡ judged ops
  is_left = filtered_push is_other is_judged ops op others (rw (same_id-refl op.id) refl)

  may_go : All (MayGo is_other (judged (ops ++ op ∷ []))) (judged (ops ++ op ∷ []))
  may_go = all_from (MayGo is_other after) after (λ a h out. inr (all_from (λ b. IsWrite b ⊎ Precedes b a) after (λ b k. subst (λ (o : Op). IsWrite b ⊎ Precedes b o) (is_new a out (present a h)) (each b (present b k) (judged_present (ops ++ op ∷ []) b k).1))))
    where
      after : List Op
      after = judged (ops ++ op ∷ [])

      present : (a : Op) → Contains after a → Contains ops a ⊎ (op ≡ a)
      present a h = Contains-push_cases ops op a (judged_present (ops ++ op ∷ []) a h).0

      is_new : (a : Op) → is_other a ≡ false → Contains ops a ⊎ (op ≡ a) → op ≡ a
      is_new a out (inl k) = absurd (let t = All-contains (λ a. is_other a ≡ true) ops a others k in cc)
      is_new a out (inr e) = e

      by_kind : (b : Op) → Contains ops b → IsWrite b ⊎ IsJudgedRead b → IsWrite b ⊎ Precedes b op
      by_kind b k (inl w) = inl w
      by_kind b k (inr r) = inr (sooner b k r)

      each : (b : Op) → Contains ops b ⊎ (op ≡ b) → is_judged b ≡ true → IsWrite b ⊎ Precedes b op
      each b (inl k) t = by_kind b k (judged_cases b t)
      each b (inr e) t = inl (unfinished_write b t (sym (ap (λ (o : Op). o.end) e) ∙ no_end))

  pub ordered_append : (initial : Value) → IsOrdered initial (judged (ops ++ op ∷ [])) → IsOrdered initial (judged ops)
  ordered_append initial h = subst (IsOrdered initial) is_left (ordered_without is_other initial (judged (ops ++ op ∷ [])) may_go h)

  pub no_write_append : (value : Value) → HasNoWrite (ops ++ op ∷ []) value → HasNoWrite ops value
  no_write_append value none = all_from (λ w. IsWrite w → value_of w.act ≢ value) ops
      (λ w h. All-contains (λ w. IsWrite w → value_of w.act ≢ value) (ops ++ op ∷ []) w none (Contains-append_left ops (op ∷ []) w h))
