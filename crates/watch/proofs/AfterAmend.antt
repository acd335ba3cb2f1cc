-- An amendment that comes last: the verdict before it from that after it.
use Rattle.std.proofs.Common.{◌≡◌, ◌≢◌, ◌≤◌, ◌⊎◌, inl, inr, Bool, true, false, not, ◌&&◌, ◌||◌, List, map, Option, Some, None, refl, sym, ap, ◌∙◌, subst, arith}
use Rattle.std.specs.Prelude.{All, Contains, IfSome, filter, is_some, unwrap_or}
use Rattle.std.proofs.lemmas.Bool.{cases_Bool}
use Rattle.std.proofs.lemmas.List.Elements.{All-contains}
use Rattle.intervals.specs.declared.operation.Op.{Op}
use Rattle.intervals.specs.declared.operation.OpId.{OpId}
use Rattle.intervals.specs.declared.operation.Moment.{Moment}
use Rattle.intervals.specs.declared.operation.Act.{Act}
use Rattle.intervals.specs.declared.operation.Act.TheVariants.{Read, Write}
use Rattle.intervals.specs.declared.operation.Value.{Value}
use Rattle.intervals.specs.declared.edit.Change.{Change}
use Rattle.intervals.specs.Operation.{EndsBefore, Precedes, Overlaps, IsWrite, IsJudgedRead, is_write, is_write_act, same_id, value_of, judged}
use Rattle.intervals.specs.Edit.{act_with, changed, amended}
use Rattle.intervals.specs.Kind.{HasNoWrite}
use Rattle.intervals.proofs.Ids.{Decides-same_id_is}
use Rattle.intervals.proofs.Members.{all_from}
use Rattle.watch.specs.Coming.{EndsLast}
use Rattle.watch.proofs.Members.{mapped, from_map}
use Rattle.watch.proofs.JudgedOps.{is_judged, judged_present, not_unfinished, unfinished_write, filtered_map}
use Rattle.watch.proofs.Orders.{IsOrdered, IsEnded, MayGo, ordered_without, ordered_before}
use Rattle.watch.proofs.RightReads.{StayUnder}

same_kind : (act : Act) (value : Option Value) → is_write_act (act_with act value) ≡ is_write_act act
same_kind act None = refl
same_kind (Read v) (Some new) = refl
same_kind (Write v) (Some new) = refl

module _ (ops : List Op) (id : OpId) (change : Change) (ends : EndsLast ops id change) where
  abbrev after : Op → Op
  after = amended id change

  abbrev end : Moment
  end = ends.end.0

  -- an operation of the id, which the amendment ends
  record IsAmended (x : Op) : Type 0 where
    same : same_id x.id id ≡ true
    unfinished : x.end ≡ None
    begin : (after x).begin ≡ x.begin
    ended : (after x).end ≡ Some end
    kind : is_write (after x) ≡ is_write x
    value : IsWrite x → (after x).act ≡ x.act

  -- an operation of another id, which the amendment leaves as it is
  abbrev IsLeft : Op → Type 0
  IsLeft x = (same_id x.id id ≡ false) × (after x ≡ x)

  is_changed : (x : Op) → same_id x.id id ≡ true → after x ≡ changed x change
  is_changed x t = rw t refl

  is_left : (x : Op) → same_id x.id id ≡ false → after x ≡ x
  is_left x f = rw f refl

  each : (x : Op) → Contains ops x → IsAmended x ⊎ IsLeft x
  each x h = by_cases (cases_Bool (same_id x.id id))
    where
      by_cases : (same_id x.id id ≡ true) ⊎ (same_id x.id id ≡ false) → IsAmended x ⊎ IsLeft x
      by_cases (inr f) = inr (f, is_left x f)
      by_cases (inl t) =
          let e : x.id ≡ id = (Decides-same_id_is x.id id).0 t in
          let is : after x ≡ changed x change = is_changed x t in
          inl (record {
            same = t;
            unfinished = All-contains (λ op. op.id ≡ id → op.end ≡ None) ops x ends.unfinished h e;
            begin = ap (λ (o : Op). o.begin) is ∙ ap (λ (b : Option Moment). unwrap_or b x.begin) ends.begin;
            ended = ap (λ (o : Op). o.end) is ∙ ap (λ (e : Option (Option Moment)). unwrap_or e x.end) ends.end.1;
            kind = ap is_write is ∙ same_kind x.act change.value;
            value = λ write. ap (λ (o : Op). o.act) is ∙ ap (act_with x.act) (All-contains (λ op. op.id ≡ id → IsWrite op → change.value ≡ None) ops x ends.value h e write);
          })

  -- the new end is not before the beginning of an operation
  not_sooner : (r : Op) → Contains ops r → ¬ EndsBefore (Some end) r.begin
  not_sooner r h p = let le = (All-contains (λ op. (op.begin.0 ≤ end.0) × IfSome op.end (λ e. e.0 ≤ end.0)) ops r ends.end.2 h).0 in absurd (omega arith)

  stays : (r : Op) → IsJudgedRead r → IsAmended r ⊎ IsLeft r → after r ≡ r
  stays r read (inl is) = absurd (not_unfinished r read is.unfinished)
  stays r read (inr (f, e)) = e

  came : (v r : Op) → Precedes v r → IsAmended v ⊎ IsLeft v → after v ≡ v
  came v r p (inl is) = absurd (subst (λ (end : Option Moment). EndsBefore end r.begin) is.unfinished p)
  came v r p (inr (f, e)) = e

  stood : (v x r : Op) → Contains ops r → Precedes v r → after x ≡ v → IsAmended x ⊎ IsLeft x → x ≡ v
  stood v x r h p e (inl is) = absurd (not_sooner r h (subst (λ (end : Option Moment). EndsBefore end r.begin) (sym (ap (λ (o : Op). o.end) e) ∙ is.ended) p))
  stood v x r h p e (inr (f, same)) = sym same ∙ e

  over : (v x r : Op) → Overlaps v r → IsWrite v → after x ≡ v → IsAmended x ⊎ IsLeft x → IsWrite x × Overlaps x r × (value_of v.act ≡ value_of x.act)
  over v x r o write e (inr (f, same)) =
      let is : v ≡ x = sym e ∙ same in
      (subst IsWrite is write, subst (λ (w : Op). Overlaps w r) is o, ap (λ (w : Op). value_of w.act) is)
  over v x r o write e (inl is) =
      let w : IsWrite x = sym is.kind ∙ (ap is_write e ∙ write) in (
        w,
        (
          (λ p. subst (λ (end : Option Moment). EndsBefore end r.begin) is.unfinished p),
          (λ p. o.1 (subst (λ (m : Moment). EndsBefore r.end m) (sym is.begin ∙ ap (λ (o : Op). o.begin) e) p)),
        ),
        sym (ap (λ (o : Op). value_of o.act) e) ∙ ap value_of (is.value w),
      )

  pub stay_under_amend : StayUnder ops (map (amended id change) ops)
  stay_under_amend r h read = record {
    stays = subst (Contains (map after ops)) (stays r read (each r h)) (mapped after ops r h);
    came = λ v write before k. subst (Contains (map after ops)) (came v r before (each v k)) (mapped after ops v k);
    stood = λ v write before k. let (x, at, e) = from_map after ops v k in subst (Contains ops) (stood v x r h before e (each x at)) at;
    over = λ v write o k. let (x, at, e) = from_map after ops v k in let (w, meets, same) = over v x r o write e (each x at) in (x, at, w, meets, same);
  }

  -- all but the read that the amendment ends
  abbrev keep : Op → Bool
  keep a = not (same_id a.id id) || is_write a

  same_id_after : (x : Op) → (after x).id ≡ x.id
  same_id_after x = by_cases (cases_Bool (same_id x.id id))
    where
      by_cases : (same_id x.id id ≡ true) ⊎ (same_id x.id id ≡ false) → (after x).id ≡ x.id
      by_cases (inl t) = ap (λ (o : Op). o.id) (is_changed x t)
      by_cases (inr f) = ap (λ (o : Op). o.id) (is_left x f)

  judged_kept : (x : Op) → IsAmended x ⊎ IsLeft x → (is_judged (after x) && keep (after x)) ≡ is_judged x
  judged_kept x (inr (f, e)) = subst (λ (o : Op). (is_judged o && keep o) ≡ is_judged x) (sym e) (by_bool (is_judged x) (same_id x.id id) (is_write x) f)
    where
      by_bool : (j s w : Bool) → s ≡ false → (j && (not s || w)) ≡ j
      by_bool true true w e = absurd (cc)
      by_bool true false w e = refl
      by_bool false s w e = refl
  judged_kept x (inl is) =
      by_bool (is_write x) (is_write (after x)) (is_some (after x).end) (same_id (after x).id id) (is_some x.end)
      is.kind (ap is_some is.ended) (ap (λ (i : OpId). same_id i id) (same_id_after x) ∙ is.same) (ap is_some is.unfinished)
    where
      by_bool : (w v s t u : Bool) → v ≡ w → s ≡ true → t ≡ true → u ≡ false → ((v || s) && (not t || v)) ≡ (w || u)
      by_bool w v s t u e f g h = rw (e, f, g, h) (by_write w)
        where
          by_write : (w : Bool) → ((w || true) && (false || w)) ≡ (w || false)
          by_write true = refl
          by_write false = refl

  is_kept : filter keep (judged (map after ops)) ≡ map after (judged ops)
  is_kept = filtered_map keep is_judged is_judged after ops (all_from (λ x. (is_judged (after x) && keep (after x)) ≡ is_judged x) ops (λ x h. judged_kept x (each x h)))

  may_go : All (MayGo keep (judged (map after ops))) (judged (map after ops))
  may_go = all_from (MayGo keep (judged (map after ops))) (judged (map after ops)) (λ a h out. inl (by_bool (not (same_id a.id id)) (is_write a) out))
    where
      by_bool : (s w : Bool) → (s || w) ≡ false → w ≡ false
      by_bool true w e = absurd (cc)
      by_bool false w e = e

  ended : (x : Op) → is_judged x ≡ true → IsAmended x ⊎ IsLeft x → IsEnded after x
  ended x t (inl is) = record { act = is.value (unfinished_write x t is.unfinished); begin = is.begin; end = inr is.unfinished }
  ended x t (inr (f, e)) = record { act = ap (λ (o : Op). o.act) e; begin = ap (λ (o : Op). o.begin) e; end = inl (ap (λ (o : Op). o.end) e) }

  pub ordered_amend : (initial : Value) → IsOrdered initial (judged (map (amended id change) ops)) → IsOrdered initial (judged ops)
  ordered_amend initial h =
      ordered_before after initial (judged ops)
      (all_from (IsEnded after) (judged ops) (λ x k. let (at, t) = judged_present ops x k in ended x t (each x at)))
      (subst (IsOrdered initial) is_kept (ordered_without keep initial (judged (map after ops)) may_go h))

  pub no_write_amend : (value : Value) → HasNoWrite (map (amended id change) ops) value → HasNoWrite ops value
  no_write_amend value none = all_from (λ w. IsWrite w → value_of w.act ≢ value) ops
      (λ w h write. by_cases w h write (each w h) (All-contains (λ w. IsWrite w → value_of w.act ≢ value) (map after ops) (after w) none (mapped after ops w h)))
    where
      by_cases : (w : Op) → Contains ops w → IsWrite w → IsAmended w ⊎ IsLeft w → (IsWrite (after w) → value_of (after w).act ≢ value) → value_of w.act ≢ value
      by_cases w h write (inl is) other = subst (λ (act : Act). value_of act ≢ value) (is.value write) (other (is.kind ∙ write))
      by_cases w h write (inr (f, e)) other = subst (λ (o : Op). IsWrite o → value_of o.act ≢ value) e other write
