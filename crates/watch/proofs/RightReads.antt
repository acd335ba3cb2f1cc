-- A read that is right after an edit was right before it, where the same writes precede it and no new one overlaps it.
use Rattle.std.proofs.Common.{◌≡◌, ◌≤◌, ◌⊎◌, inl, inr, true, false, List, Option, Some, None, sym, ◌∙◌, subst}
use Rattle.std.specs.Prelude.{All, Any, Contains}
use Rattle.std.proofs.lemmas.Bool.{cases_Bool}
use Rattle.std.proofs.lemmas.Bool.Decides.{not_from_Decides}
use Rattle.std.proofs.lemmas.List.Elements.{All-contains}
use Rattle.intervals.specs.declared.operation.Op.{Op}
use Rattle.intervals.specs.declared.operation.Value.{Value}
use Rattle.intervals.specs.Terms.{ClaimModel}
use Rattle.intervals.specs.Operation.{IsWrite, IsJudgedRead, Precedes, Overlaps, same_value, value_of}
use Rattle.intervals.specs.Kind.{IsLastBefore, ReturnsLast, OverlapsWrite, IsAllowed, IsInValueSet, IsSafeRead, IsRegularRead, IsSafe, IsRegular}
use Rattle.intervals.specs.Judging.{overlaps_write}
use Rattle.intervals.specs.Refusal.{is_in_domain}
use Rattle.intervals.specs.Standing.{IsPermitted}
use Rattle.intervals.proofs.Agreement.{Decides-list_any, Decides-same_value, Decides-overlaps_write}
use Rattle.intervals.proofs.Members.{all_from}

-- of the reads before an edit: each stands after it, the same writes precede it, and each write that overlaps it after
-- the edit has the value of one that overlapped it before
pub record StaysUnder (ops after : List Op) (r : Op) : Type 0 where
  pub stays : Contains after r
  pub came : (v : Op) → IsWrite v → Precedes v r → Contains ops v → Contains after v
  pub stood : (v : Op) → IsWrite v → Precedes v r → Contains after v → Contains ops v
  pub over : (v : Op) → IsWrite v → Overlaps v r → Contains after v → (w : Op) × Contains ops w × IsWrite w × Overlaps w r × (value_of v.act ≡ value_of w.act)

in_values : (values : List Value) (value : Value) → Any (λ v. v ≡ value) values → Contains values value
in_values values value h = subst (λ (v : Value). Contains values v) h.4 (h.0, h.2, h.3)

-- a value of the domain is allowed
allowed : (domain : Option (List Value)) (initial value : Value) → is_in_domain domain value ≡ true → IsAllowed domain initial value
allowed None initial value e = tt
allowed (Some values) initial value e =
    inl (in_values values value ((Decides-list_any (λ v. same_value v value) (λ v. v ≡ value) (λ v. Decides-same_value v value) values).0 e))

initial_allowed : (domain : Option (List Value)) (initial value : Value) → value ≡ initial → IsAllowed domain initial value
initial_allowed None initial value e = tt
initial_allowed (Some values) initial value e = inr e

module _ (claim : ClaimModel) (ops after : List Op) (permitted : All (λ w. IsWrite w → IsPermitted claim w) ops) (r : Op) (under : StaysUnder ops after r) where
  last_before : (w : Op) → IsLastBefore after r w → IsLastBefore ops r w
  last_before w is = record {
    present = under.stood w is.write is.before is.present;
    write = is.write;
    before = is.before;
    last = all_from (λ v. IsWrite v → Precedes v r → v.begin.0 ≤ w.begin.0) ops
        (λ v h write before. All-contains (λ v. IsWrite v → Precedes v r → v.begin.0 ≤ w.begin.0) after v is.last (under.came v write before h) write before);
  }

  returns_last : ReturnsLast claim.initial after r → ReturnsLast claim.initial ops r
  returns_last (inl (w, is, e)) = inl (w, last_before w is, e)
  returns_last (inr (none, e)) =
      inr (all_from (λ w. IsWrite w → ¬ Precedes w r) ops (λ w h write before. All-contains (λ w. IsWrite w → ¬ Precedes w r) after w none (under.came w write before h) write before), e)

  any_of : (P : Op → Type 0) (xs : List Op) (w : Op) → Contains xs w → P w → Any P xs
  any_of P xs w h p = (h.0, w, h.1, h.2, p)

  present_any : (P : Op → Type 0) (xs : List Op) → Any P xs → (w : Op) × Contains xs w × P w
  present_any P xs h = (h.1, (h.0, h.2, h.3), h.4)

  overlapped : OverlapsWrite after r → OverlapsWrite ops r
  overlapped h =
      let (v, at, is) = present_any (λ w. IsWrite w × Overlaps w r) after h in
      let (w, present, write, over, same) = under.over v is.0 is.1 at in
      any_of (λ w. IsWrite w × Overlaps w r) ops w present (write, over)

  pub regular_before : IsRegularRead claim after r → IsRegularRead claim ops r
  regular_before (inl any) =
      let (v, at, is) = present_any (λ w. IsWrite w × Overlaps w r × (value_of r.act ≡ value_of w.act)) after any in
      let (w, present, write, over, same) = under.over v is.0 is.1 at in
      inl (any_of (λ w. IsWrite w × Overlaps w r × (value_of r.act ≡ value_of w.act)) ops w present (write, over, is.2 ∙ same))
  regular_before (inr last) = inr (returns_last last)

  -- the value of the last write, or the initial one, is in the value set
  last_in_set : ReturnsLast claim.initial ops r → IsInValueSet claim (value_of r.act)
  last_in_set (inl (w, is, e)) =
      subst (IsInValueSet claim) (sym e)
      (allowed claim.domain claim.initial (value_of w.act) (All-contains (λ w. IsWrite w → IsPermitted claim w) ops w permitted is.present is.write).value)
  last_in_set (inr (none, e)) = initial_allowed claim.domain claim.initial (value_of r.act) e

  pub safe_before : IsSafeRead claim after r → IsSafeRead claim ops r
  safe_before (last, any) = (
    (λ free. returns_last (last (λ over. free (overlapped over)))),
    (λ over. by_cases (cases_Bool (overlaps_write after r))),
  )
    where
      by_cases : (overlaps_write after r ≡ true) ⊎ (overlaps_write after r ≡ false) → IsInValueSet claim (value_of r.act)
      by_cases (inl t) = any ((Decides-overlaps_write after r).0 t)
      by_cases (inr f) = last_in_set (returns_last (last (not_from_Decides (overlaps_write after r) (Decides-overlaps_write after r) f)))

-- each judged read stays under the same writes
abbrev pub StayUnder : List Op → List Op → Type 0
StayUnder ops after = (r : Op) → Contains ops r → IsJudgedRead r → StaysUnder ops after r

module _ (claim : ClaimModel) (ops after : List Op) (permitted : All (λ w. IsWrite w → IsPermitted claim w) ops) (under : StayUnder ops after) where
  pub safe_earlier : IsSafe claim after → IsSafe claim ops
  safe_earlier safe = all_from (λ r. IsJudgedRead r → IsSafeRead claim ops r) ops
      (λ r h read. let stays = under r h read in
      safe_before claim ops after permitted r stays (All-contains (λ r. IsJudgedRead r → IsSafeRead claim after r) after r safe stays.stays read))

  pub regular_earlier : IsRegular claim after → IsRegular claim ops
  regular_earlier regular = all_from (λ r. IsJudgedRead r → IsRegularRead claim ops r) ops
      (λ r h read. let stays = under r h read in
      regular_before claim ops after permitted r stays (All-contains (λ r. IsJudgedRead r → IsRegularRead claim after r) after r regular stays.stays read))
