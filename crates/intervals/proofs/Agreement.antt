-- The tests of specs/Judging.antt decide the promises of specs/Kind.antt.
use Rattle.std.proofs.Common.{◌≡◌, ℕ, zero, suc, ◌<◌, ◌≤◌, ◌⊎◌, inl, inr, Bool, true, false, ◌||◌, List, [], ◌∷◌, length, Option, Some, None, Decides, refl, sym, ap, subst, ◌∙◌, arith, eqb, ltb}
use Rattle.std.specs.Prelude.{if◌then◌else◌, All, Any, Contains, IsTrue, slice_index_or}
use Rattle.std.specs.List.{list_any}
use Rattle.std.proofs.lemmas.Bool.Decides.{Decides-eqb, Decides-int_eq, Decides-ltb, Decides-not, Decides-and, Decides-or, Decides-like, not_from_Decides}
use Rattle.std.proofs.lemmas.List.Elements.{All-cons, All-nil, All-contains}
use Rattle.intervals.specs.declared.operation.Op.{Op}
use Rattle.intervals.specs.declared.operation.Moment.{Moment}
use Rattle.intervals.specs.declared.operation.Value.{Value}
use Rattle.intervals.specs.declared.operation.Value.TheVariants.{Nil, Int}
use Rattle.intervals.specs.Terms.{ClaimModel}
use Rattle.intervals.specs.Operation.{EndsBefore, Precedes, Overlaps, IsWrite, ends_before, precedes, overlaps, is_write, value_of, same_value}
use Rattle.intervals.specs.Kind.{IsLastBefore, ReturnsLast, OverlapsWrite, IsAllowed, IsSafeRead, IsRegularRead}
use Rattle.intervals.specs.Judging.{is_write_before, is_later, later_begin, last_from, last_before, is_returned_at, returns_of, returns_last, is_write_over, overlaps_write, is_allowed, is_safe_read, is_returned_over, is_regular_read}

-- a boolean that is not true is false
pub false_unless : (b : Bool) → ¬ (b ≡ true) → b ≡ false
false_unless true never = absurd (never refl)
false_unless false never = refl

pub any_here : {X : Type 0} (P : X → Type 0) (x : X) (xs : List X) → P x → Any P (x ∷ xs)
any_here P x xs p = (0, x, omega arith, refl, p)

pub any_there : {X : Type 0} (P : X → Type 0) (x : X) (xs : List X) → Any P xs → Any P (x ∷ xs)
any_there P x xs h = (suc h.0, h.1, omega (arith, h.2), h.3, h.4)

any_at : {X : Type 0} (P : X → Type 0) (x : X) (xs : List X) (k : ℕ) (y : X) → k < length (x ∷ xs) → slice_index_or (x ∷ xs) k y ≡ y → P y → P x ⊎ Any P xs
any_at P x xs zero y lt e p = inl (subst P (sym e) p)
any_at P x xs (suc k) y lt e p = inr (k, y, omega arith, e, p)

pub any_cases : {X : Type 0} (P : X → Type 0) (x : X) (xs : List X) → Any P (x ∷ xs) → P x ⊎ Any P xs
any_cases P x xs h = any_at P x xs h.0 h.1 h.2 h.3 h.4

pub any_nil : {X : Type 0} (P : X → Type 0) → ¬ Any P []
any_nil P h = absurd (omega (arith, h.2))

-- where a test decides of each element, its search of a list decides whether some element is so
pub Decides-list_any : {X : Type 0} (p : X → Bool) (P : X → Type 0) → ((x : X) → Decides (p x) (P x)) → (xs : List X) → Decides (list_any p xs) (Any P xs)
Decides-list_any p P each [] = (λ e. absurd (cc), λ h. absurd (any_nil P h))
Decides-list_any {X} p P each (x ∷ xs) =
    Decides-like (p x || list_any p xs)
    (λ (h : P x ⊎ Any P xs). elim h as (λ _. Any P (x ∷ xs)) [ inl a ↦ any_here P x xs a | inr b ↦ any_there P x xs b ])
    (any_cases P x xs)
    (Decides-or (p x) (list_any p xs) (each x) (Decides-list_any p P each xs))

pub Decides-same_value : (a b : Value) → Decides (same_value a b) (a ≡ b)
Decides-same_value Nil Nil = (λ _. refl, λ _. refl)
Decides-same_value Nil (Int y) = (λ e. absurd (cc), λ e. absurd (cc))
Decides-same_value (Int x) Nil = (λ e. absurd (cc), λ e. absurd (cc))
Decides-same_value (Int x) (Int y) = (λ e. ap Int ((Decides-int_eq x y).0 e), λ e. (Decides-int_eq x y).1 (cc))

-- a boolean decides whether it is true
pub Decides-IsTrue : (b : Bool) → Decides b (IsTrue b)
Decides-IsTrue b = (λ e. e, λ e. e)

pub Decides-ends_before : (end : Option Moment) (m : Moment) → Decides (ends_before end m) (EndsBefore end m)
Decides-ends_before None m = (λ e. absurd (cc), λ h. absurd h)
Decides-ends_before (Some end) m = Decides-ltb end.0 m.0

pub Decides-precedes : (a b : Op) → Decides (precedes a b) (Precedes a b)
Decides-precedes a b = Decides-ends_before a.end b.begin

pub Decides-overlaps : (a b : Op) → Decides (overlaps a b) (Overlaps a b)
Decides-overlaps a b = Decides-and _ _ (Decides-not _ (Decides-precedes a b)) (Decides-not _ (Decides-precedes b a))

-- the second operation is a write that precedes the first
abbrev pub IsWriteBefore : Op → Op → Type 0
IsWriteBefore r w = IsWrite w × Precedes w r

pub Decides-is_write_before : (r w : Op) → Decides (is_write_before r w) (IsWriteBefore r w)
Decides-is_write_before r w = Decides-and (is_write w) (precedes w r) (Decides-IsTrue (is_write w)) (Decides-precedes w r)

-- the optional moment found so far is not after the moment
abbrev FoundBy : Option Moment → Moment → Type 0
FoundBy None m = Unit {0}
FoundBy (Some found) m = found.0 ≤ m.0

-- one more operation is taken: it is a write that precedes the read, and begins after the moment found so far
abbrev Takes : Op → Option Moment → Op → Type 0
Takes r found w = (later_begin r found w ≡ Some w.begin) × IsWriteBefore r w × FoundBy found w.begin

abbrev NotLater : Op → Option Moment → Type 0
NotLater w None = ⊥
NotLater w (Some found) = w.begin.0 ≤ found.0

abbrev Keeps : Op → Option Moment → Op → Type 0
Keeps r found w = (later_begin r found w ≡ found) × (IsWriteBefore r w → NotLater w found)

later_found : (w : Op) (found : Option Moment) → is_later w found ≡ true → FoundBy found w.begin
later_found w None e = tt
later_found w (Some found) e = let h = (Decides-ltb found.0 w.begin.0).0 e in omega arith

not_later : (w : Op) (found : Option Moment) → is_later w found ≡ false → NotLater w found
not_later w None e = absurd (cc)
not_later w (Some found) e = let h = not_from_Decides (ltb found.0 w.begin.0) (Decides-ltb found.0 w.begin.0) e in omega arith

step_cases : (r : Op) (found : Option Moment) (w : Op) (b l : Bool) → is_write_before r w ≡ b → is_later w found ≡ l → Takes r found w ⊎ Keeps r found w
step_cases r found w true true e f = inl (rw (e, f) refl, (Decides-is_write_before r w).0 e, later_found w found f)
step_cases r found w true false e f = inr (rw (e, f) refl, λ _. not_later w found f)
step_cases r found w false l e f = inr (rw e refl, λ h. absurd (not_from_Decides (is_write_before r w) (Decides-is_write_before r w) e h))

step : (r : Op) (found : Option Moment) (w : Op) → Takes r found w ⊎ Keeps r found w
step r found w = step_cases r found w (is_write_before r w) (is_later w found) refl refl

-- nothing is found, and no write of the list precedes the read
abbrev NoneBefore : Op → Option Moment → List Op → Type 0
NoneBefore r found ops = (found ≡ None) × All (λ w. ¬ IsWriteBefore r w) ops

none_step : (r : Op) (found : Option Moment) (w : Op) (ops : List Op) → NoneBefore r (later_begin r found w) ops → Takes r found w ⊎ Keeps r found w → NoneBefore r found (w ∷ ops)
none_step r found w ops h (inl t) = absurd (let e = sym t.0 ∙ h.0 in cc)
none_step r None w ops h (inr k) = (refl, All-cons (λ v. ¬ IsWriteBefore r v) w ops k.1 h.1)
none_step r (Some found) w ops h (inr k) = absurd (let e = sym k.0 ∙ h.0 in cc)

pub last_from-None : (r : Op) (found : Option Moment) (ops : List Op) → last_from r found ops ≡ None → NoneBefore r found ops
last_from-None r found [] e = (e, All-nil _)
last_from-None r found (w ∷ ops) e = none_step r found w ops (last_from-None r (later_begin r found w) ops e) (step r found w)

-- the operation is a write that precedes the read, and begins at the moment
abbrev BeginsThen : Op → Moment → Op → Type 0
BeginsThen r m w = IsWriteBefore r w × (w.begin ≡ m)

pub record SomeBefore (r : Op) (found : Option Moment) (ops : List Op) (m : Moment) : Type 0 where
  pub from : Any (BeginsThen r m) ops ⊎ (found ≡ Some m)
  pub last : All (λ w. IsWriteBefore r w → w.begin.0 ≤ m.0) ops
  pub after : FoundBy found m

from_taken : (r : Op) (found : Option Moment) (w : Op) (ops : List Op) (m : Moment) → Takes r found w → Any (BeginsThen r m) ops ⊎ (later_begin r found w ≡ Some m) → Any (BeginsThen r m) (w ∷ ops)
from_taken r found w ops m t (inl any) = any_there (BeginsThen r m) w ops any
from_taken r found w ops m t (inr e) = any_here (BeginsThen r m) w ops (t.1, (let f = sym t.0 ∙ e in cc))

from_kept : (r : Op) (found : Option Moment) (w : Op) (ops : List Op) (m : Moment) → Keeps r found w → Any (BeginsThen r m) ops ⊎ (later_begin r found w ≡ Some m) → Any (BeginsThen r m) (w ∷ ops) ⊎ (found ≡ Some m)
from_kept r found w ops m k (inl any) = inl (any_there (BeginsThen r m) w ops any)
from_kept r found w ops m k (inr e) = inr (sym k.0 ∙ e)

found_by : (m : Moment) (f g : Option Moment) → f ≡ g → FoundBy f m → FoundBy g m
found_by m f g e h = subst (λ (x : Option Moment). FoundBy x m) e h

found_by_later : (found : Option Moment) (a b : Moment) → a.0 ≤ b.0 → FoundBy found a → FoundBy found b
found_by_later None a b le h = tt
found_by_later (Some f) a b le h = omega arith

not_later_by : (w : Op) (found : Option Moment) (m : Moment) → NotLater w found → FoundBy found m → w.begin.0 ≤ m.0
not_later_by w None m n h = absurd n
not_later_by w (Some f) m n h = omega arith

some_step : (r : Op) (found : Option Moment) (w : Op) (ops : List Op) (m : Moment) → SomeBefore r (later_begin r found w) ops m → Takes r found w ⊎ Keeps r found w → SomeBefore r found (w ∷ ops) m
some_step r found w ops m h (inl t) =
    let by : FoundBy (Some w.begin) m = found_by m (later_begin r found w) (Some w.begin) t.0 h.after in
    record {
      from = inl (from_taken r found w ops m t h.from);
      last = All-cons (λ v. IsWriteBefore r v → v.begin.0 ≤ m.0) w ops (λ _. by) h.last;
      after = found_by_later found w.begin m by t.2;
    }
some_step r found w ops m h (inr k) =
    let by : FoundBy found m = found_by m (later_begin r found w) found k.0 h.after in
    record {
      from = from_kept r found w ops m k h.from;
      last = All-cons (λ v. IsWriteBefore r v → v.begin.0 ≤ m.0) w ops (λ b. not_later_by w found m (k.1 b) by) h.last;
      after = by;
    }

found_itself : (found : Option Moment) (m : Moment) → found ≡ Some m → FoundBy found m
found_itself found m e = found_by m (Some m) found (sym e) (omega arith)

pub last_from-Some : (r : Op) (found : Option Moment) (ops : List Op) (m : Moment) → last_from r found ops ≡ Some m → SomeBefore r found ops m
last_from-Some r found [] m e = record { from = inr e; last = All-nil _; after = found_itself found m e }
last_from-Some r found (w ∷ ops) m e = some_step r found w ops m (last_from-Some r (later_begin r found w) ops m e) (step r found w)

-- the operation is a write that precedes the read and begins at the moment, and the read returns its value
abbrev IsReturnedAt : Op → Moment → Op → Type 0
IsReturnedAt r begin w = IsWriteBefore r w × ((w.begin.0 ≡ begin.0) × (value_of w.act ≡ value_of r.act))

Decides-is_returned_at : (r : Op) (begin : Moment) (w : Op) → Decides (is_returned_at r begin w) (IsReturnedAt r begin w)
Decides-is_returned_at r begin w =
    Decides-and (is_write_before r w) _ (Decides-is_write_before r w)
    (Decides-and (eqb w.begin.0 begin.0) (same_value (value_of w.act) (value_of r.act)) (Decides-eqb w.begin.0 begin.0) (Decides-same_value (value_of w.act) (value_of r.act)))

no_write_before : (ops : List Op) (r : Op) → All (λ w. ¬ IsWriteBefore r w) ops → All (λ w. IsWrite w → ¬ Precedes w r) ops
no_write_before ops r h k d lt write before = h k d lt (write, before)

last_is : (ops : List Op) (r : Op) (m : Moment) → SomeBefore r None ops m → (w : Op) → Contains ops w → IsReturnedAt r m w → IsLastBefore ops r w
last_is ops r m some w present at = record {
  present = present;
  write = at.0.0;
  before = at.0.1;
  last = λ k d lt write before. let le = some.last k d lt (write, before) in let same = at.1.0 in omega arith;
}

returns_forward : (initial : Value) (ops : List Op) (r : Op) (x : Option Moment) → last_before ops r ≡ x → returns_of initial ops r x ≡ true → ReturnsLast initial ops r
returns_forward initial ops r None e t =
    inr (no_write_before ops r (last_from-None r None ops e).1, sym ((Decides-same_value initial (value_of r.act)).0 t))
returns_forward initial ops r (Some m) e t =
    let any = (Decides-list_any (is_returned_at r m) (IsReturnedAt r m) (Decides-is_returned_at r m) ops).0 t in
    inl (any.1, last_is ops r m (last_from-Some r None ops m e) any.1 (any.0, any.2, any.3) any.4, sym any.4.1.1)

any_of : (P : Op → Type 0) (ops : List Op) (w : Op) → Contains ops w → P w → Any P ops
any_of P ops w h p = (h.0, w, h.1, h.2, p)

all_of : (P : Op → Type 0) (ops : List Op) (w : Op) → All P ops → Contains ops w → P w
all_of P ops w all h = All-contains P ops w all h

-- the last write that precedes the read begins at the moment that was found
begins_at_found : (ops : List Op) (r w : Op) (m : Moment) → IsLastBefore ops r w → SomeBefore r None ops m → w.begin.0 ≡ m.0
begins_at_found ops r w m is some =
    let le : w.begin.0 ≤ m.0 = all_of (λ v. IsWriteBefore r v → v.begin.0 ≤ m.0) ops w some.last is.present (is.write, is.before) in
    elim some.from as (λ _. w.begin.0 ≡ m.0) [
      | inl any ↦ (let ge : any.1.begin.0 ≤ w.begin.0 = all_of (λ v. IsWrite v → Precedes v r → v.begin.0 ≤ w.begin.0) ops any.1 is.last (any.0, any.2, any.3) any.4.0.0 any.4.0.1 in
          let same : any.1.begin.0 ≡ m.0 = ap (λ (b : Moment). b.0) any.4.1 in omega arith)
      | inr e ↦ absurd (cc)
    ]

returns_backward : (initial : Value) (ops : List Op) (r : Op) (x : Option Moment) → last_before ops r ≡ x → ReturnsLast initial ops r → returns_of initial ops r x ≡ true
returns_backward initial ops r None e (inl h) =
    absurd (all_of (λ w. ¬ IsWriteBefore r w) ops h.0 (last_from-None r None ops e).1 h.1.present (h.1.write, h.1.before))
returns_backward initial ops r None e (inr h) = (Decides-same_value initial (value_of r.act)).1 (sym h.1)
returns_backward initial ops r (Some m) e (inl h) =
    (Decides-list_any (is_returned_at r m) (IsReturnedAt r m) (Decides-is_returned_at r m) ops).1
    (any_of (IsReturnedAt r m) ops h.0 h.1.present ((h.1.write, h.1.before), (begins_at_found ops r h.0 m h.1 (last_from-Some r None ops m e), sym h.2)))
returns_backward initial ops r (Some m) e (inr h) =
    elim (last_from-Some r None ops m e).from as (λ _. returns_of initial ops r (Some m) ≡ true) [
      | inl any ↦ absurd (all_of (λ w. IsWrite w → ¬ Precedes w r) ops any.1 h.0 (any.0, any.2, any.3) any.4.0.0 any.4.0.1)
      | inr f ↦ absurd (cc)
    ]

pub Decides-returns_last : (initial : Value) (ops : List Op) (r : Op) → Decides (returns_last initial ops r) (ReturnsLast initial ops r)
Decides-returns_last initial ops r =
    (returns_forward initial ops r (last_before ops r) refl, returns_backward initial ops r (last_before ops r) refl)

abbrev IsWriteOver : Op → Op → Type 0
IsWriteOver r w = IsWrite w × Overlaps w r

Decides-is_write_over : (r w : Op) → Decides (is_write_over r w) (IsWriteOver r w)
Decides-is_write_over r w = Decides-and (is_write w) (overlaps w r) (Decides-IsTrue (is_write w)) (Decides-overlaps w r)

pub Decides-overlaps_write : (ops : List Op) (r : Op) → Decides (overlaps_write ops r) (OverlapsWrite ops r)
Decides-overlaps_write ops r = Decides-list_any (is_write_over r) (IsWriteOver r) (Decides-is_write_over r) ops

contains_any : (values : List Value) (value : Value) → Any (λ v. v ≡ value) values → Contains values value
contains_any values value h = subst (λ (v : Value). Contains values v) h.4 (h.0, h.2, h.3)

pub Decides-is_allowed : (domain : Option (List Value)) (initial value : Value) → Decides (is_allowed domain initial value) (IsAllowed domain initial value)
Decides-is_allowed None initial value = (λ _. tt, λ _. refl)
Decides-is_allowed (Some values) initial value =
    Decides-or _ (same_value initial value)
    (Decides-like _ (contains_any values value) (λ h. (h.0, value, h.1, h.2, refl))
    (Decides-list_any (λ v. same_value v value) (λ v. v ≡ value) (λ v. Decides-same_value v value) values))
    (Decides-like (same_value initial value) sym sym (Decides-same_value initial value))

-- where a test decides a fact, a choice by the test decides what is so in both cases
Decides-either : {A B C : Type 0} (t a b : Bool) → Decides t A → Decides a B → Decides b C → Decides (if t then a else b) ((¬ A → C) × (A → B))
Decides-either true a b dt da db = (λ e. (λ n. absurd (n (dt.0 refl)), λ _. da.0 e), λ h. da.1 (h.1 (dt.0 refl)))
Decides-either false a b dt da db = (λ e. (λ _. db.0 e, λ h. absurd (not_from_Decides false dt refl h)), λ h. db.1 (h.0 (not_from_Decides false dt refl)))

pub Decides-is_safe_read : (claim : ClaimModel) (ops : List Op) (r : Op) → Decides (is_safe_read claim ops r) (IsSafeRead claim ops r)
Decides-is_safe_read claim ops r =
    Decides-either (overlaps_write ops r) _ _ (Decides-overlaps_write ops r) (Decides-is_allowed claim.domain claim.initial (value_of r.act)) (Decides-returns_last claim.initial ops r)

abbrev IsReturnedOver : Op → Op → Type 0
IsReturnedOver r w = IsWrite w × Overlaps w r × (value_of r.act ≡ value_of w.act)

Decides-is_returned_over : (r w : Op) → Decides (is_returned_over r w) (IsReturnedOver r w)
Decides-is_returned_over r w =
    Decides-like (is_returned_over r w) (λ (h : IsWriteOver r w × (value_of w.act ≡ value_of r.act)). (h.0.0, h.0.1, sym h.1)) (λ h. ((h.0, h.1), sym h.2))
    (Decides-and (is_write_over r w) (same_value (value_of w.act) (value_of r.act)) (Decides-is_write_over r w) (Decides-same_value (value_of w.act) (value_of r.act)))

pub Decides-is_regular_read : (claim : ClaimModel) (ops : List Op) (r : Op) → Decides (is_regular_read claim ops r) (IsRegularRead claim ops r)
Decides-is_regular_read claim ops r =
    Decides-or _ (returns_last claim.initial ops r)
    (Decides-list_any (is_returned_over r) (IsReturnedOver r) (Decides-is_returned_over r) ops)
    (Decides-returns_last claim.initial ops r)
