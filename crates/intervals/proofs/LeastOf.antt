-- What `least_by` finds is the operation of least key that passes the test.
use Rattle.std.proofs.Common.{◌≡◌, ℕ, ◌≤◌, ◌⊎◌, inl, inr, Bool, true, false, List, [], ◌∷◌, Option, Some, None, refl, sym, ap, subst, ◌∙◌, arith, ltb}
use Rattle.std.specs.Prelude.{All, Any, Contains, IsTrue}
use Rattle.std.proofs.lemmas.Bool.Decides.{Decides-ltb, not_from_Decides}
use Rattle.std.proofs.lemmas.List.Elements.{All-head, All-tail, All-cons, All-nil, All-contains}
use Rattle.intervals.specs.declared.operation.Op.{Op}
use Rattle.intervals.specs.Least.{is_less, less_of, least_from, least_by, IsLeast}
use Rattle.intervals.proofs.Agreement.{any_here, any_there}
use Rattle.intervals.proofs.Members.{all_from}

module _ (key : Op → ℕ) (test : Op → Bool) where
  -- the optional one found so far has no lesser key
  abbrev pub From : ℕ → Option Op → Type 0
  From least None = Unit {0}
  From least (Some found) = least ≤ key found

  abbrev pub NotLess : Op → Option Op → Type 0
  NotLess op None = ⊥
  NotLess op (Some found) = key found ≤ key op

  abbrev pub Taken : Option Op → Op → Type 0
  Taken found op = (less_of key test found op ≡ Some op) × IsTrue (test op) × From (key op) found

  abbrev pub Left : Option Op → Op → Type 0
  Left found op = (less_of key test found op ≡ found) × (IsTrue (test op) → NotLess op found)

  from_less : (op : Op) (found : Option Op) → is_less key op found ≡ true → From (key op) found
  from_less op None e = tt
  from_less op (Some found) e = let h = (Decides-ltb (key op) (key found)).0 e in omega arith

  not_less : (op : Op) (found : Option Op) → is_less key op found ≡ false → NotLess op found
  not_less op None e = absurd (cc)
  not_less op (Some found) e = let h = not_from_Decides (ltb (key op) (key found)) (Decides-ltb (key op) (key found)) e in omega arith

  turn_cases : (found : Option Op) (op : Op) (b l : Bool) → test op ≡ b → is_less key op found ≡ l → Taken found op ⊎ Left found op
  turn_cases found op true true e f = inl (rw (e, f) refl, e, from_less op found f)
  turn_cases found op true false e f = inr (rw (e, f) refl, λ _. not_less op found f)
  turn_cases found op false l e f = inr (rw e refl, λ h. absurd (cc))

  turn : (found : Option Op) (op : Op) → Taken found op ⊎ Left found op
  turn found op = turn_cases found op (test op) (is_less key op found) refl refl

  -- nothing is found, and no operation of the list passes
  abbrev pub NonePasses : Option Op → List Op → Type 0
  NonePasses found ops = (found ≡ None) × All (λ op. ¬ IsTrue (test op)) ops

  none_turn : (found : Option Op) (op : Op) (ops : List Op) → NonePasses (less_of key test found op) ops → Taken found op ⊎ Left found op → NonePasses found (op ∷ ops)
  none_turn found op ops h (inl t) = absurd (let e = sym t.0 ∙ h.0 in cc)
  none_turn None op ops h (inr l) = (refl, All-cons (λ o. ¬ IsTrue (test o)) op ops l.1 h.1)
  none_turn (Some found) op ops h (inr l) = absurd (let e = sym l.0 ∙ h.0 in cc)

  pub least_from-None : (found : Option Op) (ops : List Op) → least_from key test found ops ≡ None → NonePasses found ops
  least_from-None found [] e = (e, All-nil _)
  least_from-None found (op ∷ ops) e = none_turn found op ops (least_from-None (less_of key test found op) ops e) (turn found op)

  kept : (found : Option Op) (op : Op) → ¬ IsTrue (test op) → Taken found op ⊎ Left found op → less_of key test found op ≡ found
  kept found op h (inl t) = absurd (h t.1)
  kept found op h (inr l) = l.0

  -- where none passes, the one found so far stays
  pub least_from-none : (found : Option Op) (ops : List Op) → All (λ op. ¬ IsTrue (test op)) ops → least_from key test found ops ≡ found
  least_from-none found [] h = refl
  least_from-none found (op ∷ ops) h =
      least_from-none (less_of key test found op) ops (All-tail (λ o. ¬ IsTrue (test o)) op ops h)
      ∙ kept found op (All-head (λ o. ¬ IsTrue (test o)) op ops h) (turn found op)

  abbrev pub Is : Op → Op → Type 0
  Is least op = IsTrue (test op) × (op ≡ least)

  pub record SomeLeast (found : Option Op) (ops : List Op) (least : Op) : Type 0 where
    pub from : Any (Is least) ops ⊎ (found ≡ Some least)
    pub least_one : All (λ op. IsTrue (test op) → key least ≤ key op) ops
    pub before : From (key least) found

  from_same : (least : Op) (f g : Option Op) → f ≡ g → From (key least) f → From (key least) g
  from_same least f g e h = subst (λ (x : Option Op). From (key least) x) e h

  from_lower : (found : Option Op) (a b : ℕ) → a ≤ b → From b found → From a found
  from_lower None a b le h = tt
  from_lower (Some f) a b le h = omega arith

  not_less_from : (op : Op) (found : Option Op) (least : ℕ) → NotLess op found → From least found → least ≤ key op
  not_less_from op None least n h = absurd n
  not_less_from op (Some f) least n h = omega arith

  any_taken : (found : Option Op) (op : Op) (ops : List Op) (least : Op) → Taken found op → Any (Is least) ops ⊎ (less_of key test found op ≡ Some least) → Any (Is least) (op ∷ ops)
  any_taken found op ops least t (inl any) = any_there (Is least) op ops any
  any_taken found op ops least t (inr e) = any_here (Is least) op ops (t.1, (let f = sym t.0 ∙ e in cc))

  any_left : (found : Option Op) (op : Op) (ops : List Op) (least : Op) → Left found op → Any (Is least) ops ⊎ (less_of key test found op ≡ Some least) → Any (Is least) (op ∷ ops) ⊎ (found ≡ Some least)
  any_left found op ops least l (inl any) = inl (any_there (Is least) op ops any)
  any_left found op ops least l (inr e) = inr (sym l.0 ∙ e)

  some_turn : (found : Option Op) (op : Op) (ops : List Op) (least : Op) → SomeLeast (less_of key test found op) ops least → Taken found op ⊎ Left found op → SomeLeast found (op ∷ ops) least
  some_turn found op ops least h (inl t) =
      let by : From (key least) (Some op) = from_same least (less_of key test found op) (Some op) t.0 h.before in
      record {
        from = inl (any_taken found op ops least t h.from);
        least_one = All-cons (λ o. IsTrue (test o) → key least ≤ key o) op ops (λ _. by) h.least_one;
        before = from_lower found (key least) (key op) by t.2;
      }
  some_turn found op ops least h (inr l) =
      let by : From (key least) found = from_same least (less_of key test found op) found l.0 h.before in
      record {
        from = any_left found op ops least l h.from;
        least_one = All-cons (λ o. IsTrue (test o) → key least ≤ key o) op ops (λ passes. not_less_from op found (key least) (l.1 passes) by) h.least_one;
        before = by;
      }

  pub least_from-Some : (found : Option Op) (ops : List Op) (least : Op) → least_from key test found ops ≡ Some least → SomeLeast found ops least
  least_from-Some found [] least e = record { from = inr e; least_one = All-nil _; before = from_same least (Some least) found (sym e) (omega arith) }
  least_from-Some found (op ∷ ops) least e = some_turn found op ops least (least_from-Some (less_of key test found op) ops least e) (turn found op)

  is_least : (ops : List Op) (least : Op) → SomeLeast None ops least → Any (Is least) ops ⊎ (None ≡ Some least) → IsLeast key test ops least
  is_least ops least h (inl any) = record {
    present = subst (λ (o : Op). Contains ops o) any.4.1 (any.0, any.2, any.3);
    passes = subst (λ (o : Op). IsTrue (test o)) any.4.1 any.4.0;
    least = h.least_one;
  }
  is_least ops least h (inr e) = absurd (cc)

  pub least_by-IsLeast : (ops : List Op) (least : Op) → least_by key test ops ≡ Some least → IsLeast key test ops least
  least_by-IsLeast ops least e = let h = least_from-Some None ops least e in is_least ops least h h.from

  -- operations that pass have different keys
  abbrev pub AreTold : List Op → Type 0
  AreTold ops = (a b : Op) → Contains ops a → Contains ops b → IsTrue (test a) → IsTrue (test b) → key a ≡ key b → a ≡ b

  pub none_least : (ops : List Op) → ((op : Op) → Contains ops op → ¬ IsTrue (test op)) → least_by key test ops ≡ None
  none_least ops none = least_from-none None ops (all_from (λ op. ¬ IsTrue (test op)) ops none)

  pub least_is : (ops : List Op) (op : Op) → AreTold ops → IsLeast key test ops op → least_by key test ops ≡ Some op
  least_is ops op told is = by_cases (least_by key test ops) refl
    where
      by_cases : (found : Option Op) → least_by key test ops ≡ found → least_by key test ops ≡ Some op
      by_cases None e = absurd (All-contains (λ o. ¬ IsTrue (test o)) ops op (least_from-None None ops e).1 is.present is.passes)
      by_cases (Some other) e =
          let it = least_by-IsLeast ops other e in
          let le : key op ≤ key other = All-contains (λ o. IsTrue (test o) → key op ≤ key o) ops other is.least it.present it.passes in
          let ge : key other ≤ key op = All-contains (λ o. IsTrue (test o) → key other ≤ key o) ops op it.least is.present is.passes in
          e ∙ ap Some (told other op it.present is.present it.passes is.passes (omega arith))

  -- a part of the list has the same least one, if for each that passes it has one that passes with no greater key
  pub least_among : (ops few : List Op) → AreTold ops → ((op : Op) → Contains few op → Contains ops op)
      → ((op : Op) → Contains ops op → IsTrue (test op) → (best : Op) × Contains few best × IsTrue (test best) × (key best ≤ key op))
      → least_by key test ops ≡ least_by key test few
  least_among ops few told stand best = by_cases (least_by key test few) refl
    where
      by_cases : (found : Option Op) → least_by key test few ≡ found → least_by key test ops ≡ least_by key test few
      by_cases None e = none_least ops (λ op h passes. let b = best op h passes in All-contains (λ o. ¬ IsTrue (test o)) few b.0 (least_from-None None few e).1 b.1 b.2) ∙ sym e
      by_cases (Some one) e =
          let it = least_by-IsLeast few one e in
          least_is ops one told (record {
            present = stand one it.present;
            passes = it.passes;
            least = all_from (λ o. IsTrue (test o) → key one ≤ key o) ops (λ o h passes.
                let b = best o h passes in
                let le : key one ≤ key b.0 = All-contains (λ x. IsTrue (test x) → key one ≤ key x) few b.0 it.least b.1 b.2 in
                let le' : key b.0 ≤ key o = b.3 in omega arith);
          }) ∙ sym e
