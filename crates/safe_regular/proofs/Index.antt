-- A look-up among moments finds the last or the first of the writes with a property.
use Rattle.std.proofs.Common.{◌≡◌, ◌≢◌, ℕ, ◌+◌, ◌<◌, ◌≤◌, ◌⊎◌, inl, inr, List, Option, Some, None, sym, ap, subst, ◌∙◌, arith}
use Rattle.std.specs.Prelude.{Contains}
use Rattle.std.proofs.lemmas.Bool.{cases_lt, cases_eq}
use Rattle.intervals.specs.declared.operation.Op.{Op}
use Rattle.intervals.specs.declared.operation.OpId.{OpId}
use Rattle.intervals.specs.declared.operation.Moment.{Moment}
use Rattle.intervals.specs.Operation.{IsWrite}
use Rattle.safe_regular.specs.LookUp.{BeginsFrom, BeginsAfter, NoneFits, IsLastWrite, IsFirstWrite, IsFirstWriteOf}
use Rattle.safe_regular.specs.Writes.{IsAdded}
use Rattle.safe_regular.specs.Index.{IsIndex, IsLastAt, IsFirstAt}
use Rattle.intervals.proofs.Members.{same_moment}

-- a property of writes, `Fits`, that is one of their beginnings, `Q`
module _ (Fits : Op → Type 0) (Q : Moment → Type 0) (says : (w : Op) → Fits w → Q w.begin) (met : (w : Op) → Q w.begin → Fits w)
    (ops : List Op) (at : Moment → Option OpId) (index : IsIndex ops at) where
  -- where no moment with Q has an id, no write has the property
  pub none_indexed : ((m : Moment) → Q m → at m ≡ None) → NoneFits Fits ops
  none_indexed none w present write fits =
      let e = none w.begin (says w fits) in
      let f = index.there w present write in
      absurd (cc)

  module _ (one : (v w : Op) → Contains ops v → Contains ops w → v.id ≡ w.id → v ≡ w) (m : Moment) (id : OpId) (found : Op) (present : Contains ops found) (own : found.id ≡ id) where
    abbrev pub IsThat : Type 0
    IsThat = IsWrite found × (found.begin ≡ m)

    -- the operation of the id found is a write that begins at that moment
    is_that : at m ≡ Some id → IsThat
    is_that e =
        let w = index.back m id e in
        subst (λ (o : Op). IsWrite o × (o.begin ≡ m)) (one w.0 found w.1 present (w.4 ∙ sym own)) (w.2, w.3)

    pub last_indexed : IsLastAt Q at m id → IsLastWrite Fits ops found
    last_indexed is =
        let it : IsThat = is_that is.present in
        record {
          present = present;
          write = it.0;
          fits = met found (subst (λ (n : Moment). Q n) (sym it.1) is.here);
          last = λ w sw ww fits. by_cases w sw ww fits it.1 (cases_lt found.begin.0 w.begin.0);
        }
      where
        by_cases : (w : Op) → Contains ops w → IsWrite w → Fits w → found.begin ≡ m → (found.begin.0 < w.begin.0) ⊎ (w.begin.0 ≤ found.begin.0) → w.begin.0 ≤ found.begin.0
        by_cases w sw ww fits e (inr le) = le
        by_cases w sw ww fits e (inl lt) = absurd (
            let none = is.last w.begin (says w fits) (let b = ap (λ (n : Moment). n.0) e in omega arith) in
            let some = index.there w sw ww in cc)

    pub first_indexed : IsFirstAt Q at m id → IsFirstWrite Fits ops found
    first_indexed is =
        let it : IsThat = is_that is.present in
        record {
          present = present;
          write = it.0;
          fits = met found (subst (λ (n : Moment). Q n) (sym it.1) is.here);
          first = λ w sw ww fits. by_cases w sw ww fits it.1 (cases_lt w.begin.0 found.begin.0);
        }
      where
        by_cases : (w : Op) → Contains ops w → IsWrite w → Fits w → found.begin ≡ m → (w.begin.0 < found.begin.0) ⊎ (found.begin.0 ≤ w.begin.0) → found.begin.0 ≤ w.begin.0
        by_cases w sw ww fits e (inr le) = le
        by_cases w sw ww fits e (inl lt) = absurd (
            let none = is.first w.begin (says w fits) (let b = ap (λ (n : Moment). n.0) e in omega arith) in
            let some = index.there w sw ww in cc)

-- an index of the others, and a write w beside them: each of the others begins at another moment
module _ (others : List Op) (w : Op) (ops : List Op) (is : IsAdded others w ops) (write : IsWrite w) where
  -- with the id of w at its beginning it is an index of the list
  pub index_with : (at new : Moment → Option OpId) → IsIndex others at → new w.begin ≡ Some w.id → ((m : Moment) → m.0 ≢ w.begin.0 → new m ≡ at m) → IsIndex ops new
  index_with at new index here kept = record {
    there = λ v sv wv. by_cases v wv (is.only v wv sv);
    back = λ m id e. by_moment m id e (cases_eq m.0 w.begin.0);
  }
    where
      by_cases : (v : Op) → IsWrite v → Contains others v ⊎ (v ≡ w) → new v.begin ≡ Some v.id
      by_cases v wv (inl present) = kept v.begin (is.apart write v present wv) ∙ index.there v present wv
      by_cases v wv (inr e) = subst (λ (o : Op). new o.begin ≡ Some o.id) (sym e) here

      by_moment : (m : Moment) (id : OpId) → new m ≡ Some id → (m.0 ≡ w.begin.0) ⊎ (m.0 ≢ w.begin.0) → (v : Op) × Contains ops v × IsWrite v × (v.begin ≡ m) × (v.id ≡ id)
      by_moment m id e (inl same) =
          let at_w : w.begin ≡ m = same_moment w.begin m (sym same) in
          (w, is.added write, write, at_w, (let f = ap new at_w in cc))
      by_moment m id e (inr other) =
          let v = index.back m id (sym (kept m other) ∙ e) in
          (v.0, is.kept v.0 v.2 v.1, v.2, v.3, v.4)

  -- without the id at the beginning of w an index of the list is one of the others
  pub index_without : (at new : Moment → Option OpId) → IsIndex ops at → new w.begin ≡ None → ((m : Moment) → m.0 ≢ w.begin.0 → new m ≡ at m) → IsIndex others new
  index_without at new index gone kept = record {
    there = λ v sv wv. kept v.begin (is.apart write v sv wv) ∙ index.there v (is.kept v wv sv) wv;
    back = λ m id e. by_moment m id e (cases_eq m.0 w.begin.0);
  }
    where
      by_moment : (m : Moment) (id : OpId) → new m ≡ Some id → (m.0 ≡ w.begin.0) ⊎ (m.0 ≢ w.begin.0) → (v : Op) × Contains others v × IsWrite v × (v.begin ≡ m) × (v.id ≡ id)
      by_moment m id e (inl same) = absurd (let f = ap new (same_moment m w.begin same) in cc)
      by_moment m id e (inr other) =
          let v = index.back m id (sym (kept m other) ∙ e) in by_cases v.0 v.2 v.3 v.4 (is.only v.0 v.2 v.1)
        where
          by_cases : (v : Op) → IsWrite v → v.begin ≡ m → v.id ≡ id → Contains others v ⊎ (v ≡ w) → (v : Op) × Contains others v × IsWrite v × (v.begin ≡ m) × (v.id ≡ id)
          by_cases v wv b i (inl present) = (v, present, wv, b, i)
          by_cases v wv b i (inr same) = absurd (other (ap (λ (n : Moment). n.0) (sym b) ∙ ap (λ (o : Op). o.begin.0) same))
