-- The next write by beginning: by an index of the writes, and by a search of all operations.
use Rattle.std.proofs.Common.{◌≡◌, ◌==◌, ◌<◌, ◌≤◌, ◌⊎◌, inl, inr, Bool, true, false, not, ◌&&◌, List, [], ◌∷◌, ◌++◌, Option, Some, None, refl, sym, ap, subst, ◌∙◌, cond, arith}
use Rattle.std.specs.Prelude.{Contains, IfSome, IsSomeAnd, find, is_some, option_map}
use Rattle.std.proofs.lemmas.Bool.{and_parts, cases_order}
use Rattle.std.proofs.lemmas.Bool.Decides.{Decides-eqb}
use Rattle.std.proofs.lemmas.List.Elements.{All-contains, All-push, Contains-append_left, Contains-push}
use Rattle.intervals.specs.declared.operation.Op.{Op}
use Rattle.intervals.specs.declared.operation.OpId.{OpId}
use Rattle.intervals.specs.declared.operation.Moment.{Moment}
use Rattle.intervals.specs.declared.ordered_index.OrderedIndex.{OrderedIndex}
use Rattle.intervals.specs.declared.ordered_index.Spot.{Spot}
use Rattle.intervals.specs.Edit.{op_of}
use Rattle.intervals.specs.InTurn.{AreWritesByBegin, IsNextWrite, begins_then, spot_then}
use Rattle.intervals.specs.Moments.{IsLaterThan}
use Rattle.intervals.specs.Operation.{IsWrite, is_write}
use Rattle.intervals.specs.OrderedIndex.{id_at, id_if_there, place_at, same_spot}
use Rattle.intervals.specs.Standing.{HasDistinctIds}
use Rattle.intervals.proofs.Found.{find-None, find-Some, not_mapped}
use Rattle.intervals.proofs.Ids.{found_by_id}
use Rattle.intervals.proofs.Members.{all_from, same_moment}
use Rattle.intervals.proofs.Repeats.{find_at, find_past}

pub none_there : (o : Option OpId) (r : Bool) → is_some o ≡ not r → r ≡ true → o ≡ None
none_there None r e f = refl
none_there (Some id) r e f = absurd (cc)

pub some_there : (o : Option OpId) (r : Bool) → is_some o ≡ not r → r ≡ false → (id : OpId) × (o ≡ Some id)
some_there None r e f = absurd (cc)
some_there (Some id) r e f = (id, refl)

begins_itself : (w : Op) → IsWrite w → begins_then w.begin w ≡ true
begins_itself w write = rw (write, (Decides-eqb w.begin.0 w.begin.0).1 refl) refl

find_still : (p : Op → Bool) (ops : List Op) (op w : Op) → find p ops ≡ Some w → find p (ops ++ op ∷ []) ≡ Some w
find_still p [] op w e = absurd (cc)
find_still p (a ∷ ops) op w e = by_cases (p a) e (find_still p ops op w)
  where
    by_cases : (t : Bool) → cond t (Some a) (find p ops) ≡ Some w → (find p ops ≡ Some w → find p (ops ++ op ∷ []) ≡ Some w) → cond t (Some a) (find p (ops ++ op ∷ [])) ≡ Some w
    by_cases true e rest = e
    by_cases false e rest = rest e

-- the index with one more operation in the list
module _ (before : List Op) (op : Op) where
  -- a read does not change the index
  pub turn_with_read : (shelf : OrderedIndex) → AreWritesByBegin shelf before → is_write op ≡ false → AreWritesByBegin shelf (before ++ op ∷ [])
  turn_with_read shelf are read m = are m ∙ ap (option_map (λ (w : Op). w.id)) (sym (find_past (begins_then m) before op (rw read refl)))

  other_begin : (m : Moment) → (op.begin.0 == m.0) ≡ false → begins_then m op ≡ false
  other_begin m f = by_cases (is_write op)
    where
      by_cases : (t : Bool) → (t && (op.begin.0 == m.0)) ≡ false
      by_cases true = f
      by_cases false = refl

  -- nor does a write where the index has one at its beginning
  pub turn_with_second : (shelf : OrderedIndex) (id : OpId) → AreWritesByBegin shelf before → id_at shelf (spot_then op.begin) ≡ Some id → AreWritesByBegin shelf (before ++ op ∷ [])
  turn_with_second shelf id are taken m = are m ∙ ap (option_map (λ (w : Op). w.id)) (by_moment (op.begin.0 == m.0) refl)
    where
      by_found : (found : Option Op) → find (begins_then op.begin) before ≡ found → find (begins_then op.begin) before ≡ find (begins_then op.begin) (before ++ op ∷ [])
      by_found None e = let none = are op.begin ∙ ap (option_map (λ (w : Op). w.id)) e in absurd (cc)
      by_found (Some w) e = e ∙ sym (find_still (begins_then op.begin) before op w e)

      by_moment : (t : Bool) → (op.begin.0 == m.0) ≡ t → find (begins_then m) before ≡ find (begins_then m) (before ++ op ∷ [])
      by_moment true t =
          let same : op.begin ≡ m = same_moment op.begin m ((Decides-eqb op.begin.0 m.0).0 t) in
          subst (λ (n : Moment). find (begins_then n) before ≡ find (begins_then n) (before ++ op ∷ [])) same (by_found (find (begins_then op.begin) before) refl)
      by_moment false f = sym (find_past (begins_then m) before op (other_begin m f))

  -- a write is put at its beginning
  pub turn_with_write : (shelf held new : OrderedIndex) → AreWritesByBegin shelf before → is_write op ≡ true → id_at shelf (spot_then op.begin) ≡ None
      → ((other : Spot) → id_at held other ≡ id_at shelf other)
      → ((other : Spot) → place_at new other ≡ cond (same_spot (spot_then op.begin) other) (Some (Some op.id)) (place_at held other))
      → AreWritesByBegin new (before ++ op ∷ [])
  turn_with_write shelf held new are write none same put m = ap id_if_there (put (spot_then m)) ∙ by_moment (op.begin.0 == m.0) refl
    where
      by_moment : (t : Bool) → (op.begin.0 == m.0) ≡ t → id_if_there (cond (true && t) (Some (Some op.id)) (place_at held (spot_then m))) ≡ option_map (λ (w : Op). w.id) (find (begins_then m) (before ++ op ∷ []))
      by_moment true t =
          let begins : op.begin ≡ m = same_moment op.begin m ((Decides-eqb op.begin.0 m.0).0 t) in
          let empty : find (begins_then m) before ≡ None = not_mapped (λ (w : Op). w.id) (find (begins_then m) before) (sym (are m) ∙ subst (λ (n : Moment). id_at shelf (spot_then n) ≡ None) begins none) in
          ap (option_map (λ (w : Op). w.id)) (sym (find_at (begins_then m) before op (rw (write, t) refl) empty))
      by_moment false f = same (spot_then m) ∙ are m ∙ ap (option_map (λ (w : Op). w.id)) (sym (find_past (begins_then m) before op (other_begin m f)))

-- the next write, by the index
module _ (ops : List Op) (ids : HasDistinctIds ops) (shelf : OrderedIndex) (are : AreWritesByBegin shelf ops) (after : Option Moment) where
  -- where the index has no id, no write begins
  none_begins : (w : Op) → Contains ops w → IsWrite w → ¬ (id_at shelf (spot_then w.begin) ≡ None)
  none_begins w present write e =
      let none = find-None (begins_then w.begin) ops (not_mapped (λ (w : Op). w.id) (find (begins_then w.begin) ops) (sym (are w.begin) ∙ e)) in
      let f = All-contains (λ op. begins_then w.begin op ≡ false) ops w none present in
      let t = begins_itself w write in
      cc

  pub none_next : ((m : Moment) → IsLaterThan after m → id_at shelf (spot_then m) ≡ None) → IsNextWrite ops after None
  none_next none = all_from (λ w. IsWrite w → ¬ IsLaterThan after w.begin) ops (λ w present write following. none_begins w present write (none w.begin following))

  pub next_found : (m : Moment) (id : OpId) (found : Option Op) → IsLaterThan after m → id_at shelf (spot_then m) ≡ Some id → ((n : Moment) → IsLaterThan after n → n.0 < m.0 → id_at shelf (spot_then n) ≡ None) → found ≡ op_of ops id → IsNextWrite ops after found
  next_found m id found following there none is = by_found (find (begins_then m) ops) refl
    where
      by_order : (w v : Op) → w.begin.0 ≡ m.0 → Contains ops v → IsWrite v → IsLaterThan after v.begin → (v.begin.0 ≡ m.0) ⊎ ((v.begin.0 < m.0) ⊎ (m.0 < v.begin.0)) → w.begin.0 ≤ v.begin.0
      by_order w v b present write after_it (inl e) = omega arith
      by_order w v b present write after_it (inr (inl lt)) = absurd (none_begins v present write (none v.begin after_it lt))
      by_order w v b present write after_it (inr (inr gt)) = omega arith

      by_found : (o : Option Op) → find (begins_then m) ops ≡ o → IsNextWrite ops after found
      by_found None e = let lost = sym there ∙ (are m ∙ ap (option_map (λ (w : Op). w.id)) e) in absurd (cc)
      by_found (Some w) e =
          let h = find-Some (begins_then m) ops w e in
          let parts = and_parts (is_write w) (w.begin.0 == m.0) h.1 in
          let begins : w.begin.0 ≡ m.0 = (Decides-eqb w.begin.0 m.0).0 parts.1 in
          let named : w.id ≡ id = (let f = sym there ∙ (are m ∙ ap (option_map (λ (w : Op). w.id)) e) in cc) in
          let it : found ≡ Some w = is ∙ (ap (op_of ops) (sym named) ∙ found_by_id ops w ids h.0) in
          subst (IsNextWrite ops after) (sym it) (
            h.0,
            parts.0,
            subst (IsLaterThan after) (sym (same_moment w.begin m begins)) following,
            all_from (λ v. IsWrite v → IsLaterThan after v.begin → w.begin.0 ≤ v.begin.0) ops (λ v present write after_it. by_order w v begins present write after_it (cases_order v.begin.0 m.0)),
          )

-- the next write, with one more operation among those that were searched
module _ (ops : List Op) (after : Option Moment) (op : Op) where
  pub next_with : (next : Option Op) → IsNextWrite ops after next → IsWrite op × IsLaterThan after op.begin × IfSome next (λ n. op.begin.0 < n.begin.0) → IsNextWrite (ops ++ op ∷ []) after (Some op)
  next_with None none (write, following, sooner) = (
    Contains-push ops op,
    write,
    following,
    All-push (λ v. IsWrite v → IsLaterThan after v.begin → op.begin.0 ≤ v.begin.0) ops op
        (all_from (λ v. IsWrite v → IsLaterThan after v.begin → op.begin.0 ≤ v.begin.0) ops (λ v present wv bv. absurd (All-contains (λ w. IsWrite w → ¬ IsLaterThan after w.begin) ops v none present wv bv)))
        (λ wv bv. omega arith),
  )
  next_with (Some n) (present, wn, bn, least) (write, following, sooner) = (
    Contains-push ops op,
    write,
    following,
    All-push (λ v. IsWrite v → IsLaterThan after v.begin → op.begin.0 ≤ v.begin.0) ops op
        (all_from (λ v. IsWrite v → IsLaterThan after v.begin → op.begin.0 ≤ v.begin.0) ops (λ v sv wv bv.
        let le = All-contains (λ v. IsWrite v → IsLaterThan after v.begin → n.begin.0 ≤ v.begin.0) ops v least sv wv bv in omega arith))
        (λ wv bv. omega arith),
  )

  pub next_still : (next : Option Op) → IsNextWrite ops after next → (IsWrite op → IsLaterThan after op.begin → IsSomeAnd next (λ n. n.begin.0 ≤ op.begin.0)) → IsNextWrite (ops ++ op ∷ []) after next
  next_still None none later = All-push (λ w. IsWrite w → ¬ IsLaterThan after w.begin) ops op none (λ write following. later write following)
  next_still (Some n) (present, wn, bn, least) later = (
    Contains-append_left ops (op ∷ []) n present,
    wn,
    bn,
    All-push (λ v. IsWrite v → IsLaterThan after v.begin → n.begin.0 ≤ v.begin.0) ops op least later,
  )
