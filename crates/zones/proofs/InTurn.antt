-- Where a register is faultless, an order in turn is an arrangement.
use Rattle.std.proofs.Common.{◌≡◌, ◌≢◌, ◌<◌, ◌≤◌, ◌⊎◌, inl, inr, true, false, List, [], ◌∷◌, Option, Some, None, refl, sym, ap, subst, ◌∙◌, arith}
use Rattle.std.specs.Prelude.{All, Contains, IfSome, IsPermutation, is_some, map}
use Rattle.std.proofs.lemmas.Bool.{cases_Bool}
use Rattle.std.proofs.lemmas.List.Elements.{All-contains}
use Rattle.std.proofs.lemmas.List.Sorted.{IsPermutation-sym, Contains-permutation}
use Rattle.intervals.specs.declared.operation.Op.{Op}
use Rattle.intervals.specs.declared.operation.Moment.{Moment}
use Rattle.intervals.specs.declared.operation.Act.{Act}
use Rattle.intervals.specs.declared.operation.Act.TheVariants.{Read, Write}
use Rattle.intervals.specs.declared.operation.Value.{Value}
use Rattle.intervals.specs.Operation.{EndsBefore, Precedes, IsWrite, IsJudgedRead, is_write, is_write_act, value_of, judged, writes}
use Rattle.intervals.specs.Kind.{KeepsPrecedence, ReadsNearest, Finds, value_after}
use Rattle.intervals.specs.Standing.{HasDistinctMoments, HasEndsAfterBeginnings}
use Rattle.zone_tree.specs.declared.edge.Edge.{Edge}
use Rattle.zone_tree.specs.declared.edge.Edge.TheVariants.{At}
use Rattle.zone_tree.specs.Edge.{ComesBefore}
use Rattle.zone_tree.specs.Zone.{Conflicts}
use Rattle.zones.specs.Cluster.{edge_of_end, least_end_of, greatest_begin_of, zone_of, written_values, zones_of}
use Rattle.zones.specs.Fault.{IsUnwritten, IsEarly, IsFaultless}
use Rattle.zones.specs.Turn.{left_of, StandInTurn, IsInTurn}
use Rattle.zones.proofs.EdgeOrder.{AtMost, at_most_transitive, at_most_both, before_all, before_irreflexive, before_not_after, not_after_before}
use Rattle.zones.proofs.Members.{value_cases, here, there, in_none, contains_cases, kept, kept_present, all_from, mapped, pair_of, by_recursion_from, from_recursion}
use Rattle.zones.proofs.Cluster.{edge_from_end, EdgeIn, left, left_in, left_initial, left_is, left_at_most_least, left_at_most_greatest, least_at_most, greatest_at_least, settle, value_is, conflict_is}
use Rattle.zones.proofs.Judged.{is_judged, judged_write, is_judged_by_end}

-- a write of the value, or none
find_write : (v : Value) (xs : List Op) → ((w : Op) × Contains xs w × IsWrite w × (value_of w.act ≡ v)) ⊎ ((w : Op) → Contains xs w → IsWrite w → value_of w.act ≢ v)
find_write v [] = inr (λ w h. absurd (in_none w h))
find_write v (a ∷ xs) = by_cases (cases_Bool (is_write a)) (value_cases (value_of a.act) v) (find_write v xs)
  where
    by_rest : (IsWrite a → value_of a.act ≢ v) → ((w : Op) × Contains xs w × IsWrite w × (value_of w.act ≡ v)) ⊎ ((w : Op) → Contains xs w → IsWrite w → value_of w.act ≢ v) → ((w : Op) × Contains (a ∷ xs) w × IsWrite w × (value_of w.act ≡ v)) ⊎ ((w : Op) → Contains (a ∷ xs) w → IsWrite w → value_of w.act ≢ v)
    by_rest n (inl (w, h, t, e)) = inl (w, there a xs w h, t, e)
    by_rest n (inr none) = inr (λ w h. by_place w (contains_cases a xs w h))
      where
        by_place : (w : Op) → (a ≡ w) ⊎ Contains xs w → IsWrite w → value_of w.act ≢ v
        by_place w (inl e) = subst (λ (o : Op). IsWrite o → value_of o.act ≢ v) e n
        by_place w (inr h) = none w h

    by_cases : (is_write a ≡ true) ⊎ (is_write a ≡ false) → (value_of a.act ≡ v) ⊎ (value_of a.act ≢ v) → ((w : Op) × Contains xs w × IsWrite w × (value_of w.act ≡ v)) ⊎ ((w : Op) → Contains xs w → IsWrite w → value_of w.act ≢ v) → ((w : Op) × Contains (a ∷ xs) w × IsWrite w × (value_of w.act ≡ v)) ⊎ ((w : Op) → Contains (a ∷ xs) w → IsWrite w → value_of w.act ≢ v)
    by_cases (inl t) (inl e) rest = inl (a, here a xs, t, e)
    by_cases (inl t) (inr n) rest = by_rest (λ _. n) rest
    by_cases (inr f) c rest = by_rest (λ t. absurd (let x : true ≡ false = sym t ∙ f in cc)) rest

ends_late : (end : Option Moment) (b c : Moment) → IfSome end (λ e. c.0 < e.0) → EndsBefore end b → b.0 ≤ c.0 → ⊥
ends_late None b c h p le = p
ends_late (Some end) b c h p le = omega arith

module _ (initial : Value) (ops : List Op) (moments : HasDistinctMoments ops) (ends : HasEndsAfterBeginnings ops) (faultless : IsFaultless initial ops) where
  present : (x : Op) → Contains (judged ops) x → Contains ops x
  present x h = (kept_present is_judged ops x h).0

  is_read : (r : Op) → Contains (judged ops) r → is_write r ≡ false → IsJudgedRead r
  is_read r h f = is_judged_by_end (is_write r) (is_some r.end) (kept_present is_judged ops r h).1 f

  -- the value of a judged read is the initial one or that of a write
  written : (r : Op) → Contains (judged ops) r → is_write r ≡ false → (value_of r.act ≡ initial) ⊎ ((w : Op) × Contains ops w × IsWrite w × (value_of w.act ≡ value_of r.act))
  written r h f = by_cases (value_cases (value_of r.act) initial) (find_write (value_of r.act) ops)
    where
      by_cases : (value_of r.act ≡ initial) ⊎ (value_of r.act ≢ initial) → ((w : Op) × Contains ops w × IsWrite w × (value_of w.act ≡ value_of r.act)) ⊎ ((w : Op) → Contains ops w → IsWrite w → value_of w.act ≢ value_of r.act) → (value_of r.act ≡ initial) ⊎ ((w : Op) × Contains ops w × IsWrite w × (value_of w.act ≡ value_of r.act))
      by_cases (inl e) c = inl e
      by_cases (inr n) (inl w) = inr w
      by_cases (inr n) (inr none) =
          absurd (All-contains (λ r. ¬ IsUnwritten initial ops r) ops r faultless.written (present r h) (record {
            read = is_read r h f;
            not_initial = n;
            not_written = all_from (λ w. IsWrite w → value_of w.act ≢ value_of r.act) ops none;
          }))

  -- each judged operation's value has a zone
  write_has_zone : (w : Op) → Contains ops w → IsWrite w → Contains (written_values initial ops) (value_of w.act)
  write_has_zone w h t = there initial (map (λ w. value_of w.act) (writes ops)) (value_of w.act) (mapped (λ w. value_of w.act) (writes ops) w (kept is_write ops w h t))

  has_zone : (x : Op) → Contains (judged ops) x → Contains (written_values initial ops) (value_of x.act)
  has_zone x h = by_act (cases_Bool (is_write x))
    where
      by_value : (value_of x.act ≡ initial) ⊎ ((w : Op) × Contains ops w × IsWrite w × (value_of w.act ≡ value_of x.act)) → Contains (written_values initial ops) (value_of x.act)
      by_value (inl e) = subst (λ (v : Value). Contains (written_values initial ops) v) (sym e) (here initial (map (λ w. value_of w.act) (writes ops)))
      by_value (inr (w, k, t, e)) = subst (λ (v : Value). Contains (written_values initial ops) v) e (write_has_zone w k t)

      by_act : (is_write x ≡ true) ⊎ (is_write x ≡ false) → Contains (written_values initial ops) (value_of x.act)
      by_act (inl t) = write_has_zone x (present x h) t
      by_act (inr f) = by_value (written x h f)

  apart : (x y : Op) → Contains (judged ops) x → Contains (judged ops) y → value_of x.act ≢ value_of y.act → ¬ Conflicts (zone_of initial ops (value_of x.act)) (zone_of initial ops (value_of y.act))
  apart x y h k n =
      let u = value_of x.act in
      let v = value_of y.act in
      pair_of (λ a b. ¬ Conflicts a b) (λ a b no c. no (c.1, c.0)) (zones_of initial ops) faultless.clean (zone_of initial ops u) (zone_of initial ops v)
      (mapped (zone_of initial ops) (written_values initial ops) u (has_zone x h))
      (mapped (zone_of initial ops) (written_values initial ops) v (has_zone y k))
      (λ e. n (sym (value_is initial ops u) ∙ (ap (λ z. z.value) e ∙ value_is initial ops v)))

  -- what comes later in turn does not precede what comes earlier, where both are of one value
  not_back_same : (x y : Op) → Contains (judged ops) x → Contains (judged ops) y → StandInTurn initial ops x y → value_of x.act ≡ value_of y.act → ¬ Precedes y x
  not_back_same x y h k s e p = by_acts (cases_Bool (is_write x)) (cases_Bool (is_write y))
    where
      by_moments : is_write x ≡ is_write y → ⊥
      by_moments same =
          ends_late y.end x.begin y.begin (All-contains (λ op. IfSome op.end (λ end. op.begin.0 < end.0)) ops y ends (present y k)) p (s.by_beginning e same)

      by_acts : (is_write x ≡ true) ⊎ (is_write x ≡ false) → (is_write y ≡ true) ⊎ (is_write y ≡ false) → ⊥
      by_acts (inl t) (inl u) = by_moments (t ∙ sym u)
      by_acts (inl t) (inr g) =
          All-contains (λ w. ¬ IsEarly y w) ops x (All-contains (λ r. All (λ w. ¬ IsEarly r w) ops) ops y faultless.timely (present y k)) (present x h)
          (record { read = is_read y k g; write = t; one_value = e; ends_before = p })
      by_acts (inr f) (inl u) = let x : true ≡ false = sym (s.write_first e u) ∙ f in absurd (cc)
      by_acts (inr f) (inr g) = by_moments (f ∙ sym g)

  -- what comes later in turn does not precede what comes earlier, where they are of two values
  not_back_other : (x y : Op) → Contains (judged ops) x → Contains (judged ops) y → StandInTurn initial ops x y → value_of x.act ≢ value_of y.act → ¬ Precedes y x
  not_back_other x y h k s n p = by_left (left_is initial ops u)
    where
      u : Value
      u = value_of x.act

      v : Value
      v = value_of y.act

      least : Value → Edge
      least w = least_end_of initial ops w

      greatest : Value → Edge
      greatest w = greatest_begin_of initial ops w

      ends_first : ComesBefore (least v) (greatest u)
      ends_first =
          before_not_after (least v) (At x.begin) (greatest u)
          (not_after_before (least v) (edge_of_end y.end) (At x.begin) (least_at_most initial ops v y (k, refl)) (edge_from_end y.end x.begin p))
          (greatest_at_least initial ops u x (h, refl))

      left_first : ComesBefore (left initial ops u) (greatest u)
      left_first =
          not_after_before (left initial ops u) (least v) (greatest u)
          (at_most_transitive (left initial ops u) (left initial ops v) (least v) s.by_zone (left_at_most_least initial ops v))
          ends_first

      begins_last : AtMost (greatest v) (least u)
      begins_last q = apart x y h k n ((conflict_is initial ops u v).1 (q, ends_first))

      by_left : ((left initial ops u ≡ least u) × ComesBefore (least u) (greatest u)) ⊎ (left initial ops u ≡ greatest u) → ⊥
      by_left (inr e) = before_irreflexive (greatest u) (subst (λ (a : Edge). ComesBefore a (greatest u)) e left_first)
      by_left (inl (e, q)) =
          let back : AtMost (left initial ops v) (left initial ops u) =
          at_most_transitive (left initial ops v) (greatest v) (left initial ops u) (left_at_most_greatest initial ops v)
          (subst (λ (a : Edge). AtMost (greatest v) a) (sym e) begins_last)
          in
          let same : left initial ops u ≡ left initial ops v = at_most_both (left initial ops u) (left initial ops v) s.by_zone back in
          n (settle initial ops moments u v (left initial ops v) (subst (EdgeIn initial ops u) same (left_in initial ops u x (h, refl))) (left_in initial ops v y (k, refl)))

  not_back : (x y : Op) → Contains (judged ops) x → Contains (judged ops) y → StandInTurn initial ops x y → ¬ Precedes y x
  not_back x y h k s p = by_value (value_cases (value_of x.act) (value_of y.act))
    where
      by_value : (value_of x.act ≡ value_of y.act) ⊎ (value_of x.act ≢ value_of y.act) → ⊥
      by_value (inl e) = not_back_same x y h k s e p
      by_value (inr n) = not_back_other x y h k s n p

  pub turn_keeps : (order : List Op) → ((x : Op) → Contains order x → Contains (judged ops) x) → IsInTurn initial ops order → KeepsPrecedence order
  turn_keeps [] each turn = tt
  turn_keeps (x ∷ later) each turn = (
    by_recursion_from (λ b. ¬ Precedes b x) later (λ y h. not_back x y (each x (here x later)) (each y (there x later y h)) (from_recursion (StandInTurn initial ops x) later turn.0 y h)),
    turn_keeps later (λ y h. each y (there x later y h)) turn.1,
  )

  -- the value of a read is held or is still to be written
  abbrev IsDue : Value → List Op → Op → Type 0
  IsDue held xs r = (value_of r.act ≡ held) ⊎ ((w : Op) × Contains xs w × IsWrite w × (value_of w.act ≡ value_of r.act))

  -- the rest of an order in turn, where a value is held
  record IsLeft (held : Value) (xs : List Op) : Type 0 where
    each : (x : Op) → Contains xs x → Contains (judged ops) x
    turn : IsInTurn initial ops xs
    edge : EdgeIn initial ops held (left initial ops held)
    later : (x : Op) → Contains xs x → AtMost (left initial ops held) (left_of initial ops x)
    due : (r : Op) → Contains xs r → is_write r ≡ false → IsDue held xs r

  stand : (held : Value) (a : Op) (later : List Op) → IsLeft held (a ∷ later) → (x : Op) → Contains later x → StandInTurn initial ops a x
  stand held a later s x h = from_recursion (StandInTurn initial ops a) later s.turn.0 x h

  finds_held : (held : Value) (a : Op) (later : List Op) → IsLeft held (a ∷ later) → is_write a ≡ false → value_of a.act ≡ held
  finds_held held a later s f = by_due (s.due a (here a later) f)
    where
      by_place : (w : Op) → IsWrite w → value_of w.act ≡ value_of a.act → (a ≡ w) ⊎ Contains later w → value_of a.act ≡ held
      by_place w t e (inl g) = absurd (let x : true ≡ false = sym t ∙ (sym (ap is_write g) ∙ f) in cc)
      by_place w t e (inr h) = absurd (let x : true ≡ false = sym ((stand held a later s w h).write_first (sym e) t) ∙ f in cc)

      by_due : IsDue held (a ∷ later) a → value_of a.act ≡ held
      by_due (inl e) = e
      by_due (inr (w, h, t, e)) = by_place w t e (contains_cases a later w h)

  left_after_read : (held : Value) (a : Op) (later : List Op) → IsLeft held (a ∷ later) → is_write a ≡ false → IsLeft held later
  left_after_read held a later s f = record {
    each = λ x h. s.each x (there a later x h);
    turn = s.turn.1;
    edge = s.edge;
    later = λ x h. s.later x (there a later x h);
    due = λ r h g. by_due r (s.due r (there a later r h) g);
  }
    where
      by_place : (r w : Op) → IsWrite w → value_of w.act ≡ value_of r.act → (a ≡ w) ⊎ Contains later w → IsDue held later r
      by_place r w t e (inl g) = absurd (let x : true ≡ false = sym t ∙ (sym (ap is_write g) ∙ f) in cc)
      by_place r w t e (inr h) = inr (w, h, t, e)

      by_due : (r : Op) → IsDue held (a ∷ later) r → IsDue held later r
      by_due r (inl e) = inl e
      by_due r (inr (w, h, t, e)) = by_place r w t e (contains_cases a later w h)

  left_after_write : (held : Value) (a : Op) (later : List Op) → IsLeft held (a ∷ later) → is_write a ≡ true → IsLeft (value_of a.act) later
  left_after_write held a later s t = record {
    each = λ x h. s.each x (there a later x h);
    turn = s.turn.1;
    edge = left_in initial ops (value_of a.act) a (s.each a (here a later), refl);
    later = λ x h. (stand held a later s x h).by_zone;
    due = λ r h g. by_due r h (s.due r (there a later r h) g);
  }
    where
      -- a read of the held value after a write of another would begin where that other's zone begins
      not_held : (r : Op) → Contains later r → value_of r.act ≡ held → value_of r.act ≡ value_of a.act
      not_held r h e =
          let back : AtMost (left initial ops (value_of a.act)) (left initial ops held) = subst (λ (v : Value). AtMost (left initial ops (value_of a.act)) (left initial ops v)) e (stand held a later s r h).by_zone in
          let same : left initial ops held ≡ left initial ops (value_of a.act) = at_most_both (left initial ops held) (left initial ops (value_of a.act)) (s.later a (here a later)) back in
          e ∙ settle initial ops moments held (value_of a.act) (left initial ops (value_of a.act))
          (subst (EdgeIn initial ops held) same s.edge)
          (left_in initial ops (value_of a.act) a (s.each a (here a later), refl))

      by_place : (r w : Op) → IsWrite w → value_of w.act ≡ value_of r.act → (a ≡ w) ⊎ Contains later w → IsDue (value_of a.act) later r
      by_place r w u e (inl g) = inl (sym e ∙ sym (ap (λ (o : Op). value_of o.act) g))
      by_place r w u e (inr h) = inr (w, h, u, e)

      by_due : (r : Op) → Contains later r → IsDue held (a ∷ later) r → IsDue (value_of a.act) later r
      by_due r h (inl e) = inl (not_held r h e)
      by_due r h (inr (w, k, u, e)) = by_place r w u e (contains_cases a later w k)

  finds : (held : Value) (act : Act) (later : List Op) → (is_write_act act ≡ false → (value_of act ≡ held) × ReadsNearest held later) → (is_write_act act ≡ true → ReadsNearest (value_of act) later) → Finds held act × ReadsNearest (value_after held act) later
  finds held (Read v) later read write = read refl
  finds held (Write v) later read write = (tt, write refl)

  walk : (held : Value) (xs : List Op) → IsLeft held xs → ReadsNearest held xs
  walk held [] s = tt
  walk held (a ∷ later) s =
      finds held a.act later
      (λ f. (finds_held held a later s f, walk held later (left_after_read held a later s f)))
      (λ t. walk (value_of a.act) later (left_after_write held a later s t))

  -- an order in turn reads nearest, with the initial value at first
  pub turn_reads : (order : List Op) → IsPermutation (judged ops) order → IsInTurn initial ops order → ReadsNearest initial order
  turn_reads order moved turn = walk initial order (record {
    each = back;
    turn = turn;
    edge = subst (EdgeIn initial ops initial) (sym (left_initial initial ops)) refl;
    later = λ x h. subst (λ (a : Edge). AtMost a (left_of initial ops x)) (sym (left_initial initial ops)) (before_all (left_of initial ops x));
    due = λ r h f. by_value r (written r (back r h) f);
  })
    where
      back : (x : Op) → Contains order x → Contains (judged ops) x
      back x h = Contains-permutation order (judged ops) x (IsPermutation-sym (judged ops) order moved) h

      by_value : (r : Op) → (value_of r.act ≡ initial) ⊎ ((w : Op) × Contains ops w × IsWrite w × (value_of w.act ≡ value_of r.act)) → IsDue initial order r
      by_value r (inl e) = inl e
      by_value r (inr (w, h, t, e)) = inr (w, Contains-permutation (judged ops) order w moved (kept is_judged ops w h (judged_write w t)), t, e)
