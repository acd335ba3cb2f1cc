-- The tests for the first unwritten and the first early read compute what the relations mean.
use Rattle.std.proofs.Common.{◌≡◌, ◌↔◌, ◌≤◌, ◌⊎◌, inl, inr, Bool, true, false, not, ◌&&◌, List, Option, Some, None, Decides, refl, sym, ap, subst, ◌∙◌, arith}
use Rattle.std.specs.Prelude.{All, Any, Contains, IsTrue, find, option_map, is_some}
use Rattle.std.specs.List.{list_any}
use Rattle.std.proofs.lemmas.Bool.{both_ways}
use Rattle.std.proofs.lemmas.Bool.Decides.{Decides-and, Decides-not, Decides-like}
use Rattle.std.proofs.lemmas.List.Elements.{All-contains, All-weaker}
use Rattle.intervals.specs.declared.operation.Op.{Op}
use Rattle.intervals.specs.declared.operation.Moment.{Moment}
use Rattle.intervals.specs.declared.operation.Value.{Value}
use Rattle.intervals.specs.Operation.{Precedes, IsWrite, IsJudgedRead, is_write, is_judged_read, precedes, value_of, same_value}
use Rattle.intervals.specs.Standing.{HasDistinctMoments, HasNoValueTwice}
use Rattle.intervals.specs.Least.{least_by}
use Rattle.intervals.specs.Judging.{end_number}
use Rattle.intervals.proofs.Agreement.{Decides-list_any, Decides-precedes}
use Rattle.intervals.proofs.Found.{find-None, find-Some}
use Rattle.intervals.proofs.LeastOf.{least_by-IsLeast, least_from-None, least_from-none}
use Rattle.zone_tree.specs.Conflict.{IsClean}
use Rattle.zones.specs.Cluster.{zones_of}
use Rattle.zones.specs.Fault.{IsUnwritten, IsEarly, HasLateWrite, IsFirstOf, IsFaultless, is_write_of, is_unwritten, first_unwritten, is_late_for, is_early, with_late_write, first_early}
use Rattle.zones.proofs.Members.{Decides-same_value, all_from}
use Rattle.zones.proofs.OneTurn.{one_or_related, one_holder, same_moment}

pub Decides-itself : (b : Bool) → Decides b (IsTrue b)
Decides-itself b = (λ e. e, λ e. e)

-- w is a write of the value of r
abbrev pub IsWriteFor : Op → Op → Type 0
IsWriteFor r w = IsWrite w × (value_of w.act ≡ value_of r.act)

pub Decides-write_of : (r w : Op) → Decides (is_write_of r w) (IsWriteFor r w)
Decides-write_of r w = Decides-and (is_write w) (same_value (value_of w.act) (value_of r.act)) (Decides-itself (is_write w)) (Decides-same_value (value_of w.act) (value_of r.act))

-- from not any to none of a list
pub none_of : (P : Op → Type 0) (ops : List Op) → ¬ Any P ops → All (λ op. ¬ P op) ops
none_of P ops none = all_from (λ op. ¬ P op) ops (λ op h p. none (h.0, op, h.1, h.2, p))

pub not_some : (P : Op → Type 0) (ops : List Op) → All (λ op. ¬ P op) ops → ¬ Any P ops
not_some P ops none some = All-contains (λ op. ¬ P op) ops some.1 none (some.0, some.2, some.3) some.4

pub some_present : (P : Op → Type 0) (ops : List Op) → Any P ops → (w : Op) × Contains ops w × P w
some_present P ops some = (some.1, (some.0, some.2, some.3), some.4)

Decides-unwritten : (initial : Value) (ops : List Op) (r : Op) → Decides (is_unwritten initial ops r) (IsUnwritten initial ops r)
Decides-unwritten initial ops r =
    Decides-like (is_unwritten initial ops r)
    (λ h. record {
      read = h.0;
      not_initial = λ e. h.1.0 (sym e);
      not_written = All-weaker (λ w. ¬ IsWriteFor r w) (λ w. IsWrite w → ¬ (value_of w.act ≡ value_of r.act)) (λ w n t e. n (t, e)) ops (none_of (IsWriteFor r) ops h.1.1);
    })
    (λ u. (
      u.read,
      (
        (λ e. u.not_initial (sym e)),
        not_some (IsWriteFor r) ops (All-weaker (λ w. IsWrite w → ¬ (value_of w.act ≡ value_of r.act)) (λ w. ¬ IsWriteFor r w) (λ w n h. n h.0 h.1) ops u.not_written),
      ),
    ))
    (Decides-and (is_judged_read r) _ (Decides-itself (is_judged_read r))
    (Decides-and _ _ (Decides-not (same_value initial (value_of r.act)) (Decides-same_value initial (value_of r.act)))
    (Decides-not (list_any (is_write_of r) ops) (Decides-list_any (is_write_of r) (IsWriteFor r) (Decides-write_of r) ops))))

-- w is a write of the value of r and begins after its end
abbrev IsLate : Op → Op → Type 0
IsLate r w = IsWriteFor r w × Precedes r w

Decides-late : (r w : Op) → Decides (is_late_for r w) (IsLate r w)
Decides-late r w = Decides-and (is_write_of r w) (precedes r w) (Decides-write_of r w) (Decides-precedes r w)

early_of : (r w : Op) → IsJudgedRead r → IsLate r w → IsEarly r w
early_of r w j late = record { read = j; write = late.0.0; one_value = late.0.1; ends_before = late.1 }

late_of : (r w : Op) → IsEarly r w → IsLate r w
late_of r w e = ((e.write, e.one_value), e.ends_before)

Decides-early : (ops : List Op) (r : Op) → Decides (is_early ops r) (HasLateWrite ops r)
Decides-early ops r =
    Decides-like (is_early ops r)
    (λ h. let (k, w, lt, e, late) = h.1 in (k, w, lt, e, early_of r w h.0 late))
    (λ h. let (k, w, lt, e, early) = h in (early.read, (k, w, lt, e, late_of r w early)))
    (Decides-and (is_judged_read r) (list_any (is_late_for r) ops) (Decides-itself (is_judged_read r)) (Decides-list_any (is_late_for r) (IsLate r) (Decides-late r) ops))

-- an operation that has an end ended at the moment of its number
pub ended_at : (op : Op) → IsTrue (is_some op.end) → (m : Moment) × (op.end ≡ Some m) × (m.0 ≡ end_number op)
ended_at op h = by_end op.end refl h
  where
    by_end : (end : Option Moment) → op.end ≡ end → IsTrue (is_some end) → (m : Moment) × (op.end ≡ Some m) × (m.0 ≡ end_number op)
    by_end None e h = absurd (cc)
    by_end (Some m) e h = (m, e, rw e refl)

pub has_end : (w s : Bool) → (not w && s) ≡ true → s ≡ true
has_end true s e = absurd (cc)
has_end false s e = e

-- two judged reads that ended at one moment are one
one_end : (ops : List Op) → HasDistinctMoments ops → (x y : Op) → Contains ops x → Contains ops y → IsJudgedRead x → IsJudgedRead y → end_number x ≡ end_number y → x ≡ y
one_end ops moments x y h k p q e =
    let (m, f, a) = ended_at x (has_end (is_write x) (is_some x.end) p) in
    let (o, g, b) = ended_at y (has_end (is_write y) (is_some y.end) q) in
    one_holder ops moments x y h k m (inr f) (inr (g ∙ ap Some (sym (same_moment m o (a ∙ (e ∙ sym b))))))

module _ (test : Op → Bool) (Property : Op → Type 0) (decides : (r : Op) → Decides (test r) (Property r)) (read : (r : Op) → Property r → IsJudgedRead r) (ops : List Op) where
  pub least_first : (r : Op) → least_by end_number test ops ≡ Some r → IsFirstOf Property ops r
  least_first r e =
      let is = least_by-IsLeast end_number test ops r e in
      record {
        present = is.present;
        holds = (decides r).0 is.passes;
        first = All-weaker (λ other. IsTrue (test other) → end_number r ≤ end_number other) (λ other. Property other → end_number r ≤ end_number other) (λ other h p. h ((decides other).1 p)) ops is.least;
      }

  pub least_none : least_by end_number test ops ≡ None → All (λ r. ¬ Property r) ops
  least_none e = All-weaker (λ r. ¬ IsTrue (test r)) (λ r. ¬ Property r) (λ r h p. h ((decides r).1 p)) ops (least_from-None end_number test None ops e).1

  pub none_least : All (λ r. ¬ Property r) ops → least_by end_number test ops ≡ None
  none_least none = least_from-none end_number test None ops (All-weaker (λ r. ¬ Property r) (λ r. ¬ IsTrue (test r)) (λ r h t. h ((decides r).0 t)) ops none)

  pub first_least : HasDistinctMoments ops → (r : Op) → IsFirstOf Property ops r → least_by end_number test ops ≡ Some r
  first_least moments r is = by_cases (least_by end_number test ops) refl
    where
      by_cases : (found : Option Op) → least_by end_number test ops ≡ found → least_by end_number test ops ≡ Some r
      by_cases None e = absurd (All-contains (λ r. ¬ Property r) ops r (least_none e) is.present is.holds)
      by_cases (Some x) e =
          let other = least_first x e in
          let after = All-contains (λ y. Property y → end_number x ≤ end_number y) ops r other.first is.present is.holds in
          let before = All-contains (λ y. Property y → end_number r ≤ end_number y) ops x is.first other.present other.holds in
          e ∙ ap Some (one_end ops moments x r other.present is.present (read x other.holds) (read r is.holds) (omega arith))

unwritten_read : (initial : Value) (ops : List Op) (r : Op) → IsUnwritten initial ops r → IsJudgedRead r
unwritten_read initial ops r u = u.read

early_read : (ops : List Op) (r : Op) → HasLateWrite ops r → IsJudgedRead r
early_read ops r h = h.4.read

-- the first unwritten read
module _ (initial : Value) (ops : List Op) where
  pub unwritten_first : (r : Op) → first_unwritten initial ops ≡ Some r → IsFirstOf (IsUnwritten initial ops) ops r
  unwritten_first = least_first (is_unwritten initial ops) (IsUnwritten initial ops) (Decides-unwritten initial ops) (unwritten_read initial ops) ops

  pub first_is_unwritten : HasDistinctMoments ops → (r : Op) → IsFirstOf (IsUnwritten initial ops) ops r → first_unwritten initial ops ≡ Some r
  first_is_unwritten = first_least (is_unwritten initial ops) (IsUnwritten initial ops) (Decides-unwritten initial ops) (unwritten_read initial ops) ops

  pub unwritten_none : (first_unwritten initial ops ≡ None) ↔ All (λ r. ¬ IsUnwritten initial ops r) ops
  unwritten_none = (
    least_none (is_unwritten initial ops) (IsUnwritten initial ops) (Decides-unwritten initial ops) (unwritten_read initial ops) ops,
    none_least (is_unwritten initial ops) (IsUnwritten initial ops) (Decides-unwritten initial ops) (unwritten_read initial ops) ops,
  )

-- two pairs that are equal have equal parts
pub same_pair : (x r v w : Op) → ◌≡◌ {A = Option (Op × Op)} (Some (x, v)) (Some (r, w)) → (x ≡ r) × (v ≡ w)
same_pair x r v w e = (ap read_of e, ap write_of e)
  where
    read_of : Option (Op × Op) → Op
    read_of None = x
    read_of (Some pair) = pair.0

    write_of : Option (Op × Op) → Op
    write_of None = v
    write_of (Some pair) = pair.1

-- the first early read, without its write
module _ (ops : List Op) where
  abbrev earliest : Option Op
  earliest = least_by end_number (is_early ops) ops

  earliest_first : (r : Op) → earliest ≡ Some r → IsFirstOf (HasLateWrite ops) ops r
  earliest_first = least_first (is_early ops) (HasLateWrite ops) (Decides-early ops) (early_read ops) ops

  late_write : (r : Op) → HasLateWrite ops r → (w : Op) × (find (is_late_for r) ops ≡ Some w) × Contains ops w × IsEarly r w
  late_write r h = by_found (find (is_late_for r) ops) refl
    where
      by_found : (found : Option Op) → find (is_late_for r) ops ≡ found → (w : Op) × (find (is_late_for r) ops ≡ Some w) × Contains ops w × IsEarly r w
      by_found None e =
          let (w, present, early) = some_present (IsEarly r) ops h in
          let passes : is_late_for r w ≡ true = (Decides-late r w).1 (late_of r w early) in
          let fails : is_late_for r w ≡ false = All-contains (λ op. is_late_for r op ≡ false) ops w (find-None (is_late_for r) ops e) present in
          absurd (both_ways (is_late_for r w) fails passes)
      by_found (Some w) e =
          let (present, passes) = find-Some (is_late_for r) ops w e in
          (w, e, present, early_of r w (early_read ops r h) ((Decides-late r w).0 passes))

  pub early_first : (r w : Op) → first_early ops ≡ Some (r, w) → IsFirstOf (HasLateWrite ops) ops r × Contains ops w × IsEarly r w
  early_first r w e = by_least earliest refl e
    where
      by_write : (x : Op) → earliest ≡ Some x → ((v : Op) × (find (is_late_for x) ops ≡ Some v) × Contains ops v × IsEarly x v) → with_late_write ops (Some x) ≡ Some (r, w) → IsFirstOf (HasLateWrite ops) ops r × Contains ops w × IsEarly r w
      by_write x f (v, g, present, early) e =
          let (read, write) = same_pair x r v w (sym (ap (option_map (λ w. (x, w))) g) ∙ e) in
          (subst (IsFirstOf (HasLateWrite ops) ops) read (earliest_first x f), subst (Contains ops) write present, subst (λ (y : Op). IsEarly r y) write (subst (λ (y : Op). IsEarly y v) read early))

      by_least : (found : Option Op) → earliest ≡ found → with_late_write ops found ≡ Some (r, w) → IsFirstOf (HasLateWrite ops) ops r × Contains ops w × IsEarly r w
      by_least None f e = absurd (cc)
      by_least (Some x) f e = by_write x f (late_write x (earliest_first x f).holds) e

  -- two writes of one value are one
  pub one_write : HasNoValueTwice ops → (v w : Op) → Contains ops v → Contains ops w → IsWrite v → IsWrite w → value_of v.act ≡ value_of w.act → v ≡ w
  one_write apart v w h k p q e = by_cases (one_or_related (λ v w. IsWrite v → IsWrite w → ¬ (value_of v.act ≡ value_of w.act)) (λ a b n p q e. n q p (sym e)) ops apart v w h k)
    where
      by_cases : (v ≡ w) ⊎ (IsWrite v → IsWrite w → ¬ (value_of v.act ≡ value_of w.act)) → v ≡ w
      by_cases (inl same) = same
      by_cases (inr n) = absurd (n p q e)

  pub first_is_early : (r w : Op) → HasDistinctMoments ops → HasNoValueTwice ops → IsFirstOf (HasLateWrite ops) ops r → Contains ops w → IsEarly r w → first_early ops ≡ Some (r, w)
  first_is_early r w moments apart is present early =
      let least : earliest ≡ Some r = first_least (is_early ops) (HasLateWrite ops) (Decides-early ops) (early_read ops) ops moments r is in
      let (v, found, stood, late) = late_write r is.holds in
      let same : v ≡ w = one_write apart v w stood present late.write early.write (late.one_value ∙ sym early.one_value) in
      ap (with_late_write ops) least ∙ (ap (option_map (λ w. (r, w))) found ∙ ap (λ (w : Op). Some (r, w)) same)

  none_each : All (λ r. ¬ HasLateWrite ops r) ops → All (λ r. All (λ w. ¬ IsEarly r w) ops) ops
  none_each = All-weaker (λ r. ¬ HasLateWrite ops r) (λ r. All (λ w. ¬ IsEarly r w) ops) (λ r. none_of (IsEarly r) ops) ops

  none_some : All (λ r. All (λ w. ¬ IsEarly r w) ops) ops → All (λ r. ¬ HasLateWrite ops r) ops
  none_some = All-weaker (λ r. All (λ w. ¬ IsEarly r w) ops) (λ r. ¬ HasLateWrite ops r) (λ r. not_some (IsEarly r) ops) ops

  pub early_none : (first_early ops ≡ None) ↔ All (λ r. All (λ w. ¬ IsEarly r w) ops) ops
  early_none = (
    (λ e. none_each (least_none (is_early ops) (HasLateWrite ops) (Decides-early ops) (early_read ops) ops (by_least earliest refl e))),
    (λ none. ap (with_late_write ops) (none_least (is_early ops) (HasLateWrite ops) (Decides-early ops) (early_read ops) ops (none_some none))),
  )
    where
      by_least : (found : Option Op) → earliest ≡ found → with_late_write ops found ≡ None → earliest ≡ None
      by_least None f e = f
      by_least (Some x) f e =
          let (v, g, present, early) = late_write x (earliest_first x f).holds in
          absurd (let gone : Some (x, v) ≡ None = sym (ap (option_map (λ w. (x, w))) g) ∙ e in cc)

pub faultless_without_firsts : (initial : Value) (ops : List Op) → IsFaultless initial ops ↔ ((first_unwritten initial ops ≡ None) × (first_early ops ≡ None) × IsClean (zones_of initial ops))
faultless_without_firsts initial ops = (
  (λ faultless. ((unwritten_none initial ops).1 faultless.written, (early_none ops).1 faultless.timely, faultless.clean)),
  (λ (unwritten, early, clean). record { written = (unwritten_none initial ops).0 unwritten; timely = (early_none ops).0 early; clean = clean }),
)
