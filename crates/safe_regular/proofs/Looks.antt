-- The writes looked at from a read's end back decide whether the read is wrong.
use Rattle.std.proofs.Common.{◌≡◌, ◌≢◌, ℕ, ◌<◌, ◌≤◌, inl, inr, Bool, true, false, not, ◌&&◌, List, Option, Some, None, Decides, refl, sym, ap, subst, ◌∙◌, arith}
use Rattle.std.specs.Prelude.{Contains}
use Rattle.std.proofs.lemmas.Bool.{cases_Bool, cases_lt}
use Rattle.std.proofs.lemmas.Bool.Decides.{Decides-and, Decides-not, not_from_Decides}
use Rattle.std.proofs.lemmas.List.Elements.{All-contains}
use Rattle.intervals.specs.declared.claim.Kind.TheVariants.{Safe, Regular}
use Rattle.intervals.specs.declared.operation.Op.{Op}
use Rattle.intervals.specs.declared.operation.Value.{Value}
use Rattle.intervals.specs.Judging.{end_number, is_allowed, is_regular_read, is_safe_read, is_wrong_read}
use Rattle.intervals.specs.Kind.{IsInValueSet, IsRegularRead, IsSafeRead}
use Rattle.intervals.specs.Operation.{IsJudgedRead, IsWrite, Precedes, precedes, same_value, value_of}
use Rattle.intervals.specs.Terms.{ClaimModel}
use Rattle.intervals.proofs.Agreement.{Decides-is_allowed, Decides-is_regular_read, Decides-is_safe_read, Decides-precedes, Decides-same_value}
use Rattle.intervals.proofs.Members.{all_from}
use Rattle.safe_regular.specs.Apart.{AreSequential}
use Rattle.safe_regular.specs.Held.{AreOneWriters}
use Rattle.safe_regular.specs.LookUp.{BeginsBefore, IsLastWrite, IsLastOf, NoneFits}
use Rattle.safe_regular.specs.Looks.{ArePassed, IsLookedUp, is_wrong_by}
use Rattle.safe_regular.proofs.Apart.{either_way, precedes_with}
use Rattle.safe_regular.proofs.Covered.{before_reached, decides_not, in_value_set, initial_in_set, safe_initial, safe_write, true_not, wrong_initial, wrong_value, wrong_write}
use Rattle.safe_regular.proofs.Nearest.{IsNear, IsReadAmong, read_among}
use Rattle.safe_regular.proofs.Told.{writes_apart}

-- a regular register
module _ (claim : ClaimModel) (ops : List Op) (apart : AreSequential ops) (r : Op) (among : IsReadAmong ops r) (m : ℕ) (le : m ≤ end_number r) (passed : ArePassed ops r m) where
  reached_by : (v : Op) → Contains ops v → IsWrite v → Precedes v r → v.begin.0 < end_number r
  reached_by = before_reached claim ops apart r among

  module _ (w : Op) (is : IsLastWrite (BeginsBefore m) ops w) where
    -- no write that precedes r begins later
    none_later : (v : Op) → Contains ops v → IsWrite v → Precedes v r → v.begin.0 ≤ w.begin.0
    none_later v sv wv before = elim (cases_lt v.begin.0 m) [
      | inl lt ↦ is.last v sv wv lt
      | inr ge ↦ absurd ((passed v sv wv ge (reached_by v sv wv before)).0 before)
    ]

    -- r is right where it has the value of w
    right_here : value_of r.act ≡ value_of w.act → IsRegularRead claim ops r
    right_here same = elim (either_way (precedes w r) (Decides-precedes w r)) [
      | inl before ↦ inr (inl (
        w,
        record { present = is.present; write = is.write; before = before; last = all_from (λ v. IsWrite v → Precedes v r → v.begin.0 ≤ w.begin.0) ops none_later },
        same,
      ))
      | inr over ↦
          let lt : w.begin.0 < m = is.fits in
          inl (is.present.0, w, is.present.1, is.present.2, (is.write, (over, among.not_over w (omega (arith, lt, le))), same))
    ]

    -- r is wrong where it has another value and w precedes it
    wrong_here : value_of r.act ≢ value_of w.act → Precedes w r → ¬ IsRegularRead claim ops r
    wrong_here other before (inl any) =
        let sv : Contains ops any.1 = (any.0, any.2, any.3) in
        let reached = among.reached any.1 sv any.4.0 any.4.1.1 in
        elim (cases_lt any.1.begin.0 m) [
          | inl lt ↦ any.4.1.0 (precedes_with ops apart any.1 w r sv is.present any.4.0 is.write (is.last any.1 sv any.4.0 lt) before)
          | inr ge ↦ (passed any.1 sv any.4.0 ge reached).1 any.4.2
        ]
    wrong_here other before (inr (inl l)) =
        let up = none_later l.0 l.1.present l.1.write l.1.before in
        let down : w.begin.0 ≤ l.0.begin.0 = All-contains (λ v. IsWrite v → Precedes v r → v.begin.0 ≤ l.0.begin.0) ops w l.1.last is.present is.write before in
        other (l.2 ∙ ap (λ (o : Op). value_of o.act) (apart.one l.0 w l.1.present is.present l.1.write is.write (omega (arith, up, down))))
    wrong_here other before (inr (inr h)) = All-contains (λ v. IsWrite v → ¬ Precedes v r) ops w h.0 is.present is.write before

    -- w is passed where r has another value and w does not precede r
    passed_here : value_of r.act ≢ value_of w.act → ¬ Precedes w r → ArePassed ops r w.begin.0
    passed_here other not v sv wv ge reached = elim (cases_lt v.begin.0 m) [
      | inl lt ↦
          let up = is.last v sv wv lt in
          let same : w ≡ v = apart.one w v is.present sv is.write wv (omega (arith, up, ge)) in
          ((λ before. not (subst (λ (o : Op). Precedes o r) (sym same) before)), (λ e. other (e ∙ ap (λ (o : Op). value_of o.act) (sym same))))
      | inr late ↦ passed v sv wv late reached
    ]

  module _ (none : NoneFits (BeginsBefore m) ops) where
    right_first : value_of r.act ≡ claim.initial → IsRegularRead claim ops r
    right_first same = inr (inr (
      all_from (λ w. IsWrite w → ¬ Precedes w r) ops (λ w sw ww before. elim (cases_lt w.begin.0 m) [
        | inl lt ↦ none w sw ww lt
        | inr ge ↦ (passed w sw ww ge (reached_by w sw ww before)).0 before
      ]),
      same,
    ))

    wrong_first : value_of r.act ≢ claim.initial → ¬ IsRegularRead claim ops r
    wrong_first other (inl any) =
        let sv : Contains ops any.1 = (any.0, any.2, any.3) in
        elim (cases_lt any.1.begin.0 m) [
          | inl lt ↦ none any.1 sv any.4.0 lt
          | inr ge ↦ (passed any.1 sv any.4.0 ge (among.reached any.1 sv any.4.0 any.4.1.1)).1 any.4.2
        ]
    wrong_first other (inr (inl l)) = elim (cases_lt l.0.begin.0 m) [
      | inl lt ↦ none l.0 l.1.present l.1.write lt
      | inr ge ↦ (passed l.0 l.1.present l.1.write ge (reached_by l.0 l.1.present l.1.write l.1.before)).0 l.1.before
    ]
    wrong_first other (inr (inr h)) = other h.1

-- a safe register: the last write that begins before the read ends decides, or the initial value
module _ (claim : ClaimModel) (ops : List Op) (apart : AreSequential ops) (r : Op) (among : IsReadAmong ops r)
    (of_writes : (w : Op) → Contains ops w → IsWrite w → IsInValueSet claim (value_of w.act)) (of_initial : IsInValueSet claim claim.initial) where
  abbrev is_allowed_here : Bool
  is_allowed_here = is_allowed claim.domain claim.initial (value_of r.act)

  decides_safe : Decides (is_safe_read claim ops r) (IsSafeRead claim ops r)
  decides_safe = Decides-is_safe_read claim ops r

  safe_by : (last : Option Op) → IsLastOf (BeginsBefore (end_number r)) ops last → is_wrong_by claim r last ≡ not (is_safe_read claim ops r)
  safe_by None none =
      decides_not (value_of r.act ≢ claim.initial) (IsSafeRead claim ops r) (not (same_value (value_of r.act) claim.initial)) (is_safe_read claim ops r)
      (Decides-not (same_value (value_of r.act) claim.initial) (Decides-same_value (value_of r.act) claim.initial)) decides_safe
      (wrong_initial claim ops apart r among (λ w sw ww near. none w sw ww near.1))
      (λ n. elim (either_way (same_value (value_of r.act) claim.initial) (Decides-same_value (value_of r.act) claim.initial)) [
        | inl e ↦ safe_initial claim ops apart r among (λ w sw ww near. none w sw ww near.1) e (subst (IsInValueSet claim) (sym e) of_initial)
        | inr other ↦ absurd (n other)
      ])
  safe_by (Some w) is = elim (cases_Bool is_allowed_here) [
    | inl t ↦ chosen t
        ∙ decides_not ((value_of r.act ≢ value_of w.act) × Precedes w r) (IsSafeRead claim ops r) (not (same_value (value_of r.act) (value_of w.act)) && precedes w r) (is_safe_read claim ops r)
        (Decides-and (not (same_value (value_of r.act) (value_of w.act))) (precedes w r) (Decides-not (same_value (value_of r.act) (value_of w.act)) (Decides-same_value (value_of r.act) (value_of w.act))) (Decides-precedes w r))
        decides_safe (wrong_write claim ops apart r among w near) (λ n. safe_write claim ops apart r among w near n ((Decides-is_allowed claim.domain claim.initial (value_of r.act)).0 t))
    | inr f ↦ refused f
        ∙ true_not (IsSafeRead claim ops r) (is_safe_read claim ops r) decides_safe
        (wrong_value claim ops apart r among of_writes of_initial (not_from_Decides is_allowed_here (Decides-is_allowed claim.domain claim.initial (value_of r.act)) f))
  ]
    where
      near : IsLastWrite (IsNear Safe r) ops w
      near = record { present = is.present; write = is.write; fits = (refl, is.fits); last = λ v sv wv fits. is.last v sv wv fits.1 }

      chosen : is_allowed_here ≡ true → is_wrong_by claim r (Some w) ≡ not (same_value (value_of r.act) (value_of w.act)) && precedes w r
      chosen t = rw t refl

      refused : is_allowed_here ≡ false → is_wrong_by claim r (Some w) ≡ true
      refused f = rw f refl

-- the verdict by the writes that were looked at is `is_wrong_read`
module _ (claim : ClaimModel) (ops : List Op) (apart : AreOneWriters claim ops) (r : Op) (present : Contains ops r) (judged : IsJudgedRead r) where
  among_them : IsReadAmong ops r
  among_them = read_among claim ops apart r present judged

  -- nothing is passed at first
  pub looked_up_first : (last : Option Op) → IsLastOf (BeginsBefore (end_number r)) ops last → IsLookedUp ops r last
  looked_up_first last is = record { moment = end_number r; reached = omega arith; passed = λ v sv wv ge lt. absurd (omega (arith, ge, lt)); is = is }

  pub looked_up_next : (w : Op) → IsLookedUp ops r (Some w) → same_value (value_of w.act) (value_of r.act) ≡ false → ¬ Precedes w r → (next : Option Op) → IsLastOf (BeginsBefore w.begin.0) ops next → IsLookedUp ops r next
  looked_up_next w up other not next is = record {
    moment = w.begin.0;
    reached = let lt : w.begin.0 < up.moment = up.is.fits in let le = up.reached in omega (arith, lt, le);
    passed = passed_here claim ops (writes_apart claim ops apart) r among_them up.moment up.reached up.passed w up.is
        (λ e. not_from_Decides (same_value (value_of w.act) (value_of r.act)) (Decides-same_value (value_of w.act) (value_of r.act)) other (sym e)) not;
    is = is;
  }

  decides_regular : Decides (is_regular_read claim ops r) (IsRegularRead claim ops r)
  decides_regular = Decides-is_regular_read claim ops r

  value_apart : (v : Value) → same_value v (value_of r.act) ≡ false → value_of r.act ≢ v
  value_apart v other e = not_from_Decides (same_value v (value_of r.act)) (Decides-same_value v (value_of r.act)) other (sym e)

  -- a safe register's read
  pub told_safe : claim.kind ≡ Safe → (last : Option Op) → IsLastOf (BeginsBefore (end_number r)) ops last → is_wrong_by claim r last ≡ is_wrong_read claim ops r
  told_safe safe last is = rw (judged, safe) (safe_by claim ops (writes_apart claim ops apart) r among_them (in_value_set claim ops apart) (initial_in_set claim.domain claim.initial) last is)

  -- a regular register's read
  module _ (regular : claim.kind ≡ Regular) where
    is_wrong_as : is_wrong_read claim ops r ≡ not (is_regular_read claim ops r)
    is_wrong_as = rw (judged, regular) refl

    pub told_right : (w : Op) → IsLookedUp ops r (Some w) → same_value (value_of w.act) (value_of r.act) ≡ true → false ≡ is_wrong_read claim ops r
    told_right w up same =
        ap not (sym (decides_regular.1 (right_here claim ops (writes_apart claim ops apart) r among_them up.moment up.reached up.passed w up.is (sym ((Decides-same_value (value_of w.act) (value_of r.act)).0 same))))) ∙ sym is_wrong_as

    pub told_wrong : (w : Op) → IsLookedUp ops r (Some w) → same_value (value_of w.act) (value_of r.act) ≡ false → Precedes w r → true ≡ is_wrong_read claim ops r
    told_wrong w up other before =
        true_not (IsRegularRead claim ops r) (is_regular_read claim ops r) decides_regular
        (wrong_here claim ops (writes_apart claim ops apart) r among_them up.moment up.reached up.passed w up.is (value_apart (value_of w.act) other) before) ∙ sym is_wrong_as

    pub told_first : IsLookedUp ops r None → not (same_value claim.initial (value_of r.act)) ≡ is_wrong_read claim ops r
    told_first up = elim (cases_Bool (same_value claim.initial (value_of r.act))) [
      | inl t ↦ rw t (ap not (sym (decides_regular.1 (right_first claim ops (writes_apart claim ops apart) r among_them up.moment up.reached up.passed up.is (sym ((Decides-same_value claim.initial (value_of r.act)).0 t))))) ∙ sym is_wrong_as)
      | inr f ↦ rw f (true_not (IsRegularRead claim ops r) (is_regular_read claim ops r) decides_regular
          (wrong_first claim ops (writes_apart claim ops apart) r among_them up.moment up.reached up.passed up.is (value_apart claim.initial f)) ∙ sym is_wrong_as)
    ]
