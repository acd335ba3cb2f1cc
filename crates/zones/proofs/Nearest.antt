-- What comes before what in a list whose reads each return the value of the nearest write before them.
use Rattle.std.proofs.Common.{◌≡◌, ◌≢◌, ◌⊎◌, inl, inr, Bool, true, false, ◌&&◌, List, [], ◌∷◌, Decides, sym, ap, subst, ◌∙◌}
use Rattle.std.specs.Prelude.{Contains}
use Rattle.std.specs.List.{IsDistinct}
use Rattle.std.proofs.lemmas.Bool.{cases_Bool}
use Rattle.std.proofs.lemmas.Bool.Decides.{Decides-and, Decides-like, not_from_Decides, same_from_decides}
use Rattle.std.proofs.lemmas.Map.Keys.{IsDistinct-head, IsDistinct-tail}
use Rattle.intervals.specs.declared.operation.Op.{Op}
use Rattle.intervals.specs.declared.operation.Act.{Act}
use Rattle.intervals.specs.declared.operation.Act.TheVariants.{Read, Write}
use Rattle.intervals.specs.declared.operation.Value.{Value}
use Rattle.intervals.specs.Operation.{Precedes, IsWrite, is_write, is_write_act, value_of, same_value}
use Rattle.intervals.specs.Kind.{KeepsPrecedence, ReadsNearest, Finds, value_after}
use Rattle.zones.proofs.Members.{Decides-same_value, value_cases, here, there, in_none, contains_cases, from_recursion}

-- both are writes of one value
abbrev pub clash : Op → Op → Bool
clash a b = is_write a && (is_write b && same_value (value_of a.act) (value_of b.act))

abbrev pub Clash : Op → Op → Type 0
Clash a b = IsWrite a × IsWrite b × (value_of a.act ≡ value_of b.act)

pub Decides-clash : (a b : Op) → Decides (clash a b) (Clash a b)
Decides-clash a b =
    Decides-like (clash a b) (λ h. (h.0, h.1.0, h.1.1)) (λ h. (h.0, (h.1, h.2)))
    (Decides-and (is_write a) (is_write b && same_value (value_of a.act) (value_of b.act)) (λ e. e, λ e. e)
    (Decides-and (is_write b) (same_value (value_of a.act) (value_of b.act)) (λ e. e, λ e. e) (Decides-same_value (value_of a.act) (value_of b.act))))

pub clash-flips : (a b : Op) → clash a b ≡ clash b a
clash-flips a b =
    same_from_decides (clash a b) (clash b a) (Decides-clash a b)
    (Decides-like (clash b a) (λ (h : Clash b a). (h.1, h.0, sym h.2)) (λ (h : Clash a b). (h.1, h.0, sym h.2)) (Decides-clash b a))

-- the first operation comes before the second in the list
abbrev pub StandsBefore : List Op → Op → Op → Type 0
StandsBefore [] y z = ⊥
StandsBefore (a ∷ later) y z = ((a ≡ y) × Contains later z) ⊎ StandsBefore later y z

pub later_present : (xs : List Op) (y z : Op) → StandsBefore xs y z → Contains xs z
later_present [] y z s = absurd s
later_present (a ∷ later) y z (inl h) = there a later z h.1
later_present (a ∷ later) y z (inr s) = there a later z (later_present later y z s)

-- of two different ones one comes before the other
pub one_way : (xs : List Op) (y z : Op) → Contains xs y → Contains xs z → y ≢ z → StandsBefore xs y z ⊎ StandsBefore xs z y
one_way [] y z h k n = absurd (in_none y h)
one_way (a ∷ later) y z h k n = by_cases (contains_cases a later y h) (contains_cases a later z k) (λ h k. one_way later y z h k n)
  where
    wider : StandsBefore later y z ⊎ StandsBefore later z y → StandsBefore (a ∷ later) y z ⊎ StandsBefore (a ∷ later) z y
    wider (inl s) = inl (inr s)
    wider (inr s) = inr (inr s)

    by_cases : (a ≡ y) ⊎ Contains later y → (a ≡ z) ⊎ Contains later z → (Contains later y → Contains later z → StandsBefore later y z ⊎ StandsBefore later z y) → StandsBefore (a ∷ later) y z ⊎ StandsBefore (a ∷ later) z y
    by_cases (inl e) (inl f) rest = absurd (n (sym e ∙ f))
    by_cases (inl e) (inr k) rest = inl (inl (e, k))
    by_cases (inr h) (inl f) rest = inr (inl (f, h))
    by_cases (inr h) (inr k) rest = wider (rest h k)

kept_apart : (xs : List Op) (y z : Op) → KeepsPrecedence xs → StandsBefore xs y z → ¬ Precedes z y
kept_apart [] y z keeps s p = absurd s
kept_apart (a ∷ later) y z keeps (inl (e, k)) p = from_recursion (λ b. ¬ Precedes b a) later keeps.0 z k (subst (λ (x : Op). Precedes z x) (sym e) p)
kept_apart (a ∷ later) y z keeps (inr s) p = kept_apart later y z keeps.1 s p

-- an operation that precedes another comes before it
pub present_first : (xs : List Op) (y z : Op) → KeepsPrecedence xs → Contains xs y → Contains xs z → y ≢ z → Precedes y z → StandsBefore xs y z
present_first xs y z keeps h k n p = by_cases (one_way xs y z h k n)
  where
    by_cases : StandsBefore xs y z ⊎ StandsBefore xs z y → StandsBefore xs y z
    by_cases (inl s) = s
    by_cases (inr s) = absurd (kept_apart xs z y keeps s p)

-- no write of the list has the value
abbrev pub IsFree : Value → List Op → Type 0
IsFree v xs = (w : Op) → Contains xs w → IsWrite w → value_of w.act ≢ v

-- reads return the nearest value, the held one at first, and no value is written twice nor the held one once
pub record IsSound (held : Value) (xs : List Op) : Type 0 where
  pub reads : ReadsNearest held xs
  pub once : IsDistinct clash xs
  pub free : IsFree held xs

found : (held : Value) (act : Act) (rest : Value → Type 0) → Finds held act × rest (value_after held act) → is_write_act act ≡ false → (value_of act ≡ held) × rest (value_of act)
found held (Read v) rest h r = (h.0, subst rest (sym h.0) h.1)
found held (Write v) rest h r = absurd (cc)

put : (held : Value) (act : Act) (rest : Value → Type 0) → Finds held act × rest (value_after held act) → is_write_act act ≡ true → rest (value_of act)
put held (Read v) rest h w = absurd (cc)
put held (Write v) rest h w = h.1

pub read_found : (held : Value) (a : Op) (later : List Op) → ReadsNearest held (a ∷ later) → is_write a ≡ false → value_of a.act ≡ held
read_found held a later h r = (found held a.act (λ v. ReadsNearest v later) h r).0

-- after an operation the held value is its value
pub reads_after : (held : Value) (a : Op) (later : List Op) → ReadsNearest held (a ∷ later) → ReadsNearest (value_of a.act) later
reads_after held a later h = by_cases (cases_Bool (is_write a))
  where
    by_cases : (is_write a ≡ true) ⊎ (is_write a ≡ false) → ReadsNearest (value_of a.act) later
    by_cases (inl w) = put held a.act (λ v. ReadsNearest v later) h w
    by_cases (inr r) = (found held a.act (λ v. ReadsNearest v later) h r).1

pub sound_after : (held : Value) (a : Op) (later : List Op) → IsSound held (a ∷ later) → IsSound (value_of a.act) later
sound_after held a later s = record {
  reads = reads_after held a later s.reads;
  once = IsDistinct-tail clash a later s.once;
  free = by_cases (cases_Bool (is_write a));
}
  where
    by_cases : (is_write a ≡ true) ⊎ (is_write a ≡ false) → IsFree (value_of a.act) later
    by_cases (inl t) w h k e =
        not_from_Decides (clash a w) (Decides-clash a w) (from_recursion (λ y. clash a y ≡ false) later (IsDistinct-head clash a later s.once) w h) (t, k, sym e)
    by_cases (inr f) w h k e = s.free w (there a later w h) k (e ∙ read_found held a later s.reads f)

-- each value is the held one or is written
pub value_from : (held : Value) (xs : List Op) → ReadsNearest held xs → (x : Op) → Contains xs x → (value_of x.act ≡ held) ⊎ ((w : Op) × Contains xs w × IsWrite w × (value_of w.act ≡ value_of x.act))
value_from held [] reads x h = absurd (in_none x h)
value_from held (a ∷ later) reads x h = by_place (contains_cases a later x h) (value_from (value_of a.act) later (reads_after held a later reads) x)
  where
    by_act : (y : Op) → value_of a.act ≡ value_of y.act → (is_write a ≡ true) ⊎ (is_write a ≡ false) → (value_of y.act ≡ held) ⊎ ((w : Op) × Contains (a ∷ later) w × IsWrite w × (value_of w.act ≡ value_of y.act))
    by_act y e (inl t) = inr (a, here a later, t, e)
    by_act y e (inr f) = inl (sym e ∙ read_found held a later reads f)

    by_rest : (value_of x.act ≡ value_of a.act) ⊎ ((w : Op) × Contains later w × IsWrite w × (value_of w.act ≡ value_of x.act)) → (value_of x.act ≡ held) ⊎ ((w : Op) × Contains (a ∷ later) w × IsWrite w × (value_of w.act ≡ value_of x.act))
    by_rest (inl e) = by_act x (sym e) (cases_Bool (is_write a))
    by_rest (inr (w, k, t, e)) = inr (w, there a later w k, t, e)

    by_place : (a ≡ x) ⊎ Contains later x → (Contains later x → (value_of x.act ≡ value_of a.act) ⊎ ((w : Op) × Contains later w × IsWrite w × (value_of w.act ≡ value_of x.act))) → (value_of x.act ≡ held) ⊎ ((w : Op) × Contains (a ∷ later) w × IsWrite w × (value_of w.act ≡ value_of x.act))
    by_place (inl e) rest = by_act x (ap (λ (o : Op). value_of o.act) e) (cases_Bool (is_write a))
    by_place (inr k) rest = by_rest (rest k)

-- a value that is neither held nor written does not come later
gone : (held : Value) (xs : List Op) (u : Value) → ReadsNearest held xs → u ≢ held → IsFree u xs → (z : Op) → Contains xs z → value_of z.act ≢ u
gone held xs u reads n free z h e = by_cases (value_from held xs reads z h)
  where
    by_cases : (value_of z.act ≡ held) ⊎ ((w : Op) × Contains xs w × IsWrite w × (value_of w.act ≡ value_of z.act)) → ⊥
    by_cases (inl f) = n (sym e ∙ f)
    by_cases (inr (w, k, t, f)) = free w k t (f ∙ e)

-- after an operation of another value the held one does not come back
pub no_return : (held : Value) (xs : List Op) (y z : Op) → IsSound held xs → value_of y.act ≢ held → value_of z.act ≡ held → ¬ StandsBefore xs y z
no_return held [] y z s n e present = present
no_return held (a ∷ later) y z s n e present = by_act (cases_Bool (is_write a)) present (λ f. no_return (value_of a.act) later y z (sound_after held a later s) (λ g. n (g ∙ f)) (e ∙ sym f))
  where
    by_act : (is_write a ≡ true) ⊎ (is_write a ≡ false) → StandsBefore (a ∷ later) y z → (value_of a.act ≡ held → ¬ StandsBefore later y z) → ⊥
    by_act (inl t) (inl h) rest =
        gone (value_of a.act) later held (reads_after held a later s.reads) (λ f. s.free a (here a later) t (sym f)) (λ w k. s.free w (there a later w k)) z h.1 e
    by_act (inl t) (inr h) rest =
        gone (value_of a.act) later held (reads_after held a later s.reads) (λ f. s.free a (here a later) t (sym f)) (λ w k. s.free w (there a later w k)) z (later_present later y z h) e
    by_act (inr f) (inl h) rest = n (sym (ap (λ (o : Op). value_of o.act) h.0) ∙ read_found held a later s.reads f)
    by_act (inr f) (inr h) rest = rest (read_found held a later s.reads f) h

-- no operation of the first value comes before one of the second
abbrev pub NoneBefore : List Op → Value → Value → Type 0
NoneBefore xs u v = (y z : Op) → value_of y.act ≡ u → value_of z.act ≡ v → ¬ StandsBefore xs y z

-- of two values all operations of one come before all of the other
pub one_first : (held : Value) (xs : List Op) (u v : Value) → IsSound held xs → u ≢ v → NoneBefore xs u v ⊎ NoneBefore xs v u
one_first held [] u v s n = inl (λ y z e f present. present)
one_first held (a ∷ later) u v s n = by_cases (value_cases (value_of a.act) u) (value_cases (value_of a.act) v) (one_first (value_of a.act) later u v (sound_after held a later s) n)
  where
    after : IsSound (value_of a.act) later
    after = sound_after held a later s

    first_is : (p q : Value) → p ≢ q → value_of a.act ≡ p → NoneBefore (a ∷ later) q p
    first_is p q m e y z f g (inl h) = m (sym e ∙ (ap (λ (o : Op). value_of o.act) h.0 ∙ f))
    first_is p q m e y z f g (inr h) = no_return (value_of a.act) later y z after (λ k. m (sym e ∙ (sym k ∙ f))) (g ∙ sym e) h

    wider : (p q : Value) → value_of a.act ≢ p → NoneBefore later p q → NoneBefore (a ∷ later) p q
    wider p q m none y z f g (inl h) = m (ap (λ (o : Op). value_of o.act) h.0 ∙ f)
    wider p q m none y z f g (inr h) = none y z f g h

    by_rest : value_of a.act ≢ u → value_of a.act ≢ v → NoneBefore later u v ⊎ NoneBefore later v u → NoneBefore (a ∷ later) u v ⊎ NoneBefore (a ∷ later) v u
    by_rest m k (inl none) = inl (wider u v m none)
    by_rest m k (inr none) = inr (wider v u k none)

    by_cases : (value_of a.act ≡ u) ⊎ (value_of a.act ≢ u) → (value_of a.act ≡ v) ⊎ (value_of a.act ≢ v) → NoneBefore later u v ⊎ NoneBefore later v u → NoneBefore (a ∷ later) u v ⊎ NoneBefore (a ∷ later) v u
    by_cases (inl e) c rest = inr (first_is u v n e)
    by_cases (inr m) (inl e) rest = inl (first_is v u (λ k. n (sym k)) e)
    by_cases (inr m) (inr k) rest = by_rest m k rest

-- no read of a value that is not held comes before its write
pub write_first : (held : Value) (xs : List Op) (r w : Op) → IsSound held xs → value_of r.act ≢ held → is_write r ≡ false → IsWrite w → value_of w.act ≡ value_of r.act → ¬ StandsBefore xs r w
write_first held [] r w s n f t e present = present
write_first held (a ∷ later) r w s n f t e (inl h) = n (sym (ap (λ (o : Op). value_of o.act) h.0) ∙ read_found held a later s.reads (ap is_write h.0 ∙ f))
write_first held (a ∷ later) r w s n f t e (inr h) =
    let after = sound_after held a later s in
    write_first (value_of a.act) later r w after (λ g. after.free w (later_present later r w h) t (e ∙ g)) f t e h
