-- An order of two operations, and why a read cannot come before the write of its value.
use Rattle.std.proofs.Common.{◌≡◌, ◌≢◌, ◌≤◌, ◌⊎◌, inl, inr, List, [], ◌∷◌, ◌++◌, length, Some, None, IsPermutation, refl, sym, ap, ◌∙◌, subst, arith, lit<, lit≤}
use Rattle.std.specs.Prelude.{All, Contains, IfSome}
use Rattle.std.proofs.lemmas.List.Elements.{All-nil, All-cons, All-contains}
use Rattle.std.proofs.lemmas.List.Sorted.{IsPermutation-refl, length_permutation, Contains-permutation}
use Rattle.intervals.specs.declared.operation.Op.{Op}
use Rattle.intervals.specs.declared.operation.Act.TheVariants.{Read, Write}
use Rattle.intervals.specs.declared.operation.Value.{Value}
use Rattle.intervals.specs.declared.operation.OpId.{OpId}
use Rattle.intervals.specs.declared.operation.Value.TheVariants.{Nil}
use Rattle.intervals.specs.declared.edit.Change.{Change}
use Rattle.intervals.specs.declared.edit.Lent.TheVariants.{Answer}
use Rattle.intervals.specs.Terms.{unedited, state_of}
use Rattle.intervals.specs.Bare.{no_text}
use Rattle.intervals.specs.Edit.{changed}
use Rattle.intervals.specs.Histories.{number, place, op}
use Rattle.intervals.specs.Operation.{Precedes, IsWrite, value_of}
use Rattle.intervals.specs.Kind.{KeepsPrecedence, ReadsNearest, Finds, HasNoWrite, Holds}
use Rattle.watch.specs.Coming.{EndsLast, ComeInOrder}
use Rattle.watch.specs.Healing.{of_unknown_initial, read_then_invoked, write_withdrawn}
use Rattle.watch.proofs.Members.{here, there, in_none, contains_cases}

-- an order of two operations is one of two lists
two_orders : (a b : Op) (order : List Op) → a ≢ b → length order ≡ 2 → Contains order a → Contains order b → (order ≡ a ∷ b ∷ []) ⊎ (order ≡ b ∷ a ∷ [])
two_orders a b [] apart long of_a of_b = absurd (in_none a of_a)
two_orders a b (x ∷ []) apart long of_a of_b = absurd (omega arith)
two_orders a b (x ∷ y ∷ []) apart long of_a of_b = by_cases (contains_cases x (y ∷ []) a of_a) (contains_cases x (y ∷ []) b of_b)
  where
    alone : (c : Op) → (y ≡ c) ⊎ Contains [] c → y ≡ c
    alone c (inl e) = e
    alone c (inr h) = absurd (in_none c h)

    by_cases : (x ≡ a) ⊎ Contains (y ∷ []) a → (x ≡ b) ⊎ Contains (y ∷ []) b → (x ∷ y ∷ [] ≡ a ∷ b ∷ []) ⊎ (x ∷ y ∷ [] ≡ b ∷ a ∷ [])
    by_cases (inl e) (inl f) = absurd (apart (sym e ∙ f))
    by_cases (inl e) (inr h) = let f : y ≡ b = alone b (contains_cases y [] b h) in inl (cc)
    by_cases (inr h) (inl f) = let e : y ≡ a = alone a (contains_cases y [] a h) in inr (cc)
    by_cases (inr h) (inr k) = absurd (apart (sym (alone a (contains_cases y [] a h)) ∙ alone b (contains_cases y [] b k)))
two_orders a b (x ∷ y ∷ z ∷ more) apart long of_a of_b = absurd (omega arith)

-- a read that ended before the write of its value began, with no other operation
pub early_alone : (r w : Op) (v value : Value) (order : List Op) → r.act ≡ Read v → w.act ≡ Write v → Precedes r w
    → HasNoWrite (r ∷ w ∷ []) value → IsPermutation (r ∷ w ∷ []) order → KeepsPrecedence order → ReadsNearest value order → ⊥
early_alone r w v value order read write precedes none moved keeps reads =
    by_order (two_orders r w order (λ e. absurd (let f = ap (λ (o : Op). o.act) e in cc)) (length_permutation (r ∷ w ∷ []) order moved)
    (Contains-permutation (r ∷ w ∷ []) order r moved (here r (w ∷ [])))
    (Contains-permutation (r ∷ w ∷ []) order w moved (there r (w ∷ []) w (here w []))))
  where
    first_finds : ReadsNearest value (r ∷ w ∷ []) → v ≡ value
    first_finds h = subst (Finds value) read h.0

    by_order : (order ≡ r ∷ w ∷ []) ⊎ (order ≡ w ∷ r ∷ []) → ⊥
    by_order (inl e) =
        All-contains (λ w. IsWrite w → value_of w.act ≢ value) (r ∷ w ∷ []) w none (there r (w ∷ []) w (here w [])) (rw write refl)
        (ap value_of write ∙ first_finds (subst (ReadsNearest value) e reads))
    by_order (inr e) = (subst KeepsPrecedence e keeps).0.0 precedes

-- what is so of one operation, or of two, is so of the list of them
of_one : (P : Op → Type 0) (a : Op) → P a → All P (a ∷ [])
of_one P a p = All-cons P a [] p (All-nil P)

of_two : (P : Op → Type 0) (a b : Op) → P a → P b → All P (a ∷ b ∷ [])
of_two P a b p q = All-cons P a (b ∷ []) p (of_one P b q)

-- the read of 7 before it is answered and after it, and the write of 7
abbrev asked : Op
asked = op 0 (Read Nil) 0 None

abbrev read_change : Change
read_change = record { value = Some (number 7); begin = None; end = Some (Some (record { 0 = 1 })); lent = Answer no_text }

abbrev read : Op
read = changed asked read_change

abbrev written : Op
written = op 2 (Write (number 7)) 2 None

ends_last : EndsLast (asked ∷ []) (place 0) read_change
ends_last = record {
  unfinished = of_one (λ op. op.id ≡ place 0 → op.end ≡ None) asked (λ e. refl);
  begin = refl;
  end = (record { 0 = 1 }, refl, of_one (λ op. (op.begin.0 ≤ 1) × IfSome op.end (λ end. end.0 ≤ 1)) asked (lit≤ tt, tt));
  value = of_one (λ op. op.id ≡ place 0 → IsWrite op → read_change.value ≡ None) asked (λ e write. absurd (cc));
}

pub heals_in_order : ComeInOrder (unedited of_unknown_initial) (read_then_invoked ++ write_withdrawn ∷ [])
heals_in_order = (
  (λ accepted. (refl, All-nil _)),
  (
    (λ accepted. ends_last),
    (
      (λ accepted. (refl, of_one (λ op. (op.begin.0 ≤ 2) × IfSome op.end (λ end. end.0 ≤ 2)) read (lit≤ tt, lit≤ tt))),
      (
        (λ accepted. of_two (λ op. op.id ≡ place 2 → op.end ≡ None) read written
            (λ e. absurd (let f : 0 ≡ 2 = ap (λ (id : OpId). id.event) e in omega arith)) (λ e. refl)),
        tt,
      ),
    ),
  ),
)

pub heals : Holds (state_of of_unknown_initial (read ∷ []))
heals = (
  number 7,
  of_one (λ w. IsWrite w → value_of w.act ≢ number 7) read (λ write. absurd (cc)),
  (read ∷ [], record { each_once = IsPermutation-refl (read ∷ []); keeps = (tt, tt); reads = (refl, tt) }),
)

pub fails_before : ¬ Holds (state_of of_unknown_initial (read ∷ written ∷ []))
fails_before (value, none, arranged) =
    early_alone read written (number 7) value arranged.0 refl refl (lit< tt) none arranged.1.each_once arranged.1.keeps arranged.1.reads
