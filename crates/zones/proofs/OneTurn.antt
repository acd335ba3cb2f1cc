-- The judged operations have one order in turn.
use Rattle.std.proofs.Common.{◌≡◌, ℕ, ◌==◌, ◌⊎◌, inl, inr, Bool, true, false, List, [], ◌∷◌, refl, sym, ap, subst, ◌∙◌, arith}
use Rattle.std.specs.Prelude.{Contains, IsPermutation, slice_index_or}
use Rattle.std.specs.List.{AllPairs, IsDistinct}
use Rattle.std.proofs.lemmas.Bool.{false_from_ne_true}
use Rattle.std.proofs.lemmas.Bool.Decides.{Decides-eqb, Decides-like, same_from_decides}
use Rattle.std.proofs.lemmas.List.Elements.{All-contains}
use Rattle.std.proofs.lemmas.List.Kept.{AllPairs-filter}
use Rattle.std.proofs.lemmas.List.Sorted.{IsPermutation-sym, Contains-permutation}
use Rattle.std.proofs.lemmas.Map.Keys.{IsDistinct-from_apart, IsDistinct-IsPermutation, IsDistinct-head, IsDistinct-tail}
use Rattle.intervals.specs.declared.operation.Op.{Op}
use Rattle.intervals.specs.declared.operation.Moment.{Moment}
use Rattle.intervals.specs.declared.operation.Value.{Value}
use Rattle.intervals.specs.Operation.{is_write, value_of, judged}
use Rattle.intervals.specs.Standing.{IsMomentOf, ShareNoMoment, HasDistinctMoments}
use Rattle.zones.specs.Turn.{left_of, StandInTurn, IsInTurn}
use Rattle.zones.proofs.EdgeOrder.{at_most_both}
use Rattle.zones.proofs.Judged.{is_judged}
use Rattle.zones.proofs.Members.{here, there, in_none, contains_cases, kept_present, from_recursion, pairs_head, pairs_tail}
use Rattle.zones.proofs.Cluster.{EdgeIn, left_in, settle}

-- two elements of a list are one, or the relation holds of them
pub one_or_related : (R : Op → Op → Type 0) → ((x y : Op) → R x y → R y x) → (xs : List Op) → AllPairs R xs → (x y : Op) → Contains xs x → Contains xs y → (x ≡ y) ⊎ R x y
one_or_related R symmetric [] pairs x y hx hy = absurd (in_none x hx)
one_or_related R symmetric (a ∷ xs) pairs x y hx hy =
    by_cases (contains_cases a xs x hx) (contains_cases a xs y hy) (λ hx hy. one_or_related R symmetric xs (pairs_tail R a xs pairs) x y hx hy)
  where
    by_cases : (a ≡ x) ⊎ Contains xs x → (a ≡ y) ⊎ Contains xs y → (Contains xs x → Contains xs y → (x ≡ y) ⊎ R x y) → (x ≡ y) ⊎ R x y
    by_cases (inl e) (inl f) rest = inl (sym e ∙ f)
    by_cases (inl e) (inr h) rest = inr (subst (λ (z : Op). R z y) e (All-contains (R a) xs y (pairs_head R a xs pairs) h))
    by_cases (inr h) (inl f) rest = inr (subst (λ (z : Op). R x z) f (symmetric a x (All-contains (R a) xs x (pairs_head R a xs pairs) h)))
    by_cases (inr h) (inr k) rest = rest h k

-- two operations that have one moment are one
pub one_holder : (ops : List Op) → HasDistinctMoments ops → (x y : Op) → Contains ops x → Contains ops y → (m : Moment) → IsMomentOf x m → IsMomentOf y m → x ≡ y
one_holder ops moments x y h k m p q = by_cases (one_or_related ShareNoMoment (λ a b n m p q. n m q p) ops moments x y h k)
  where
    by_cases : (x ≡ y) ⊎ ShareNoMoment x y → x ≡ y
    by_cases (inl e) = e
    by_cases (inr n) = absurd (n m p q)

pub same_moment : (m n : Moment) → m.0 ≡ n.0 → m ≡ n
same_moment m n e = ap (λ (k : ℕ). let moment : Moment = record { 0 = k } in moment) e

same_act : (x y : Bool) → (y ≡ true → x ≡ true) → (x ≡ true → y ≡ true) → x ≡ y
same_act true y p q = sym (q refl)
same_act false true p q = p refl
same_act false false p q = refl

-- the test whether both begin at one moment
abbrev begin_together : Op → Op → Bool
begin_together a b = a.begin.0 == b.begin.0

together-flips : (a b : Op) → begin_together a b ≡ begin_together b a
together-flips a b =
    same_from_decides (begin_together a b) (begin_together b a) (Decides-eqb a.begin.0 b.begin.0)
    (Decides-like (begin_together b a) (λ e. sym e) (λ e. sym e) (Decides-eqb b.begin.0 a.begin.0))

module _ (initial : Value) (ops : List Op) (moments : HasDistinctMoments ops) where
  -- two operations that may each come before the other are one
  one_operation : (x y : Op) → Contains (judged ops) x → Contains (judged ops) y → StandInTurn initial ops x y → StandInTurn initial ops y x → x ≡ y
  one_operation x y h k s t =
      one_holder ops moments x y (kept_present is_judged ops x h).0 (kept_present is_judged ops y k).0 x.begin
      (inl refl) (inl (sym (same_moment x.begin y.begin begin)))
    where
      left : left_of initial ops x ≡ left_of initial ops y
      left = at_most_both (left_of initial ops x) (left_of initial ops y) s.by_zone t.by_zone

      value : value_of x.act ≡ value_of y.act
      value =
          settle initial ops moments (value_of x.act) (value_of y.act) (left_of initial ops y)
          (subst (EdgeIn initial ops (value_of x.act)) left (left_in initial ops (value_of x.act) x (h, refl)))
          (left_in initial ops (value_of y.act) y (k, refl))

      act : is_write x ≡ is_write y
      act = same_act (is_write x) (is_write y) (s.write_first value) (t.write_first (sym value))

      begin : x.begin.0 ≡ y.begin.0
      begin = omega (arith, s.by_beginning value act, t.by_beginning (sym value) (sym act))

  -- lists in turn of the same operations
  abbrev IsAmong : List Op → List Op → Type 0
  IsAmong xs ys = (x : Op) → Contains xs x → Contains ys x

  later_among : (x : Op) (xs ys : List Op) → IsDistinct begin_together (x ∷ xs) → IsAmong (x ∷ xs) (x ∷ ys) → IsAmong xs ys
  later_among x xs ys distinct among z h = by_cases (contains_cases x ys z (among z (there x xs z h)))
    where
      by_cases : (x ≡ z) ⊎ Contains ys z → Contains ys z
      by_cases (inl e) =
          let apart = from_recursion (λ y. begin_together x y ≡ false) xs (IsDistinct-head begin_together x xs distinct) z h in
          let same : begin_together x z ≡ true = (Decides-eqb x.begin.0 z.begin.0).1 (ap (λ (o : Op). o.begin.0) e) in
          absurd (cc)
      by_cases (inr k) = k

  same_first : (x y : Op) (xs ys : List Op) → IsAmong (x ∷ xs) (judged ops) → IsAmong (x ∷ xs) (y ∷ ys) → IsAmong (y ∷ ys) (x ∷ xs) → IsInTurn initial ops (x ∷ xs) → IsInTurn initial ops (y ∷ ys) → x ≡ y
  same_first x y xs ys members there_too back s t = by_cases (contains_cases y ys x (there_too x (here x xs))) (contains_cases x xs y (back y (here y ys)))
    where
      by_cases : (y ≡ x) ⊎ Contains ys x → (x ≡ y) ⊎ Contains xs y → x ≡ y
      by_cases (inl e) c = sym e
      by_cases (inr h) (inl e) = e
      by_cases (inr h) (inr k) =
          one_operation x y (members x (here x xs)) (members y (there x xs y k))
          (from_recursion (StandInTurn initial ops x) xs s.0 y k)
          (from_recursion (StandInTurn initial ops y) ys t.0 x h)

  one_list : (xs ys : List Op) → IsAmong xs (judged ops) → IsAmong xs ys → IsAmong ys xs → IsDistinct begin_together xs → IsDistinct begin_together ys → IsInTurn initial ops xs → IsInTurn initial ops ys → xs ≡ ys
  one_list [] [] members among back d e s t = refl
  one_list [] (y ∷ ys) members among back d e s t = absurd (in_none y (back y (here y ys)))
  one_list (x ∷ xs) [] members among back d e s t = absurd (in_none x (among x (here x xs)))
  one_list (x ∷ xs) (y ∷ ys) members among back d e s t =
      let first : x ≡ y = same_first x y xs ys members among back s t in
      let among_later : IsAmong xs ys = later_among x xs ys d (subst (λ (z : Op). IsAmong (x ∷ xs) (z ∷ ys)) (sym first) among) in
      let back_later : IsAmong ys xs = later_among y ys xs e (subst (λ (z : Op). IsAmong (y ∷ ys) (z ∷ xs)) first back) in
      let rest : xs ≡ ys =
      one_list xs ys (λ z h. members z (there x xs z h)) among_later back_later
      (IsDistinct-tail begin_together x xs d) (IsDistinct-tail begin_together y ys e) s.1 t.1
      in
      cc

  begin_apart : IsDistinct begin_together (judged ops)
  begin_apart = IsDistinct-from_apart begin_together (judged ops) (λ i j d lt within.
      let x = slice_index_or (judged ops) i d in
      let y = slice_index_or (judged ops) j d in
      false_from_ne_true (begin_together x y) (λ t.
      AllPairs-filter ShareNoMoment is_judged ops moments i j d lt within x.begin (inl refl)
      (inl (sym (same_moment x.begin y.begin ((Decides-eqb x.begin.0 y.begin.0).0 t))))))

  pub one_turn : (order other : List Op) → IsPermutation (judged ops) order → IsPermutation (judged ops) other → IsInTurn initial ops order → IsInTurn initial ops other → order ≡ other
  one_turn order other p q s t =
      one_list order other back_p
      (λ x h. Contains-permutation (judged ops) other x q (back_p x h))
      (λ x h. Contains-permutation (judged ops) order x p (back_q x h))
      (IsDistinct-IsPermutation begin_together together-flips (judged ops) order p begin_apart)
      (IsDistinct-IsPermutation begin_together together-flips (judged ops) other q begin_apart)
      s t
    where
      back_p : IsAmong order (judged ops)
      back_p x h = Contains-permutation order (judged ops) x (IsPermutation-sym (judged ops) order p) h

      back_q : IsAmong other (judged ops)
      back_q x h = Contains-permutation other (judged ops) x (IsPermutation-sym (judged ops) other q) h
