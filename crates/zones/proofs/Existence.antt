-- A register is faultless exactly where it has an arrangement, and then an order in turn is one.
use Rattle.std.proofs.Common.{◌≡◌, ◌↔◌, ℕ, ◌<◌, ◌≤◌, ◌⊎◌, inl, inr, Bool, true, false, List, [], ◌∷◌, refl, sym, ap, subst, ◌∙◌, cond, arith}
use Rattle.std.specs.Prelude.{IsPermutation}
use Rattle.std.proofs.lemmas.Bool.{cases_lt}
use Rattle.std.proofs.lemmas.List.Sorted.{IsPermutation-sym, Contains-permutation}
use Rattle.intervals.specs.declared.operation.Op.{Op}
use Rattle.intervals.specs.declared.operation.Value.{Value}
use Rattle.intervals.specs.Terms.{ClaimModel}
use Rattle.intervals.specs.Operation.{is_write, value_of, judged}
use Rattle.intervals.specs.Kind.{Arranges, IsArranged}
use Rattle.intervals.specs.Standing.{HasDistinctMoments, HasEndsAfterBeginnings, HasDistinctValues}
use Rattle.zone_tree.specs.declared.edge.Edge.{Edge}
use Rattle.zone_tree.specs.Edge.{ComesBefore}
use Rattle.zones.specs.Cluster.{zone_of}
use Rattle.zones.specs.Fault.{IsFaultless}
use Rattle.zones.specs.Turn.{left_of, StandInTurn, IsInTurn}
use Rattle.zones.proofs.EdgeOrder.{before_cases, before_irreflexive, before_transitive, not_both_ways}
use Rattle.zones.proofs.Members.{by_recursion_from, from_recursion}
use Rattle.zones.proofs.Sorting.{InOrder, ordered}
use Rattle.zones.proofs.InTurn.{turn_keeps, turn_reads}
use Rattle.zones.proofs.Excluded.{arranged_is_faultless}

-- by act: writes come before reads
abbrev rank : Bool → ℕ
rank w = cond w 0 1

-- by act, and then by beginning
abbrev ActsFirst : (r s b c : ℕ) → Type 0
ActsFirst r s b c = (r < s) ⊎ ((r ≡ s) × (b ≤ c))

acts_total : (r s b c : ℕ) → ActsFirst r s b c ⊎ ActsFirst s r c b
acts_total r s b c = by_rank (cases_lt r s) (cases_lt s r) (cases_lt b c)
  where
    by_rank : (r < s) ⊎ (s ≤ r) → (s < r) ⊎ (r ≤ s) → (b < c) ⊎ (c ≤ b) → ActsFirst r s b c ⊎ ActsFirst s r c b
    by_rank (inl p) q o = inl (inl p)
    by_rank (inr p) (inl q) o = inr (inl q)
    by_rank (inr p) (inr q) (inl o) = inl (inr (omega arith, omega arith))
    by_rank (inr p) (inr q) (inr o) = inr (inr (omega arith, o))

acts_transitive : (r s t b c d : ℕ) → ActsFirst r s b c → ActsFirst s t c d → ActsFirst r t b d
acts_transitive r s t b c d (inl p) (inl q) = inl (omega arith)
acts_transitive r s t b c d (inl p) (inr q) = inl (omega (arith, q.0))
acts_transitive r s t b c d (inr p) (inl q) = inl (omega (arith, p.0))
acts_transitive r s t b c d (inr p) (inr q) = inr (p.0 ∙ q.0, omega (arith, p.1, q.1))

-- by left edge, and then by act
abbrev LeftFirst : Edge → Edge → Type 0 → Type 0
LeftFirst a b acts = ComesBefore a b ⊎ ((a ≡ b) × acts)

module _ (initial : Value) (ops : List Op) where
  abbrev ByActs : Op → Op → Type 0
  ByActs x y = ActsFirst (rank (is_write x)) (rank (is_write y)) x.begin.0 y.begin.0

  abbrev ByKey : Op → Op → Type 0
  ByKey x y = LeftFirst (left_of initial ops x) (left_of initial ops y) (ByActs x y)

  key_total : (x y : Op) → ByKey x y ⊎ ByKey y x
  key_total x y = by_left (before_cases (left_of initial ops x) (left_of initial ops y)) (acts_total (rank (is_write x)) (rank (is_write y)) x.begin.0 y.begin.0)
    where
      by_left : ComesBefore (left_of initial ops x) (left_of initial ops y) ⊎ ((left_of initial ops x ≡ left_of initial ops y) ⊎ ComesBefore (left_of initial ops y) (left_of initial ops x)) → ByActs x y ⊎ ByActs y x → ByKey x y ⊎ ByKey y x
      by_left (inl p) acts = inl (inl p)
      by_left (inr (inr p)) acts = inr (inl p)
      by_left (inr (inl e)) (inl a) = inl (inr (e, a))
      by_left (inr (inl e)) (inr a) = inr (inr (sym e, a))

  key_transitive : (x y z : Op) → ByKey x y → ByKey y z → ByKey x z
  key_transitive x y z (inl p) (inl q) = inl (before_transitive (left_of initial ops x) (left_of initial ops y) (left_of initial ops z) p q)
  key_transitive x y z (inl p) (inr q) = inl (subst (λ (a : Edge). ComesBefore (left_of initial ops x) a) q.0 p)
  key_transitive x y z (inr p) (inl q) = inl (subst (λ (a : Edge). ComesBefore a (left_of initial ops z)) (sym p.0) q)
  key_transitive x y z (inr p) (inr q) =
      inr (p.0 ∙ q.0, acts_transitive (rank (is_write x)) (rank (is_write y)) (rank (is_write z)) x.begin.0 y.begin.0 z.begin.0 p.1 q.1)

  same_left : (x y : Op) → value_of x.act ≡ value_of y.act → left_of initial ops x ≡ left_of initial ops y
  same_left x y e = ap (λ (v : Value). (zone_of initial ops v).left) e

  not_left : (x y : Op) → value_of x.act ≡ value_of y.act → ¬ ComesBefore (left_of initial ops x) (left_of initial ops y)
  not_left x y e p = before_irreflexive (left_of initial ops y) (subst (λ (a : Edge). ComesBefore a (left_of initial ops y)) (same_left x y e) p)

  write_before : (b c : ℕ) (x y : Bool) → ActsFirst (rank x) (rank y) b c → y ≡ true → x ≡ true
  write_before b c true y h e = refl
  write_before b c false true (inl h) e = absurd (omega arith)
  write_before b c false true (inr h) e = absurd (omega (arith, h.0))
  write_before b c false false h e = e

  same_act : (x y : Bool) (b c : ℕ) → ActsFirst (rank x) (rank y) b c → x ≡ y → b ≤ c
  same_act x y b c (inl h) e = let f : rank x ≡ rank y = ap rank e in absurd (omega arith)
  same_act x y b c (inr h) e = h.1

  -- an order by the key is an order in turn
  in_turn : (x y : Op) → ByKey x y → StandInTurn initial ops x y
  in_turn x y (inl p) = record {
    by_zone = not_both_ways (left_of initial ops x) (left_of initial ops y) p;
    write_first = λ e. absurd (not_left x y e p);
    by_beginning = λ e. absurd (not_left x y e p);
  }
  in_turn x y (inr (e, acts)) = record {
    by_zone = λ q. before_irreflexive (left_of initial ops y) (subst (λ (a : Edge). ComesBefore (left_of initial ops y) a) e q);
    write_first = λ f t. write_before x.begin.0 y.begin.0 (is_write x) (is_write y) acts t;
    by_beginning = λ f same. same_act (is_write x) (is_write y) x.begin.0 y.begin.0 acts same;
  }

  all_in_turn : (order : List Op) → InOrder ByKey key_total key_transitive order → IsInTurn initial ops order
  all_in_turn [] s = tt
  all_in_turn (x ∷ later) s = (
    by_recursion_from (StandInTurn initial ops x) later (λ y h. in_turn x y (from_recursion (ByKey x) later s.0 y h)),
    all_in_turn later s.1,
  )

  -- the judged operations have an order in turn
  pub turn_exists : (order : List Op) × IsPermutation (judged ops) order × IsInTurn initial ops order
  turn_exists = by_order (ordered ByKey key_total key_transitive (judged ops))
    where
      by_order : ((order : List Op) × IsPermutation (judged ops) order × InOrder ByKey key_total key_transitive order) → (order : List Op) × IsPermutation (judged ops) order × IsInTurn initial ops order
      by_order (order, moved, s) = (order, moved, all_in_turn order s)

pub turn_arranges : (claim : ClaimModel) (ops order : List Op) → HasDistinctMoments ops → HasEndsAfterBeginnings ops → IsFaultless claim.initial ops → IsPermutation (judged ops) order → IsInTurn claim.initial ops order → Arranges claim ops order
turn_arranges claim ops order moments ends faultless moved turn = record {
  each_once = moved;
  keeps = turn_keeps claim.initial ops moments ends faultless order (λ x h. Contains-permutation order (judged ops) x (IsPermutation-sym (judged ops) order moved) h) turn;
  reads = turn_reads claim.initial ops moments ends faultless order moved turn;
}

pub faultless_is_arranged : (claim : ClaimModel) (ops : List Op) → HasDistinctMoments ops → HasEndsAfterBeginnings ops → IsFaultless claim.initial ops → IsArranged claim ops
faultless_is_arranged claim ops moments ends faultless = by_order (turn_exists claim.initial ops)
  where
    by_order : ((order : List Op) × IsPermutation (judged ops) order × IsInTurn claim.initial ops order) → IsArranged claim ops
    by_order (order, moved, turn) = (order, turn_arranges claim ops order moments ends faultless moved turn)

pub faultless_exactly : (claim : ClaimModel) (ops : List Op) → HasDistinctMoments ops → HasEndsAfterBeginnings ops → HasDistinctValues claim.initial ops → IsFaultless claim.initial ops ↔ IsArranged claim ops
faultless_exactly claim ops moments ends values = (faultless_is_arranged claim ops moments ends, arranged_is_faultless claim ops values)
