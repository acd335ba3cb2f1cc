-- Operations that are sorted by their keys are in turn.
use Rattle.std.proofs.Common.{◌≡◌, ◌≢◌, ℕ, ◌≤◌, ◌<◌, ◌⊎◌, inl, inr, Bool, true, false, not, List, [], ◌∷◌, refl, sym, ap, subst, ◌∙◌, arith}
use Rattle.std.specs.Prelude.{All, Contains, IsPermutation, map, nat_lt}
use Rattle.std.specs.List.{AllPairs, list_any}
use Rattle.std.specs.List.Sorted.{IsSortedByKey}
use Rattle.std.specs.Ordering.{is_lt, bool_cmp, nat_cmp, ordering_then}
use Rattle.std.specs.declared.cmp.Ordering.{Ordering}
use Rattle.std.specs.declared.cmp.Ordering.TheVariants.{Less, Equal}
use Rattle.std.proofs.lemmas.Bool.{cases_lt, lt-ltb, cases_Bool}
use Rattle.std.proofs.lemmas.Bool.Decides.{not_from_Decides}
use Rattle.std.proofs.lemmas.List.Elements.{All-contains, All-map, recursion_from_All}
use Rattle.std.proofs.lemmas.List.Sorted.{IsPermutation-map, All-permutation, ranks_by, sorted_far}
use Rattle.std.proofs.lemmas.Cmp.{nat_cmp_total, tied_itself}
use Rattle.intervals.specs.declared.operation.Op.{Op}
use Rattle.intervals.specs.declared.operation.Value.{Value}
use Rattle.intervals.specs.Operation.{IsWrite, is_write, value_of, judged}
use Rattle.intervals.proofs.Agreement.{Decides-list_any}
use Rattle.zone_tree.specs.declared.edge.Edge.{Edge}
use Rattle.zone_tree.specs.declared.edge.Edge.TheVariants.{Before, At, Never}
use Rattle.zone_tree.specs.contracts.edge.EdgeOrd.TheImpl as edge_ord
use Rattle.zone_tree.specs.Edge.{ComesBefore}
use Rattle.zones.specs.declared.order.TurnKey.{TurnKey}
use Rattle.zones.specs.declared.order.OpInTurn.{OpInTurn}
use Rattle.zones.specs.contracts.order.TurnKeyOrd.TheImpl as turn_ord
use Rattle.zones.specs.contracts.order.TurnKeyOrd.TheImpl.Laws.{total-law}
use Rattle.zones.specs.Cluster.{zone_of, written_values}
use Rattle.zones.specs.Fault.{IsUnwritten, IsFaultless, is_write_of}
use Rattle.zones.specs.Turn.{left_of, StandInTurn, IsInTurn}
use Rattle.zones.specs.Order.{turn_of, placed_of}
use Rattle.zones.proofs.Judged.{is_judged, is_judged_by_end}
use Rattle.zones.proofs.Members.{value_cases, pairs_head, pairs_tail, pairs_mapped, all_from}
use Rattle.zones.proofs.Written.{written_initial, written_by}
use Rattle.zones.proofs.FirstReads.{IsWriteFor, Decides-write_of, some_present, none_of}

-- the derived order of edges
abbrev edge_cmp : Edge → Edge → Ordering
edge_cmp = (edge_ord.ghosts).cmp

edge_itself : (a : Edge) → edge_cmp a a ≡ Equal
edge_itself Before = refl
edge_itself (At m) = tied_itself nat_cmp_total m.0
edge_itself Never = refl

-- the edge that comes before another is less in that order
edge_less : (a b : Edge) → ComesBefore a b → edge_cmp a b ≡ Less
edge_less Before Before h = absurd (cc)
edge_less Before (At n) h = refl
edge_less Before Never h = refl
edge_less (At m) Before h = absurd (cc)
edge_less (At m) (At n) h = rw h refl
edge_less (At m) Never h = refl
edge_less Never b h = absurd (cc)

-- where no read is unwritten the value of each judged operation has a write
module _ (initial : Value) (ops : List Op) where
  of_read : (r : Op) → ¬ IsUnwritten initial ops r → is_judged r ≡ true → is_write r ≡ false → Contains (written_values initial ops) (value_of r.act)
  of_read r n j f = by_value (value_cases initial (value_of r.act))
    where
      by_write : (list_any (is_write_of r) ops ≡ true) ⊎ (list_any (is_write_of r) ops ≡ false) → initial ≢ value_of r.act → Contains (written_values initial ops) (value_of r.act)
      by_write (inl t) m =
          let (w, h, for) = some_present (IsWriteFor r) ops ((Decides-list_any (is_write_of r) (IsWriteFor r) (Decides-write_of r) ops).0 t) in
          written_by initial ops (value_of r.act) w (record { present = h; write = for.0; same = for.1 })
      by_write (inr g) m =
          let none = not_from_Decides (list_any (is_write_of r) ops) (Decides-list_any (is_write_of r) (IsWriteFor r) (Decides-write_of r) ops) g in
          absurd (n (record {
            read = is_judged_by_end (is_write r) _ j f;
            not_initial = λ e. m (sym e);
            not_written = all_from (λ w. IsWrite w → value_of w.act ≢ value_of r.act) ops (λ w h t e. All-contains (λ w. ¬ IsWriteFor r w) ops w (none_of (IsWriteFor r) ops none) h (t, e));
          }))

      by_value : (initial ≡ value_of r.act) ⊎ (initial ≢ value_of r.act) → Contains (written_values initial ops) (value_of r.act)
      by_value (inl e) = subst (Contains (written_values initial ops)) e (written_initial initial ops)
      by_value (inr m) = by_write (cases_Bool (list_any (is_write_of r) ops)) m

  pub has_write : IsFaultless initial ops → (op : Op) → Contains ops op → is_judged op ≡ true → Contains (written_values initial ops) (value_of op.act)
  has_write faultless op h j = by_act (cases_Bool (is_write op))
    where
      by_act : (is_write op ≡ true) ⊎ (is_write op ≡ false) → Contains (written_values initial ops) (value_of op.act)
      by_act (inl t) = written_by initial ops (value_of op.act) op (record { present = h; write = t; same = refl })
      by_act (inr f) = of_read op (All-contains (λ r. ¬ IsUnwritten initial ops r) ops op faultless.written h) j f

-- the derived order of the keys
abbrev turn_cmp : TurnKey → TurnKey → Ordering
turn_cmp = (turn_ord.ghosts).cmp

-- the second comes no earlier than the first
abbrev NotLess : TurnKey → TurnKey → Type 0
NotLess a b = is_lt (turn_cmp b a) ≡ false

at_most : (b c : ℕ) → is_lt (nat_cmp c b) ≡ false → b ≤ c
at_most b c n = by_cases (cases_lt c b)
  where
    by_cases : (c < b) ⊎ (b ≤ c) → b ≤ c
    by_cases (inl lt) = absurd (let less : nat_lt c b ≡ true = lt-ltb c b lt in let q : is_lt (nat_cmp c b) ≡ true = rw less refl in cc)
    by_cases (inr le) = le

module _ (initial : Value) (ops : List Op) where
  left_not_after : (a b : TurnKey) → NotLess a b → ¬ ComesBefore b.left a.left
  left_not_after a b n p = let less : edge_cmp b.left a.left ≡ Less = edge_less b.left a.left p in absurd (let q : is_lt (turn_cmp b a) ≡ true = rw less refl in cc)

  write_before : (x y : Bool) (begin : Ordering) → is_lt (ordering_then (bool_cmp (not y) (not x)) begin) ≡ false → y ≡ true → x ≡ true
  write_before true y begin n t = refl
  write_before false true begin n t = absurd (cc)
  write_before false false begin n t = t

  begin_at_most : (x y : Bool) (b c : ℕ) → x ≡ y → is_lt (ordering_then (bool_cmp (not y) (not x)) (nat_cmp c b)) ≡ false → b ≤ c
  begin_at_most true true b c e n = at_most b c n
  begin_at_most true false b c e n = absurd (cc)
  begin_at_most false true b c e n = absurd (cc)
  begin_at_most false false b c e n = at_most b c n

  -- operations of one value, whose keys have one left edge
  alike : (x y : Op) → value_of x.act ≡ value_of y.act → NotLess (turn_of initial ops x) (turn_of initial ops y) → is_lt (ordering_then (bool_cmp (not (is_write y)) (not (is_write x))) (nat_cmp y.begin.0 x.begin.0)) ≡ false
  alike x y e n =
      let left : left_of initial ops x ≡ left_of initial ops y = ap (λ (v : Value). (zone_of initial ops v).left) e in
      let tie : edge_cmp (left_of initial ops y) (left_of initial ops x) ≡ Equal = subst (λ (l : Edge). edge_cmp l (left_of initial ops x) ≡ Equal) left (edge_itself (left_of initial ops x)) in
      rw tie at n

  stand : (x y : Op) → NotLess (turn_of initial ops x) (turn_of initial ops y) → StandInTurn initial ops x y
  stand x y n = record {
    by_zone = left_not_after (turn_of initial ops x) (turn_of initial ops y) n;
    write_first = λ e t. write_before (is_write x) (is_write y) (nat_cmp y.begin.0 x.begin.0) (alike x y e n) t;
    by_beginning = λ e act. begin_at_most (is_write x) (is_write y) x.begin.0 y.begin.0 act (alike x y e n);
  }

  in_turn_from : (xs : List Op) → AllPairs (StandInTurn initial ops) xs → IsInTurn initial ops xs
  in_turn_from [] pairs = tt
  in_turn_from (x ∷ later) pairs = (
    recursion_from_All (StandInTurn initial ops x) later (pairs_head (StandInTurn initial ops) x later pairs),
    in_turn_from later (pairs_tail (StandInTurn initial ops) x later pairs),
  )

  operations : (xs : List Op) → map (λ (p : OpInTurn). p.op) (map (placed_of initial ops) xs) ≡ xs
  operations [] = refl
  operations (x ∷ xs) = ap (λ ys. x ∷ ys) (operations xs)

  module _ (placed sorted : List OpInTurn) (is : placed ≡ map (placed_of initial ops) (judged ops)) (moved : IsPermutation placed sorted) where
    pub each_once : IsPermutation (judged ops) (map (λ (p : OpInTurn). p.op) sorted)
    each_once =
        subst (λ (xs : List Op). IsPermutation xs (map (λ (p : OpInTurn). p.op) sorted)) (ap (map (λ (p : OpInTurn). p.op)) is ∙ operations (judged ops))
        (IsPermutation-map (λ (p : OpInTurn). p.op) placed sorted moved)

    -- the key is that of the operation
    abbrev HasTurn : OpInTurn → Type 0
    HasTurn p = p.turn ≡ turn_of initial ops p.op

    turns : All HasTurn sorted
    turns = All-permutation HasTurn placed sorted moved (subst (All HasTurn) (sym is) (All-map HasTurn (placed_of initial ops) (judged ops) (λ k d lt. refl)))

    pub sorted_in_turn : IsSortedByKey (λ (p : OpInTurn). p.turn) turn_cmp sorted → IsInTurn initial ops (map (λ (p : OpInTurn). p.op) sorted)
    sorted_in_turn up =
        in_turn_from (map (λ (p : OpInTurn). p.op) sorted)
        (pairs_mapped (λ (p : OpInTurn). p.op) HasTurn (λ p q. NotLess p.turn q.turn) (StandInTurn initial ops)
        (λ p q e f n. stand p.op q.op (subst (λ (t : TurnKey). NotLess t (turn_of initial ops q.op)) e (subst (NotLess p.turn) f n)))
        sorted turns
        (λ i j d lt within. sorted_far (λ (p q : OpInTurn). is_lt (turn_cmp p.turn q.turn)) (ranks_by total-law (λ (p : OpInTurn). p.turn)) sorted up i j d (omega arith) within))

-- the ids of the operations
pub named : (placed : List OpInTurn) → map (λ (p : OpInTurn). p.op.id) placed ≡ map (λ (op : Op). op.id) (map (λ (p : OpInTurn). p.op) placed)
named [] = refl
named (p ∷ placed) = ap (λ ids. p.op.id ∷ ids) (named placed)
