-- The least end and the greatest beginning of a cluster, from those of its write and of its reads.
use Rattle.std.proofs.Common.{◌≡◌, ◌≢◌, ◌⊎◌, inl, inr, Bool, true, false, List, [], ◌∷◌, Option, Some, None, refl, sym, ap, subst, ◌∙◌, ◌≤◌, arith}
use Rattle.std.specs.Prelude.{All, Contains, MatchOption, if◌then◌else◌, is_some, unwrap_or}
use Rattle.std.proofs.lemmas.Bool.{cases_Bool, ltb-true}
use Rattle.std.proofs.lemmas.List.Elements.{All-contains}
use Rattle.intervals.specs.declared.operation.Op.{Op}
use Rattle.intervals.specs.declared.operation.OpId.{OpId}
use Rattle.intervals.specs.declared.operation.Moment.{Moment}
use Rattle.intervals.specs.declared.operation.Value.{Value}
use Rattle.intervals.specs.Edit.{op_of}
use Rattle.intervals.specs.Judging.{end_number}
use Rattle.intervals.specs.Operation.{IsJudgedRead, IsWrite, is_write, judged, value_of}
use Rattle.intervals.specs.Standing.{HasDistinctIds}
use Rattle.intervals.proofs.Ids.{found_by_id}
use Rattle.zone_tree.specs.declared.edge.Edge.{Edge}
use Rattle.zone_tree.specs.declared.edge.Edge.TheVariants.{Before, At, Never}
use Rattle.zone_tree.specs.Edge.{ComesBefore, earlier_edge, edge_before, later_edge}
use Rattle.zones.specs.Cluster.{cluster_of, edge_of_end, greatest_begin_of, least_end_of, written_zone, zone_between, zone_of}
use Rattle.zones.specs.Crossing.{HasLeastEnd}
use Rattle.zones.specs.Index.{at_first}
use Rattle.intervals.specs.Kind.{HasNoWrite}
use Rattle.zones.specs.Members.{BeginsLastOf, EndsFirstOf, HasNoRead, IsGreatestBegin, IsLastToBegin, IsLeastEnd, IsTheWriteAt, began_last, end_or_first, ended_first}
use Rattle.zones.proofs.Cluster.{greatest_at_least, greatest_of_one, least_at_most, least_initial, least_of_one, member_of, members_of}
use Rattle.zones.proofs.EdgeOrder.{AtMost, at_most_both, at_most_itself, at_most_transitive, before_all, earlier-cases, earlier-left, earlier-right, later-cases, later-left, later-right}
use Rattle.zones.proofs.Judged.{is_judged, is_judged_by_end, judged_read, judged_write}
use Rattle.zones.proofs.Lookups.{has_end}
use Rattle.zones.proofs.Members.{all_from, here, kept, kept_present}
use Rattle.zones.proofs.Written.{never_last, other_than, written_zone_is}

-- where an optional operation ends, and where it begins
abbrev end_at : Option Op → Edge
end_at None = Never
end_at (Some op) = edge_of_end op.end

abbrev begin_at : Option Op → Edge
begin_at None = Before
begin_at (Some op) = At op.begin

-- the earlier of an edge and `Never` is that edge
before_never : (a : Edge) → earlier_edge Never a ≡ a
before_never Before = refl
before_never (At m) = refl
before_never Never = refl

empty_from : {X : Type 0} (xs : List X) → ((x : X) → ¬ Contains xs x) → xs ≡ []
empty_from [] none = refl
empty_from (x ∷ xs) none = absurd (none x (here x xs))

module _ (ops : List Op) (v : Value) where
  -- no operation of the kind has the value
  pub none_ends : (P : Op → Type 0) → All (λ op. P op → value_of op.act ≢ v) ops → IsLeastEnd P ops v Never
  none_ends P none = record {
    least = all_from (λ op. P op → value_of op.act ≡ v → ¬ ComesBefore (edge_of_end op.end) Never) ops (λ op h p e. absurd (All-contains (λ op. P op → value_of op.act ≢ v) ops op none h p e));
    held = inl refl;
  }

  pub none_begins : (P : Op → Type 0) → All (λ op. P op → value_of op.act ≢ v) ops → IsGreatestBegin P ops v Before
  none_begins P none = record {
    greatest = all_from (λ op. P op → value_of op.act ≡ v → ¬ ComesBefore Before (At op.begin)) ops (λ op h p e. absurd (All-contains (λ op. P op → value_of op.act ≢ v) ops op none h p e));
    held = inl refl;
  }

  module _ (one : (a b : Op) → IsTheWriteAt ops v a → IsTheWriteAt ops v b → a ≡ b) where
    -- the value has one write
    one_write : (w x : Op) → IsTheWriteAt ops v w → Contains ops x → IsWrite x → value_of x.act ≡ v → x ≡ w
    one_write w x is_w h t e = one x w (record { present = h; write = t; same = e }) is_w

    pub write_ends : (w : Op) → IsTheWriteAt ops v w → IsLeastEnd IsWrite ops v (edge_of_end w.end)
    write_ends w is_w = record {
      least = all_from (λ op. IsWrite op → value_of op.act ≡ v → AtMost (edge_of_end w.end) (edge_of_end op.end)) ops
          (λ op h t e. subst (λ (x : Op). AtMost (edge_of_end w.end) (edge_of_end x.end)) (sym (one_write w op is_w h t e)) (at_most_itself (edge_of_end w.end)));
      held = inr (w, is_w.present, is_w.write, is_w.same, refl);
    }

    pub write_begins : (w : Op) → IsTheWriteAt ops v w → IsGreatestBegin IsWrite ops v (At w.begin)
    write_begins w is_w = record {
      greatest = all_from (λ op. IsWrite op → value_of op.act ≡ v → AtMost (At op.begin) (At w.begin)) ops
          (λ op h t e. subst (λ (x : Op). AtMost (At x.begin) (At w.begin)) (sym (one_write w op is_w h t e)) (at_most_itself (At w.begin)));
      held = inr (w, is_w.present, is_w.write, is_w.same, refl);
    }

  pub read_ends : (end : Moment) (id : OpId) → EndsFirstOf ops v end id → IsLeastEnd IsJudgedRead ops v (At end)
  read_ends end id is = record {
    least = all_from (λ op. IsJudgedRead op → value_of op.act ≡ v → AtMost (At end) (edge_of_end op.end)) ops (λ op h j e p.
        let (m, w, g) = has_end op j in
        let le = All-contains (λ r. IsJudgedRead r → value_of r.act ≡ v → end.0 ≤ end_number r) ops op is.first h j e in
        let lt = ltb-true m.0 end.0 (rw g at p) in
        let n : end.0 ≤ m.0 = rw g at le in
        omega arith);
    held = inr (is.read, is.present, is.judged, is.same, ap edge_of_end is.ended);
  }

  pub read_begins : (begin : Moment) (id : OpId) → BeginsLastOf ops v begin id → IsGreatestBegin IsJudgedRead ops v (At begin)
  read_begins begin id is = record {
    greatest = all_from (λ op. IsJudgedRead op → value_of op.act ≡ v → AtMost (At op.begin) (At begin)) ops (λ op h j e p.
        let le = All-contains (λ r. IsJudgedRead r → value_of r.act ≡ v → r.begin.0 ≤ begin.0) ops op is.last h j e in
        let lt = ltb-true begin.0 op.begin.0 p in
        omega arith);
    held = inr (is.read, is.present, is.judged, is.same, ap At is.began);
  }

  pub in_judged-write : (op : Op) → Contains ops op → IsWrite op → Contains (judged ops) op
  in_judged-write op h t = kept is_judged ops op h (judged_write op t)

  pub in_judged-read : (op : Op) → Contains ops op → IsJudgedRead op → Contains (judged ops) op
  in_judged-read op h j = kept is_judged ops op h (judged_read op j).0

  -- an operation of the cluster is its write or a read
  parts_of : (op : Op) → Contains (judged ops) op → Contains ops op × (IsWrite op ⊎ IsJudgedRead op)
  parts_of op h = let (k, j) = kept_present is_judged ops op h in (k, by_cases j (cases_Bool (is_write op)))
    where
      by_cases : is_judged op ≡ true → (is_write op ≡ true) ⊎ (is_write op ≡ false) → IsWrite op ⊎ IsJudgedRead op
      by_cases j (inl t) = inl t
      by_cases j (inr f) = inr (is_judged_by_end (is_write op) (is_some op.end) j f)

  module _ (initial : Value) (a b : Edge) where
    abbrev least : Edge
    least = least_end_of initial ops v

    abbrev greatest : Edge
    greatest = greatest_begin_of initial ops v

    held_least : (P : Op → Type 0) → ((op : Op) → Contains ops op → P op → Contains (judged ops) op) → (e : Edge) → IsLeastEnd P ops v e → AtMost least e
    held_least P present e is = by_cases is.held
      where
        by_cases : (e ≡ Never) ⊎ ((op : Op) × Contains ops op × P op × (value_of op.act ≡ v) × (edge_of_end op.end ≡ e)) → AtMost least e
        by_cases (inl n) = subst (λ (x : Edge). AtMost least x) (sym n) (never_last least)
        by_cases (inr (op, h, p, s, f)) = subst (λ (x : Edge). AtMost least x) f (least_at_most initial ops v op (present op h p, s))

    pub least_is : v ≢ initial → IsLeastEnd IsWrite ops v a → IsLeastEnd IsJudgedRead ops v b → earlier_edge a b ≡ least
    least_is apart w r = at_most_both (earlier_edge a b) least (by_least (least_of_one initial ops v apart)) (by_earlier (earlier-cases a b))
      where
        bound : (op : Op) → Contains ops op × (IsWrite op ⊎ IsJudgedRead op) → value_of op.act ≡ v → AtMost (earlier_edge a b) (edge_of_end op.end)
        bound op (h, inl t) s =
            at_most_transitive (earlier_edge a b) a (edge_of_end op.end) (earlier-left a b)
            (All-contains (λ op. IsWrite op → value_of op.act ≡ v → AtMost a (edge_of_end op.end)) ops op w.least h t s)
        bound op (h, inr j) s =
            at_most_transitive (earlier_edge a b) b (edge_of_end op.end) (earlier-right a b)
            (All-contains (λ op. IsJudgedRead op → value_of op.act ≡ v → AtMost b (edge_of_end op.end)) ops op r.least h j s)

        by_least : (least ≡ Never) ⊎ ((op : Op) × Contains (cluster_of ops v) op × (edge_of_end op.end ≡ least)) → AtMost (earlier_edge a b) least
        by_least (inl n) = subst (λ (x : Edge). AtMost (earlier_edge a b) x) (sym n) (never_last (earlier_edge a b))
        by_least (inr (op, h, e)) = let (k, s) = member_of initial ops v op h in subst (λ (x : Edge). AtMost (earlier_edge a b) x) e (bound op (parts_of op k) s)

        by_earlier : (a ≡ earlier_edge a b) ⊎ (b ≡ earlier_edge a b) → AtMost least (earlier_edge a b)
        by_earlier (inl e) = subst (λ (x : Edge). AtMost least x) e (held_least IsWrite in_judged-write a w)
        by_earlier (inr e) = subst (λ (x : Edge). AtMost least x) e (held_least IsJudgedRead in_judged-read b r)

    held_greatest : (P : Op → Type 0) → ((op : Op) → Contains ops op → P op → Contains (judged ops) op) → (e : Edge) → IsGreatestBegin P ops v e → AtMost e greatest
    held_greatest P present e is = by_cases is.held
      where
        by_cases : (e ≡ Before) ⊎ ((op : Op) × Contains ops op × P op × (value_of op.act ≡ v) × (At op.begin ≡ e)) → AtMost e greatest
        by_cases (inl n) = subst (λ (x : Edge). AtMost x greatest) (sym n) (before_all greatest)
        by_cases (inr (op, h, p, s, f)) = subst (λ (x : Edge). AtMost x greatest) f (greatest_at_least initial ops v op (present op h p, s))

    module _ (w : IsGreatestBegin IsWrite ops v a) (r : IsGreatestBegin IsJudgedRead ops v b) where
      greatest_bound : (op : Op) → Contains ops op × (IsWrite op ⊎ IsJudgedRead op) → value_of op.act ≡ v → AtMost (At op.begin) (later_edge a b)
      greatest_bound op (h, inl t) s =
          at_most_transitive (At op.begin) a (later_edge a b)
          (All-contains (λ op. IsWrite op → value_of op.act ≡ v → AtMost (At op.begin) a) ops op w.greatest h t s)
          (later-left a b)
      greatest_bound op (h, inr j) s =
          at_most_transitive (At op.begin) b (later_edge a b)
          (All-contains (λ op. IsJudgedRead op → value_of op.act ≡ v → AtMost (At op.begin) b) ops op r.greatest h j s)
          (later-right a b)

      pub greatest_is : later_edge a b ≡ greatest
      greatest_is = at_most_both (later_edge a b) greatest (by_later (later-cases a b)) (by_greatest (greatest_of_one initial ops v))
        where
          by_greatest : (greatest ≡ Before) ⊎ ((op : Op) × Contains (cluster_of ops v) op × (At op.begin ≡ greatest)) → AtMost greatest (later_edge a b)
          by_greatest (inl n) = subst (λ (x : Edge). AtMost x (later_edge a b)) (sym n) (before_all (later_edge a b))
          by_greatest (inr (op, h, e)) = let (k, s) = member_of initial ops v op h in subst (λ (x : Edge). AtMost x (later_edge a b)) e (greatest_bound op (parts_of op k) s)

          by_later : (a ≡ later_edge a b) ⊎ (b ≡ later_edge a b) → AtMost (later_edge a b) greatest
          by_later (inl e) = subst (λ (x : Edge). AtMost x greatest) e (held_greatest IsWrite in_judged-write a w)
          by_later (inr e) = subst (λ (x : Edge). AtMost x greatest) e (held_greatest IsJudgedRead in_judged-read b r)

module _ (ops : List Op) (v : Value) (distinct : HasDistinctIds ops) where
  -- a read that is found by the id that a look-up returns
  same_read : (read : Op) (other : Op) → Contains ops other → other.id ≡ read.id → op_of ops read.id ≡ Some read → other ≡ read
  same_read read other h e found = let f = found_by_id ops other distinct h in let g = ap (op_of ops) e in cc

  record IsRead (r : Op) : Type 0 where
    present : Contains ops r
    judged : IsJudgedRead r
    same : value_of r.act ≡ v

  first_read_is : (r : Op) → EndsFirstOf ops v (end_or_first r) r.id × (op_of ops r.id ≡ Some r) → IsRead r × IsLeastEnd IsJudgedRead ops v (edge_of_end r.end)
  first_read_is r (is, found) = subst (λ (x : Op). IsRead x × IsLeastEnd IsJudgedRead ops v (edge_of_end x.end)) (same_read r is.read is.present is.named found)
      (record { present = is.present; judged = is.judged; same = is.same }, subst (λ (e : Edge). IsLeastEnd IsJudgedRead ops v e) (sym (ap edge_of_end is.ended)) (read_ends ops v (end_or_first r) r.id is))

  last_read_is : (r : Op) → BeginsLastOf ops v r.begin r.id × (op_of ops r.id ≡ Some r) → IsRead r × IsGreatestBegin IsJudgedRead ops v (At r.begin)
  last_read_is r (is, found) =
      (subst IsRead (same_read r is.read is.present is.named found) (record { present = is.present; judged = is.judged; same = is.same }), read_begins ops v r.begin r.id is)

  abbrev FoundWrite : Option Op → Type 0
  FoundWrite found = MatchOption found (HasNoWrite ops v) (IsTheWriteAt ops v)

  abbrev FoundFirst : Option Op → Type 0
  FoundFirst found = MatchOption found (HasNoRead ops v) (λ r. EndsFirstOf ops v (end_or_first r) r.id × (op_of ops r.id ≡ Some r))

  abbrev FoundLast : Option Op → Type 0
  FoundLast found = MatchOption found (HasNoRead ops v) (λ r. BeginsLastOf ops v r.begin r.id × (op_of ops r.id ≡ Some r))

  module _ (initial : Value) where
    in_cluster-write : (w : Op) → IsTheWriteAt ops v w → Contains (cluster_of ops v) w
    in_cluster-write w is = (members_of initial ops v w).1 (in_judged-write ops v w is.present is.write, is.same)

    in_cluster-read : (r : Op) → IsRead r → Contains (cluster_of ops v) r
    in_cluster-read r is = (members_of initial ops v r).1 (in_judged-read ops v r is.present is.judged, is.same)

    module _ (one : (a b : Op) → IsTheWriteAt ops v a → IsTheWriteAt ops v b → a ≡ b) where
      write_edge : (found : Option Op) → FoundWrite found → IsLeastEnd IsWrite ops v (end_at found)
      write_edge None none = none_ends ops v IsWrite none
      write_edge (Some w) is_w = write_ends ops v one w is_w

      read_edge : (found : Option Op) → FoundFirst found → IsLeastEnd IsJudgedRead ops v (end_at found)
      read_edge None none = none_ends ops v IsJudgedRead none
      read_edge (Some r) is_r = (first_read_is r is_r).1

      -- of the write and the first read the one that ended first has the least end
      pub least_found : v ≢ initial → (write read : Option Op) → FoundWrite write → FoundFirst read → least_end_of initial ops v ≢ Never → HasLeastEnd initial ops v (ended_first write read)
      least_found apart write read w r ends = by_found write read w r (least_is ops v initial (end_at write) (end_at read) apart (write_edge write w) (read_edge read r))
        where
          by_test : (a b : Op) (t : Bool) → edge_before (edge_of_end b.end) (edge_of_end a.end) ≡ t → Contains (cluster_of ops v) a → Contains (cluster_of ops v) b
              → (if t then edge_of_end b.end else edge_of_end a.end) ≡ least_end_of initial ops v → HasLeastEnd initial ops v (if t then Some b else Some a)
          by_test a b true t ha hb e = (hb, e)
          by_test a b false t ha hb e = (ha, e)

          by_found : (write read : Option Op) → FoundWrite write → FoundFirst read → earlier_edge (end_at write) (end_at read) ≡ least_end_of initial ops v → HasLeastEnd initial ops v (ended_first write read)
          by_found None None w r e = absurd (ends (sym e))
          by_found None (Some b) w r e =
              let (h, k) = first_read_is b r in
              (in_cluster-read b h, sym (before_never (edge_of_end b.end)) ∙ e)
          by_found (Some a) None w r e = (in_cluster-write a w, e)
          by_found (Some a) (Some b) w r e =
              by_test a b (edge_before (edge_of_end b.end) (edge_of_end a.end)) refl (in_cluster-write a w) (in_cluster-read b (first_read_is b r).0) e

    begin_write : ((a b : Op) → IsTheWriteAt ops v a → IsTheWriteAt ops v b → a ≡ b) → (found : Option Op) → FoundWrite found → IsGreatestBegin IsWrite ops v (begin_at found)
    begin_write one None none = none_begins ops v IsWrite none
    begin_write one (Some w) is_w = write_begins ops v one w is_w

    begin_read : (found : Option Op) → FoundLast found → IsGreatestBegin IsJudgedRead ops v (begin_at found)
    begin_read None none = none_begins ops v IsJudgedRead none
    begin_read (Some r) is_r = (last_read_is r is_r).1

    module _ (one : (a b : Op) → IsTheWriteAt ops v a → IsTheWriteAt ops v b → a ≡ b) where
      -- of the write and the last read the one that began last began last in the cluster
      pub last_found : (write read : Option Op) → FoundWrite write → FoundLast read → MatchOption (began_last write read) (cluster_of ops v ≡ []) (IsLastToBegin ops v)
      last_found write read w r = by_found write read w r (λ op h. let (k, s) = member_of initial ops v op h in
          greatest_bound ops v initial (begin_at write) (begin_at read) (begin_write one write w) (begin_read read r) op (parts_of ops v op k) s)
        where
          last_is : (op : Op) (edge : Edge) → Contains (cluster_of ops v) op → edge ≡ At op.begin → ((other : Op) → Contains (cluster_of ops v) other → AtMost (At other.begin) edge) → IsLastToBegin ops v op
          last_is op edge h e bound = record {
            member = h;
            last = all_from (λ other. ¬ ComesBefore (At op.begin) (At other.begin)) (cluster_of ops v) (λ other k. subst (λ (x : Edge). AtMost (At other.begin) x) e (bound other k));
          }

          by_test : (a b : Op) (t : Bool) → Contains (cluster_of ops v) a → Contains (cluster_of ops v) b
              → ((other : Op) → Contains (cluster_of ops v) other → AtMost (At other.begin) (if t then At b.begin else At a.begin))
              → MatchOption (if t then Some b else Some a) (cluster_of ops v ≡ []) (IsLastToBegin ops v)
          by_test a b true ha hb bound = last_is b (At b.begin) hb refl bound
          by_test a b false ha hb bound = last_is a (At a.begin) ha refl bound

          by_found : (write read : Option Op) → FoundWrite write → FoundLast read → ((op : Op) → Contains (cluster_of ops v) op → AtMost (At op.begin) (later_edge (begin_at write) (begin_at read)))
              → MatchOption (began_last write read) (cluster_of ops v ≡ []) (IsLastToBegin ops v)
          by_found None None w r bound = empty_from (cluster_of ops v) (λ op h. bound op h refl)
          by_found None (Some b) w r bound = last_is b (At b.begin) (in_cluster-read b (last_read_is b r).0) refl bound
          by_found (Some a) None w r bound = last_is a (At a.begin) (in_cluster-write a w) refl bound
          by_found (Some a) (Some b) w r bound =
              by_test a b (edge_before (At a.begin) (At b.begin)) (in_cluster-write a w) (in_cluster-read b (last_read_is b r).0) bound

  -- the read that a look-up names is found in the table
  pub first_read_found : (end : Moment) (id : OpId) → EndsFirstOf ops v end id → (found : Option Op) → found ≡ op_of ops id → FoundFirst found
  first_read_found end id is found e =
      let r = is.read in
      let by_id : op_of ops r.id ≡ Some r = found_by_id ops r distinct is.present in
      let at_end : end ≡ end_or_first r = sym (ap (λ (o : Option Moment). unwrap_or o at_first) is.ended) in
      subst FoundFirst (sym (e ∙ (ap (op_of ops) (sym is.named) ∙ by_id))) (
        (record {
          read = r;
          present = is.present;
          judged = is.judged;
          same = is.same;
          named = refl;
          ended = is.ended ∙ ap Some at_end;
          first = subst (λ (m : Moment). All (λ o. IsJudgedRead o → value_of o.act ≡ v → m.0 ≤ end_number o) ops) at_end is.first;
        }),
        by_id,
      )

  pub last_read_found : (begin : Moment) (id : OpId) → BeginsLastOf ops v begin id → (found : Option Op) → found ≡ op_of ops id → FoundLast found
  last_read_found begin id is found e =
      let r = is.read in
      let by_id : op_of ops r.id ≡ Some r = found_by_id ops r distinct is.present in
      subst FoundLast (sym (e ∙ (ap (op_of ops) (sym is.named) ∙ by_id))) (
        (record {
          read = r;
          present = is.present;
          judged = is.judged;
          same = is.same;
          named = refl;
          began = refl;
          last = subst (λ (m : Moment). All (λ o. IsJudgedRead o → value_of o.act ≡ v → o.begin.0 ≤ m.0) ops) (sym is.began) is.last;
        }),
        by_id,
      )

-- the zone of a written value by the edges of its write and of its reads
pub written_zone_by_edges : (ops : List Op) (v : Value) (write_end read_end write_begin read_begin : Edge) → IsLeastEnd IsWrite ops v write_end → IsLeastEnd IsJudgedRead ops v read_end
    → IsGreatestBegin IsWrite ops v write_begin → IsGreatestBegin IsJudgedRead ops v read_begin → zone_between (earlier_edge write_end read_end) (later_edge write_begin read_begin) v ≡ written_zone ops v
written_zone_by_edges ops v write_end read_end write_begin read_begin a b c d =
    let (u, n) = other_than v in
    ap (λ (m : Edge). zone_between m (later_edge write_begin read_begin) v) (least_is ops v u write_end read_end n a b)
    ∙ (ap (λ (m : Edge). zone_between (least_end_of u ops v) m v) (greatest_is ops v u write_begin read_begin c d)
    ∙ written_zone_is u ops v n)

-- the zone of the initial value, which no write has, by where its last read begins
pub initial_zone_by_edge : (ops : List Op) (initial : Value) (read_begin : Edge) → HasNoWrite ops initial → IsGreatestBegin IsJudgedRead ops initial read_begin → zone_between Before read_begin initial ≡ zone_of initial ops initial
initial_zone_by_edge ops initial read_begin none is =
    ap (λ (m : Edge). zone_between m read_begin initial) (sym (least_initial initial ops))
    ∙ ap (λ (m : Edge). zone_between (least_end_of initial ops initial) m initial)
    (sym (later_before read_begin) ∙ greatest_is ops initial initial Before read_begin (none_begins ops initial IsWrite none) is)
  where
    later_before : (e : Edge) → later_edge Before e ≡ e
    later_before Before = refl
    later_before (At m) = refl
    later_before Never = refl
