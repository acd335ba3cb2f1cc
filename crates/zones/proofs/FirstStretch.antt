-- The first stretches show the first writeless read and the first early read.
use Rattle.std.proofs.Common.{◌≡◌, ◌≢◌, ◌⊎◌, ◌≤◌, inl, inr, Bool, true, false, not, ◌&&◌, List, [], ◌∷◌, Option, Some, None, refl, sym, ap, ◌∙◌, subst, cond, arith}
use Rattle.std.specs.Prelude.{All, Contains, IsTrue, MatchOption, find, is_some, option_map}
use Rattle.std.proofs.lemmas.Bool.{both_ways, false_from_ne_true, ltb-true, not-true}
use Rattle.std.proofs.lemmas.List.Elements.{All-contains}
use Rattle.intervals.specs.declared.operation.Op.{Op}
use Rattle.intervals.specs.declared.operation.OpId.{OpId}
use Rattle.intervals.specs.declared.operation.Moment.{Moment}
use Rattle.intervals.specs.declared.operation.Value.{Value}
use Rattle.intervals.specs.Operation.{IsJudgedRead, IsWrite, same_value, value_of}
use Rattle.intervals.specs.Standing.{IsInitial}
use Rattle.intervals.specs.Edit.{op_of}
use Rattle.intervals.specs.Judging.{end_number}
use Rattle.intervals.proofs.Ids.{found_by_id}
use Rattle.intervals.specs.Terms.{ClaimModel}
use Rattle.zone_tree.specs.declared.stretch.Stretch.{Stretch}
use Rattle.zone_tree.specs.StretchOrder.{AreByEnd, moment_before}
use Rattle.zone_tree.specs.StretchLook.{is_read_early, has_no_write, is_writeless_but}
use Rattle.summary_tree.proofs.Lists.{none_found}
use Rattle.zone_tree.specs.declared.edge.Edge.{Edge}
use Rattle.zone_tree.specs.declared.edge.Edge.TheVariants.{At}
use Rattle.zone_tree.specs.Edge.{ComesBefore}
use Rattle.zones.specs.Cluster.{edge_of_end}
use Rattle.zones.specs.AtFirst.{IsWriteless, first_writeless, first_writeless_but, sole_of, with_other}
use Rattle.zones.specs.Fault.{HasLateWrite, IsEarly, IsFirstOf, first_early}
use Rattle.zones.specs.Faults.{AreStretched, IsAtFault, IsRead, first_end_of, edge_moment, stretch_of}
use Rattle.intervals.specs.Kind.{HasNoWrite}
use Rattle.zones.specs.Members.{EndsFirstOf, HasNoRead, IsTheWriteAt, end_or_first}
use Rattle.zones.specs.Zoned.{AreManyWriters}
use Rattle.zones.proofs.Cluster.{edge_from_end, end_from_edge}
use Rattle.zones.proofs.EdgeOrder.{AtMost, not_after_before}
use Rattle.zones.proofs.FirstReads.{early_none, first_is_early, none_of, one_write, some_present}
use Rattle.zones.proofs.Writeless.{first_is_other, first_is_writeless, other_none, writeless_none}
use Rattle.zones.proofs.Members.{Decides-same_value, all_from, contains_cases, here, pairs_head, pairs_tail, there}
use Rattle.zones.proofs.Stretches.{BeginCases, at_most_ended, at_write, begin, begin_cases, end_of_read, first_at_most, first_end_is, first_of_reads, never_written, no_write_at, written}

abbrev Before : Stretch → Stretch → Type 0
Before a b = IsTrue (moment_before a.end b.end)

-- the first stretch by end of those that pass a test
first_found : (test : Stretch → Bool) (stretches : List Stretch) (s : Stretch) → AreByEnd stretches → find test stretches ≡ Some s
    → Contains stretches s × (test s ≡ true) × ((x : Stretch) → Contains stretches x → test x ≡ true → s.end.0 ≤ x.end.0)
first_found test [] s order e = absurd (cc)
first_found test (a ∷ stretches) s order e = by_cases (test a) refl e (first_found test stretches s (pairs_tail Before a stretches order))
  where
    at_most_other : (x : Stretch) → (a ≡ x) ⊎ Contains stretches x → a.end.0 ≤ x.end.0
    at_most_other x (inl e) = subst (λ (y : Stretch). a.end.0 ≤ y.end.0) e (omega arith)
    at_most_other x (inr h) = let less = ltb-true a.end.0 x.end.0 (All-contains (Before a) stretches x (pairs_head Before a stretches order) h) in omega (arith, less)

    is_later : (x : Stretch) → test a ≡ false → test x ≡ true → (a ≡ x) ⊎ Contains stretches x → Contains stretches x
    is_later x f t (inl e) = absurd (both_ways (test a) f (ap test e ∙ t))
    is_later x f t (inr h) = h

    by_cases : (t : Bool) → test a ≡ t → cond t (Some a) (find test stretches) ≡ Some s
        → (find test stretches ≡ Some s → Contains stretches s × (test s ≡ true) × ((x : Stretch) → Contains stretches x → test x ≡ true → s.end.0 ≤ x.end.0))
        → Contains (a ∷ stretches) s × (test s ≡ true) × ((x : Stretch) → Contains (a ∷ stretches) x → test x ≡ true → s.end.0 ≤ x.end.0)
    by_cases true t e later =
        let same : a ≡ s = cc in
        (subst (Contains (a ∷ stretches)) same (here a stretches), ap test (sym same) ∙ t, λ x h p. subst (λ (y : Stretch). y.end.0 ≤ x.end.0) same (at_most_other x (contains_cases a stretches x h)))
    by_cases false t e later =
        let (h, p, least) = later e in
        (there a stretches s h, p, λ x k q. least x (is_later x t q (contains_cases a stretches x k)) q)

both : (a b : Bool) → (a && b) ≡ true → (a ≡ true) × (b ≡ true)
both true b e = (refl, e)
both false b e = absurd (cc)

-- a read of the value that ended first, and that the operations have by its id
abbrev pub IsFirstByName : List Op → Value → Op → Type 0
IsFirstByName ops v read = EndsFirstOf ops v (end_or_first read) read.id × (op_of ops read.id ≡ Some read)

module _ (claim : ClaimModel) (ops : List Op) (apart : AreManyWriters claim ops) where
  one_at : (v : Value) (a b : Op) → IsTheWriteAt ops v a → IsTheWriteAt ops v b → a ≡ b
  one_at v a b p q = one_write ops (apart.kept.values apart.atomic).apart a b p.present q.present p.write q.write (p.same ∙ sym q.same)

  -- the read that ended first is the one of its id
  same_read : (v : Value) (read : Op) → (is : IsFirstByName ops v read) → (is.0).read ≡ read
  same_read v read (is, named) = let same : Some is.read ≡ Some read = sym (found_by_id ops is.read apart.kept.ids is.present) ∙ (ap (op_of ops) is.named ∙ named) in cc

  read_of : (r : Op) → Contains ops r → IsJudgedRead r → IsRead ops (value_of r.act)
  read_of r h j = (r, h, j, refl)

  ends_at_most : (r : Op) → Contains ops r → IsJudgedRead r → AtMost (first_end_of ops (value_of r.act)) (edge_of_end r.end)
  ends_at_most r h j = first_at_most ops (value_of r.act) r (h, j, refl)

  -- the value of a writeless read is at fault, and not written
  writeless_at_fault : (r : Op) → Contains ops r → IsWriteless claim ops r → IsAtFault claim ops (value_of r.act)
  writeless_at_fault r h u =
      let (end, id, is) = first_of_reads ops (value_of r.act) (read_of r h u.read) in
      record {
        read = read_of r h u.read;
        not_initial = u.not_initial;
        before = rw (first_end_is ops (value_of r.act) end id is, (never_written ops (value_of r.act) u.not_written).0) refl;
      }

  writeless_unwritten : (r : Op) → IsWriteless claim ops r → written ops (value_of r.act) ≡ false
  writeless_unwritten r u = (never_written ops (value_of r.act) u.not_written).1

  -- the value of an early read is at fault too, and written
  early_write : (r w : Op) → Contains ops w → IsEarly r w → (begin ops (value_of r.act) ≡ At w.begin) × (written ops (value_of r.act) ≡ true)
  early_write r w h e =
      let is : IsTheWriteAt ops (value_of r.act) w = record { present = h; write = e.write; same = e.one_value } in
      at_write ops (value_of r.act) w is (λ x at. one_at (value_of r.act) x w at is)

  early_at_fault : (r w : Op) → Contains ops r → Contains ops w → IsEarly r w → IsAtFault claim ops (value_of r.act)
  early_at_fault r w h k e = record {
    read = read_of r h e.read;
    not_initial = λ i. All-contains (λ w. IsWrite w → ¬ IsInitial claim (value_of w.act)) ops w (apart.kept.values apart.atomic).new k e.write (i.0, e.one_value ∙ i.1);
    before = subst (λ (x : Edge). ComesBefore (first_end_of ops (value_of r.act)) x) (sym (early_write r w k e).0)
        (not_after_before (first_end_of ops (value_of r.act)) (edge_of_end r.end) (At w.begin) (ends_at_most r h e.read) (edge_from_end r.end w.begin e.ends_before));
  }

  -- the first read of a value at fault is writeless or early
  abbrev ShowsWriteless : Value → Op → Type 0
  ShowsWriteless v r = (written ops v ≡ false) × IsWriteless claim ops r

  abbrev ShowsEarly : Value → Op → Type 0
  ShowsEarly v r = (w : Op) × (written ops v ≡ true) × IsTheWriteAt ops v w × IsEarly r w

  shows : (v : Value) → IsAtFault claim ops v → (end : Moment) (id : OpId) (is : EndsFirstOf ops v end id) → ShowsWriteless v is.read ⊎ ShowsEarly v is.read
  shows v fault end id is = by_cases (begin_cases ops v)
    where
      by_cases : BeginCases ops v → ShowsWriteless v is.read ⊎ ShowsEarly v is.read
      by_cases (inl (w, at, e, t)) =
          let ended : first_end_of ops v ≡ edge_of_end is.read.end = first_end_is ops v end id is ∙ sym (ap edge_of_end is.ended) in
          inr (
            w,
            t,
            at,
            record {
              read = is.judged;
              write = at.write;
              one_value = at.same ∙ sym is.same;
              ends_before = end_from_edge is.read.end w.begin (subst (λ (x : Edge). ComesBefore x (At w.begin)) ended (subst (λ (x : Edge). ComesBefore (first_end_of ops v) x) e fault.before));
            },
          )
      by_cases (inr (none, e, f)) = inl (
        f,
        record {
          read = is.judged;
          not_initial = λ i. fault.not_initial (i.0, sym is.same ∙ i.1);
          not_written = subst (HasNoWrite ops) (sym is.same) none;
        },
      )

  module _ (stretches : List Stretch) (stretched : AreStretched claim ops stretches) where
    end_standing : (s : Stretch) → Contains stretches s → (end : Moment) (id : OpId) → EndsFirstOf ops s.value end id → s.end ≡ end
    end_standing s h end id is = ap (λ (x : Stretch). x.end) (stretched.only s h).1 ∙ ap edge_moment (first_end_is ops s.value end id is)

    written_standing : (s : Stretch) → Contains stretches s → s.written ≡ written ops s.value
    written_standing s h = ap (λ (x : Stretch). x.written) (stretched.only s h).1

    -- the value of a stretch is read
    no_unread : (s : Stretch) → Contains stretches s → ¬ HasNoRead ops s.value
    no_unread s h none = let (r, k, j, e) = (stretched.only s h).0.read in All-contains (λ r. IsJudgedRead r → value_of r.act ≢ s.value) ops r none k j e

    first_of : (s : Stretch) → Contains stretches s → (end : Moment) × (id : OpId) × EndsFirstOf ops s.value end id
    first_of s h = first_of_reads ops s.value (stretched.only s h).0.read

    -- a test of stretches that shows a property of reads
    module _ (test : Stretch → Bool) (Property : Op → Type 0) (read : (r : Op) → Property r → IsJudgedRead r) (at_fault : (r : Op) → Contains ops r → Property r → IsAtFault claim ops (value_of r.act))
        (passes : (r : Op) → Contains ops r → Property r → test (stretch_of ops (value_of r.act)) ≡ true) where
      none_shown : find test stretches ≡ None → All (λ r. ¬ Property r) ops
      none_shown e = all_from (λ r. ¬ Property r) ops (λ r h p.
          both_ways (test (stretch_of ops (value_of r.act)))
          (All-contains (λ s. test s ≡ false) stretches (stretch_of ops (value_of r.act)) (none_found test stretches e) (stretched.each (value_of r.act) (at_fault r h p)))
          (passes r h p))

      -- the first read of the first such stretch ended first of all reads with the property
      first_shown : AreByEnd stretches → (s : Stretch) → find test stretches ≡ Some s → (end : Moment) (id : OpId) (is : EndsFirstOf ops s.value end id) → Property is.read → IsFirstOf Property ops is.read
      first_shown order s e end id is p =
          let (h, t, least) = first_found test stretches s order e in
          record {
            present = is.present;
            holds = p;
            first = all_from (λ other. Property other → end_number is.read ≤ end_number other) ops (λ x k q. ended_first h least x k q);
          }
        where
          ended_first : Contains stretches s → ((x : Stretch) → Contains stretches x → test x ≡ true → s.end.0 ≤ x.end.0) → (x : Op) → Contains ops x → Property x → end_number is.read ≤ end_number x
          ended_first h least x k q =
              let v = value_of x.act in
              let fault = at_fault x k q in
              let (first, name, other) = first_of_reads ops v fault.read in
              let at_most : s.end.0 ≤ (stretch_of ops v).end.0 = least (stretch_of ops v) (stretched.each v fault) (passes x k q) in
              let begun : s.end ≡ end = end_standing s h end id is in
              let at : first_end_of ops v ≡ At first = first_end_is ops v first name other in
              let later : (stretch_of ops v).end ≡ first = ap edge_moment at in
              let number : first.0 ≤ end_number x = at_most_ended first x (read x q) (subst (λ (a : Edge). AtMost a (edge_of_end x.end)) at (ends_at_most x k (read x q))) in
              let (m, g, own) = end_of_read is.read is.judged in
              let same : m ≡ end = let both_are : Some m ≡ Some end = sym g ∙ is.ended in cc in
              omega (arith, ap (λ (n : Moment). n.0) same, ap (λ (n : Moment). n.0) begun, ap (λ (n : Moment). n.0) later)

    pub read_shown : AreByEnd stretches → (test : Stretch → Bool) (s : Stretch) → find test stretches ≡ Some s → ¬ HasNoRead ops s.value
    read_shown order test s e = no_unread s (first_found test stretches s order e).0

    -- the first writeless stretch shows the first writeless read
    writeless_passes : (r : Op) → Contains ops r → IsWriteless claim ops r → has_no_write (stretch_of ops (value_of r.act)) ≡ true
    writeless_passes r h u = ap not (writeless_unwritten r u)

    writeless_shown : AreByEnd stretches → (s : Stretch) → find has_no_write stretches ≡ Some s → (end : Moment) (id : OpId) (is : EndsFirstOf ops s.value end id) → first_writeless claim ops ≡ Some is.read
    writeless_shown order s e end id is =
        let (h, t, least) = first_found has_no_write stretches s order e in
        by_cases h t (shows s.value (stretched.only s h).0 end id is)
      where
        by_cases : Contains stretches s → has_no_write s ≡ true → ShowsWriteless s.value is.read ⊎ ShowsEarly s.value is.read → first_writeless claim ops ≡ Some is.read
        by_cases h t (inl (f, u)) =
            first_is_writeless claim ops apart.kept.moments is.read
            (first_shown has_no_write (IsWriteless claim ops) (λ r u. u.read) writeless_at_fault writeless_passes order s e end id is u)
        by_cases h t (inr (w, f, at, early)) = absurd (both_ways s.written (not-true s.written t) (written_standing s h ∙ f))

    -- the first writeless stretch shows the first writeless read, as the table has it by its id
    pub first_read_writeless : AreByEnd stretches → (s : Stretch) → find has_no_write stretches ≡ Some s → (found : Option Op) → MatchOption found (HasNoRead ops s.value) (IsFirstByName ops s.value) → found ≡ first_writeless claim ops
    first_read_writeless order s e None none = absurd (read_shown order has_no_write s e none)
    first_read_writeless order s e (Some read) (is, named) =
        sym (writeless_shown order s e (end_or_first read) read.id is ∙ ap Some (same_read s.value read (is, named)))

    pub no_writeless_shown : find has_no_write stretches ≡ None → first_writeless claim ops ≡ None
    no_writeless_shown e =
        (writeless_none claim ops).1 (none_shown has_no_write (IsWriteless claim ops) (λ r u. u.read) writeless_at_fault writeless_passes e)

    -- the first writeless read has the value of the first writeless stretch
    pub some_writeless : AreByEnd stretches → (s : Stretch) → find has_no_write stretches ≡ Some s → (r : Op) × (first_writeless claim ops ≡ Some r) × (value_of r.act ≡ s.value)
    some_writeless order s e =
        let (end, id, is) = first_of s (first_found has_no_write stretches s order e).0 in
        (is.read, writeless_shown order s e end id is, is.same)

    -- the first writeless stretch of another value shows the first writeless read of another value
    module _ (value : Value) where
      abbrev IsOther : Op → Type 0
      IsOther r = IsWriteless claim ops r × (value_of r.act ≢ value)

      other_passes : (r : Op) → Contains ops r → IsOther r → is_writeless_but value (stretch_of ops (value_of r.act)) ≡ true
      other_passes r h u =
          let other : same_value (value_of r.act) value ≡ false = false_from_ne_true (same_value (value_of r.act) value) (λ t. u.1 ((Decides-same_value (value_of r.act) value).0 t)) in
          rw (writeless_unwritten r u.0, other) refl

      other_shown : AreByEnd stretches → (s : Stretch) → find (is_writeless_but value) stretches ≡ Some s → (end : Moment) (id : OpId) (is : EndsFirstOf ops s.value end id) → first_writeless_but value claim ops ≡ Some is.read
      other_shown order s e end id is =
          let (h, t, least) = first_found (is_writeless_but value) stretches s order e in
          let (unwritten, other) = both (not s.written) (not (same_value s.value value)) t in
          by_cases h unwritten other (shows s.value (stretched.only s h).0 end id is)
        where
          by_cases : Contains stretches s → not s.written ≡ true → not (same_value s.value value) ≡ true → ShowsWriteless s.value is.read ⊎ ShowsEarly s.value is.read → first_writeless_but value claim ops ≡ Some is.read
          by_cases h t other (inl (f, u)) =
              let apart_is : value_of is.read.act ≢ value = λ same. both_ways (same_value s.value value) (not-true (same_value s.value value) other) ((Decides-same_value s.value value).1 (sym is.same ∙ same)) in
              first_is_other claim ops value apart.kept.moments is.read
              (first_shown (is_writeless_but value) IsOther (λ r u. u.0.read) (λ r k u. writeless_at_fault r k u.0) other_passes order s e end id is (u, apart_is))
          by_cases h t other (inr (w, f, at, early)) = absurd (both_ways s.written (not-true s.written t) (written_standing s h ∙ f))

      pub first_read_other : AreByEnd stretches → (s : Stretch) → find (is_writeless_but value) stretches ≡ Some s → (found : Option Op) → MatchOption found (HasNoRead ops s.value) (IsFirstByName ops s.value) → found ≡ first_writeless_but value claim ops
      first_read_other order s e None none = absurd (read_shown order (is_writeless_but value) s e none)
      first_read_other order s e (Some read) (is, named) =
          sym (other_shown order s e (end_or_first read) read.id is ∙ ap Some (same_read s.value read (is, named)))

      pub no_other_shown : find (is_writeless_but value) stretches ≡ None → first_writeless_but value claim ops ≡ None
      no_other_shown e =
          (other_none claim ops value).1 (none_shown (is_writeless_but value) IsOther (λ r u. u.0.read) (λ r k u. writeless_at_fault r k u.0) other_passes e)

      some_other : AreByEnd stretches → (s : Stretch) → find (is_writeless_but value) stretches ≡ Some s → (r : Op) × (first_writeless_but value claim ops ≡ Some r)
      some_other order s e =
          let (end, id, is) = first_of s (first_found (is_writeless_but value) stretches s order e).0 in
          (is.read, other_shown order s e end id is)

      pub is_other_shown : AreByEnd stretches → is_some (find (is_writeless_but value) stretches) ≡ is_some (first_writeless_but value claim ops)
      is_other_shown order = by_found (find (is_writeless_but value) stretches) refl
        where
          by_found : (found : Option Stretch) → find (is_writeless_but value) stretches ≡ found → is_some found ≡ is_some (first_writeless_but value claim ops)
          by_found None e = ap is_some (sym (no_other_shown e))
          by_found (Some s) e = let (r, f) = some_other order s e in ap is_some (sym f)

    late_at_fault : (r : Op) → Contains ops r → HasLateWrite ops r → IsAtFault claim ops (value_of r.act)
    late_at_fault r h late = let (w, k, e) = some_present (IsEarly r) ops late in early_at_fault r w h k e

    late_passes : (r : Op) → Contains ops r → HasLateWrite ops r → is_read_early (stretch_of ops (value_of r.act)) ≡ true
    late_passes r h late = let (w, k, early) = some_present (IsEarly r) ops late in (early_write r w k early).1

    late_read : (r : Op) → HasLateWrite ops r → IsJudgedRead r
    late_read r late = let (w, k, early) = some_present (IsEarly r) ops late in early.read

    late_of : (r w : Op) → Contains ops w → IsEarly r w → HasLateWrite ops r
    late_of r w h early = (h.0, w, h.1, h.2, early)

    -- the first early stretch shows the first early read
    early_shown : AreByEnd stretches → (s : Stretch) → find is_read_early stretches ≡ Some s → (end : Moment) (id : OpId) (is : EndsFirstOf ops s.value end id) → (w : Op) × IsTheWriteAt ops s.value w × (first_early ops ≡ Some (is.read, w))
    early_shown order s e end id is =
        let (h, t, least) = first_found is_read_early stretches s order e in
        by_cases h t (shows s.value (stretched.only s h).0 end id is)
      where
        by_cases : Contains stretches s → s.written ≡ true → ShowsWriteless s.value is.read ⊎ ShowsEarly s.value is.read → (w : Op) × IsTheWriteAt ops s.value w × (first_early ops ≡ Some (is.read, w))
        by_cases h t (inl (f, u)) = absurd (both_ways s.written (written_standing s h ∙ f) t)
        by_cases h t (inr (w, f, at, early)) = (
          w,
          at,
          first_is_early ops is.read w apart.kept.moments (apart.kept.values apart.atomic).apart
              (first_shown is_read_early (HasLateWrite ops) late_read late_at_fault late_passes order s e end id is (late_of is.read w at.present early)) at.present early,
        )

    pub first_read_early : AreByEnd stretches → (s : Stretch) → find is_read_early stretches ≡ Some s → (read : Op) → IsFirstByName ops s.value read → (w : Op) → IsTheWriteAt ops s.value w → Some (read, w) ≡ first_early ops
    first_read_early order s e read (is, named) w at =
        let (x, is_at, first) = early_shown order s e (end_or_first read) read.id is in
        sym (first ∙ (ap (λ (o : Op). Some (is.read, o)) (one_at s.value x w is_at at) ∙ ap (λ (r : Op). Some (r, w)) (same_read s.value read (is, named))))

    pub no_early_shown : find is_read_early stretches ≡ None → first_early ops ≡ None
    no_early_shown e =
        (early_none ops).1 (all_from (λ r. All (λ w. ¬ IsEarly r w) ops) ops (λ r h. none_of (IsEarly r) ops (All-contains (λ r. ¬ HasLateWrite ops r) ops r none h)))
      where
        none : All (λ r. ¬ HasLateWrite ops r) ops
        none = none_shown is_read_early (HasLateWrite ops) late_read late_at_fault late_passes e

    -- the value of an early stretch has a write
    pub write_shown : AreByEnd stretches → (s : Stretch) → find is_read_early stretches ≡ Some s → ¬ HasNoWrite ops s.value
    write_shown order s e none =
        let (end, id, is) = first_of s (first_found is_read_early stretches s order e).0 in
        let (w, at, first) = early_shown order s e end id is in
        no_write_at ops s.value none w at

    pub is_early_shown : AreByEnd stretches → is_some (find is_read_early stretches) ≡ is_some (first_early ops)
    is_early_shown order = by_found (find is_read_early stretches) refl
      where
        by_found : (found : Option Stretch) → find is_read_early stretches ≡ found → is_some found ≡ is_some (first_early ops)
        by_found None e = ap is_some (sym (no_early_shown e))
        by_found (Some s) e =
            let (end, id, is) = first_of s (first_found is_read_early stretches s order e).0 in
            let (w, at, first) = early_shown order s e end id is in
            ap is_some (sym first)

    -- what the first writeless stretch, and the one of another value, show of the writeless reads
    pub is_writeless_shown : AreByEnd stretches → is_some (find has_no_write stretches) ≡ is_some (first_writeless claim ops)
    is_writeless_shown order = by_found (find has_no_write stretches) refl
      where
        by_found : (found : Option Stretch) → find has_no_write stretches ≡ found → is_some found ≡ is_some (first_writeless claim ops)
        by_found None e = ap is_some (sym (no_writeless_shown e))
        by_found (Some s) e = let (r, f, same) = some_writeless order s e in ap is_some (sym f)

    module _ (order : AreByEnd stretches) (s : Stretch) (e : find has_no_write stretches ≡ Some s) where
      pub split_shown : (t : Bool) → t ≡ is_some (find (is_writeless_but s.value) stretches) → t ≡ is_some (with_other claim ops (first_writeless claim ops))
      split_shown t is =
          let (r, f, same) = some_writeless order s e in
          is
          ∙ (is_other_shown s.value order
          ∙ (ap (λ (v : Value). is_some (first_writeless_but v claim ops)) (sym same)
          ∙ (some_mapped (first_writeless_but (value_of r.act) claim ops) r ∙ ap (λ (o : Option Op). is_some (with_other claim ops o)) (sym f))))
        where
          some_mapped : (found : Option Op) (a : Op) → is_some found ≡ is_some {T = Op × Op} (option_map (λ (b : Op). (a, b)) found)
          some_mapped None a = refl
          some_mapped (Some b) a = refl

      pub sole_shown : cond (is_some (find (is_writeless_but s.value) stretches)) None (Some s.value) ≡ sole_of claim ops (first_writeless claim ops)
      sole_shown =
          let (r, f, same) = some_writeless order s e in
          ap (λ (t : Bool). cond t None (Some s.value)) (is_other_shown s.value order)
          ∙ (ap (λ (v : Value). cond (is_some (first_writeless_but v claim ops)) None (Some v)) (sym same) ∙ ap (sole_of claim ops) (sym f))
