-- Values at fault and their stretches: the edges of these, and what an edit makes of them.
use Rattle.std.proofs.Common.{◌≡◌, ◌≢◌, ◌⊎◌, ◌≤◌, ◌<◌, inl, inr, Bool, true, false, ◌&&◌, List, [], Option, Some, None, Decides, refl, sym, ap, ◌∙◌, subst, arith}
use Rattle.std.specs.Prelude.{Contains, IsSome, is_some, filter, map}
use Rattle.std.proofs.lemmas.Bool.{both_ways, cases_order, lt-ltb, ltb-true}
use Rattle.std.proofs.lemmas.Bool.Decides.{Decides-and, not_from_Decides}
use Rattle.std.proofs.lemmas.List.Elements.{All-contains}
use Rattle.intervals.specs.declared.operation.Op.{Op}
use Rattle.intervals.specs.declared.operation.OpId.{OpId}
use Rattle.intervals.specs.declared.operation.Moment.{Moment}
use Rattle.intervals.specs.declared.operation.Value.{Value}
use Rattle.intervals.specs.Operation.{IsJudgedRead, IsWrite, is_judged_read, is_write, judged, same_value, value_of}
use Rattle.intervals.specs.Standing.{HasDistinctMoments}
use Rattle.intervals.specs.Judging.{end_number}
use Rattle.intervals.specs.Terms.{ClaimModel}
use Rattle.intervals.proofs.Found.{find-None, find-Some}
use Rattle.zone_tree.specs.declared.stretch.Stretch.{Stretch}
use Rattle.zone_tree.proofs.MomentOrder.{moment_exact, moment_order}
use Rattle.zone_tree.specs.declared.edge.Edge.{Edge}
use Rattle.zone_tree.specs.declared.edge.Edge.TheVariants.{At, Never}
use Rattle.zone_tree.specs.Edge.{ComesBefore}
use Rattle.zones.specs.Cluster.{Interval, edge_of_end, has_value, interval_of}
use Rattle.zones.specs.Faults.{AreStretched, AreStretchesAt, IsAtFault, IsRead, IsStretchAt, IsStretchAtSome, begin_of_write, first_end_of, edge_moment, reads_of, stretch_of, stretch_shape, write_of}
use Rattle.intervals.specs.Kind.{HasNoWrite}
use Rattle.zones.specs.Members.{EndsFirstOf, IsChange, IsTheWriteAt}
use Rattle.zones.specs.Moves.{AreChanges, AreNew, IsThere, moved}
use Rattle.zones.specs.Zoned.{other_value, value_in}
use Rattle.zones.proofs.Cluster.{EdgeIn, least-bound, least-held, settle}
use Rattle.zones.proofs.EdgeOrder.{AtMost, at_most_both, not_after_before}
use Rattle.zones.proofs.Edited.{from_map}
use Rattle.zones.proofs.FirstReads.{ended_at, has_end}
use Rattle.zones.proofs.Judged.{is_judged, judged_read, judged_write}
use Rattle.zones.proofs.Members.{Decides-same_value, in_none, kept, kept_present, all_from, mapped}
use Rattle.zones.proofs.PerValue.{StandForValues, HasItemsBut, IsItemForSome, IsUntouched, KeepsItem, moved_tree, tree_is_new}
use Rattle.zones.proofs.Written.{never_last}

-- moments are in order where their edges are
moments_in_order : (m n : Moment) → AtMost (At m) (At n) → m.0 ≤ n.0
moments_in_order m n h = by_cases (cases_order m.0 n.0)
  where
    by_cases : (m.0 ≡ n.0) ⊎ ((m.0 < n.0) ⊎ (n.0 < m.0)) → m.0 ≤ n.0
    by_cases (inl e) = omega arith
    by_cases (inr (inl p)) = omega arith
    by_cases (inr (inr p)) = absurd (h (lt-ltb n.0 m.0 p))

not_before : (m n : Moment) → m.0 ≤ n.0 → AtMost (At m) (At n)
not_before m n le h = let less : n.0 < m.0 = ltb-true n.0 m.0 h in omega arith

-- where a judged read ended
pub end_of_read : (r : Op) → IsJudgedRead r → (m : Moment) × (r.end ≡ Some m) × (m.0 ≡ end_number r)
end_of_read r h = ended_at r (has_end (is_write r) _ h)

pub at_most_ended : (m : Moment) (r : Op) → IsJudgedRead r → AtMost (At m) (edge_of_end r.end) → m.0 ≤ end_number r
at_most_ended m r j h =
    let (n, e, number) = end_of_read r j in
    let le : m.0 ≤ n.0 = moments_in_order m n (subst (λ (end : Option Moment). AtMost (At m) (edge_of_end end)) e h) in
    omega arith

-- a judged read of the value
abbrev pub IsReadAt : List Op → Value → Op → Type 0
IsReadAt ops v r = Contains ops r × IsJudgedRead r × (value_of r.act ≡ v)

-- the value has no write where no operation is its write
pub no_write : (ops : List Op) (v : Value) → ((w : Op) → ¬ IsTheWriteAt ops v w) → HasNoWrite ops v
no_write ops v none = all_from (λ w. IsWrite w → value_of w.act ≢ v) ops (λ w h t e. none w (record { present = h; write = t; same = e }))

pub no_write_at : (ops : List Op) (v : Value) → HasNoWrite ops v → (w : Op) → ¬ IsTheWriteAt ops v w
no_write_at ops v none w is = All-contains (λ w. IsWrite w → value_of w.act ≢ v) ops w none is.present is.write is.same

module _ (ops : List Op) (v : Value) where
  in_reads : (r : Op) → IsReadAt ops v r → Contains (reads_of ops v) r
  in_reads r (h, j, e) = kept (has_value v) (filter is_judged_read ops) r (kept is_judged_read ops r h j) ((Decides-same_value (value_of r.act) v).1 e)

  from_reads : (r : Op) → Contains (reads_of ops v) r → IsReadAt ops v r
  from_reads r h =
      let (k, e) = kept_present (has_value v) (filter is_judged_read ops) r h in
      let (s, j) = kept_present is_judged_read ops r k in
      (s, j, (Decides-same_value (value_of r.act) v).0 e)

  -- the first end is at most the end of each read
  pub first_at_most : (r : Op) → IsReadAt ops v r → AtMost (first_end_of ops v) (edge_of_end r.end)
  first_at_most r h = least-bound (map interval_of (reads_of ops v)) (interval_of r) (mapped interval_of (reads_of ops v) r (in_reads r h))

  -- the first end is the end of some read, or never comes
  abbrev pub IsHeld : Type 0
  IsHeld = (first_end_of ops v ≡ Never) ⊎ ((r : Op) × IsReadAt ops v r × (edge_of_end r.end ≡ first_end_of ops v))

  pub first_held : IsHeld
  first_held = by_cases (least-held (map interval_of (reads_of ops v)))
    where
      by_cases : (first_end_of ops v ≡ Never) ⊎ ((s : Interval) × Contains (map interval_of (reads_of ops v)) s × (s.end ≡ first_end_of ops v)) → IsHeld
      by_cases (inl e) = inl e
      by_cases (inr (s, h, e)) = let (r, k, f) = from_map interval_of (reads_of ops v) s h in inr (r, from_reads r k, ap (λ (x : Interval). x.end) f ∙ e)

  -- the read that ended first ends at the first end
  pub first_end_is : (end : Moment) (id : OpId) → EndsFirstOf ops v end id → first_end_of ops v ≡ At end
  first_end_is end id is =
      at_most_both (first_end_of ops v) (At end)
      (subst (λ (e : Option Moment). AtMost (first_end_of ops v) (edge_of_end e)) is.ended (first_at_most is.read (is.present, is.judged, is.same)))
      (by_cases first_held)
    where
      by_cases : IsHeld → AtMost (At end) (first_end_of ops v)
      by_cases (inl e) = subst (λ (x : Edge). AtMost (At end) x) (sym e) (never_last (At end))
      by_cases (inr (r, (h, j, same), e)) =
          let (m, f, number) = end_of_read r j in
          let le : end.0 ≤ end_number r = All-contains (λ r. IsJudgedRead r → value_of r.act ≡ v → end.0 ≤ end_number r) ops r is.first h j same in
          subst (λ (x : Edge). AtMost (At end) x) (sym (ap edge_of_end f) ∙ e) (not_before end m (omega arith))

  -- a value that is read has a first read
  pub first_of_reads : IsRead ops v → (end : Moment) × (id : OpId) × EndsFirstOf ops v end id
  first_of_reads (x, h, j, same) = by_cases first_held
    where
      by_cases : IsHeld → (end : Moment) × (id : OpId) × EndsFirstOf ops v end id
      by_cases (inl e) =
          let (m, f, number) = end_of_read x j in
          let late : AtMost Never (At m) = subst (λ (end : Option Moment). AtMost Never (edge_of_end end)) f (subst (λ (y : Edge). AtMost y (edge_of_end x.end)) e (first_at_most x (h, j, same))) in
          absurd (late refl)
      by_cases (inr (r, (k, read, at_value), e)) =
          let (m, f, number) = end_of_read r read in
          let first : first_end_of ops v ≡ At m = sym e ∙ ap edge_of_end f in (
            m,
            r.id,
            record {
              read = r;
              present = k;
              judged = read;
              same = at_value;
              named = refl;
              ended = f;
              first = all_from (λ y. IsJudgedRead y → value_of y.act ≡ v → m.0 ≤ end_number y) ops (λ y present j g.
                  at_most_ended m y j (subst (λ (x : Edge). AtMost x (edge_of_end y.end)) first (first_at_most y (present, j, g))));
            },
          )

  -- the write of the value, or none
  pub write_cases : ((w : Op) × (write_of ops v ≡ Some w) × IsTheWriteAt ops v w) ⊎ ((write_of ops v ≡ None) × HasNoWrite ops v)
  write_cases = by_cases (write_of ops v) refl
    where
      decides : (w : Op) → Decides (is_write w && same_value (value_of w.act) v) (IsWrite w × (value_of w.act ≡ v))
      decides w = Decides-and (is_write w) (same_value (value_of w.act) v) (λ e. e, λ e. e) (Decides-same_value (value_of w.act) v)

      by_cases : (found : Option Op) → write_of ops v ≡ found → ((w : Op) × (write_of ops v ≡ Some w) × IsTheWriteAt ops v w) ⊎ ((write_of ops v ≡ None) × HasNoWrite ops v)
      by_cases None e =
          inr (
            e,
            no_write ops v (λ w is.
                not_from_Decides (is_write w && same_value (value_of w.act) v) (decides w)
                (All-contains (λ w. (is_write w && same_value (value_of w.act) v) ≡ false) ops w (find-None (λ w. is_write w && same_value (value_of w.act) v) ops e) is.present) (is.write, is.same)),
          )
      by_cases (Some w) e =
          let (h, t) = find-Some (λ w. is_write w && same_value (value_of w.act) v) ops w e in
          let (write, same) = (decides w).0 t in
          inl (w, e, record { present = h; write = write; same = same })

-- where the write of a value begins, and whether there is one
module _ (ops : List Op) (v : Value) where
  abbrev pub begin : Edge
  begin = begin_of_write (write_of ops v)

  abbrev pub written : Bool
  written = is_some (write_of ops v)

  abbrev pub BeginsAtWrite : Type 0
  BeginsAtWrite = (w : Op) × IsTheWriteAt ops v w × (begin ≡ At w.begin) × (written ≡ true)

  abbrev pub BeginsNever : Type 0
  BeginsNever = HasNoWrite ops v × (begin ≡ Never) × (written ≡ false)

  abbrev pub BeginCases : Type 0
  BeginCases = BeginsAtWrite ⊎ BeginsNever

  pub begin_cases : BeginCases
  begin_cases = by_write (write_cases ops v)
    where
      by_write : ((w : Op) × (write_of ops v ≡ Some w) × IsTheWriteAt ops v w) ⊎ ((write_of ops v ≡ None) × HasNoWrite ops v) → BeginCases
      by_write (inl (w, e, is)) = inl (w, is, ap begin_of_write e, ap is_some e)
      by_write (inr (e, none)) = inr (none, ap begin_of_write e, ap is_some e)

  pub at_write : (w : Op) → IsTheWriteAt ops v w → ((x : Op) → IsTheWriteAt ops v x → x ≡ w) → (begin ≡ At w.begin) × (written ≡ true)
  at_write w is one = by_cases begin_cases
    where
      by_cases : BeginCases → (begin ≡ At w.begin) × (written ≡ true)
      by_cases (inl (x, other, e, t)) = (e ∙ ap (λ (o : Op). At o.begin) (one x other), t)
      by_cases (inr (none, e, f)) = absurd (no_write_at ops v none w is)

  pub never_written : HasNoWrite ops v → (begin ≡ Never) × (written ≡ false)
  never_written none = by_cases begin_cases
    where
      by_cases : BeginCases → (begin ≡ Never) × (written ≡ false)
      by_cases (inl (x, other, e, t)) = absurd (no_write_at ops v none x other)
      by_cases (inr (none, e, f)) = (e, f)

  -- the end of a stretch is that of a read of the value
  pub end_in : (initial : Value) → IsRead ops v → EdgeIn initial ops v (At (stretch_of ops v).end)
  end_in initial read =
      let (end, id, is) = first_of_reads ops v read in
      let at : end ≡ (stretch_of ops v).end = ap edge_moment (sym (first_end_is ops v end id is)) in
      subst (λ (m : Moment). EdgeIn initial ops v (At m)) at (is.read, (kept is_judged ops is.read is.present (judged_read is.read is.judged).0, is.same), inr is.ended)

pub stretches_stand : (claim : ClaimModel) (ops : List Op) → HasDistinctMoments ops → StandForValues stretch_shape (IsAtFault claim ops) (stretch_of ops)
stretches_stand claim ops moments = record {
  value = λ v. refl;
  may_stand = λ v. tt;
  one_key = λ u v h k e.
      settle claim.initial ops moments u v (At (stretch_of ops v).end)
      (subst (λ (m : Moment). EdgeIn claim.initial ops u (At m)) e (end_in ops u claim.initial h.read)) (end_in ops v claim.initial k.read);
}

-- with more reads the first end is no later
first_of_more : (ops more : List Op) (v : Value) → ((r : Op) → IsReadAt ops v r → IsReadAt more v r) → AtMost (first_end_of more v) (first_end_of ops v)
first_of_more ops more v each = by_cases (first_held ops v)
  where
    by_cases : IsHeld ops v → AtMost (first_end_of more v) (first_end_of ops v)
    by_cases (inl e) = subst (λ (x : Edge). AtMost (first_end_of more v) x) (sym e) (never_last (first_end_of more v))
    by_cases (inr (r, h, e)) = subst (λ (x : Edge). AtMost (first_end_of more v) x) e (first_at_most more v r (each r h))

-- a change touches only the values of the operations that go and come
module _ (before : List Op) (old new : Option Op) (after : List Op) (change : IsChange before old new after) (v : Value) where
  stays : (op : Op) → (old ≡ Some op → ⊥) → Contains before op → is_judged op ≡ true → Contains after op
  stays op apart h j = by_cases (change.stay op (kept is_judged before op h j))
    where
      by_cases : (old ≡ Some op) ⊎ Contains (judged after) op → Contains after op
      by_cases (inl f) = absurd (apart f)
      by_cases (inr k) = (kept_present is_judged after op k).0

  stood : (op : Op) → (new ≡ Some op → ⊥) → Contains after op → is_judged op ≡ true → Contains before op
  stood op apart h j = by_cases (change.stood op (kept is_judged after op h j))
    where
      by_cases : (new ≡ Some op) ⊎ (Contains (judged before) op × (old ≢ Some op)) → Contains before op
      by_cases (inl f) = absurd (apart f)
      by_cases (inr (k, n)) = (kept_present is_judged before op k).0

  read_still : ((op : Op) → old ≡ Some op → value_of op.act ≢ v) → (r : Op) → IsReadAt before v r → IsReadAt after v r
  read_still apart r (h, j, e) = (stays r (λ f. apart r f e) h (judged_read r j).0, j, e)

  read_stood : ((op : Op) → new ≡ Some op → value_of op.act ≢ v) → (r : Op) → IsReadAt after v r → IsReadAt before v r
  read_stood apart r (h, j, e) = (stood r (λ f. apart r f e) h (judged_read r j).0, j, e)

  one_after : (x w : Op) → IsTheWriteAt after v x → IsTheWriteAt after v w → x ≡ w
  one_after x w a b =
      change.apart_after.by_value x w
      (kept is_judged after x a.present (judged_write x a.write)) (kept is_judged after w b.present (judged_write w b.write))
      (a.same ∙ sym b.same) a.write b.write

  -- the write stays where neither what goes nor what comes is a write of the value
  module _ (by_old : (op : Op) → old ≡ Some op → IsWrite op → value_of op.act ≢ v) (by_new : (op : Op) → new ≡ Some op → IsWrite op → value_of op.act ≢ v) where
    write_still : (w : Op) → IsTheWriteAt before v w → IsTheWriteAt after v w
    write_still w is = record { present = stays w (λ f. by_old w f is.write is.same) is.present (judged_write w is.write); write = is.write; same = is.same }

    write_stood : (w : Op) → IsTheWriteAt after v w → IsTheWriteAt before v w
    write_stood w is = record { present = stood w (λ f. by_new w f is.write is.same) is.present (judged_write w is.write); write = is.write; same = is.same }

    write_kept : (begin before v ≡ begin after v) × (written before v ≡ written after v)
    write_kept = by_cases (begin_cases before v)
      where
        by_cases : BeginCases before v → (begin before v ≡ begin after v) × (written before v ≡ written after v)
        by_cases (inl (w, is, e, t)) =
            let present = write_still w is in
            let at = at_write after v w present (λ x other. one_after x w other present) in
            (e ∙ sym at.0, t ∙ sym at.1)
        by_cases (inr (none, e, f)) =
            let never = never_written after v (no_write after v (λ w is. no_write_at before v none w (write_stood w is))) in
            (e ∙ sym never.0, f ∙ sym never.1)

  module _ (untouched : IsUntouched old new v) where
    first_kept : first_end_of before v ≡ first_end_of after v
    first_kept =
        at_most_both (first_end_of before v) (first_end_of after v)
        (first_of_more after before v (read_stood untouched.by_new)) (first_of_more before after v (read_still untouched.by_old))

    wrote : (begin before v ≡ begin after v) × (written before v ≡ written after v)
    wrote = write_kept (λ op e _. untouched.by_old op e) (λ op e _. untouched.by_new op e)

    stretch_kept : stretch_of before v ≡ stretch_of after v
    stretch_kept =
        ap {B = Stretch} (λ (m : Edge). record { end = edge_moment m; written = written before v; value = v }) first_kept
        ∙ ap {B = Stretch} (λ (t : Bool). record { end = edge_moment (first_end_of after v); written = t; value = v }) wrote.1

    fault_kept : (claim : ClaimModel) → KeepsItem (IsAtFault claim before) (IsAtFault claim after) (stretch_of before) (stretch_of after) v
    fault_kept claim = record {
      still = λ fault. record {
        read = (let (r, h, j, e) = fault.read in let (k, t, f) = read_still untouched.by_old r (h, j, e) in (r, k, t, f));
        not_initial = fault.not_initial;
        before = subst (λ (x : Edge). ComesBefore x (begin after v)) first_kept (subst (λ (x : Edge). ComesBefore (first_end_of before v) x) wrote.0 fault.before);
      };
      stood = λ fault. record {
        read = (let (r, h, j, e) = fault.read in let (k, t, f) = read_stood untouched.by_new r (h, j, e) in (r, k, t, f));
        not_initial = fault.not_initial;
        before = subst (λ (x : Edge). ComesBefore x (begin before v)) (sym first_kept) (subst (λ (x : Edge). ComesBefore (first_end_of after v) x) (sym wrote.0) fault.before);
      };
      same = λ fault. stretch_kept;
    }

  -- where a read goes and nothing comes, a value at fault was at fault before
  fault_stood : (claim : ClaimModel) → new ≡ None → ((op : Op) → old ≡ Some op → ¬ IsWrite op) → IsAtFault claim after v → IsAtFault claim before v
  fault_stood claim none reads fault =
      let no_new : (op : Op) → new ≡ Some op → value_of op.act ≢ v = λ op e. absurd (let g : None ≡ Some op = sym none ∙ e in cc) in
      let wrote = write_kept (λ op e t. absurd (reads op e t)) (λ op e _. no_new op e) in
      record {
        read = (let (r, h, j, e) = fault.read in let (k, t, f) = read_stood no_new r (h, j, e) in (r, k, t, f));
        not_initial = fault.not_initial;
        before =
            not_after_before (first_end_of before v) (first_end_of after v) (begin before v) (first_of_more after before v (read_stood no_new))
            (subst (λ (x : Edge). ComesBefore (first_end_of after v) x) (sym wrote.0) fault.before);
      }

stretch_for : (claim : ClaimModel) (ops : List Op) (value : Option Value) (found : Option Stretch) → IsStretchAtSome claim ops value found → IsItemForSome (IsAtFault claim ops) (stretch_of ops) value found
stretch_for claim ops None found is = is
stretch_for claim ops (Some value) found is = record { item = is.stretch; none = is.none; some = is.some }

-- the stretches that an edit changes are moved
module _ (claim : ClaimModel) (before : List Op) (old new : Option Op) (after : List Op) (change : IsChange before old new after)
    (moments : HasDistinctMoments before) (moments_after : HasDistinctMoments after) (stretches : List Stretch) (stretched : AreStretched claim before stretches)
    (earlier later : Option Stretch × Option Stretch)
    (earlier_is : AreStretchesAt claim before (value_in old) (other_value (value_in old) (value_in new)) earlier)
    (later_is : AreStretchesAt claim after (value_in old) (other_value (value_in old) (value_in new)) later) where
  tree : HasItemsBut stretch_shape (IsAtFault claim before) (stretch_of before) (λ v. ⊥) stretches
  tree = record {
    each = λ v fault out. stretched.each v fault;
    only = λ s h. let (fault, e) = stretched.only s h in (fault, (λ n. n), e);
  }

  abbrev first : Option Value
  first = value_in old

  abbrev second : Option Value
  second = other_value (value_in old) (value_in new)

  module _ (gone come : Option Stretch × Option Stretch) (changes : AreChanges earlier later gone come) where
    pub moved_stretched : AreStretched claim after (moved stretch_shape gone come stretches)
    moved_stretched =
        let whole =
        moved_tree stretch_shape moment_order moment_exact old new (IsAtFault claim before) (IsAtFault claim after) (stretch_of before) (stretch_of after)
        (stretches_stand claim before moments) (stretches_stand claim after moments_after) (λ v is. fault_kept before old new after change v is claim) stretches tree earlier later gone come changes
        (stretch_for claim before first earlier.0 earlier_is.one) (stretch_for claim before second earlier.1 earlier_is.other)
        (stretch_for claim after first later.0 later_is.one) (stretch_for claim after second later.1 later_is.other)
        in
        record {
          each = λ v fault. whole.each v fault (λ n. n);
          only = λ s h. let (fault, in_tree, e) = whole.only s h in (fault, e);
        }

    pub stretches_are_new : AreNew stretch_shape stretches gone come
    stretches_are_new =
        tree_is_new stretch_shape moment_order moment_exact old new (IsAtFault claim before) (IsAtFault claim after) (stretch_of before) (stretch_of after)
        (stretches_stand claim before moments) (stretches_stand claim after moments_after) (λ v is. fault_kept before old new after change v is claim) stretches tree earlier later gone come changes
        (stretch_for claim before first earlier.0 earlier_is.one) (stretch_for claim before second earlier.1 earlier_is.other)
        (stretch_for claim after first later.0 later_is.one) (stretch_for claim after second later.1 later_is.other)

  -- where a read goes and nothing comes, a stretch comes only in the place of one that is there
  pub stretch_present : new ≡ None → ((op : Op) → old ≡ Some op → ¬ IsWrite op) → IsSome later.0 → IsThere stretches earlier.0
  stretch_present none reads = by_value first earlier_is.one later_is.one
    where
      by_stretch : (v : Value) (one : Option Stretch) → IsStretchAt claim before v one → IsAtFault claim before v → IsThere stretches one
      by_stretch v None is fault = absurd (is.none refl fault)
      by_stretch v (Some s) is fault = subst (Contains stretches) (sym is.stretch) (stretched.each v fault)

      by_value : (u : Option Value) → IsStretchAtSome claim before u earlier.0 → IsStretchAtSome claim after u later.0 → IsSome later.0 → IsThere stretches earlier.0
      by_value None was is some = absurd (let e : is_some later.0 ≡ false = ap is_some is in both_ways (is_some later.0) e some)
      by_value (Some v) was is some = by_stretch v earlier.0 was (fault_stood before old new after change v claim none reads (is.some some))

pub stretched_none : (claim : ClaimModel) → AreStretched claim [] []
stretched_none claim = record {
  each = λ v fault. absurd (in_none fault.read.0 fault.read.1);
  only = λ s h. absurd (in_none s h);
}
