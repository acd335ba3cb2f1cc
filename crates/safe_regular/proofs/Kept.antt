-- Which covers an edit leaves as they are.
use Rattle.std.proofs.Common.{◌≡◌, ℕ, suc, ◌-◌, ◌<◌, ◌≤◌, inl, inr, Bool, true, ◌&&◌, ◌||◌, List, Option, Some, None, Decides, refl, sym, ap, ◌∙◌, subst, arith}
use Rattle.std.specs.Prelude.{Contains, IsTrue, nat_lt}
use Rattle.std.proofs.lemmas.Bool.{cases_lt}
use Rattle.std.proofs.lemmas.Bool.Decides.{Decides-and, Decides-ltb}
use Rattle.std.proofs.lemmas.List.Elements.{All-contains}
use Rattle.intervals.specs.declared.operation.Op.{Op}
use Rattle.intervals.specs.declared.operation.OpId.{OpId}
use Rattle.intervals.specs.declared.operation.Moment.{Moment}
use Rattle.intervals.specs.declared.operation.Value.{Value}
use Rattle.intervals.specs.declared.claim.Kind.{Kind}
use Rattle.intervals.specs.declared.claim.Kind.TheVariants.{Safe, Regular, Atomic}
use Rattle.intervals.specs.Least.{least_by}
use Rattle.intervals.specs.Operation.{IsWrite, is_write, is_judged_read, value_of}
use Rattle.intervals.specs.Terms.{ClaimModel}
use Rattle.intervals.proofs.Agreement.{Decides-IsTrue}
use Rattle.intervals.proofs.LeastOf.{least_by-IsLeast, least_from-None}
use Rattle.read_tree.specs.declared.item.RowItem.{RowItem}
use Rattle.read_tree.specs.Items.{AreItemsInOrder, spot_of_item}
use Rattle.safe_regular.specs.Held.{AreOneWriters}
use Rattle.safe_regular.specs.LookUp.{BeginsBefore, BeginsFrom, IsFirstWriteOf, IsLastOf}
use Rattle.safe_regular.specs.RowItems.{AreItemsOf, AreOneCover, ComesLastUnfinished, IsAway, IsCoverBefore, IsExchanged, IsInFront, IsOperationItem, IsLaid, IsLaidAlready, IsRenewed, KeepsItsCover, counted_from_1, cover_item, cover_reach, has_rows, initial_item, initial_reach, numbered_moment, place_in, reach_by, optional_item_spot}
use Rattle.safe_regular.specs.Change.{IsAmong}
use Rattle.safe_regular.proofs.Exchanged.{is_renewed_itself}
use Rattle.safe_regular.proofs.Laid.{at_or_away, laid}
use Rattle.safe_regular.proofs.Next.{some_first, IsApartFrom, next_before}
use Rattle.safe_regular.proofs.Told.{items_told, place_of_cover, same_is, writes_apart}

same_in : (a b : RowItem) → Some a ≡ Some b → a ≡ b
same_in a b e = cc

-- where values have rows the reach of a write's cover does not depend on its own end
any_end : (kind : Kind) → has_rows kind ≡ true → (e f : Option Moment) (next : Option Op) → cover_reach kind e next ≡ cover_reach kind f next
any_end Safe rows e f next = absurd (cc)
any_end Regular rows e f next = refl
any_end Atomic rows e f next = refl

-- so writes of one id, beginning and value have the same cover
module _ (claim : ClaimModel) (rows : has_rows claim.kind ≡ true) (o n : Op) (one : AreOneCover o n) (next : Option Op) where
  abbrev cover_of : Value → Moment → ℕ → OpId → RowItem
  cover_of value begin reach id = record { value = value; moment = numbered_moment (counted_from_1 begin.0); reach = reach; id = id; covers = true; by_value = has_rows claim.kind }

  one_cover : cover_item claim o next ≡ cover_item claim n next
  one_cover =
      ap (λ (value : Value). cover_of value o.begin (cover_reach claim.kind o.end next) o.id) one.value
      ∙ ap (λ (begin : Moment). cover_of (value_of n.act) begin (cover_reach claim.kind o.end next) o.id) one.alike.begin
      ∙ ap (λ (reach : ℕ). cover_of (value_of n.act) n.begin reach o.id) (any_end claim.kind rows o.end n.end next)
      ∙ ap (λ (id : OpId). cover_of (value_of n.act) n.begin (cover_reach claim.kind n.end next) id) one.alike.id

module _ (claim : ClaimModel) (ops others after : List Op) (old new : Option Op) (before_apart : AreOneWriters claim ops) (after_apart : AreOneWriters claim after)
    (before_cases : (x : Op) → Contains ops x → IsAmong others old x) (in_before : (x : Op) → IsAmong others old x → Contains ops x)
    (after_cases : (x : Op) → Contains after x → IsAmong others new x) (in_after : (x : Op) → IsAmong others new x → Contains after x)
    (items : List RowItem) (are : AreItemsOf claim ops items) where
  -- an operation that begins at m does not begin at m + 1 or later, so it is apart from there (`IsApartFrom`)
  not_after : (one : Option Op) (w : Op) → one ≡ Some w → (m : ℕ) → w.begin.0 ≡ m → IsApartFrom ops others after old new before_cases in_before after_cases in_after one (suc m)
  not_after one w is m begins p p_is write from =
      let same : w ≡ p = cc in
      let begins_p : w.begin.0 ≡ p.begin.0 = ap (λ (o : Op). o.begin.0) same in
      absurd (omega (arith, from, begins, begins_p))

  -- a cover that its write keeps is in the tree already
  pub own_cover_present : KeepsItsCover claim.kind old new → IsLaidAlready claim after old new items
  own_cover_present keeps =
      let (o, n, old_is, new_is, one) = keeps.one in
      let alike = one.alike in
      let (next, next_is) = some_first (suc n.begin.0) after in
      let was_is : IsFirstWriteOf (BeginsFrom (suc n.begin.0)) ops next =
      next_before ops others after old new before_cases in_before after_cases in_after (suc n.begin.0)
      (not_after old o old_is n.begin.0 (ap (λ (m : Moment). m.0) alike.begin)) (not_after new n new_is n.begin.0 refl) next next_is in
      let same : cover_item claim o next ≡ cover_item claim n next = one_cover claim keeps.rows o n one next in
      let at : spot_of_item (cover_item claim n next) ≡ place_in claim n = place_of_cover claim after after_apart n next alike.new_writes in
      let is_item : IsOperationItem claim after (cover_item claim n next) =
      inr (inl (record { write = n; present = in_after n (inr new_is); writes = alike.new_writes; next = next; next_is = next_is; is = refl })) in
      record {
        item = cover_item claim n next;
        is = record {
          is = λ y e. subst (λ (x : RowItem). IsOperationItem claim after x × ((p : Op) × (new ≡ Some p) × IsLaid p × (spot_of_item x ≡ place_in claim p)))
              (same_in (cover_item claim n next) y e) (is_item, (n, new_is, inl alike.new_writes, at));
          there = λ p e p_laid. (cover_item claim n next, refl);
        };
        present = subst (Contains items) same (are.each (cover_item claim o next) (inr (inl (record {
          write = o;
          present = in_before o (inr old_is);
          writes = alike.old_writes;
          next = next;
          next_is = subst (λ (m : Moment). IsFirstWriteOf (BeginsFrom (suc m.0)) ops next) (sym alike.begin) was_is;
          is = refl;
        }))));
        place =
            ap (optional_item_spot claim) old_is ∙ laid claim o (is_write o || is_judged_read o) refl (inl alike.old_writes)
            ∙ ap Some (sym (place_of_cover claim ops before_apart o next alike.old_writes) ∙ ap spot_of_item same);
      }

-- of the writes that begin before a moment there is a last one, or there is none
some_last : (m : ℕ) (ops : List Op) → (found : Option Op) × IsLastOf (BeginsBefore m) ops found
some_last m ops = (least_by left test ops, by_cases (least_by left test ops) refl)
  where
    left : Op → ℕ
    left op = m - op.begin.0

    test : Op → Bool
    test op = is_write op && nat_lt op.begin.0 m

    passes : (op : Op) → Decides (test op) (IsWrite op × (op.begin.0 < m))
    passes op = Decides-and (is_write op) (nat_lt op.begin.0 m) (Decides-IsTrue (is_write op)) (Decides-ltb op.begin.0 m)

    by_cases : (found : Option Op) → least_by left test ops ≡ found → IsLastOf (BeginsBefore m) ops found
    by_cases None e = λ w present write fits. All-contains (λ o. ¬ IsTrue (test o)) ops w (least_from-None left test None ops e).1 present ((passes w).1 (write, fits))
    by_cases (Some n) e =
        let is = least_by-IsLeast left test ops n e in
        let q = (passes n).0 is.passes in
        record {
          present = is.present;
          write = q.0;
          fits = q.1;
          last = λ w present write fits.
              let le : left n ≤ left w = All-contains (λ o. IsTrue (test o) → left n ≤ left o) ops w is.least present ((passes w).1 (write, fits)) in
              let lt : n.begin.0 < m = q.1 in
              omega (arith, le, lt, fits);
        }

module _ (claim : ClaimModel) (ops others after : List Op) (old new : Option Op) (before_apart : AreOneWriters claim ops) (after_apart : AreOneWriters claim after)
    (before_cases : (x : Op) → Contains ops x → IsAmong others old x) (in_before : (x : Op) → IsAmong others old x → Contains ops x)
    (after_cases : (x : Op) → Contains after x → IsAmong others new x) (in_after : (x : Op) → IsAmong others new x → Contains after x)
    (new_other : (x y : Op) → Contains others x → new ≡ Some y → ¬ (x ≡ y))
    (items : List RowItem) (are : AreItemsOf claim ops items) (comes : ComesLastUnfinished after old new) where
  abbrev op : Op
  op = comes.write

  op_present : Contains after op
  op_present = in_after op (inr comes.is)

  -- each write of the list before the edit stays, and begins before the one that comes
  stood_before : (v : Op) → Contains ops v → IsWrite v → Contains after v × (v.begin.0 < op.begin.0)
  stood_before v present write = elim (before_cases v present) [
    | inr gone ↦ absurd (let none = comes.none in cc)
    | inl among ↦
        let v_present = in_after v (inl among) in
        elim (cases_lt v.begin.0 op.begin.0) [
          | inl lt ↦ (v_present, lt)
          | inr le ↦ elim (cases_lt op.begin.0 v.begin.0) [
            | inl following ↦ absurd (comes.last v v_present write following)
            | inr ge ↦ absurd (new_other v op among comes.is ((writes_apart claim after after_apart).one v op v_present op_present write comes.writes (omega (arith, le, ge))))
          ]
        ]
  ]

  -- where no write is between n and the one that comes, that one is the first write from n on, and none was before the
  -- edit
  module _ (n : ℕ) (above : n ≤ op.begin.0) (below : (u : Op) → Contains after u → IsWrite u → u.begin.0 < op.begin.0 → u.begin.0 < n) where
    first_following : IsFirstWriteOf (BeginsFrom n) after (Some op)
    first_following = record {
      present = op_present;
      write = comes.writes;
      fits = above;
      first = λ v present write from. elim (cases_lt v.begin.0 op.begin.0) [
        | inl lt ↦ absurd (let b : v.begin.0 < n = below v present write lt in omega (arith, b, from))
        | inr le ↦ le
      ];
    }

    none_after : IsFirstWriteOf (BeginsFrom n) ops None
    none_after v present write from =
        let (v_present, lt) = stood_before v present write in
        let b : v.begin.0 < n = below v v_present write lt in omega (arith, b, from)

  -- a cover reaches as far with that write after it as with none
  same_reach : (kind : Kind) (end : Option Moment) → cover_reach kind end None ≡ cover_reach kind end (Some op)
  same_reach Safe end = refl
  same_reach Regular end = ap reach_by (sym comes.unfinished)
  same_reach Atomic end = ap reach_by (sym comes.unfinished)

  same_initial : (kind : Kind) → initial_reach kind None ≡ initial_reach kind (Some op)
  same_initial Safe = refl
  same_initial Regular = ap reach_by (sym comes.unfinished)
  same_initial Atomic = ap reach_by (sym comes.unfinished)

  -- so the cover before that write is in the tree already, as it is to be
  abbrev InFrontAlready : Type 0
  InFrontAlready = (x : RowItem) × IsOperationItem claim after x × IsInFront claim after op.begin.0 x × Contains items x

  by_last : (found : Option Op) → IsLastOf (BeginsBefore op.begin.0) after found → InFrontAlready
  by_last None none =
      let below : (u : Op) → Contains after u → IsWrite u → u.begin.0 < op.begin.0 → u.begin.0 < 0 = λ u present write lt. absurd (none u present write lt) in
      let same : initial_item claim None ≡ initial_item claim (Some op) = ap (λ (reach : ℕ). let x : RowItem = record (initial_item claim None) { reach = reach } in x) (same_initial claim.kind) in (
        initial_item claim (Some op),
        inr (inr (record { next = Some op; next_is = first_following 0 (omega arith) below; is = refl })),
        inr (none, refl),
        subst (Contains items) same (are.each (initial_item claim None) (inr (inr (record { next = None; next_is = none_after 0 (omega arith) below; is = refl })))),
      )
  by_last (Some w) last =
      let below : (u : Op) → Contains after u → IsWrite u → u.begin.0 < op.begin.0 → u.begin.0 < suc w.begin.0 =
      λ u present write lt. let le : u.begin.0 ≤ w.begin.0 = last.last u present write lt in omega (arith, le) in
      let same : cover_item claim w None ≡ cover_item claim w (Some op) = ap (λ (reach : ℕ). let x : RowItem = record (cover_item claim w None) { reach = reach } in x) (same_reach claim.kind w.end) in (
        cover_item claim w (Some op),
        inr (inl (record { write = w; present = last.present; writes = last.write; next = Some op; next_is = first_following (suc w.begin.0) last.fits below; is = refl })),
        inl (w, last, place_of_cover claim after after_apart w (Some op) last.write),
        subst (Contains items) same
            (are.each (cover_item claim w None) (inr (inl (record { write = w; present = w_stood; writes = last.write; next = None; next_is = none_after (suc w.begin.0) last.fits below; is = refl })))),
      )
    where
      w_stood : Contains ops w
      w_stood = elim (after_cases w last.present) [
        | inl among ↦ in_before w (inl among)
        | inr came ↦ absurd (let is = comes.is in let same : op ≡ w = cc in let begins : op.begin.0 ≡ w.begin.0 = ap (λ (o : Op). o.begin.0) same in let lt : w.begin.0 < op.begin.0 = last.fits in omega (arith, begins, lt))
      ]

  in_front_already : InFrontAlready
  in_front_already = let (found, is) = some_last op.begin.0 after in by_last found is

  -- to leave that cover is to rebuild it
  pub front_stays : (item left : Option RowItem) → IsCoverBefore claim after None old left → (second third last : List RowItem)
      → IsExchanged (optional_item_spot claim old) item items second → IsRenewed left second third → AreItemsInOrder third → IsRenewed None third last
      → (come : Option RowItem) × IsCoverBefore claim after old new come × IsRenewed come third last
  front_stays item left left_is second third last one two order three =
      let (x, x_is, front, present) = in_front_already in
      let in_second : Contains second x = one.kept x present (subst (λ (o : Option Op). IsAway (optional_item_spot claim o) x) (sym comes.none) tt) in
      let in_third : Contains third x = elim (at_or_away left x) [
        | inr away ↦ two.kept x in_second away
        | inl at ↦
            let (y, y_at, t) = at in
            let e : spot_of_item x ≡ spot_of_item y = same_is (spot_of_item x) (spot_of_item y) t in
            let equal : x ≡ y = items_told claim after after_apart x y x_is (left_is.is y y_at) e in
            subst (Contains third) (sym equal) (two.put y x y_at in_second t)
      ] in (
        Some x,
        record {
          is = λ y e. subst (IsOperationItem claim after) (same_in x y e) x_is;
          there = λ o e write rows. inl (x, refl, let is = comes.is in let same : op ≡ o = cc in subst (λ (p : Op). IsInFront claim after p.begin.0 x) same front);
        },
        is_renewed_itself x third last order in_third three,
      )
