-- The first uncovered read is the first wrong one; and a list without the operation of an id.
use Rattle.std.proofs.Common.{◌≡◌, ◌↔◌, ◌≢◌, ◌⊎◌, inl, inr, suc, Bool, true, false, not, ◌&&◌, ◌≤◌, List, [], ◌∷◌, Option, Some, None, refl, sym, ap, ◌∙◌, subst, filter, arith}
use Rattle.std.specs.Prelude.{Contains, IsTrue, IsSomeAnd, option_map}
use Rattle.std.proofs.lemmas.List.Elements.{All-contains}
use Rattle.std.proofs.lemmas.Bool.{and_parts, and_right, both_ways, cases_Bool, not-true, not_from_false, false_from_ne_true}
use Rattle.intervals.specs.declared.operation.Op.{Op}
use Rattle.intervals.specs.declared.operation.OpId.{OpId}
use Rattle.intervals.specs.declared.claim.Kind.{Kind}
use Rattle.intervals.specs.declared.claim.Kind.TheVariants.{Safe, Regular, Atomic}
use Rattle.intervals.specs.Edit.{op_of}
use Rattle.intervals.specs.Judging.{is_wrong_read, end_number, first_wrong}
use Rattle.intervals.specs.Kind.{IsSafe, IsRegular, Keeps, Holds}
use Rattle.intervals.specs.Operation.{IsJudgedRead, is_judged_read, same_id}
use Rattle.intervals.specs.Standing.{HasDistinctIds}
use Rattle.intervals.specs.Terms.{ClaimModel, state_of}
use Rattle.intervals.proofs.Ids.{found_by_id}
use Rattle.intervals.specs.declared.ordered_index.Spot.{Spot}
use Rattle.read_tree.specs.declared.item.RowItem.{RowItem}
use Rattle.read_tree.specs.Items.{IsCoverAt, cover_of, first_uncovered, is_uncovered, is_some_uncovered, spot_of_item}
use Rattle.safe_regular.specs.Held.{IsWithinMoments, AreOneWriters}
use Rattle.safe_regular.specs.RowItems.{AreItemsOf, read_item}
use Rattle.safe_regular.proofs.Covered.{covered}
use Rattle.safe_regular.proofs.Edited.{all_low, one_at}
use Rattle.safe_regular.proofs.First.{first_wrong_is}
use Rattle.safe_regular.proofs.Members.{distinct_ends}

-- what the laws of the tree say of uncovered reads
pub record AreToldOf (items : List RowItem) : Type 0 where
  pub none : is_some_uncovered None items ≡ false → (r : RowItem) (c : Option RowItem) → Contains items r → r.covers ≡ false → IsCoverAt items (spot_of_item r) c → is_uncovered (option_map cover_of c) r ≡ false
  pub found : (r : RowItem) → first_uncovered None items ≡ Some r → Contains items r × (r.covers ≡ false)
      × ((c : Option RowItem) → IsCoverAt items (spot_of_item r) c → is_uncovered (option_map cover_of c) r ≡ true)
      × ((other : RowItem) (c : Option RowItem) → Contains items other → other.covers ≡ false → IsCoverAt items (spot_of_item other) c
      → is_uncovered (option_map cover_of c) other ≡ true → r.moment.0 ≤ other.moment.0)
  pub some : (is_some_uncovered None items ≡ false) ↔ (first_uncovered None items ≡ None)
  pub cover : (spot : Spot) → (c : Option RowItem) × IsCoverAt items spot c

module _ (claim : ClaimModel) (ops : List Op) (apart : AreOneWriters claim ops) (items : List RowItem) (are : AreItemsOf claim ops items) (told : AreToldOf items) where
  judged_of : (r : Op) → IsTrue (is_wrong_read claim ops r) → IsJudgedRead r
  judged_of r wrong = (and_parts (is_judged_read r) _ wrong).0

  -- a read has a last cover before it, and is uncovered by that exactly where it is wrong
  at_cover : (r : Op) → Contains ops r → IsJudgedRead r → (c : Option RowItem) × IsCoverAt items (spot_of_item (read_item claim r)) c × (is_uncovered (option_map cover_of c) (read_item claim r) ≡ is_wrong_read claim ops r)
  at_cover r present judged = let (c, c_is) = told.cover (spot_of_item (read_item claim r)) in (c, c_is, covered claim ops apart items are r present judged c c_is)

  item_present : (r : Op) → Contains ops r → IsJudgedRead r → Contains items (read_item claim r)
  item_present r present judged = are.each (read_item claim r) (inl (record { read = r; present = present; judged = judged; is = refl }))

  none_wrong : is_some_uncovered None items ≡ false → (r : Op) → Contains ops r → ¬ IsTrue (is_wrong_read claim ops r)
  none_wrong none r present wrong =
      let judged = judged_of r wrong in
      let (c, c_is, e) = at_cover r present judged in
      both_ways (is_wrong_read claim ops r) (sym e ∙ told.none none (read_item claim r) c (item_present r present judged) refl c_is) wrong

  pub none_named : is_some_uncovered None items ≡ false → first_wrong claim ops ≡ None
  none_named none = first_wrong_is claim ops (distinct_ends ops apart.kept.moments) None (none_wrong none)

  -- a read in the tree is one of the operations
  which_read : (x : RowItem) → Contains items x → x.covers ≡ false → (r : Op) × Contains ops r × IsJudgedRead r × (x ≡ read_item claim r)
  which_read x present reads = elim (are.only x present) [
    | inl is ↦ (is.read, is.present, is.judged, is.is)
    | inr cover ↦ elim cover [
      | inl is ↦ absurd (let e : x.covers ≡ true = ap (λ (y : RowItem). y.covers) is.is in cc)
      | inr is ↦ absurd (let e : x.covers ≡ true = ap (λ (y : RowItem). y.covers) is.is in cc)
    ]
  ]

  earlier_end : (a b : Op) → Contains ops a → Contains ops b → (read_item claim a).moment.0 ≤ (read_item claim b).moment.0 → end_number a ≤ end_number b
  earlier_end a b sa sb le =
      let low_a = (All-contains IsWithinMoments ops a (all_low claim ops apart) sa).end in
      let low_b = (All-contains IsWithinMoments ops b (all_low claim ops apart) sb).end in
      omega (arith, le, low_a, low_b)

  one_named : (x : RowItem) → first_uncovered None items ≡ Some x → (r : Op) × (op_of ops x.id ≡ Some r) × (first_wrong claim ops ≡ Some r)
  one_named x found =
      let (present, reads, short, first) = told.found x found in
      let (r, h, j, is) = which_read x present reads in
      let (c, c_is, e) = at_cover r h j in
      let at : spot_of_item (read_item claim r) ≡ spot_of_item x = ap spot_of_item (sym is) in (
        r,
        ap (λ (y : RowItem). op_of ops y.id) is ∙ found_by_id ops r apart.kept.ids h,
        first_wrong_is claim ops (distinct_ends ops apart.kept.moments) (Some r) (record {
          present = h;
          wrong = sym e ∙ ap (is_uncovered (option_map cover_of c)) (sym is) ∙ short c (subst (λ (s : Spot). IsCoverAt items s c) at c_is);
          first = λ other k wrong.
              let judged = judged_of other wrong in
              let (d, d_is, f) = at_cover other k judged in
              let le = first (read_item claim other) d (item_present other k judged) refl d_is (f ∙ wrong) in
              earlier_end r other h k (subst (λ (y : RowItem). y.moment.0 ≤ (read_item claim other).moment.0) is le);
        }),
      )

  pub named : (x : RowItem) → first_uncovered None items ≡ Some x → op_of ops x.id ≡ first_wrong claim ops
  named x found = let (r, f, g) = one_named x found in f ∙ sym g

  none_found : first_wrong claim ops ≡ None → first_uncovered None items ≡ None
  none_found none = by_cases (first_uncovered None items) refl
    where
      by_cases : (o : Option RowItem) → first_uncovered None items ≡ o → first_uncovered None items ≡ None
      by_cases None e = e
      by_cases (Some x) e = absurd (let (r, f, g) = one_named x e in cc)

  -- no read is uncovered exactly where none is wrong
  pub none_where_none : (some : Bool) → some ≡ is_some_uncovered None items → IsTrue (not some) ↔ (first_wrong claim ops ≡ None)
  none_where_none some is = (λ t. none_named (sym is ∙ not-true some t), λ none. not_from_false some (is ∙ told.some.1 (none_found none)))

-- no read is wrong exactly where the register keeps what it claims
module _ (claim : ClaimModel) (ops : List Op) (one_writer : claim.kind ≢ Atomic) where
  by_kind : (kind : Kind) → claim.kind ≡ kind → kind ≢ Atomic
      → (claim.kind ≡ Safe → (first_wrong claim ops ≡ None) ↔ IsSafe claim ops) → (claim.kind ≡ Regular → (first_wrong claim ops ≡ None) ↔ IsRegular claim ops)
      → (first_wrong claim ops ≡ None) ↔ Keeps kind claim ops
  by_kind Safe e one safe regular = safe e
  by_kind Regular e one safe regular = regular e
  by_kind Atomic e one safe regular = absurd (one refl)

  pub holds_where_none : (claim.kind ≡ Safe → (first_wrong claim ops ≡ None) ↔ IsSafe claim ops) → (claim.kind ≡ Regular → (first_wrong claim ops ≡ None) ↔ IsRegular claim ops)
      → (none : Bool) → IsTrue none ↔ (first_wrong claim ops ≡ None) → IsTrue none ↔ Holds (state_of claim ops)
  holds_where_none safe regular none is =
      let kind = by_kind claim.kind refl one_writer safe regular in (λ t. kind.0 (is.0 t), λ holds. is.1 (kind.1 holds))

-- filters that agree on the operations of a list leave the same ones
filter_alike : (p q : Op → Bool) (ops : List Op) → ((x : Op) → Contains ops x → p x ≡ q x) → filter p ops ≡ filter q ops
filter_alike p q [] alike = refl
filter_alike p q (a ∷ ops) alike =
    let rest = filter_alike p q ops (λ x h. alike x (suc h.0, omega (arith, h.1), h.2)) in
    rw (alike a (0, omega arith, refl), rest) refl

filter_all : (p : Op → Bool) (ops : List Op) → ((x : Op) → Contains ops x → p x ≡ true) → filter p ops ≡ ops
filter_all p [] all = refl
filter_all p (a ∷ ops) all =
    let rest = filter_all p ops (λ x h. all x (suc h.0, omega (arith, h.1), h.2)) in
    rw (all a (0, omega arith, refl), rest) refl

-- a list without the operation of an id and kind: that one goes alone, or nothing does
module _ (kind : Op → Bool) (ops : List Op) (d : HasDistinctIds ops) (id : OpId) where
  pub one_dropped : IsSomeAnd (op_of ops id) (λ op. IsTrue (kind op)) → filter (λ op. not (kind op && same_id op.id id)) ops ≡ filter (λ op. not (same_id op.id id)) ops
  one_dropped some = filter_alike _ _ ops (λ x h. by_id x h (cases_Bool (same_id x.id id)))
    where
      by_id : (x : Op) → Contains ops x → (same_id x.id id ≡ true) ⊎ (same_id x.id id ≡ false) → not (kind x && same_id x.id id) ≡ not (same_id x.id id)
      by_id x h (inl t) = let k : kind x ≡ true = subst (λ (o : Option Op). IsSomeAnd o (λ op. IsTrue (kind op))) (one_at ops d id x h t) some in rw k refl
      by_id x h (inr f) = ap not (and_right (kind x) (same_id x.id id) f ∙ sym f)

  pub none_dropped : ¬ IsSomeAnd (op_of ops id) (λ op. IsTrue (kind op)) → filter (λ op. not (kind op && same_id op.id id)) ops ≡ ops
  none_dropped none = filter_all _ ops (λ x h. by_id x h (cases_Bool (same_id x.id id)))
    where
      by_id : (x : Op) → Contains ops x → (same_id x.id id ≡ true) ⊎ (same_id x.id id ≡ false) → not (kind x && same_id x.id id) ≡ true
      by_id x h (inl t) = let k : kind x ≡ false = false_from_ne_true (kind x) (λ is. none (subst (λ (o : Option Op). IsSomeAnd o (λ op. IsTrue (kind op))) (sym (one_at ops d id x h t)) is)) in rw k refl
      by_id x h (inr f) = ap not (and_right (kind x) (same_id x.id id) f)
