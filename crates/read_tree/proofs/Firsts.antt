-- The uncovered read that ended first, of items around one more.
use Rattle.std.proofs.Common.{◌≡◌, ℕ, ◌≤◌, min, Bool, true, false, ◌||◌, cond, nat_lt, List, [], ◌∷◌, ◌++◌, Option, Some, None, refl, sym, ap, ◌∙◌, arith}
use Rattle.std.proofs.lemmas.Bool.{le-ltb}
use Rattle.std.proofs.lemmas.Bool.Decides.{nat_tests}
use Rattle.read_tree.specs.declared.item.RowItem.{RowItem}
use Rattle.read_tree.specs.declared.item.Cover.{Cover}
use Rattle.read_tree.specs.declared.summary.ReadSummary.{ReadSummary}
use Rattle.summary_tree.specs.declared.node.Node.{Node}
use Rattle.summary_tree.specs.Node.{IsTop}
use Rattle.read_tree.specs.Items.{cover_of, is_uncovered, is_some_uncovered, earlier_read, first_uncovered}
use Rattle.read_tree.specs.Summary.{cover_after, least_moment, IsSummaryOf}

pub earlier_of_none : (a : Option RowItem) → earlier_read a None ≡ a
earlier_of_none None = refl
earlier_of_none (Some x) = refl

-- the earlier of three reads, in either grouping
abbrev sooner : Bool → RowItem → RowItem → Option RowItem
sooner t a b = cond t (Some b) (Some a)

of_three : (a b c : RowItem) (s t u : Bool) → nat_lt b.moment.0 a.moment.0 ≡ s → nat_lt c.moment.0 b.moment.0 ≡ t → nat_lt c.moment.0 a.moment.0 ≡ u
    → earlier_read (sooner s a b) (Some c) ≡ earlier_read (Some a) (sooner t b c)
of_three a b c true true u p q r = rw (q, chain) refl
  where
    chain : nat_lt c.moment.0 a.moment.0 ≡ true
    chain = grind (arith, nat_tests)
of_three a b c true false u p q r = rw (q, p) refl
of_three a b c false true u p q r = refl
of_three a b c false false u p q r = rw (p, chain) refl
  where
    chain : nat_lt c.moment.0 a.moment.0 ≡ false
    chain = grind (arith, nat_tests)

earlier_assoc : (a b c : Option RowItem) → earlier_read (earlier_read a b) c ≡ earlier_read a (earlier_read b c)
earlier_assoc None b c = refl
earlier_assoc (Some a) None c = refl
earlier_assoc (Some a) (Some b) None = earlier_of_none (earlier_read (Some a) (Some b))
earlier_assoc (Some a) (Some b) (Some c) = of_three a b c (nat_lt b.moment.0 a.moment.0) (nat_lt c.moment.0 b.moment.0) (nat_lt c.moment.0 a.moment.0) refl refl refl

abbrev pub short_one : Option Cover → RowItem → Option RowItem
short_one c x = cond (is_uncovered c x) (Some x) None

first_at : (t : Bool) (x : RowItem) (c : Option Cover) (xs ys : List RowItem)
    → first_uncovered (cond t (Some (cover_of x)) c) (xs ++ ys) ≡ earlier_read (first_uncovered (cond t (Some (cover_of x)) c) xs) (first_uncovered (cover_after (cond t (Some (cover_of x)) c) xs) ys)
    → cond t (first_uncovered (Some (cover_of x)) (xs ++ ys)) (earlier_read (short_one c x) (first_uncovered c (xs ++ ys)))
    ≡ earlier_read (cond t (first_uncovered (Some (cover_of x)) xs) (earlier_read (short_one c x) (first_uncovered c xs))) (first_uncovered (cover_after (cond t (Some (cover_of x)) c) xs) ys)
first_at true x c xs ys rest = rest
first_at false x c xs ys rest = ap (earlier_read (short_one c x)) rest ∙ sym (earlier_assoc (short_one c x) (first_uncovered c xs) (first_uncovered (cover_after c xs) ys))

first_append : (c : Option Cover) (xs ys : List RowItem) → first_uncovered c (xs ++ ys) ≡ earlier_read (first_uncovered c xs) (first_uncovered (cover_after c xs) ys)
first_append c [] ys = refl
first_append c (x ∷ xs) ys = first_at x.covers x c xs ys (first_append (cond x.covers (Some (cover_of x)) c) xs ys)

-- where no read is uncovered there is no first one
none_at : (t s : Bool) (x : RowItem) (c : Option Cover) (items : List RowItem) → is_uncovered c x ≡ s
    → (is_some_uncovered (cond t (Some (cover_of x)) c) items ≡ false → first_uncovered (cond t (Some (cover_of x)) c) items ≡ None)
    → cond t (is_some_uncovered (Some (cover_of x)) items) (s || is_some_uncovered c items) ≡ false
    → cond t (first_uncovered (Some (cover_of x)) items) (earlier_read (cond s (Some x) None) (first_uncovered c items)) ≡ None
none_at true s x c items is rest h = rest h
none_at false true x c items is rest h = absurd (cc)
none_at false false x c items is rest h = rest h

pub none_first : (c : Option Cover) (items : List RowItem) → is_some_uncovered c items ≡ false → first_uncovered c items ≡ None
none_first c [] h = refl
none_first c (x ∷ items) h = none_at x.covers (is_uncovered c x) x c items refl (none_first (cond x.covers (Some (cover_of x)) c) items) h

some_is_there : (x : RowItem) (o : Option RowItem) → ¬ (earlier_read (Some x) o ≡ None)
some_is_there x None h = cc
some_is_there x (Some y) h = by_test (nat_lt y.moment.0 x.moment.0) h
  where
    by_test : (t : Bool) → ¬ (cond t (Some y) (Some x) ≡ None)
    by_test true h = cc
    by_test false h = cc

some_at : (t s : Bool) (x : RowItem) (c : Option Cover) (items : List RowItem)
    → (first_uncovered (cond t (Some (cover_of x)) c) items ≡ None → is_some_uncovered (cond t (Some (cover_of x)) c) items ≡ false)
    → cond t (first_uncovered (Some (cover_of x)) items) (earlier_read (cond s (Some x) None) (first_uncovered c items)) ≡ None
    → cond t (is_some_uncovered (Some (cover_of x)) items) (s || is_some_uncovered c items) ≡ false
some_at true s x c items rest h = rest h
some_at false true x c items rest h = absurd (some_is_there x (first_uncovered c items) h)
some_at false false x c items rest h = rest h

pub none_short : (c : Option Cover) (items : List RowItem) → first_uncovered c items ≡ None → is_some_uncovered c items ≡ false
none_short c [] h = refl
none_short c (x ∷ items) h = some_at x.covers (is_uncovered c x) x c items (none_short (cond x.covers (Some (cover_of x)) c) items) h

pub nothing_short : (c : Option Cover) (found : Option RowItem) (items : List RowItem) → is_some_uncovered c items ≡ false → earlier_read found (first_uncovered c items) ≡ found
nothing_short c found items h = ap (earlier_read found) (none_first c items h) ∙ earlier_of_none found

-- an optional read is no earlier than that number
abbrev IsFrom : ℕ → Option RowItem → Type 0
IsFrom n None = Unit {0}
IsFrom n (Some x) = n ≤ x.moment.0

from_either : (n : ℕ) (a b : Option RowItem) → IsFrom n a → IsFrom n b → IsFrom n (earlier_read a b)
from_either n None b p q = q
from_either n (Some a) None p q = p
from_either n (Some a) (Some b) p q = elim (nat_lt b.moment.0 a.moment.0) as (λ t. IsFrom n (cond t (Some b) (Some a))) [ true ↦ q | false ↦ p ]

from_less : (m n : ℕ) (a : Option RowItem) → m ≤ n → IsFrom n a → IsFrom m a
from_less m n None h p = tt
from_less m n (Some a) h p = omega (arith, h, p)

from_one : (s : Bool) (x : RowItem) (n : ℕ) → n ≤ x.moment.0 → IsFrom n (cond s (Some x) None)
from_one true x n h = h
from_one false x n h = tt

from_at : (t : Bool) (x : RowItem) (c : Option Cover) (items : List RowItem) (n : ℕ) → n ≤ x.moment.0 → IsFrom n (first_uncovered (cond t (Some (cover_of x)) c) items)
    → IsFrom n (cond t (first_uncovered (Some (cover_of x)) items) (earlier_read (short_one c x) (first_uncovered c items)))
from_at true x c items n h rest = rest
from_at false x c items n h rest = from_either n (short_one c x) (first_uncovered c items) (from_one (is_uncovered c x) x n h) rest

from_least : (c : Option Cover) (items : List RowItem) → IsFrom (least_moment items) (first_uncovered c items)
unfolding least_moment
from_least c [] = tt
from_least c (x ∷ items) =
    let inner = cond x.covers (Some (cover_of x)) c in
    from_at x.covers x c items (min x.moment.0 (least_moment items)) (omega arith)
    (from_less (min x.moment.0 (least_moment items)) (least_moment items) (first_uncovered inner items) (omega arith) (from_least inner items))

stays : (f : RowItem) (n : ℕ) (o : Option RowItem) → f.moment.0 ≤ n → IsFrom n o → earlier_read (Some f) o ≡ Some f
stays f n None h p = refl
stays f n (Some x) h p = rw (le-ltb x.moment.0 f.moment.0 (omega (arith, h, p))) refl

pub nothing_earlier : (c : Option Cover) (f : RowItem) (items : List RowItem) → f.moment.0 ≤ least_moment items → earlier_read (Some f) (first_uncovered c items) ≡ Some f
nothing_earlier c f items h = stays f (least_moment items) (first_uncovered c items) h (from_least c items)

-- the items around the node at the top
module _ {n : Node RowItem ReadSummary} {items : List RowItem} (top : IsTop IsSummaryOf n items) (c : Option Cover) (found : Option RowItem) where
  on_left : earlier_read found (first_uncovered c items) ≡ earlier_read (earlier_read found (first_uncovered c n.left.items)) (first_uncovered (cover_after c n.left.items) (n.item ∷ n.right.items))
  on_left = ap (λ xs. earlier_read found (first_uncovered c xs)) top.all ∙ ap (earlier_read found) (first_append c n.left.items (n.item ∷ n.right.items))
      ∙ sym (earlier_assoc found (first_uncovered c n.left.items) (first_uncovered (cover_after c n.left.items) (n.item ∷ n.right.items)))

  at_top : (t : Bool) → n.item.covers ≡ t → first_uncovered (cover_after c n.left.items) (n.item ∷ n.right.items)
      ≡ cond t (first_uncovered (Some (cover_of n.item)) n.right.items) (earlier_read (short_one (cover_after c n.left.items) n.item) (first_uncovered (cover_after c n.left.items) n.right.items))
  at_top t is = ap (λ u. cond u (first_uncovered (Some (cover_of n.item)) n.right.items) (earlier_read (short_one (cover_after c n.left.items) n.item) (first_uncovered (cover_after c n.left.items) n.right.items))) is

  pub around_cover : n.item.covers ≡ true → earlier_read found (first_uncovered c items) ≡ earlier_read (earlier_read found (first_uncovered c n.left.items)) (first_uncovered (Some (cover_of n.item)) n.right.items)
  around_cover is = on_left ∙ ap (earlier_read (earlier_read found (first_uncovered c n.left.items))) (at_top true is)

  pub around_read : n.item.covers ≡ false → earlier_read found (first_uncovered c items)
      ≡ earlier_read (earlier_read (earlier_read found (first_uncovered c n.left.items)) (short_one (cover_after c n.left.items) n.item)) (first_uncovered (cover_after c n.left.items) n.right.items)
  around_read is = on_left ∙ ap (earlier_read (earlier_read found (first_uncovered c n.left.items))) (at_top false is)
      ∙ sym (earlier_assoc (earlier_read found (first_uncovered c n.left.items)) (short_one (cover_after c n.left.items) n.item) (first_uncovered (cover_after c n.left.items) n.right.items))
