-- The summary of two lists, one after the other, is made of their summaries.
use Rattle.std.proofs.Common.{◌≡◌, ℕ, ◌-◌, ◌^◌, ◌≤◌, max, min, Bool, true, false, ◌||◌, cond, nat_lt, nat_le, List, [], ◌∷◌, ◌++◌, Option, Some, None, refl, sym, ap, ◌∙◌, arith}
use Rattle.std.specs.Option.{option_or}
use Rattle.std.proofs.lemmas.Bool.{leb-true, leb-false}
use Rattle.std.proofs.lemmas.Bool.Decides.{nat_tests}
use Rattle.intervals.specs.declared.operation.Value.{Value}
use Rattle.intervals.specs.Operation.{same_value}
use Rattle.intervals.proofs.Agreement.{Decides-same_value}
use Rattle.read_tree.specs.declared.item.RowItem.{RowItem}
use Rattle.read_tree.specs.declared.item.Cover.{Cover}
use Rattle.read_tree.specs.declared.summary.Prefix.{Prefix}
use Rattle.read_tree.specs.declared.summary.ReadSummary.{ReadSummary}
use Rattle.read_tree.specs.Items.{cover_of, is_uncovered, is_some_uncovered}
use Rattle.read_tree.specs.Summary.{cover_after, least_moment, no_prefix, is_prefix_uncovered, with_others, merged, no_summary, summary_of_item, prefix_of, meets_uncovered, join_reads, IsSummaryOf}

-- the tests whether a prefix or a read is uncovered, by numbers alone; `same`: the value is the cover's; `by_value`:
-- the cover is by value
abbrev front_test : Bool → Bool → ℕ → ℕ → ℕ → Bool
front_test same by_value reach far other =
    cond same (cond by_value (nat_lt reach far || nat_lt 0 other) (nat_lt reach other)) (nat_lt (cond by_value 0 reach) far)

abbrev read_test : Bool → Bool → ℕ → ℕ → Bool
read_test same by_value reach far = cond same (cond by_value (nat_lt reach far) false) (nat_lt (cond by_value 0 reach) far)

none_below : (r : ℕ) → nat_lt r 0 ≡ false
none_below r = grind (arith, nat_tests)

nothing_short : (s k : Bool) (r : ℕ) → front_test s k r 0 0 ≡ false
nothing_short true true r = rw (none_below r) refl
nothing_short true false r = none_below r
nothing_short false true r = refl
nothing_short false false r = none_below r

pub no_front_short : (c : Option Cover) → is_prefix_uncovered c no_prefix ≡ false
unfolding is_prefix_uncovered
no_front_short None = refl
no_front_short (Some c) = nothing_short (same_value no_prefix.value c.value) c.by_value c.reach

or_false : (b : Bool) → (b || false) ≡ b
or_false true = refl
or_false false = refl

one_read : (s k : Bool) (r far : ℕ) → read_test s k r far ≡ front_test s k r far 0
one_read true true r far = sym (or_false (nat_lt r far))
one_read true false r far = sym (none_below r)
one_read false k r far = refl

abbrev front_of_read : RowItem → Prefix
front_of_read x = record { value = x.value; far = x.reach; other = 0 }

read_short : (c : Option Cover) (x : RowItem) → is_uncovered c x ≡ is_prefix_uncovered c (front_of_read x)
unfolding is_prefix_uncovered
read_short None x = refl
read_short (Some c) x = one_read (same_value x.value c.value) c.by_value c.reach x.reach

-- two prefixes as one: that of the greater reach, with the reads of other values
module _ (r af ao bf bo : ℕ) (va : ao ≤ af) (vb : bo ≤ bf) (less : bf ≤ af) where
  of_that_value : (s k : Bool) → front_test true k r af (max ao (cond s bo bf)) ≡ (front_test true k r af ao || front_test s k r bf bo)
  of_that_value true true = grind (arith, nat_tests)
  of_that_value true false = grind (arith, nat_tests)
  of_that_value false true = grind (arith, nat_tests)
  of_that_value false false = grind (arith, nat_tests)

  of_another : (s k : Bool) (other : ℕ) → front_test false k r af other ≡ (front_test false k r af ao || front_test s k r bf bo)
  of_another true true other = grind (arith, nat_tests)
  of_another true false other = grind (arith, nat_tests)
  of_another false true other = grind (arith, nat_tests)
  of_another false false other = grind (arith, nat_tests)

  either_test : (s t e k : Bool) → (s ≡ true → e ≡ t) → front_test s k r af (max ao (cond e bo bf)) ≡ (front_test s k r af ao || front_test t k r bf bo)
  either_test true t e k so = ap (λ u. front_test true k r af (max ao (cond u bo bf))) (so refl) ∙ of_that_value t k
  either_test false t e k so = of_another t k (max ao (cond e bo bf))

farther : (a b : ℕ) → b ≤ a → nat_lt 0 a ≡ (nat_lt 0 a || nat_lt 0 b)
farther a b less = grind (arith, nat_tests)

same_as : (a b c : Value) → same_value a c ≡ true → same_value b a ≡ same_value b c
same_as a b c h = ap (λ v. same_value b v) ((Decides-same_value a c).0 h)

others_short : (c : Option Cover) (a b : Prefix) → a.other ≤ a.far → b.other ≤ b.far → b.far ≤ a.far → is_prefix_uncovered c (with_others a b) ≡ (is_prefix_uncovered c a || is_prefix_uncovered c b)
unfolding is_prefix_uncovered
others_short None a b va vb less = farther a.far b.far less
others_short (Some c) a b va vb less =
    either_test c.reach a.far a.other b.far b.other va vb less
    (same_value a.value c.value) (same_value b.value c.value) (same_value b.value a.value) c.by_value
    (same_as a.value b.value c.value)

or_swap : (a b : Bool) → (a || b) ≡ (b || a)
or_swap true true = refl
or_swap true false = refl
or_swap false true = refl
or_swap false false = refl

merged_by : (t : Bool) (c : Option Cover) (a b : Prefix) → nat_le b.far a.far ≡ t → a.other ≤ a.far → b.other ≤ b.far
    → is_prefix_uncovered c (cond t (with_others a b) (with_others b a)) ≡ (is_prefix_uncovered c a || is_prefix_uncovered c b)
merged_by true c a b is va vb = others_short c a b va vb (leb-true b.far a.far is)
merged_by false c a b is va vb =
    let less = leb-false b.far a.far is in
    others_short c b a vb va (omega (arith, less)) ∙ or_swap (is_prefix_uncovered c b) (is_prefix_uncovered c a)

merged_short : (c : Option Cover) (a b : Prefix) → a.other ≤ a.far → b.other ≤ b.far → is_prefix_uncovered c (merged a b) ≡ (is_prefix_uncovered c a || is_prefix_uncovered c b)
merged_short c a b = merged_by (nat_le b.far a.far) c a b refl

valid_others : (e : Bool) (af ao bf bo : ℕ) → ao ≤ af → bo ≤ bf → bf ≤ af → max ao (cond e bo bf) ≤ af
valid_others true af ao bf bo va vb less = omega (arith, va, vb, less)
valid_others false af ao bf bo va vb less = omega (arith, va, vb, less)

valid_by : (t : Bool) (a b : Prefix) → nat_le b.far a.far ≡ t → a.other ≤ a.far → b.other ≤ b.far
    → (cond t (with_others a b) (with_others b a)).other ≤ (cond t (with_others a b) (with_others b a)).far
valid_by true a b is va vb = valid_others (same_value b.value a.value) a.far a.other b.far b.other va vb (leb-true b.far a.far is)
valid_by false a b is va vb =
    let less = leb-false b.far a.far is in
    valid_others (same_value a.value b.value) b.far b.other a.far a.other vb va (omega (arith, less))

-- whether a list after a cover has an uncovered read, where another list comes after it
or_assoc : (a b c : Bool) → (a || (b || c)) ≡ ((a || b) || c)
or_assoc true b c = refl
or_assoc false b c = refl

short_at : (t : Bool) (x : RowItem) (c : Option Cover) (xs ys : List RowItem)
    → is_some_uncovered (cond t (Some (cover_of x)) c) (xs ++ ys) ≡ (is_some_uncovered (cond t (Some (cover_of x)) c) xs || is_some_uncovered (cover_after (cond t (Some (cover_of x)) c) xs) ys)
    → cond t (is_some_uncovered (Some (cover_of x)) (xs ++ ys)) (is_uncovered c x || is_some_uncovered c (xs ++ ys))
    ≡ (cond t (is_some_uncovered (Some (cover_of x)) xs) (is_uncovered c x || is_some_uncovered c xs) || is_some_uncovered (cover_after (cond t (Some (cover_of x)) c) xs) ys)
short_at true x c xs ys rest = rest
short_at false x c xs ys rest = ap (λ b. is_uncovered c x || b) rest ∙ or_assoc (is_uncovered c x) (is_some_uncovered c xs) (is_some_uncovered (cover_after c xs) ys)

pub short_append : (c : Option Cover) (xs ys : List RowItem) → is_some_uncovered c (xs ++ ys) ≡ (is_some_uncovered c xs || is_some_uncovered (cover_after c xs) ys)
short_append c [] ys = refl
short_append c (x ∷ xs) ys = short_at x.covers x c xs ys (short_append (cond x.covers (Some (cover_of x)) c) xs ys)

pub after_append : (c : Option Cover) (xs ys : List RowItem) → cover_after c (xs ++ ys) ≡ cover_after (cover_after c xs) ys
after_append c [] ys = refl
after_append c (x ∷ xs) ys = after_append (cond x.covers (Some (cover_of x)) c) xs ys

least_is_small : (items : List RowItem) → least_moment items ≤ 2 ^ 64 - 1
unfolding least_moment
least_is_small [] = omega arith
least_is_small (m ∷ items) = let rest = least_is_small items in omega arith

least_append : (xs ys : List RowItem) → least_moment (xs ++ ys) ≡ min (least_moment xs) (least_moment ys)
unfolding least_moment
least_append [] ys = let small = least_is_small ys in omega arith
least_append (x ∷ xs) ys = let rest = least_append xs ys in omega arith

or_after : (o p c : Option Cover) → option_or o (option_or p c) ≡ option_or (option_or o p) c
or_after None p c = refl
or_after (Some d) p c = refl

with_none : (p q x y : Bool) → ((p || x) || (q || y)) ≡ ((p || q) || ((x || y) || false))
with_none true q x y = refl
with_none false true true y = refl
with_none false true false y = refl
with_none false false true y = refl
with_none false false false y = sym (or_false y)

with_some : (p d x y : Bool) → ((p || x) || (d || y)) ≡ (p || ((x || y) || d))
with_some true d x y = refl
with_some false d true y = refl
with_some false d false y = or_swap d y

seam : (o c : Option Cover) (p q : Prefix) (x y : Bool) → p.other ≤ p.far → q.other ≤ q.far
    → ((is_prefix_uncovered c p || x) || (is_prefix_uncovered (option_or o c) q || y)) ≡ (is_prefix_uncovered c (prefix_of o p q) || ((x || y) || meets_uncovered o q))
seam None c p q x y vp vq =
    with_none (is_prefix_uncovered c p) (is_prefix_uncovered c q) x y
    ∙ ap (λ b. b || ((x || y) || false)) (sym (merged_short c p q vp vq))
seam (Some d) c p q x y vp vq = with_some (is_prefix_uncovered c p) (is_prefix_uncovered (Some d) q) x y

valid_front : (o : Option Cover) (p q : Prefix) → p.other ≤ p.far → q.other ≤ q.far → (prefix_of o p q).other ≤ (prefix_of o p q).far
valid_front None p q vp vq = valid_by (nat_le q.far p.far) p q refl vp vq
valid_front (Some d) p q vp vq = vp

pub joined_summary : (s t : ReadSummary) (xs ys : List RowItem) → IsSummaryOf s xs → IsSummaryOf t ys → IsSummaryOf (join_reads s t) (xs ++ ys)
unfolding join_reads
joined_summary s t xs ys a b = record {
  covers = λ c.
      short_append c xs ys
      ∙ ap (λ u. u || is_some_uncovered (cover_after c xs) ys) (a.covers c)
      ∙ ap (λ d. (is_prefix_uncovered c s.prefix || s.uncovered) || is_some_uncovered d ys) (a.last c)
      ∙ ap (λ u. (is_prefix_uncovered c s.prefix || s.uncovered) || u) (b.covers (option_or s.last c))
      ∙ seam s.last c s.prefix t.prefix s.uncovered t.uncovered a.valid b.valid;
  last = λ c. after_append c xs ys ∙ ap (λ d. cover_after d ys) (a.last c) ∙ b.last (option_or s.last c) ∙ or_after t.last s.last c;
  valid = valid_front s.last s.prefix t.prefix a.valid b.valid;
  least = ap (λ n. min n t.least) a.least ∙ ap (λ n. min (least_moment xs) n) b.least ∙ sym (least_append xs ys);
}

pub summary_of_none : IsSummaryOf no_summary []
unfolding least_moment
summary_of_none = record {
  covers = λ c. sym (ap (λ b. b || false) (no_front_short c));
  last = λ c. refl;
  valid = omega arith;
  least = refl;
}

-- the summary of one item, where t says whether it is a cover
abbrev summary_by : Bool → RowItem → ReadSummary
summary_by t x = cond t
    (record { prefix = no_prefix; last = Some (cover_of x); uncovered = false; least = least_moment (x ∷ []) })
    (record { prefix = front_of_read x; last = None; uncovered = false; least = least_moment (x ∷ []) })

covers_by : (t : Bool) (x : RowItem) (c : Option Cover) → cond t false (is_uncovered c x || false) ≡ (is_prefix_uncovered c (summary_by t x).prefix || (summary_by t x).uncovered)
covers_by true x c = sym (ap (λ b. b || false) (no_front_short c))
covers_by false x c = ap (λ b. b || false) (read_short c x)

last_by : (t : Bool) (x : RowItem) (c : Option Cover) → cond t (Some (cover_of x)) c ≡ option_or (summary_by t x).last c
last_by true x c = refl
last_by false x c = refl

valid_one : (t : Bool) (x : RowItem) → (summary_by t x).prefix.other ≤ (summary_by t x).prefix.far
valid_one true x = omega arith
valid_one false x = omega arith

least_by : (t : Bool) (x : RowItem) → (summary_by t x).least ≡ least_moment (x ∷ [])
least_by true x = refl
least_by false x = refl

pub summary_of_one : (x : RowItem) → IsSummaryOf (summary_of_item x) (x ∷ [])
unfolding summary_of_item
summary_of_one x = record {
  covers = covers_by x.covers x;
  last = last_by x.covers x;
  valid = valid_one x.covers x;
  least = least_by x.covers x;
}
