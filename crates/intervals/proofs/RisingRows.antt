-- Rows whose keys rise: what a search finds, and what one more row or another value in a row changes.
use Rattle.std.proofs.Common.{◌≡◌, ◌⊎◌, inl, inr, ℕ, zero, suc, ◌+◌, ◌-◌, ◌<◌, ◌≤◌, Bool, true, false, cond, List, [], ◌∷◌, ◌++◌, length, get_or, set, drop, slice_get, ◌↔◌, Option, Some, None, refl, sym, ap, ◌∙◌, arith}
use Rattle.std.specs.Prelude.{All}
use Rattle.std.specs.Option.{option_flatten, option_or}
use Rattle.std.specs.List.{HoldsAt, IsFirstMatchOrLen}
use Rattle.std.specs.List.Sorted.{IsNonDecreasingBy, IsPartitionPoint}
use Rattle.std.specs.Map.{lookup}
use Rattle.std.specs.Cmp.{IsTotalOrder, IsEquivalence, alike_right}
use Rattle.std.specs.Ordering.{is_eq, is_le, is_lt, ordering_index, ordering_reverse}
use Rattle.std.specs.declared.cmp.Ordering.{Ordering}
use Rattle.std.specs.declared.cmp.Ordering.TheVariants.{Less, Equal, Greater}
use Rattle.std.proofs.lemmas.Bool.{cases_lt}
use Rattle.std.proofs.lemmas.List.{get_or_default, get_or-drop, length-drop, length-append, length-set, get_or_append_left}
use Rattle.std.proofs.lemmas.List.Elements.{All-head, All-tail}
use Rattle.std.proofs.lemmas.List.Quantifiers.{all_pairs_push}
use Rattle.std.proofs.lemmas.Option.{get_or_from_slice_get}
use Rattle.intervals.specs.Rising.{AreRising}

-- the key of a row
abbrev pub key_at : {K X : Type 0} → List (K × X) → ℕ → K × X → K
key_at rows i d = (get_or rows i d).0

module _ {K : Type 0} (eq : K → K → Bool) (laws : IsEquivalence eq) where
  not_same : (key q k : K) → eq q k ≡ true → eq key k ≡ false → eq key q ≡ false
  not_same key q k same other = laws.symm key q ∙ (laws.congr q k key same ∙ (laws.symm k key ∙ other))

by_first : {X : Type 0} (b t : Bool) (v w : X) (rest : Option X) → (t ≡ true → b ≡ false) → (r : Option X) → r ≡ cond b (Some v) rest → cond t (Some w) r ≡ cond b (Some v) (cond t (Some w) rest)
by_first true true v w rest apart r e = absurd (let f = apart refl in cc)
by_first false true v w rest apart r e = refl
by_first b false v w rest apart r e = e

module _ {K X : Type 0} (eq : K → K → Bool) (laws : IsEquivalence eq) where
  -- where no row has the key, none is found
  pub absent : (rows : List (K × X)) (key : K) → All (λ row. eq key row.0 ≡ false) rows → lookup (eq key) rows ≡ None
  absent [] key none = refl
  absent (row ∷ rows) key none =
      ap (λ (t : Bool). cond t (Some row.1) (lookup (eq key) rows)) (All-head (λ (r : K × X). eq key r.0 ≡ false) row rows none)
      ∙ absent rows key (All-tail (λ (r : K × X). eq key r.0 ≡ false) row rows none)

  -- nor is one found for a key that is equal to it
  pub absent_alike : (rows : List (K × X)) (key q : K) → All (λ row. eq key row.0 ≡ false) rows → eq key q ≡ true → lookup (eq q) rows ≡ None
  absent_alike rows key q none same = absent rows q (λ k d within. sym (laws.congr key q (get_or rows k d).0 same) ∙ none k d within)

  -- the first row of the key gives its value
  pub first_row : (rows : List (K × X)) (key : K) (i : ℕ) (d : K × X) → i < length rows → IsFirstMatchOrLen (λ row. eq key row.0) rows i → lookup (eq key) rows ≡ Some (get_or rows i d).1
  first_row [] key i d lt first = absurd (omega arith)
  first_row (row ∷ rows) key zero d lt first = ap (λ (t : Bool). cond t (Some row.1) (lookup (eq key) rows)) (first.1 lt d)
  first_row (row ∷ rows) key (suc i) d lt first =
      ap (λ (t : Bool). cond t (Some row.1) (lookup (eq key) rows)) (first.0 0 d (omega arith) (omega arith))
      ∙ first_row rows key i d (omega arith) (λ k e low below. first.0 (suc k) e (omega arith) (omega arith), λ inside. first.1 lt)

  -- another value in the first row of a key is the value of the key
  set_there : (rows : List (K × X)) (key q : K) (i : ℕ) (d : K × X) (v : X) → i < length rows → IsFirstMatchOrLen (λ row. eq key row.0) rows i
      → lookup (eq q) (set rows i ((get_or rows i d).0, v)) ≡ cond (eq key q) (Some v) (lookup (eq q) rows)
  set_there [] key q i d v lt first = absurd (omega arith)
  set_there (row ∷ rows) key q zero d v lt first = by_cases (eq key q) refl
    where
      here : eq key row.0 ≡ true
      here = first.1 lt d

      by_cases : (t : Bool) → eq key q ≡ t → cond (eq q row.0) (Some v) (lookup (eq q) rows) ≡ cond t (Some v) (cond (eq q row.0) (Some row.1) (lookup (eq q) rows))
      by_cases true t = ap (λ (b : Bool). cond b (Some v) (lookup (eq q) rows)) (sym (laws.congr key q row.0 t) ∙ here)
      by_cases false t =
          let other : eq q row.0 ≡ false = laws.symm q row.0 ∙ (sym (laws.congr key row.0 q here) ∙ t) in
          ap (λ (b : Bool). cond b (Some v) (lookup (eq q) rows)) other ∙ sym (ap (λ (b : Bool). cond b (Some row.1) (lookup (eq q) rows)) other)
  set_there (row ∷ rows) key q (suc i) d v lt first =
      by_first (eq key q) (eq q row.0) v row.1 (lookup (eq q) rows)
      (λ t. not_same eq laws key q row.0 t (first.0 0 d (omega arith) (omega arith))) _
      (set_there rows key q i d v (omega arith) (λ k e low below. first.0 (suc k) e (omega arith) (omega arith), λ inside. first.1 lt))

  pub set_row : (rows : List (K × X)) (key q : K) (i : ℕ) (row : K × X) (v : X) → row ≡ get_or rows i row → i < length rows → IsFirstMatchOrLen (λ row. eq key row.0) rows i
      → lookup (eq q) (set rows i (row.0, v)) ≡ cond (eq key q) (Some v) (lookup (eq q) rows)
  set_row rows key q i row v is lt first = ap (λ (r : K × X). lookup (eq q) (set rows i (r.0, v))) is ∙ set_there rows key q i row v lt first

  -- one more row at the end is found where none before it has the key
  pub pushed : (rows : List (K × X)) (key q : K) (v : X) → All (λ row. eq key row.0 ≡ false) rows
      → lookup (eq q) (rows ++ (key, v) ∷ []) ≡ cond (eq key q) (Some v) (lookup (eq q) rows)
  pushed [] key q v none = ap (λ (b : Bool). cond b (Some v) None) (laws.symm q key)
  pushed (row ∷ rows) key q v none =
      by_first (eq key q) (eq q row.0) v row.1 (lookup (eq q) rows)
      (λ t. not_same eq laws key q row.0 t (All-head (λ (r : K × X). eq key r.0 ≡ false) row rows none)) _
      (pushed rows key q v (All-tail (λ (r : K × X). eq key r.0 ≡ false) row rows none))

keys_there : {K X : Type 0} (rows : List (K × X)) (i : ℕ) (d : K × X) (v : X) → i < length rows → (j : ℕ) (e : K × X) → j < length rows → key_at (set rows i ((get_or rows i d).0, v)) j e ≡ key_at rows j e
keys_there [] i d v lt j e within = absurd (omega arith)
keys_there (row ∷ rows) zero d v lt zero e within = refl
keys_there (row ∷ rows) zero d v lt (suc j) e within = refl
keys_there (row ∷ rows) (suc i) d v lt zero e within = refl
keys_there (row ∷ rows) (suc i) d v lt (suc j) e within = keys_there rows i d v (omega arith) j e (omega arith)

-- another value in a row that was read changes no key
same_keys : {K X : Type 0} (rows : List (K × X)) (i : ℕ) (row : K × X) (v : X) → row ≡ get_or rows i row → i < length rows → (j : ℕ) (e : K × X) → j < length rows → key_at (set rows i (row.0, v)) j e ≡ key_at rows j e
same_keys {K} {X} rows i row v is lt j e within = ap (λ (r : K × X). key_at (set rows i (r.0, v)) j e) is ∙ keys_there rows i row v lt j e within

module _ {K : Type 0} (eq : K → K → Bool) (cmp : K → K → Ordering) (total : IsTotalOrder cmp) (ties : (x y : K) → eq x y ≡ is_eq (cmp x y)) where
  other_less : (k q : K) → cmp k q ≡ Less → eq q k ≡ false
  other_less k q e = ties q k ∙ ap is_eq (total.antisymm q k ∙ ap ordering_reverse e)

  other_greater : (k q : K) → cmp k q ≡ Greater → eq q k ≡ false
  other_greater k q e = ties q k ∙ ap is_eq (total.antisymm q k ∙ ap ordering_reverse e)

  equal : (k q : K) → cmp k q ≡ Equal → eq q k ≡ true
  equal k q e = ties q k ∙ ap is_eq (total.antisymm q k ∙ ap ordering_reverse e)

tied : (r : Ordering) → is_eq r ≡ true → r ≡ Equal
tied Less e = absurd (cc)
tied Equal e = refl
tied Greater e = absurd (cc)

lesser : (r : Ordering) → is_lt r ≡ true → r ≡ Less
lesser Less e = refl
lesser Equal e = absurd (cc)
lesser Greater e = absurd (cc)

pub not_greater : (r : Ordering) → is_le r ≡ true → (r ≡ Less) ⊎ (r ≡ Equal)
not_greater Less e = inl refl
not_greater Equal e = inr refl
not_greater Greater e = absurd (cc)

at_most_two : (r : Ordering) → ordering_index r ≤ 2
at_most_two Less = omega arith
at_most_two Equal = omega arith
at_most_two Greater = omega arith

module _ {K : Type 0} (cmp : K → K → Ordering) (total : IsTotalOrder cmp) where
  -- a key that is less than one that is not greater is less
  less_up_to : (a b q : K) → cmp a b ≡ Less → (cmp b q ≡ Less) ⊎ (cmp b q ≡ Equal) → cmp a q ≡ Less
  less_up_to a b q e (inl f) = total.trans a b q e f
  less_up_to a b q e (inr f) = sym (alike_right total b q a f) ∙ e

  rises : (a b q : K) → cmp a b ≡ Less → ordering_index (cmp a q) ≤ ordering_index (cmp b q)
  rises a b q e = by_cases (cmp b q) refl
    where
      by_cases : (r : Ordering) → cmp b q ≡ r → ordering_index (cmp a q) ≤ ordering_index r
      by_cases Less f = omega (arith, ap ordering_index (less_up_to a b q e (inl f)))
      by_cases Equal f = omega (arith, ap ordering_index (less_up_to a b q e (inr f)))
      by_cases Greater f = omega (arith, at_most_two (cmp a q))

is_there : {Y : Type 0} (last : Y) (rows : List Y) → Some last ≡ slice_get rows (length rows - 1) → 0 < length rows
is_there last [] e = absurd (cc)
is_there last (row ∷ rows) e = omega arith

module _ {K X : Type 0} (eq : K → K → Bool) (cmp : K → K → Ordering) (total : IsTotalOrder cmp) (ties : (x y : K) → eq x y ≡ is_eq (cmp x y)) where
  -- each key of the rows is less
  abbrev pub IsPast : List (K × Option X) → K → Type 0
  IsPast rows key = All (λ row. cmp row.0 key ≡ Less) rows

  module _ (rows : List (K × Option X)) (rising : AreRising cmp rows) where
    -- a key past all rows has none
    pub none_past : (key : K) → IsPast rows key → All (λ row. eq key row.0 ≡ false) rows
    none_past key past k d within = other_less eq cmp total ties (key_at rows k d) key (past k d within)

    -- past the last row is past all
    pub past_last : (key : K) (last : K × Option X) → 0 < length rows → ((d : K × Option X) → get_or rows (length rows - 1) d ≡ last) → cmp last.0 key ≡ Less → IsPast rows key
    past_last key last some is e k d within = by_cases (cases_lt k (length rows - 1))
      where
        end : key_at rows (length rows - 1) d ≡ last.0
        end = ap (λ (r : K × Option X). r.0) (is d)

        by_cases : (k < length rows - 1) ⊎ (length rows - 1 ≤ k) → cmp (key_at rows k d) key ≡ Less
        by_cases (inl lt) = total.trans (key_at rows k d) last.0 key (ap (cmp (key_at rows k d)) (sym end) ∙ rising k (length rows - 1) d lt (omega arith)) e
        by_cases (inr le) =
            let same : k ≡ length rows - 1 = omega arith in
            ap (λ (n : ℕ). cmp (key_at rows n d) key) same ∙ (ap (λ (j : K). cmp j key) end ∙ e)

    -- where the last row is found, a key is past it exactly where it is past all
    pub last_decides : (key : K) (last : K × Option X) → Some last ≡ slice_get rows (length rows - 1) → is_lt (cmp last.0 key) ≡ true ↔ IsPast rows key
    last_decides key last e = (λ t. past_last key last inside at (lesser (cmp last.0 key) t), λ past. ap is_lt (ap (λ (j : K × Option X). cmp j.0 key) (sym (at last)) ∙ past (length rows - 1) last (omega (arith, inside))))
      where
        at : (d : K × Option X) → get_or rows (length rows - 1) d ≡ last
        at d = get_or_from_slice_get rows (length rows - 1) last d (sym e)

        inside : 0 < length rows
        inside = is_there last rows e

    -- the rows before one that is not greater are less
    pub less_before : (key : K) (from : ℕ) (d e : K × Option X) → from < length rows → (cmp (key_at rows from d) key ≡ Less) ⊎ (cmp (key_at rows from d) key ≡ Equal) → (i : ℕ) → i < from → cmp (key_at rows i e) key ≡ Less
    less_before key from d e within up_to i lt =
        ap (λ (r : K × Option X). cmp r.0 key) (get_or_default rows i e d (omega arith))
        ∙ less_up_to cmp total (key_at rows i d) (key_at rows from d) key (rising i from d lt within) up_to

    -- the rows from a place on are in order by how they compare with the key, as a binary search asks
    pub searchable : (key : K) (from : ℕ) → IsNonDecreasingBy (λ row. ordering_index (cmp row.0 key)) (drop from rows)
    searchable key from i j d le within = by_cases (cases_lt i j)
      where
        long : length (drop from rows) ≡ length rows - from
        long = length-drop from rows

        at : (k : ℕ) → cmp (key_at (drop from rows) k d) key ≡ cmp (key_at rows (from + k) d) key
        at k = ap (λ (r : K × Option X). cmp r.0 key) (get_or-drop from rows k d)

        by_cases : (i < j) ⊎ (j ≤ i) → ordering_index (cmp (key_at (drop from rows) i d) key) ≤ ordering_index (cmp (key_at (drop from rows) j d) key)
        by_cases (inl lt) =
            rw (at i, at j) (rises cmp total (key_at rows (from + i) d) (key_at rows (from + j) d) key (rising (from + i) (from + j) d (omega arith) (omega (arith, long))))
        by_cases (inr ge) = let same : i ≡ j = omega arith in omega (arith, ap (λ (n : ℕ). ordering_index (cmp (key_at (drop from rows) n d) key)) same)

    -- a row whose key compares as equal is the first of the key
    first_of : (key : K) (i : ℕ) → i < length rows → ((d : K × Option X) → cmp (key_at rows i d) key ≡ Equal) → IsFirstMatchOrLen (λ row. eq key row.0) rows i
    first_of key i within here = (
      (λ k d low below. other_less eq cmp total ties (key_at rows k d) key (less_up_to cmp total (key_at rows k d) (key_at rows i d) key (rising k i d below within) (inr (here d)))),
      (λ lt d. equal eq cmp total ties (key_at rows i d) key (here d)),
    )

    -- a row that was read and is equal to the key is the first of it
    pub first_read : (key : K) (i : ℕ) (row : K × Option X) → i < length rows → eq (key_at rows i row) key ≡ true → IsFirstMatchOrLen (λ row. eq key row.0) rows i
    first_read key i row within same =
        first_of key i within (λ d. ap (λ (r : K × Option X). cmp r.0 key) (get_or_default rows i d row within) ∙ tied (cmp (key_at rows i row) key) (sym (ties (key_at rows i row) key) ∙ same))

    -- a row that a search from a place on found is the first of the key
    pub found_from : (key : K) (from i : ℕ) → i < length (drop from rows) → HoldsAt (λ row. cmp row.0 key ≡ Equal) (drop from rows) i → IsFirstMatchOrLen (λ row. eq key row.0) rows (from + i)
    found_from key from i within is =
        first_of key (from + i) (omega (arith, length-drop from rows, within)) (λ d. ap (λ (r : K × Option X). cmp r.0 key) (sym (get_or-drop from rows i d)) ∙ is d)

    -- where the search found none, and the rows before the place are less, no row has the key
    pub none_from : (key : K) (from i : ℕ) (e : K × Option X) → ((k : ℕ) → k < from → cmp (key_at rows k e) key ≡ Less) → from ≤ length rows
        → (IsNonDecreasingBy (λ row. ordering_index (cmp row.0 key)) (drop from rows) → IsPartitionPoint (λ row. cmp row.0 key ≡ Less) (λ row. cmp row.0 key ≡ Greater) (drop from rows) i) → All (λ row. eq key row.0 ≡ false) rows
    none_from key from i e less within parted k d lt = by_front (cases_lt k from)
      where
        parts : IsPartitionPoint (λ row. cmp row.0 key ≡ Less) (λ row. cmp row.0 key ≡ Greater) (drop from rows) i
        parts = parted (searchable key from)

        long : length (drop from rows) ≡ length rows - from
        long = length-drop from rows

        same_row : key_at rows k e ≡ key_at rows k d
        same_row = ap (λ (r : K × Option X). r.0) (get_or_default rows k e d lt)

        at : from ≤ k → cmp (key_at (drop from rows) (k - from) d) key ≡ cmp (key_at rows k d) key
        at le = ap (λ (r : K × Option X). cmp r.0 key) (get_or-drop from rows (k - from) d) ∙ (let same : from + (k - from) ≡ k = omega arith in ap (λ (n : ℕ). cmp (key_at rows n d) key) same)

        by_part : from ≤ k → (k - from < i) ⊎ (i ≤ k - from) → eq key (key_at rows k d) ≡ false
        by_part le (inl below) = other_less eq cmp total ties (key_at rows k d) key (sym (at le) ∙ parts.0 (k - from) d (omega arith) below)
        by_part le (inr above) = other_greater eq cmp total ties (key_at rows k d) key (sym (at le) ∙ parts.1 (k - from) d above (omega (arith, long)))

        by_front : (k < from) ⊎ (from ≤ k) → eq key (key_at rows k d) ≡ false
        by_front (inl lt) = other_less eq cmp total ties (key_at rows k d) key (ap (λ (j : K). cmp j key) (sym same_row) ∙ less k lt)
        by_front (inr le) = by_part le (cases_lt (k - from) i)

    -- the rows rise with one more row, of a key past all of them
    pub rising_push : (key : K) (v : Option X) → IsPast rows key → AreRising cmp (rows ++ (key, v) ∷ [])
    rising_push key v past = all_pairs_push (λ (a b : K × Option X). cmp a.0 b.0 ≡ Less) rows (key, v) rising past

    -- past the rows and one more is past the rows
    pub past_front : (key q : K) (v : Option X) → IsPast (rows ++ (key, v) ∷ []) q → IsPast rows q
    past_front key q v past k d within =
        ap (λ (r : K × Option X). cmp r.0 q) (sym (get_or_append_left rows ((key, v) ∷ []) d k within)) ∙ past k d (omega (arith, length-append rows ((key, v) ∷ [])))

    -- the rows rise with another value in a row that was read
    pub rising_set : (i : ℕ) (row : K × Option X) (v : Option X) → row ≡ get_or rows i row → i < length rows → AreRising cmp (set rows i (row.0, v))
    rising_set i row v is lt a b e less within =
        let long : length (set rows i (row.0, v)) ≡ length rows = length-set rows i (row.0, v) in
        rw (same_keys rows i row v is lt a e (omega arith), same_keys rows i row v is lt b e (omega arith)) (rising a b e less (omega arith))

    pub past_set : (i : ℕ) (row : K × Option X) (v : Option X) (q : K) → row ≡ get_or rows i row → i < length rows → IsPast (set rows i (row.0, v)) q → IsPast rows q
    past_set i row v q is lt past k e within =
        let long : length (set rows i (row.0, v)) ≡ length rows = length-set rows i (row.0, v) in
        ap (λ (j : K). cmp j q) (sym (same_keys rows i row v is lt k e within)) ∙ past k e (omega arith)

    -- a key that is equal to one past all rows is past them
    pub past_alike : (key q : K) → eq key q ≡ true → IsPast rows q → IsPast rows key
    past_alike key q same past k d within = alike_right total key q (key_at rows k d) (tied (cmp key q) (sym (ties key q) ∙ same)) ∙ past k d within

-- the value of a key where its row gets a value
pub value_put : {X : Type 0} (b : Bool) (v : X) (row : Option (Option X)) (other : Option X) → option_or (option_flatten (cond b (Some (Some v)) row)) other ≡ cond b (Some v) (option_or (option_flatten row) other)
value_put true v row other = refl
value_put false v row other = refl

-- the value of a key where it has no row and gets a value among the other keys
pub value_beside : {X : Type 0} (b : Bool) (v : X) (row : Option (Option X)) (other : Option X) → (b ≡ true → row ≡ None) → option_or (option_flatten row) (cond b (Some v) other) ≡ cond b (Some v) (option_or (option_flatten row) other)
value_beside true v row other none = rw (none refl) refl
value_beside false v row other none = refl

-- the value of a key where it is removed from both
pub value_gone : {X : Type 0} (b : Bool) (row : Option (Option X)) (other : Option X) → option_or (option_flatten (cond b (Some None) row)) (cond b None other) ≡ cond b None (option_or (option_flatten row) other)
value_gone true row other = refl
value_gone false row other = refl

pub none_gone : {X : Type 0} (b : Bool) (row : Option (Option X)) (other : Option X) → (b ≡ true → row ≡ None) → option_or (option_flatten row) (cond b None other) ≡ cond b None (option_or (option_flatten row) other)
none_gone true row other none = rw (none refl) refl
none_gone false row other none = refl

-- a key that is not among the others is not there after another key is put
pub still_none : {X : Type 0} (b : Bool) (v other : Option X) → other ≡ None → (b ≡ true → v ≡ None) → cond b v other ≡ None
still_none true v other none away = away refl
still_none false v other none away = none
