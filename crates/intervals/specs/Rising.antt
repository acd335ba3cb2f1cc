-- A map of keys that mostly come in rising order. No public clause speaks of these words.
use Rattle.std.specs.Prelude.{◌≡◌, ◌+◌, ◌≤◌, ℕ, Bool, All, List, Option, None, vec_len, vec_capacity}
use Rattle.std.specs.Option.{option_flatten, option_or}
use Rattle.std.specs.List.{AllPairs}
use Rattle.std.specs.Map.{lookup}
use Rattle.std.specs.HashMap.{get, spare}
use Rattle.std.specs.declared.cmp.Ordering.{Ordering}
use Rattle.std.specs.declared.cmp.Ordering.TheVariants.{Less}
use Rattle.intervals.specs.declared.rising.RisingMap.{RisingMap}

module _ {K X : Type 0} where
  -- each key of the rows comes after those of the rows before it
  abbrev pub AreRising : (K → K → Ordering) → List (K × Option X) → Type 0
  AreRising cmp rows = AllPairs (λ a b. cmp a.0 b.0 ≡ Less) rows

  -- the value in the first row of the key; none where there is no such row, or it is empty
  abbrev pub value_in : (K → K → Bool) → List (K × Option X) → K → Option X
  value_in eq rows key = option_flatten (lookup (eq key) rows)

  -- the value of the key in the map: the one in its row, else the one among the other keys; or none
  abbrev pub value_at : (K → K → Bool) → RisingMap K X → K → Option X
  value_at eq map key = option_or (value_in eq map.rows.items key) (get eq map.others key)

  -- this many more keys find room, whether in rows or among the other keys
  abbrev pub HasRoom : RisingMap K X → ℕ → Type 0
  HasRoom map n = (n + vec_len map.rows ≤ vec_capacity map.rows) × (n ≤ spare map.others)

  -- the rows rise, and a key that comes after all of them is not among the other keys
  pub record IsInOrder (eq : K → K → Bool) (cmp : K → K → Ordering) (map : RisingMap K X) : Type 0 where
    pub rows : AreRising cmp map.rows.items
    pub past : (key : K) → All (λ row. cmp row.0 key ≡ Less) map.rows.items → get eq map.others key ≡ None
