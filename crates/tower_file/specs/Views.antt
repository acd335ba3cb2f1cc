-- What the program's values are, wherever they lie in memory. Only private clauses speak of it.
use Rattle.std.specs.Prelude.{◌≡◌, ◌≢◌, ℕ, List, Result, Ok, Err, Vec, map}
use Rattle.std.specs.List.{All}
use Rattle.std.specs.declared.alloc.Global.{Global}
use Rattle.intervals.specs.Terms.{terms_of, IsKnownUnlessAtomic}
use Rattle.tower_file.specs.declared.registers.NameEntry.{NameEntry}
use Rattle.tower_file.specs.declared.fault.TowerFault.{TowerFault}
use Rattle.tower_file.specs.declared.fault.TowerFault.TheVariants.{Memory}
use Rattle.tower_file.specs.Contents.{Register, TowerModel}

-- the register of one entry of the program: its name, and what is kept with that
abbrev pub kept_register : Vec ℕ Global × NameEntry → Register
kept_register entry = record { name = entry.0.items; claim = terms_of entry.1.claim; level = entry.1.level; parts = entry.1.parts.items }

-- each of these entries that claims to be safe or regular claims a known initial value
abbrev pub AreKnown : List (Vec ℕ Global × NameEntry) → Type 0
AreKnown entries = All (λ entry. IsKnownUnlessAtomic (terms_of entry.1.claim)) entries

-- the tower with these names of levels, as the program has them, and these registers
abbrev pub contents_with : Vec (Vec ℕ Global) Global → List Register → TowerModel
contents_with levels registers = record { levels = map (λ name. name.items) levels.items; registers = registers }

-- what a function answered, with its result seen by `view`, is the answer that is due; nothing is said where memory was
-- refused
abbrev pub GivesOrMemory : {X Y : Type 0} → (X → Y) → Result X TowerFault → Result Y TowerFault → Type 0
GivesOrMemory view (Ok x) wanted = wanted ≡ Ok (view x)
GivesOrMemory view (Err fault) wanted = fault ≢ Memory → wanted ≡ Err fault
