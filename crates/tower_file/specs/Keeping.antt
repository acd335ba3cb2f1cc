-- Which levels of a file are kept in memory.
use Rattle.std.specs.Prelude.{◌≡◌, ℕ, List, ◌∷◌, ◌++◌, Option, Some, Ok}
use Rattle.tower_file.specs.declared.fault.TowerField.TheVariants.{Name, Registers, Levels}
use Rattle.tower_file.specs.Form.{RegisterForm, LevelForm, FileForm}
use Rattle.tower_file.specs.Contents.{TowerModel, empty}
use Rattle.tower_file.specs.Reading.{name_in, vector_in, levels_after}

-- a level that is kept, whatever is wrong with its registers: a map with one name and one vector of registers
pub record IsLevelKept (form : Option LevelForm) : Type 0 where
  pub level : LevelForm
  pub name : List ℕ
  pub registers : List (Option RegisterForm)
  pub is_map : form ≡ Some level
  pub has_name : name_in Name level.name ≡ Ok name
  pub has_registers : vector_in Registers level.registers ≡ Ok registers

-- reading these levels in order, from the tower `start` on, reaches one that is kept: those before it have no fault
pub record ReachesKept (start : TowerModel) (levels : List (Option LevelForm)) : Type 0 where
  pub before : List (Option LevelForm)
  pub form : Option LevelForm
  pub later : List (Option LevelForm)
  pub tower : TowerModel
  pub order : levels ≡ before ++ form ∷ later
  pub read : levels_after start before ≡ Ok tower
  pub kept : IsLevelKept form

-- a file of which a level is kept: a map with one vector of levels, the reading of which reaches one that is kept
pub record KeepsALevel (form : Option FileForm) : Type 0 where
  pub file : FileForm
  pub levels : List (Option LevelForm)
  pub is_map : form ≡ Some file
  pub has_levels : vector_in Levels file.levels ≡ Ok levels
  pub reaches : ReachesKept empty levels
