-- What is under the keys of a level and of a file, as the program sees it and as it is read further.
use Rattle.std.proofs.Common.{◌≡◌, ◌↔◌, ℕ, List, [], ◌∷◌, ◌++◌, length, Option, Some, None, Ok, Err, refl, ap, ◌∙◌}
use Rattle.std.specs.Prelude.{Vec}
use Rattle.std.specs.declared.alloc.Global.{Global}
use Rattle.std.proofs.lemmas.List.{length-map, map_push}
use Rattle.edn_reader.specs.declared.element.ElementKind.TheVariants.{Map}
use Rattle.edn_reader.specs.declared.view.MapView.{MapView}
use Rattle.edn_reader.specs.Grammar.{ElementModel}
use Rattle.edn_reader.specs.Pairs.{HasPairs}
use Rattle.edn_reader.specs.Lent.{PairsLeft}
use Rattle.edn_reader.specs.Given.{Given}
use Rattle.tower_file.specs.declared.fault.TowerField.TheVariants.{Name, Registers, Levels}
use Rattle.tower_file.specs.declared.fault.TowerFault.{TowerFault}
use Rattle.tower_file.specs.Form.{IsMapOf, RegisterForm, LevelForm, FileForm}
use Rattle.tower_file.specs.Contents.{Register, TowerModel, empty}
use Rattle.tower_file.specs.Reading.{name_in, vector_in, with_registers, with_level, level_after, levels_after, contents_of}
use Rattle.tower_file.specs.Keeping.{IsLevelKept, ReachesKept}
use Rattle.tower_file.specs.Views.{contents_with}
use Rattle.tower_file.specs.Form.{IsLevel}
use Rattle.tower_file.proofs.Loops.{Reached}

-- the form of a map is read from the pairs that a view of it has left
pub map_form : {Form : Type 0} (IsRead : List (ElementModel × ElementModel) → Form → Type 0) (piece : ElementModel) (view : MapView) → piece.core.kind ≡ Map
    → ((pairs : List (ElementModel × ElementModel)) → HasPairs piece pairs ↔ PairsLeft view pairs) → (form : Option Form) → IsMapOf IsRead piece form
    → (read : Form) × (pairs : List (ElementModel × ElementModel)) × (form ≡ Some read) × PairsLeft view pairs × IsRead pairs read × HasPairs piece pairs
map_form IsRead piece view k m None h = absurd (h k)
map_form IsRead piece view k m (Some read) h = (read, h.0, refl, (m h.0).0 h.1, h.2, h.1)

-- the steps of a level
pub no_name : (tower : TowerModel) (form : Option LevelForm) (level : LevelForm) (given : Given ElementModel) (fault : TowerFault) → form ≡ Some level → level.name ≡ given
    → name_in Name given ≡ Err fault → level_after tower form ≡ Err fault
no_name tower form level given fault e n f = rw (e, n, f) refl

pub no_registers : (tower : TowerModel) (form : Option LevelForm) (level : LevelForm) (given : Given ElementModel) (name : List ℕ) (fault : TowerFault) → form ≡ Some level → level.name ≡ given
    → name_in Name given ≡ Ok name → vector_in Registers level.registers ≡ Err fault → level_after tower form ≡ Err fault
no_registers tower form level given name fault e n f v = rw (e, n, f, v) refl

pub to_registers : (tower : TowerModel) (form : Option LevelForm) (level : LevelForm) (given : Given ElementModel) (name : List ℕ) (forms : List (Option RegisterForm)) → form ≡ Some level → level.name ≡ given
    → name_in Name given ≡ Ok name → vector_in Registers level.registers ≡ Ok forms → level_after tower form ≡ with_level tower name forms
to_registers tower form level given name forms e n f v = rw (e, n, f, v) refl

pub level_fails : (tower : TowerModel) (name : List ℕ) (forms : List (Option RegisterForm)) (fault : TowerFault) → with_registers (length tower.levels) tower.registers forms ≡ Err fault
    → with_level tower name forms ≡ Err fault
level_fails tower name forms fault e = rw e refl

pub level_ends : (tower : TowerModel) (name : List ℕ) (forms : List (Option RegisterForm)) (registers : List Register) → with_registers (length tower.levels) tower.registers forms ≡ Ok registers
    → with_level tower name forms ≡ Ok (record { levels = tower.levels ++ name ∷ []; registers = registers })
level_ends tower name forms registers e = rw e refl

-- the steps of a file
pub no_levels : (form : Option FileForm) (file : FileForm) (fault : TowerFault) → form ≡ Some file → vector_in Levels file.levels ≡ Err fault → contents_of form ≡ Err fault
no_levels form file fault e v = rw (e, v) refl

pub to_levels : (form : Option FileForm) (file : FileForm) (forms : List (Option LevelForm)) → form ≡ Some file → vector_in Levels file.levels ≡ Ok forms → contents_of form ≡ levels_after empty forms
to_levels form file forms e v = rw (e, v) refl

-- the number of levels so far
pub level_count : (levels : Vec (Vec ℕ Global) Global) (registers : List Register) → length (contents_with levels registers).levels ≡ length levels.items
level_count levels registers = length-map levels.items (λ name. name.items)

pub level_pushed : (old new : Vec (Vec ℕ Global) Global) (item : Vec ℕ Global) (name : List ℕ) (before after : List Register) → new.items ≡ old.items ++ item ∷ [] → item.items ≡ name
    → (contents_with new after).levels ≡ (contents_with old before).levels ++ name ∷ []
level_pushed old new item name before after e n = rw (e, map_push (λ (v : Vec ℕ Global). v.items) old.items item, n) refl

pub begins_empty : (levels : Vec (Vec ℕ Global) Global) (registers : List Register) → levels.items ≡ [] → registers ≡ [] → contents_with levels registers ≡ empty
begins_empty levels registers a b = rw (a, b) refl

-- a level that is kept
pub level_kept : (form : Option LevelForm) (level : LevelForm) (given : Given ElementModel) (name : List ℕ) (registers : List (Option RegisterForm)) → form ≡ Some level → level.name ≡ given
    → name_in Name given ≡ Ok name → vector_in Registers level.registers ≡ Ok registers → IsLevelKept form
level_kept form level given name registers e n f v = record {
  level = level;
  name = name;
  registers = registers;
  is_map = e;
  has_name = ap (name_in Name) n ∙ f;
  has_registers = v;
}

pub reached_kept : (start : TowerModel) (levels : List (Option LevelForm)) → Reached IsLevel level_after start levels IsLevelKept → ReachesKept start levels
reached_kept start levels r = record { before = r.before; form = r.form; later = r.later; tower = r.state; order = r.order; read = r.read; kept = r.holds }
