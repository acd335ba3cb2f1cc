use Rattle.std.proofs.Common.{rules, ◌≡◌, ◌++◌, ◌∷◌, [], ℕ, List, Option, Some, Ok, Err, refl, inl, sym, ap, subst, ◌∙◌, length}
use Rattle.std.specs.Prelude.{codes}
use Rattle.std.proofs.lemmas.Result.{err_from_is_err_and}
use Rattle.edn_reader.specs.Grammar.{ElementModel}
use Rattle.edn_reader.specs.Lent.{piece_of, PairsLeft}
use Rattle.edn_reader.specs.Pairs.{HasPairs}
use Rattle.tower_file.specs.declared.fault.TowerField.TheVariants.{Name, Registers}
use Rattle.tower_file.specs.Form.{under, AreLevelFields, IsLevel, IsRegister, LevelForm, RegisterForm}
use Rattle.tower_file.specs.Keeping.{IsLevelKept}
use Rattle.tower_file.specs.Located.{pairs_under, at_key, IsAmongRegisters}
use Rattle.tower_file.specs.Stated.{FormsLeft, IsSpanned}
use Rattle.tower_file.specs.Reading.{level_after, name_in, vector_in, with_level, with_registers}
use Rattle.tower_file.specs.Views.{contents_with}
use Rattle.tower_file.proofs.Levels.{map_form, no_name, no_registers, to_registers, level_fails, level_ends, level_count, level_pushed, level_kept}
use Rattle.tower_file.proofs.Locating.{at_name, at_registers, in_registers}
use Rattle.tower_file.proofs.level.read_level.Goals as goal
use Rattle.tower_file.proofs.level.read_level.Goals.{After-len, In-Some, In_ok-view}

-- the form of the map, and the pairs that it is read from
form_of : (c : In-Some) → (form : Option LevelForm) → IsLevel (piece_of c.args.element.now) form
    → (read : LevelForm) × (pairs : List (ElementModel × ElementModel)) × (form ≡ Some read) × PairsLeft c.in-Some.map pairs × AreLevelFields pairs read × HasPairs (piece_of c.args.element.now) pairs
form_of c form h = map_form AreLevelFields (piece_of c.args.element.now) c.in-Some.map c.in-Some.ensures.pairs.0 c.in-Some.ensures.pairs.1 form h

-- the form of a map whose vector of registers there is, with its pairs, its name and the forms of its registers
record Read (c : In_ok-view) (form : Option LevelForm) : Type 0 where
  level : LevelForm
  pairs : List (ElementModel × ElementModel)
  forms : List (Option RegisterForm)
  is_map : form ≡ Some level
  fields : AreLevelFields pairs level
  has_pairs : HasPairs (piece_of c.args.element.now) pairs
  name : name_in Name (under (codes ":name") pairs) ≡ Ok c.in_ok-name.name.now
  left : PairsLeft c.in-Some.map pairs
  vector : vector_in Registers level.registers ≡ Ok forms
  registers : FormsLeft IsRegister c.in_ok-view.view forms

read_of : (c : In_ok-view) → (form : Option LevelForm) → IsLevel (piece_of c.args.element.now) form → Read c form
read_of c form h =
    let f = map_form AreLevelFields (piece_of c.args.element.now) c.in-Some.map c.in-Some.ensures.pairs.0 c.in-Some.ensures.pairs.1 form h in
    let v = c.in_ok-view.ensures.registers f.1 f.0.registers f.3 f.4.registers in
    record {
      level = f.0;
      pairs = f.1;
      forms = v.0;
      is_map = f.2;
      fields = f.4;
      has_pairs = f.5;
      name = c.in_ok-name.ensures.name f.1 f.3;
      left = f.3;
      vector = v.1;
      registers = v.2;
    }

-- how many levels there are so far
count_of : (c : After-len) → c.len.result ≡ length (contents_with c.args.levels.now c.args.registers.now).levels
count_of c = search rules ∙ sym (level_count c.args.levels.now c.args.registers.now)

-- what becomes of the tower is what the forms of the registers make of it
reads : (c : In_ok-view) → (form : Option LevelForm) → (k : Read c form) → level_after (contents_with c.args.levels.now c.args.registers.now) form ≡ with_level (contents_with c.args.levels.now c.args.registers.now) c.in_ok-name.name.now k.forms
reads c form k = to_registers (contents_with c.args.levels.now c.args.registers.now) form k.level (under (codes ":name") k.pairs) c.in_ok-name.name.now k.forms k.is_map k.fields.name k.name k.vector

keeps : (c : In_ok-view) → (form : Option LevelForm) → IsLevel (piece_of c.args.element.now) form → IsLevelKept form
keeps c form h = let k = read_of c form h in level_kept form k.level (under (codes ":name") k.pairs) c.in_ok-name.name.now k.forms k.is_map k.fields.name k.name k.vector

pub returns-in_err-name-clause-err : goal.returns-in_err-name-clause-err
returns-in_err-name-clause-err c =
    let p = err_from_is_err_and c.from_residual.result c.from_residual.ensures.1 in
    rw (p.1, p.2) (λ other form h.
    let f = form_of (goal.at.returns-in_err-name-clause-err c).In-Some form h in
    no_name (contents_with c.args.levels.now c.args.registers.now) form f.0 (under (codes ":name") f.1) c.in_err-name.field-0.0.fault f.2 f.4.name (c.in_err-name.ensures.name f.1 f.3))

pub returns-in_err-name-clause-span : goal.returns-in_err-name-clause-span
returns-in_err-name-clause-span c =
    let p = err_from_is_err_and c.from_residual.result c.from_residual.ensures.1 in
    rw (p.1, p.2) (λ other form h.
    let f = form_of (goal.at.returns-in_err-name-clause-span c).In-Some form h in (
      at_key (piece_of c.args.element.now) (pairs_under (codes ":name") f.1),
      at_name (contents_with c.args.levels.now c.args.registers.now) c.in_err-name.field-0.0.fault (piece_of c.args.element.now) f.1 f.5 (c.in_err-name.ensures.name f.1 f.3),
      c.in_err-name.ensures.span f.1 f.3,
    ))

pub returns-in_err-view-clause-err : goal.returns-in_err-view-clause-err
returns-in_err-view-clause-err c =
    let p = err_from_is_err_and c.from_residual-in_err-view.result c.from_residual-in_err-view.ensures.1 in
    rw (p.1, p.2) (λ other form h.
    let f = form_of (goal.at.returns-in_err-view-clause-err c).In-Some form h in
    no_registers (contents_with c.args.levels.now c.args.registers.now) form f.0 (under (codes ":name") f.1) c.in_ok-name.name.now c.in_err-view.field-0.0.fault f.2 f.4.name
    (c.in_ok-name.ensures.name f.1 f.3) (c.in_err-view.ensures.registers f.1 f.0.registers f.3 f.4.registers other))

pub returns-in_default-clause-span : goal.returns-in_default-clause-span
returns-in_default-clause-span c other form h =
    (piece_of c.args.element.now, inl (c.in_default.ensures.some, refl), c.located.ensures.span (λ e. other (c.located.ensures.fault ∙ e)))

pub returns-in_err-view-clause-span : goal.returns-in_err-view-clause-span
returns-in_err-view-clause-span c =
    let p = err_from_is_err_and c.from_residual-in_err-view.result c.from_residual-in_err-view.ensures.1 in
    rw (p.1, p.2) (λ other form h.
    let f = form_of (goal.at.returns-in_err-view-clause-span c).In-Some form h in (
      at_key (piece_of c.args.element.now) (pairs_under (codes ":registers") f.1),
      at_registers (contents_with c.args.levels.now c.args.registers.now) c.in_err-view.field-0.0.fault (piece_of c.args.element.now) f.1 f.5 c.in_ok-name.name.now f.0.registers
          (c.in_ok-name.ensures.name f.1 f.3) f.4.registers (c.in_err-view.ensures.registers f.1 f.0.registers f.3 f.4.registers other),
      c.in_err-view.ensures.span f.1 f.3,
    ))

pub returns-in_err-read_registers-clause-err : goal.returns-in_err-read_registers-clause-err
returns-in_err-read_registers-clause-err c =
    let p = err_from_is_err_and c.from_residual-in_err-read_registers.result c.from_residual-in_err-read_registers.ensures.1 in
    rw (p.1, p.2) (λ other form h.
    let tower = contents_with c.args.levels.now c.args.registers.now in
    let k = read_of (goal.at.returns-in_err-read_registers-clause-err c).In_ok-view form h in
    let count = count_of (goal.at.returns-in_err-read_registers-clause-err c).After-len in
    let failed = subst (λ (n : ℕ). with_registers n c.args.registers.now k.forms ≡ Err c.in_err-read_registers.field-0.0.fault) count (c.in_err-read_registers.ensures.err other k.forms k.registers) in
    reads (goal.at.returns-in_err-read_registers-clause-err c).In_ok-view form k
    ∙ level_fails tower c.in_ok-name.name.now k.forms c.in_err-read_registers.field-0.0.fault failed)

pub returns-in_err-read_registers-clause-span : goal.returns-in_err-read_registers-clause-span
returns-in_err-read_registers-clause-span c =
    let p = err_from_is_err_and c.from_residual-in_err-read_registers.result c.from_residual-in_err-read_registers.ensures.1 in
    rw (p.1, p.2) (λ other form h.
    let tower = contents_with c.args.levels.now c.args.registers.now in
    let fault = c.in_err-read_registers.field-0.0.fault in
    let k = read_of (goal.at.returns-in_err-read_registers-clause-span c).In_ok-view form h in
    let count = count_of (goal.at.returns-in_err-read_registers-clause-span c).After-len in
    let s = subst (λ (n : ℕ). IsSpanned (IsAmongRegisters n (length c.args.registers.now) c.args.registers.now fault k.registers.0) c.in_err-read_registers.field-0.0.span) count
    (c.in_err-read_registers.ensures.span other k.forms k.registers) in
    (s.0, in_registers tower fault (piece_of c.args.element.now) k.pairs k.has_pairs c.in_ok-name.name.now c.in_ok-view.view k.registers.0 s.0 k.name (c.in_ok-view.ensures.vector k.pairs k.left) k.registers.1 s.1, s.2))

pub returns-clause-ok : goal.returns-clause-ok
returns-clause-ok c form h =
    let tower = contents_with c.args.levels.now c.args.registers.now in
    let k = read_of (goal.at.returns-clause-ok c).In_ok-view form h in
    let count = count_of (goal.at.returns-clause-ok c).After-len in
    let read = subst (λ (n : ℕ). with_registers n c.args.registers.now k.forms ≡ Ok c.read_registers.new.registers) count (c.in_ok-read_registers.ensures.ok k.forms k.registers) in
    let pushed : (contents_with c.push.new.self c.read_registers.new.registers).levels ≡ tower.levels ++ c.in_ok-name.name.now ∷ [] =
    level_pushed c.args.levels.now c.push.new.self c.in_ok-from_slice.field-0 c.in_ok-name.name.now c.args.registers.now c.read_registers.new.registers c.in_ok-push.ensures.items c.in_ok-from_slice.ensures.items in
    reads (goal.at.returns-clause-ok c).In_ok-view form k ∙ level_ends tower c.in_ok-name.name.now k.forms c.read_registers.new.registers read
    ∙ ap (λ (levels : List (List ℕ)). Ok (record { levels = levels; registers = c.read_registers.new.registers })) (sym pushed)

pub returns-in_err-read_registers-clause-memory : goal.returns-in_err-read_registers-clause-memory
returns-in_err-read_registers-clause-memory c =
    let p = err_from_is_err_and c.from_residual-in_err-read_registers.result c.from_residual-in_err-read_registers.ensures.1 in
    rw (p.1, p.2) (λ wanted form h. keeps (goal.at.returns-in_err-read_registers-clause-memory c).In_ok-view form h)

pub returns-in_err-from_slice-clause-memory : goal.returns-in_err-from_slice-clause-memory
returns-in_err-from_slice-clause-memory c =
    let p = err_from_is_err_and c.from_residual-in_err-from_slice.result c.from_residual-in_err-from_slice.ensures.1 in
    rw (p.1, p.2) (λ wanted form h. keeps (goal.at.returns-in_err-from_slice-clause-memory c).In_ok-view form h)

pub returns-in_err-push-clause-memory : goal.returns-in_err-push-clause-memory
returns-in_err-push-clause-memory c =
    let p = err_from_is_err_and c.from_residual-in_err-push.result c.from_residual-in_err-push.ensures.1 in
    rw (p.1, p.2) (λ wanted form h. keeps (goal.at.returns-in_err-push-clause-memory c).In_ok-view form h)

pub returns-in_err-name-clause-nowhere : goal.returns-in_err-name-clause-nowhere
returns-in_err-name-clause-nowhere c =
    let p = err_from_is_err_and c.from_residual.result c.from_residual.ensures.1 in
    rw (p.1, p.2) (λ e. absurd (c.in_err-name.ensures.shape e))

pub returns-in_err-view-clause-nowhere : goal.returns-in_err-view-clause-nowhere
returns-in_err-view-clause-nowhere c =
    let p = err_from_is_err_and c.from_residual-in_err-view.result c.from_residual-in_err-view.ensures.1 in
    rw (p.1, p.2) (λ e. absurd (let k = sym c.in_err-view.ensures.shape ∙ e in cc))

pub returns-in_err-read_registers-clause-nowhere : goal.returns-in_err-read_registers-clause-nowhere
returns-in_err-read_registers-clause-nowhere c =
    let p = err_from_is_err_and c.from_residual-in_err-read_registers.result c.from_residual-in_err-read_registers.ensures.1 in
    rw (p.1, p.2) (c.in_err-read_registers.ensures.nowhere)

pub returns-in_err-from_slice-clause-nowhere : goal.returns-in_err-from_slice-clause-nowhere
returns-in_err-from_slice-clause-nowhere c =
    let p = err_from_is_err_and c.from_residual-in_err-from_slice.result c.from_residual-in_err-from_slice.ensures.1 in
    rw (p.1, p.2) (λ e. refl)

pub returns-in_err-push-clause-nowhere : goal.returns-in_err-push-clause-nowhere
returns-in_err-push-clause-nowhere c =
    let p = err_from_is_err_and c.from_residual-in_err-push.result c.from_residual-in_err-push.ensures.1 in
    rw (p.1, p.2) (λ e. refl)
