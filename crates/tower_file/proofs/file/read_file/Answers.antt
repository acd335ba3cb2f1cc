use Rattle.std.proofs.Common.{◌≡◌, List, Option, Some, Ok, Err, refl, inl, sym, subst, ◌∙◌}
use Rattle.std.specs.Prelude.{codes}
use Rattle.std.proofs.lemmas.Result.{err_from_is_err_and}
use Rattle.edn_reader.specs.Grammar.{ElementModel}
use Rattle.edn_reader.specs.Lent.{piece_of, PairsLeft}
use Rattle.edn_reader.specs.Pairs.{HasPairs}
use Rattle.tower_file.specs.declared.fault.TowerField.TheVariants.{Levels}
use Rattle.tower_file.specs.Contents.{TowerModel, empty}
use Rattle.tower_file.specs.Keeping.{ReachesKept}
use Rattle.tower_file.specs.Reading.{contents_of, levels_after, vector_in}
use Rattle.tower_file.specs.Views.{contents_with}
use Rattle.tower_file.specs.Form.{AreFileFields, FileForm, IsLevel, IsMapOf, LevelForm}
use Rattle.tower_file.specs.Located.{pairs_under, at_key, IsAmongLevels}
use Rattle.tower_file.specs.Stated.{FormsLeft, IsSpanned}
use Rattle.tower_file.proofs.Locating.{at_levels, in_levels}
use Rattle.tower_file.proofs.Levels.{map_form, no_levels, to_levels, begins_empty}
use Rattle.tower_file.proofs.file.read_file.Goals as goal
use Rattle.tower_file.proofs.file.read_file.Goals.{In-Some, In_ok-view}

-- the form of the map, and the pairs that it is read from
form_of : (c : In-Some) → (form : Option FileForm) → IsMapOf AreFileFields (piece_of c.args.element.now) form
    → (read : FileForm) × (pairs : List (ElementModel × ElementModel)) × (form ≡ Some read) × PairsLeft c.in-Some.map pairs × AreFileFields pairs read × HasPairs (piece_of c.args.element.now) pairs
form_of c form h = map_form AreFileFields (piece_of c.args.element.now) c.in-Some.map c.in-Some.ensures.pairs.0 c.in-Some.ensures.pairs.1 form h

-- the form of a map whose vector of levels there is, with its pairs and the forms of its levels
record Read (c : In_ok-view) (form : Option FileForm) : Type 0 where
  file : FileForm
  pairs : List (ElementModel × ElementModel)
  forms : List (Option LevelForm)
  is_map : form ≡ Some file
  left : PairsLeft c.in-Some.map pairs
  has_pairs : HasPairs (piece_of c.args.element.now) pairs
  vector : vector_in Levels file.levels ≡ Ok forms
  levels : FormsLeft IsLevel c.in_ok-view.view forms

read_of : (c : In_ok-view) → (form : Option FileForm) → IsMapOf AreFileFields (piece_of c.args.element.now) form → Read c form
read_of c form h =
    let f = map_form AreFileFields (piece_of c.args.element.now) c.in-Some.map c.in-Some.ensures.pairs.0 c.in-Some.ensures.pairs.1 form h in
    let v = c.in_ok-view.ensures.levels f.1 f.0.levels f.3 f.4.levels in
    record { file = f.0; pairs = f.1; forms = v.0; is_map = f.2; left = f.3; has_pairs = f.5; vector = v.1; levels = v.2 }

-- what is read of the file is what the forms of its levels make of an empty one
reads : (c : In_ok-view) → (form : Option FileForm) → (k : Read c form) → contents_of form ≡ levels_after empty k.forms
reads c form k = to_levels form k.file k.forms k.is_map k.vector

pub returns-in_err-view-clause-says : goal.returns-in_err-view-clause-says
returns-in_err-view-clause-says c form h =
    let p = err_from_is_err_and c.from_residual.result c.from_residual.ensures.1 in
    rw (p.1, p.2) (λ other.
    let f = form_of (goal.at.returns-in_err-view-clause-says c).In-Some form h in
    no_levels form f.0 c.in_err-view.field-0.0.fault f.2 (c.in_err-view.ensures.levels f.1 f.0.levels f.3 f.4.levels other))

pub returns-in_err-read_levels-clause-says : goal.returns-in_err-read_levels-clause-says
returns-in_err-read_levels-clause-says c form h =
    let p = err_from_is_err_and c.from_residual-in_err-read_levels.result c.from_residual-in_err-read_levels.ensures.1 in
    rw (p.1, p.2) (λ other.
    let k = read_of (goal.at.returns-in_err-read_levels-clause-says c).In_ok-view form h in
    reads (goal.at.returns-in_err-read_levels-clause-says c).In_ok-view form k
    ∙ subst (λ (tower : TowerModel). levels_after tower k.forms ≡ Err c.in_err-read_levels.field-0.0.fault) (begins_empty c.new-levels.result c.new-registers.result c.new-levels.ensures.items c.new-registers.ensures)
    (c.in_err-read_levels.ensures.err other k.forms k.levels))

pub returns-in_default-clause-span : goal.returns-in_default-clause-span
returns-in_default-clause-span c other form h =
    (piece_of c.args.element.now, inl (c.in_default.ensures.some, refl), c.located.ensures.span (λ e. other (c.located.ensures.fault ∙ e)))

pub returns-in_err-view-clause-span : goal.returns-in_err-view-clause-span
returns-in_err-view-clause-span c =
    let p = err_from_is_err_and c.from_residual.result c.from_residual.ensures.1 in
    rw (p.1, p.2) (λ other form h.
    let f = form_of (goal.at.returns-in_err-view-clause-span c).In-Some form h in (
      at_key (piece_of c.args.element.now) (pairs_under (codes ":levels") f.1),
      at_levels c.in_err-view.field-0.0.fault (piece_of c.args.element.now) f.1 f.5 f.0.levels f.4.levels (c.in_err-view.ensures.levels f.1 f.0.levels f.3 f.4.levels other),
      c.in_err-view.ensures.span f.1 f.3,
    ))

pub returns-in_err-read_levels-clause-span : goal.returns-in_err-read_levels-clause-span
returns-in_err-read_levels-clause-span c =
    let p = err_from_is_err_and c.from_residual-in_err-read_levels.result c.from_residual-in_err-read_levels.ensures.1 in
    rw (p.1, p.2) (λ other form h.
    let fault = c.in_err-read_levels.field-0.0.fault in
    let k = read_of (goal.at.returns-in_err-read_levels-clause-span c).In_ok-view form h in
    let s = subst (λ (tower : TowerModel). IsSpanned (IsAmongLevels tower fault k.levels.0) c.in_err-read_levels.field-0.0.span) (begins_empty c.new-levels.result c.new-registers.result c.new-levels.ensures.items c.new-registers.ensures)
    (c.in_err-read_levels.ensures.span other k.forms k.levels) in
    (s.0, in_levels fault (piece_of c.args.element.now) k.pairs k.has_pairs c.in_ok-view.view k.levels.0 s.0 (c.in_ok-view.ensures.vector k.pairs k.left) k.levels.1 s.1, s.2))

pub returns-clause-says : goal.returns-clause-says
returns-clause-says c form h =
    let k = read_of (goal.at.returns-clause-says c).In_ok-view form h in
    reads (goal.at.returns-clause-says c).In_ok-view form k
    ∙ subst (λ (tower : TowerModel). levels_after tower k.forms ≡ Ok (contents_with c.read_levels.new.levels c.read_levels.new.registers)) (begins_empty c.new-levels.result c.new-registers.result c.new-levels.ensures.items c.new-registers.ensures)
    (c.in_ok-read_levels.ensures.ok k.forms k.levels)

pub returns-in_err-read_levels-clause-memory : goal.returns-in_err-read_levels-clause-memory
returns-in_err-read_levels-clause-memory c =
    let p = err_from_is_err_and c.from_residual-in_err-read_levels.result c.from_residual-in_err-read_levels.ensures.1 in
    rw (p.1, p.2) (λ wanted form h.
    let k = read_of (goal.at.returns-in_err-read_levels-clause-memory c).In_ok-view form h in
    record {
      file = k.file;
      levels = k.forms;
      is_map = k.is_map;
      has_levels = k.vector;
      reaches = subst (λ (tower : TowerModel). ReachesKept tower k.forms) (begins_empty c.new-levels.result c.new-registers.result c.new-levels.ensures.items c.new-registers.ensures)
          (c.in_err-read_levels.ensures.memory wanted k.forms k.levels);
    })

pub returns-in_err-view-clause-nowhere : goal.returns-in_err-view-clause-nowhere
returns-in_err-view-clause-nowhere c =
    let p = err_from_is_err_and c.from_residual.result c.from_residual.ensures.1 in
    rw (p.1, p.2) (λ e. absurd (let k = sym c.in_err-view.ensures.shape ∙ e in cc))

pub returns-in_err-read_levels-clause-nowhere : goal.returns-in_err-read_levels-clause-nowhere
returns-in_err-read_levels-clause-nowhere c =
    let p = err_from_is_err_and c.from_residual-in_err-read_levels.result c.from_residual-in_err-read_levels.ensures.1 in
    rw (p.1, p.2) (c.in_err-read_levels.ensures.nowhere)
