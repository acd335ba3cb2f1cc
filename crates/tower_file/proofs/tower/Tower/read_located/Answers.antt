use Rattle.std.proofs.Common.{Option, Result, Ok, Err, inr}
use Rattle.std.proofs.lemmas.Result.{err_from_is_err_and}
use Rattle.tower_file.specs.declared.fault.TowerField.TheVariants.{File}
use Rattle.tower_file.specs.declared.fault.TowerFault.{TowerFault}
use Rattle.tower_file.specs.declared.fault.TowerFault.TheVariants.{Shape}
use Rattle.tower_file.specs.Contents.{TowerModel}
use Rattle.tower_file.specs.Form.{AreFileFields, FileForm, IsMapOf}
use Rattle.tower_file.specs.Reading.{contents_of}
use Rattle.tower_file.specs.Views.{GivesOrMemory, contents_with}
use Rattle.tower_file.proofs.Forms.{Some_form, file_some}
use Rattle.tower_file.proofs.Towers.{IsAnswered, refused_text_reads, refused_text_refuses, answered_tower, answered_fault, answered_reads, answered_refuses, one_found, other_found, kept_file}
use Rattle.edn_reader.specs.Lent.{piece_of}
use Rattle.tower_file.proofs.Locating.{at_text, at_file, at_whole}
use Rattle.tower_file.proofs.tower.Tower.read_located.Goals as goal
use Rattle.tower_file.proofs.tower.Tower.read_located.Goals.{In-Once}

-- the form of an element that is a map
some_form : (c : In-Once) → Some_form (IsMapOf AreFileFields)
some_form c = file_some c.pairs_of_map.ensures.some c.pairs_of_map.ensures.elements c.members_of_vector.ensures.some c.members_of_vector.ensures.elements

-- what is said of the one element of the text is said of the text
answers : (c : In-Once) → (result : Result TowerModel TowerFault) → ((other : Option FileForm) → IsMapOf AreFileFields (piece_of c.in-Once.element) other → GivesOrMemory (λ (tower : TowerModel). tower) result (contents_of other))
    → IsAnswered c.args.bytes.now result
answers c result says = one_found c.args.bytes.now c.in-Once.element c.in_ok-element.field-0 result (c.one_division.ensures c.args.bytes.now) c.in-Once.is c.in_ok-element.ensures.text (c.each_lent_is_element.ensures c.in-Once.element) (some_form c) says

pub returns-in_err-element-clause-reads : goal.returns-in_err-element-clause-reads
returns-in_err-element-clause-reads c =
    let p = err_from_is_err_and c.from_residual.result c.from_residual.ensures.1 in
    rw (p.1, p.2) (refused_text_reads c.args.bytes.now c.in_err-element.field-0.0.fault (c.text_or_fault.ensures.not_both c.args.bytes.now) c.in_err-element.ensures.fault)

pub returns-in_err-element-clause-refuses : goal.returns-in_err-element-clause-refuses
returns-in_err-element-clause-refuses c =
    let p = err_from_is_err_and c.from_residual.result c.from_residual.ensures.1 in
    rw (p.1, p.2) (refused_text_refuses c.args.bytes.now c.in_err-element.field-0.0.fault (c.text_or_fault.ensures.not_both c.args.bytes.now) (c.one_fault.ensures c.args.bytes.now) c.in_err-element.ensures.fault)

pub returns-in_err-element-clause-span : goal.returns-in_err-element-clause-span
returns-in_err-element-clause-span c =
    let p = err_from_is_err_and c.from_residual.result c.from_residual.ensures.1 in
    rw (p.1, p.2) (at_text c.args.bytes.now c.in_err-element.field-0.0.fault c.in_err-element.field-0.0.span c.in_err-element.ensures.fault c.in_err-element.ensures.span)

pub returns-in_err-levels-in-Once-clause-span : goal.returns-in_err-levels-in-Once-clause-span
returns-in_err-levels-in-Once-clause-span c =
    let p = err_from_is_err_and c.from_residual-in_err-levels-in-Once.result c.from_residual-in_err-levels-in-Once.ensures.1 in
    rw (p.1, p.2) (λ other.
    let form = some_form (goal.at.returns-in_err-levels-in-Once-clause-span c).In-Once (piece_of c.in-Once.element) (c.each_lent_is_element.ensures c.in-Once.element) in
    at_file c.args.bytes.now c.in-Once.element c.in_ok-element.field-0 c.in_err-levels-in-Once.field-0.0.fault c.in_err-levels-in-Once.field-0.0.span c.in-Once.is c.in_ok-element.ensures.text
    (c.in_err-levels-in-Once.ensures.span other form.0 form.1))

pub returns-in_err-levels-in-Once-clause-fault : goal.returns-in_err-levels-in-Once-clause-fault
returns-in_err-levels-in-Once-clause-fault c =
    let p = err_from_is_err_and c.from_residual-in_err-levels-in-Once.result c.from_residual-in_err-levels-in-Once.ensures.1 in
    let answered = answers (goal.at.returns-in_err-levels-in-Once-clause-fault c).In-Once (Err c.in_err-levels-in-Once.field-0.0.fault) c.in_err-levels-in-Once.ensures.says in
    rw (p.1, p.2) (answered_fault c.args.bytes.now (Err c.in_err-levels-in-Once.field-0.0.fault) answered)

pub returns-in_err-levels-in-Once-clause-reads : goal.returns-in_err-levels-in-Once-clause-reads
returns-in_err-levels-in-Once-clause-reads c =
    let p = err_from_is_err_and c.from_residual-in_err-levels-in-Once.result c.from_residual-in_err-levels-in-Once.ensures.1 in
    let answered = answers (goal.at.returns-in_err-levels-in-Once-clause-reads c).In-Once (Err c.in_err-levels-in-Once.field-0.0.fault) c.in_err-levels-in-Once.ensures.says in
    rw (p.1, p.2) (answered_reads c.args.bytes.now (Err c.in_err-levels-in-Once.field-0.0.fault) answered)

pub returns-in_err-levels-in-Once-clause-refuses : goal.returns-in_err-levels-in-Once-clause-refuses
returns-in_err-levels-in-Once-clause-refuses c =
    let p = err_from_is_err_and c.from_residual-in_err-levels-in-Once.result c.from_residual-in_err-levels-in-Once.ensures.1 in
    let answered = answers (goal.at.returns-in_err-levels-in-Once-clause-refuses c).In-Once (Err c.in_err-levels-in-Once.field-0.0.fault) c.in_err-levels-in-Once.ensures.says in
    rw (p.1, p.2) (answered_refuses c.args.bytes.now (Err c.in_err-levels-in-Once.field-0.0.fault) (c.text_or_fault.ensures.not_both c.args.bytes.now) answered)

pub returns-in_ok-levels-in-Once-clause-tower : goal.returns-in_ok-levels-in-Once-clause-tower
returns-in_ok-levels-in-Once-clause-tower c =
    let tower = contents_with c.in_ok-levels-in-Once.levels c.in_ok-levels-in-Once.registers in
    let answered = answers (goal.at.returns-in_ok-levels-in-Once-clause-tower c).In-Once (Ok tower) c.in_ok-levels-in-Once.ensures.says in
    answered_tower c.args.bytes.now (Ok tower) answered

pub returns-in_ok-levels-in-Once-clause-reads : goal.returns-in_ok-levels-in-Once-clause-reads
returns-in_ok-levels-in-Once-clause-reads c =
    let tower = contents_with c.in_ok-levels-in-Once.levels c.in_ok-levels-in-Once.registers in
    let answered = answers (goal.at.returns-in_ok-levels-in-Once-clause-reads c).In-Once (Ok tower) c.in_ok-levels-in-Once.ensures.says in
    answered_reads c.args.bytes.now (Ok tower) answered

pub returns-in_ok-levels-in-Once-clause-refuses : goal.returns-in_ok-levels-in-Once-clause-refuses
returns-in_ok-levels-in-Once-clause-refuses c =
    let tower = contents_with c.in_ok-levels-in-Once.levels c.in_ok-levels-in-Once.registers in
    let answered = answers (goal.at.returns-in_ok-levels-in-Once-clause-refuses c).In-Once (Ok tower) c.in_ok-levels-in-Once.ensures.says in
    answered_refuses c.args.bytes.now (Ok tower) (c.text_or_fault.ensures.not_both c.args.bytes.now) answered

pub returns-in-Absent : goal.returns-in-Absent
returns-in-Absent c =
    let answered = other_found c.args.bytes.now c.in_ok-element.field-0 (c.one_division.ensures c.args.bytes.now) c.in_ok-element.ensures.text c.in-Absent.is in
    let refused : Result TowerModel TowerFault = Err (Shape File) in
    record {
      tower = answered_tower c.args.bytes.now refused answered;
      fault = answered_fault c.args.bytes.now refused answered;
      reads = answered_reads c.args.bytes.now refused answered;
      refuses = answered_refuses c.args.bytes.now refused (c.text_or_fault.ensures.not_both c.args.bytes.now) answered;
      span = λ other. at_whole c.args.bytes.now c.in_ok-element.field-0 (c.one_division.ensures c.args.bytes.now) c.in_ok-element.ensures.text c.in-Absent.is;
      nowhere = λ wanted. absurd cc;
      memory = λ wanted. absurd cc;
    }

pub returns-in_err-levels-in-Once-clause-memory : goal.returns-in_err-levels-in-Once-clause-memory
returns-in_err-levels-in-Once-clause-memory c =
    let p = err_from_is_err_and c.from_residual-in_err-levels-in-Once.result c.from_residual-in_err-levels-in-Once.ensures.1 in
    rw (p.1, p.2) (λ wanted. inr (kept_file c.args.bytes.now c.in-Once.element c.in_ok-element.field-0 c.in-Once.is c.in_ok-element.ensures.text (c.each_lent_is_element.ensures c.in-Once.element) (some_form (goal.at.returns-in_err-levels-in-Once-clause-memory c).In-Once) (c.in_err-levels-in-Once.ensures.memory wanted)))

pub returns-in_err-element-clause-nowhere : goal.returns-in_err-element-clause-nowhere
returns-in_err-element-clause-nowhere c =
    let p = err_from_is_err_and c.from_residual.result c.from_residual.ensures.1 in
    rw (p.1, p.2) (c.in_err-element.ensures.nowhere)

pub returns-in_err-levels-in-Once-clause-nowhere : goal.returns-in_err-levels-in-Once-clause-nowhere
returns-in_err-levels-in-Once-clause-nowhere c =
    let p = err_from_is_err_and c.from_residual-in_err-levels-in-Once.result c.from_residual-in_err-levels-in-Once.ensures.1 in
    rw (p.1, p.2) (c.in_err-levels-in-Once.ensures.nowhere)
