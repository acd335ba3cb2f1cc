use Rattle.std.proofs.Common.{◌<◌, ◌∙◌, List, Option, Some, None, Vec, length, map, refl, ap, subst, sym}
use Rattle.std.proofs.lemmas.List.{length-map}
use Rattle.std.specs.Prelude.{IfOk, IfSome, IsSome, Result, Ok, Err}
use Rattle.std.specs.declared.alloc.Global.{Global}
use Rattle.intervals.specs.declared.operation.RegId.{RegId}
use Rattle.tower_file.specs.Contents.{TowerModel}
use Rattle.shards.specs.Closing.{ClosedShard, book_of}
use Rattle.logs.specs.declared.log.Log.{Log}
use Rattle.report.specs.declared.doubt.Doubt.{Doubt}
use Rattle.report.specs.declared.finding.Finding.{Finding}
use Rattle.report.specs.Doubt.{AreDoubts}
use Rattle.report.specs.Finding.{AreFindings, IsOfTower, fails_of}
use Rattle.report.proofs.Found.{has_book}
use Rattle.records.specs.declared.allowed.Allowed.{Allowed}
use Rattle.records.specs.Ends.{end_of_records, head_record}
use Rattle.records.specs.Explained.{AreAllowed}
use Rattle.records.specs.Line.{record_line}
use Rattle.records.specs.Run.{asked_records, logs_records, names_of, records_of, registers_records, totals_of}
use Rattle.records.proofs.Explaining.{as_many}
use Rattle.records.proofs.AllLines.{all_lines}
use Rattle.records.proofs.run.records_text.Goals as goal

weaker : {X E : Type 0} (r : Result X E) (P Q : X → Type 0) → ((x : X) → P x → Q x) → IfOk r P → IfOk r Q
weaker (Ok x) P Q f p = f x p
weaker (Err e) P Q f p = tt

has_book_of : (tower : TowerModel) (closed : List ClosedShard) (order : Option RegId) → IsOfTower tower closed → IfSome order (λ id. id.0 < length tower.registers) → IfSome order (λ id. IsSome (book_of closed id.0))
has_book_of tower closed None of_tower within = tt
has_book_of tower closed (Some id) of_tower within = has_book tower closed id.0 of_tower within

pub text_of-requires-clause-there : goal.text_of-requires-clause-there
text_of-requires-clause-there c =
    has_book_of c.args.tower.now c.args.run.now.closed c.args.form.now.order c.requires.of_tower c.requires.order

pub text_of-requires-clause-each : goal.text_of-requires-clause-each
text_of-requires-clause-each c =
    ap (λ (all : List (Vec Allowed Global)). length all) c.deref-9.ensures.value
    ∙ sym (length-map c.in_ok-allowed.allowed.items (λ (allowed : Vec Allowed Global). allowed.items))
    ∙ as_many c.args.tower.now c.args.run.now.closed 0 c.deref-5.result.now (map (λ (allowed : Vec Allowed Global). allowed.items) c.in_ok-allowed.allowed.items) c.in_ok-allowed.ensures

pub returns-clause-records : goal.returns-clause-records
returns-clause-records c =
    let form = c.args.form.now in
    let tower = c.args.tower.now in
    let closed = c.args.run.now.closed in
    let logs = c.args.run.now.logs.items in
    let names = names_of form in
    let findings = c.deref-5.result.now in
    let places = c.in_ok-places.places in
    let doubts = c.deref-8.result.now in
    let allowed = map (λ (allowed : Vec Allowed Global). allowed.items) c.deref-9.result.now in
    weaker c.text_of.result _ _
    (λ text is. record {
      records = records_of places names form.only_failing form.status tower findings doubts allowed logs is.0;
      are = record {
        findings = findings;
        many = ap (λ (found : List Finding). length found) c.deref-5.ensures.value ∙ c.in_ok-each.ensures.many;
        found = subst (λ (found : List Finding). AreFindings closed 0 found) (sym c.deref-5.ensures.value) c.in_ok-each.ensures.found;
        doubts = doubts;
        doubted = subst (λ (found : List Finding). AreDoubts found logs doubts) (c.deref-3.ensures.value ∙ sym c.deref-5.ensures.value)
            (subst (λ (all : List Log). AreDoubts c.deref-3.result.now all doubts) c.deref-4.ensures.value
            (subst (λ (all : List Doubt). AreDoubts c.deref-3.result.now c.deref-4.result.now all) (sym c.deref-8.ensures.value) c.in_ok-doubts.ensures));
        allowed = allowed;
        explained = subst (λ (all : List (Vec Allowed Global)). AreAllowed tower closed 0 findings (map (λ (allowed : Vec Allowed Global). allowed.items) all)) (sym c.deref-9.ensures.value) c.in_ok-allowed.ensures;
        asked = is.0;
        is_asked = is.1;
        places = places;
        are_places = c.in_ok-places.ensures;
        records_are = refl;
      };
      text_is = is.2 ∙ sym (all_lines (record_line form.notation) (head_record names.tower (length tower.registers) names.traces names.moments) (end_of_records form.status (totals_of tower findings logs) names.least)
          (registers_records places tower (fails_of findings) doubts form.only_failing 0 findings allowed) (logs_records places tower.registers 0 logs) (asked_records tower.registers is.0));
    })
    c.text_of.ensures.text
