use Rattle.std.proofs.Common.{◌≡◌, ◌∙◌, Option, Some, None, sym, subst}
use Rattle.std.specs.Prelude.{MatchOption}
use Rattle.intervals.specs.declared.operation.Op.{Op}
use Rattle.intervals.specs.Kind.{HasNoWrite}
use Rattle.zones.specs.declared.edges.Edges.{Edges}
use Rattle.zones.specs.Edges.{NamesWrite}
use Rattle.zones.specs.Members.{IsTheWriteAt}
use Rattle.zones.proofs.Recorded.{named_found}
use Rattle.zones.proofs.records.Records.write_of.Goals as goal

pub returns-in_err-id : goal.returns-in_err-id
returns-in_err-id c recorded distinct =
    let ops = c.args.table.now.ops in
    let v = c.args.value in
    let name : c.edges_at.result.write_id ≡ None = c.in_err-id.was in
    subst (λ (o : Option Op). MatchOption o (HasNoWrite ops v) (IsTheWriteAt ops v)) (sym c.from_residual.ensures)
    (subst (NamesWrite ops v) name (subst (λ (e : Edges). NamesWrite ops v e.write_id) (sym c.edges_at.ensures) (recorded.edges v).named))

pub returns : goal.returns
returns c recorded distinct =
    let ops = c.args.table.now.ops in
    let v = c.args.value in
    let name : c.edges_at.result.write_id ≡ Some c.in_ok-id.id = c.in_ok-id.was in
    subst (λ (o : Option Op). MatchOption o (HasNoWrite ops v) (IsTheWriteAt ops v)) (sym (c.copied.ensures ∙ c.get.ensures))
    (named_found ops v distinct c.in_ok-id.id (subst (NamesWrite ops v) name (subst (λ (e : Edges). NamesWrite ops v e.write_id) (sym c.edges_at.ensures) (recorded.edges v).named)))
