use Rattle.std.proofs.Common.{◌≡◌, ◌∙◌, false, sym, ap, subst, rules}
use Rattle.std.specs.Prelude.{option_copied}
use Rattle.intervals.specs.Operation.{IsJudgedRead}
use Rattle.zone_tree.specs.declared.edge.Edge.TheVariants.{At}
use Rattle.zones.specs.Edges.{read_part}
use Rattle.zones.specs.Members.{IsGreatestBegin}
use Rattle.zones.proofs.EdgesOf.{begin_more, begin_same, edges_apart}
use Rattle.zones.proofs.edges.read_begin_after.Goals as goal

pub returns-then-is_begun_by : goal.returns-then-is_begun_by
returns-then-is_begun_by c ops later are change members = c.read_begin.ensures later members

pub returns-in-Some : goal.returns-in-Some
returns-in-Some c ops later are change members =
    let edges = c.args.before.now in
    let read = c.in-Some.read.now in
    let apart : c.is_begun_by.result ≡ false = search rules in
    subst (IsGreatestBegin IsJudgedRead later edges.value) (sym c.max.ensures)
    (begin_more ops c.args.old.now c.args.new.now later change edges.value edges.read_begin
    (edges_apart (λ op. At op.begin) edges.read_begin (read_part edges.value c.args.old.now) (c.is_begun_by.ensures apart))
    read (sym c.read_in.ensures ∙ ap option_copied c.in-Some.is) are.read.begin)

pub returns-in-None : goal.returns-in-None
returns-in-None c ops later are change members =
    let edges = c.args.before.now in
    let apart : c.is_begun_by.result ≡ false = search rules in
    begin_same ops c.args.old.now c.args.new.now later change edges.value edges.read_begin
    (edges_apart (λ op. At op.begin) edges.read_begin (read_part edges.value c.args.old.now) (c.is_begun_by.ensures apart))
    (sym c.read_in.ensures ∙ ap option_copied c.in-None.is) are.read.begin
