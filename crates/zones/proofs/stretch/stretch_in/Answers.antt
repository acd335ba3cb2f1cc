use Rattle.std.proofs.Common.{◌≡◌, ◌∙◌, true, false, Some, subst, sym, rules}
use Rattle.std.proofs.lemmas.Bool.{both_ways}
use Rattle.std.proofs.lemmas.Bool.Decides.{not_from_Decides}
use Rattle.intervals.specs.declared.operation.Value.{Value}
use Rattle.intervals.specs.Refusal.{is_initial}
use Rattle.intervals.specs.Standing.{IsInitial}
use Rattle.intervals.specs.Terms.{terms_of}
use Rattle.intervals.proofs.Holders.{Decides-is_initial}
use Rattle.zone_tree.specs.declared.edge.Edge.{Edge}
use Rattle.zone_tree.specs.declared.edge.Edge.TheVariants.{At}
use Rattle.zone_tree.specs.Edge.{ComesBefore, edge_before}
use Rattle.zones.specs.Faults.{IsStretchAt, begin_of_write, first_end_of, write_of}
use Rattle.zones.proofs.EdgesOf.{first_end_by_edge, no_stretch, stretch_by_edge}
use Rattle.zones.proofs.stretch.stretch_in.Goals as goal

pub returns-then-not-comes_before : goal.returns-then-not-comes_before
returns-then-not-comes_before c ops value are =
    let edges = c.args.edges.now in
    let begin_is : c.begin_of.result ≡ begin_of_write (write_of ops value) = c.begin_of.ensures ops value are in
    let first : first_end_of ops value ≡ edges.read_end = first_end_by_edge ops value edges.read_begin edges.read_end are.read in
    let late : edge_before edges.read_end c.begin_of.result ≡ false = search rules in
    no_stretch (terms_of c.args.claim.now) ops value (λ fault.
    both_ways (edge_before edges.read_end c.begin_of.result) late
    (subst (λ (x : Edge). ComesBefore edges.read_end x) (sym begin_is) (subst (λ (x : Edge). ComesBefore x (begin_of_write (write_of ops value))) first fault.before)))

pub returns-then-is_initial : goal.returns-then-is_initial
returns-then-is_initial c ops value are =
    let claim = terms_of c.args.claim.now in
    let edges = c.args.edges.now in
    let first : is_initial claim edges.value ≡ true = search rules in
    no_stretch claim ops value (λ fault. fault.not_initial (subst (IsInitial claim) are.same ((Decides-is_initial claim edges.value).0 first)))

pub returns : goal.returns
returns c ops value are =
    let claim = terms_of c.args.claim.now in
    let edges = c.args.edges.now in
    let early : edge_before edges.read_end c.begin_of.result ≡ true = search rules in
    let later : is_initial claim edges.value ≡ false = search rules in
    let first : first_end_of ops value ≡ At c.in-At.end = first_end_by_edge ops value edges.read_begin edges.read_end are.read ∙ c.in-At.is in
    subst (λ (v : Value). IsStretchAt claim ops value (Some (record { end = c.in-At.end; written = c.is_written.result; value = v }))) (sym are.same)
    (stretch_by_edge claim ops value c.in-At.end first c.begin_of.result (c.begin_of.ensures ops value are) (subst (λ (x : Edge). ComesBefore x c.begin_of.result) c.in-At.is early)
    (subst (λ (v : Value). ¬ IsInitial claim v) are.same (not_from_Decides (is_initial claim edges.value) (Decides-is_initial claim edges.value) later))
    c.is_written.result (c.is_written.ensures ops value are))
