use Rattle.std.proofs.Common.{rules, codes, length, map, vec_len, ◌≡◌, sym}
use Rattle.std.proofs.lemmas.List.{length-map}
use Rattle.clap.specs.Words.{found_of, rows_of}
use Rattle.words.proofs.Arguments.{value_in}
use Rattle.words.proofs.Commands.{is_check, no_tower}
use Rattle.words.proofs.check.check_of.Goals as goal

pub returns-in_default-clause-asks : goal.returns-in_default-clause-asks
returns-in_default-clause-asks c = no_tower (rows_of (found_of c.args.found.now)) c.in_default.ensures

pub returns-clause-asks : goal.returns-clause-asks
returns-clause-asks c =
    let found = c.args.found.now in
    let many : length c.in_ok-traces.traces.items ≡ vec_len c.in_ok-traces.traces = search rules in
    is_check (rows_of (found_of found)) _ c.in-Some-shards_of.shards c.in-Some-moments_of.moments _ c.in-Some-form_of.form c.in-Some-only_of.only_failing c.in-Some-demand_of.demand (map (λ name. name.now) c.in_ok-traces.traces.items)
    c.in-Some.ensures c.in-Some-shards_of.ensures.asks c.in-Some-moments_of.ensures
    (value_in found (codes "order") _ c.get_str.ensures) c.in-Some-form_of.ensures c.in-Some-only_of.ensures c.in-Some-demand_of.ensures c.in_ok-traces.ensures
    (rw (length-map, many) (sym c.if-is_empty.ensures))
