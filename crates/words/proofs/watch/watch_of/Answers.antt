use Rattle.std.proofs.Common.{rules, length, map, vec_len, ◌≡◌, sym}
use Rattle.std.proofs.lemmas.List.{length-map}
use Rattle.clap.specs.Words.{found_of, rows_of}
use Rattle.words.proofs.Commands.{is_watch, no_tower_to_watch}
use Rattle.words.proofs.watch.watch_of.Goals as goal

pub returns-in_default-clause-asks : goal.returns-in_default-clause-asks
returns-in_default-clause-asks c = no_tower_to_watch (rows_of (found_of c.args.found.now)) c.in_default.ensures

pub returns-clause-asks : goal.returns-clause-asks
returns-clause-asks c =
    let found = c.args.found.now in
    let many : length c.in_ok-traces.traces.items ≡ vec_len c.in_ok-traces.traces = search rules in
    is_watch (rows_of (found_of found)) _ c.in-Some-moments_of.moments c.in-Some-shards_of.shards c.in-Some-line_form_of.form c.is_set.result c.in-Some-count_of.settle c.in-Some-demand_of.demand (map (λ name. name.now) c.in_ok-traces.traces.items)
    c.in-Some.ensures c.in-Some-moments_of.ensures c.in-Some-shards_of.ensures.asks c.in-Some-line_form_of.ensures c.is_set.ensures c.in-Some-count_of.ensures c.in-Some-demand_of.ensures c.in_ok-traces.ensures
    (rw (length-map, many) (sym c.if-is_empty.ensures))
