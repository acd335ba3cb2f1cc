use Rattle.std.proofs.Common.{◌≡◌, length, map, rules, sym, vec_len}
use Rattle.std.proofs.lemmas.List.{length-map}
use Rattle.clap.specs.Words.{found_of, rows_of}
use Rattle.words.proofs.Commands.{is_keys}
use Rattle.words.proofs.keys.keys_of.Goals as goal

pub returns-clause-asks : goal.returns-clause-asks
returns-clause-asks c =
    let found = c.args.found.now in
    let many : length c.in_ok-traces.traces.items ≡ vec_len c.in_ok-traces.traces = search rules in
    is_keys (rows_of (found_of found)) c.in-Some.kind c.in-Some-initial_of.initial c.in-Some-any_of.any_writes (map (λ name. name.now) c.in_ok-traces.traces.items)
    c.in-Some.ensures c.in-Some-initial_of.ensures c.in-Some-any_of.ensures c.in_ok-traces.ensures
    (rw (length-map, many) (sym c.if-is_empty.ensures))
