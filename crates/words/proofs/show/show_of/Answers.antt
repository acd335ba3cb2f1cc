use Rattle.std.proofs.Common.{rules, codes, length, map, vec_len, ◌≡◌, sym}
use Rattle.std.proofs.lemmas.List.{length-map}
use Rattle.clap.specs.Words.{found_of, rows_of}
use Rattle.words.proofs.Arguments.{value_in}
use Rattle.words.proofs.Commands.{colours_by, is_show, no_tower_to_show}
use Rattle.words.proofs.show.show_of.Goals as goal

pub returns-in_default-clause-asks : goal.returns-in_default-clause-asks
returns-in_default-clause-asks c = no_tower_to_show (rows_of (found_of c.args.found.now)) c.in_default.ensures

pub returns-clause-asks : goal.returns-clause-asks
returns-clause-asks c =
    let found = c.args.found.now in
    let many : length c.in_ok-traces.traces.items ≡ vec_len c.in_ok-traces.traces = search rules in
    is_show (rows_of (found_of found)) _ c.in-Some-moments_of.moments _ c.in-Some-picture_of.picture c.in-Some-count_of.around c.is_set.result c.count_of-2.result c.in-Some-theme_of.theme c.in-Some-colours_of.colours c.in-Some-demand_of.demand (map (λ name. name.now) c.in_ok-traces.traces.items)
    c.in-Some.ensures c.in-Some-moments_of.ensures (value_in found (codes "register") _ c.get_str.ensures) c.in-Some-picture_of.ensures c.in-Some-count_of.ensures
    c.is_set.ensures c.count_of-2.ensures c.in-Some-theme_of.ensures (colours_by (rows_of (found_of found)) _ _ _ c.is_in_lines.ensures c.in-Some-colours_of.ensures) c.in-Some-demand_of.ensures c.in_ok-traces.ensures
    (rw (length-map, many) (sym c.if-is_empty.ensures))
