use Rattle.words.proofs.Asking.{plain_show, whole_show, svg, ascii, any_names_to_show, two_pictures, three_pictures, each_show, no_trace_to_show, no_theme, refused_widths, taken_shows}
use Rattle.words.proofs.laws.shows_in_turn.Goals as goal

pub returns-clause-plain : goal.returns-clause-plain
returns-clause-plain c = plain_show

pub returns-clause-whole : goal.returns-clause-whole
returns-clause-whole c = whole_show

pub returns-clause-svg : goal.returns-clause-svg
returns-clause-svg c = svg

pub returns-clause-ascii : goal.returns-clause-ascii
returns-clause-ascii c = ascii

pub returns-clause-any_names : goal.returns-clause-any_names
returns-clause-any_names c = any_names_to_show

pub returns-clause-two_pictures : goal.returns-clause-two_pictures
returns-clause-two_pictures c = two_pictures

pub returns-clause-three_pictures : goal.returns-clause-three_pictures
returns-clause-three_pictures c = three_pictures

pub returns-clause-each : goal.returns-clause-each
returns-clause-each c = each_show

pub returns-clause-no_trace : goal.returns-clause-no_trace
returns-clause-no_trace c = no_trace_to_show

pub returns-clause-no_theme : goal.returns-clause-no_theme
returns-clause-no_theme c = no_theme

pub returns-clause-refused_widths : goal.returns-clause-refused_widths
returns-clause-refused_widths c = refused_widths

pub returns-clause-taken : goal.returns-clause-taken
returns-clause-taken c = taken_shows
