use Rattle.words.proofs.Asking.{coloured_shows, coloured_findings, coloured_entries, no_colours, no_colour_word}
use Rattle.words.proofs.laws.colours_in_turn.Goals as goal

pub returns-clause-shown : goal.returns-clause-shown
returns-clause-shown c = coloured_shows

pub returns-clause-found : goal.returns-clause-found
returns-clause-found c = coloured_findings

pub returns-clause-explained : goal.returns-clause-explained
returns-clause-explained c = coloured_entries

pub returns-clause-not_for_people : goal.returns-clause-not_for_people
returns-clause-not_for_people c = no_colours

pub returns-clause-no_word : goal.returns-clause-no_word
returns-clause-no_word c = no_colour_word
