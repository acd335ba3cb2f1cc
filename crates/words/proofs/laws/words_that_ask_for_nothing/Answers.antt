use Rattle.words.proofs.Asking.{alone, other, help, no_file, no_check, two_towers, no_kind, no_trace, no_moment, no_form, no_only, no_records, no_shell, nothing, refused, refused_checks, refused_shards, taken}
use Rattle.words.proofs.laws.words_that_ask_for_nothing.Goals as goal

pub returns-clause-alone : goal.returns-clause-alone
returns-clause-alone c = alone

pub returns-clause-other : goal.returns-clause-other
returns-clause-other c = other

pub returns-clause-help : goal.returns-clause-help
returns-clause-help c = help

pub returns-clause-no_file : goal.returns-clause-no_file
returns-clause-no_file c = no_file

pub returns-clause-no_check : goal.returns-clause-no_check
returns-clause-no_check c = no_check

pub returns-clause-two_towers : goal.returns-clause-two_towers
returns-clause-two_towers c = two_towers

pub returns-clause-no_kind : goal.returns-clause-no_kind
returns-clause-no_kind c = no_kind

pub returns-clause-no_trace : goal.returns-clause-no_trace
returns-clause-no_trace c = no_trace

pub returns-clause-no_moment : goal.returns-clause-no_moment
returns-clause-no_moment c = no_moment

pub returns-clause-none : goal.returns-clause-none
returns-clause-none c = nothing

pub returns-clause-refused : goal.returns-clause-refused
returns-clause-refused c = refused

pub returns-clause-refused_checks : goal.returns-clause-refused_checks
returns-clause-refused_checks c = refused_checks

pub returns-clause-refused_shards : goal.returns-clause-refused_shards
returns-clause-refused_shards c = refused_shards

pub returns-clause-taken : goal.returns-clause-taken
returns-clause-taken c = taken

pub returns-clause-no_form : goal.returns-clause-no_form
returns-clause-no_form c = no_form

pub returns-clause-no_shell : goal.returns-clause-no_shell
returns-clause-no_shell c = no_shell

pub returns-clause-no_only : goal.returns-clause-no_only
returns-clause-no_only c = no_only

pub returns-clause-no_records : goal.returns-clause-no_records
returns-clause-no_records c = no_records
