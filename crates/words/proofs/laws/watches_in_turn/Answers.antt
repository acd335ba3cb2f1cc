use Rattle.words.proofs.Asking.{plain_watch, whole_watch, any_names_to_watch, each_watch, no_trace_to_watch, no_moment_to_watch, no_line_form, refused_settle, refused_shards_to_watch, taken_watch}
use Rattle.words.proofs.laws.watches_in_turn.Goals as goal

pub returns-clause-plain : goal.returns-clause-plain
returns-clause-plain c = plain_watch

pub returns-clause-whole : goal.returns-clause-whole
returns-clause-whole c = whole_watch

pub returns-clause-any_names : goal.returns-clause-any_names
returns-clause-any_names c = any_names_to_watch

pub returns-clause-each : goal.returns-clause-each
returns-clause-each c = each_watch

pub returns-clause-no_trace : goal.returns-clause-no_trace
returns-clause-no_trace c = no_trace_to_watch

pub returns-clause-no_moment : goal.returns-clause-no_moment
returns-clause-no_moment c = no_moment_to_watch

pub returns-clause-no_form : goal.returns-clause-no_form
returns-clause-no_form c = no_line_form

pub returns-clause-refused_shards : goal.returns-clause-refused_shards
returns-clause-refused_shards c = refused_shards_to_watch

pub returns-clause-taken : goal.returns-clause-taken
returns-clause-taken c = taken_watch

pub returns-clause-refused_settle : goal.returns-clause-refused_settle
returns-clause-refused_settle c = refused_settle
