use Rattle.words.proofs.Asking.{any_names, between_traces, ci_check, each_check, edn_check, failing_check, json_check, plain_check, trace_check, two_traces, whole_check, whole_records}
use Rattle.words.proofs.laws.checks_in_turn.Goals as goal

pub returns-clause-plain : goal.returns-clause-plain
returns-clause-plain c = plain_check

pub returns-clause-whole : goal.returns-clause-whole
returns-clause-whole c = whole_check

pub returns-clause-two : goal.returns-clause-two
returns-clause-two c = two_traces

pub returns-clause-between : goal.returns-clause-between
returns-clause-between c = between_traces

pub returns-clause-each : goal.returns-clause-each
returns-clause-each c = each_check

pub returns-clause-any_names : goal.returns-clause-any_names
returns-clause-any_names c = any_names

pub returns-clause-json : goal.returns-clause-json
returns-clause-json c = json_check

pub returns-clause-edn : goal.returns-clause-edn
returns-clause-edn c = edn_check

pub returns-clause-for_ci : goal.returns-clause-for_ci
returns-clause-for_ci c = ci_check

pub returns-clause-small_trace : goal.returns-clause-small_trace
returns-clause-small_trace c = trace_check

pub returns-clause-failing : goal.returns-clause-failing
returns-clause-failing c = failing_check

pub returns-clause-whole_records : goal.returns-clause-whole_records
returns-clause-whole_records c = whole_records
