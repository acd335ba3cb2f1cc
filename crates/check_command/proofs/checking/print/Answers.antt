use Rattle.std.proofs.lemmas.Result.{IfErr-weaker}
use Rattle.check_command.proofs.checking.print.Goals as goal

pub returns-in-Report-clause-quiet : goal.returns-in-Report-clause-quiet
returns-in-Report-clause-quiet g c = IfErr-weaker c.reported.result _ _ (λ fault known apart. c.report.ensures.memory (known apart)) c.reported.ensures.memory

pub returns-in-Summary-clause-quiet : goal.returns-in-Summary-clause-quiet
returns-in-Summary-clause-quiet g c = IfErr-weaker c.reported-in-Summary.result _ _ (λ fault known apart. c.print_summary.ensures.memory (known apart)) c.reported-in-Summary.ensures.memory

pub returns-in-Json-clause-quiet : goal.returns-in-Json-clause-quiet
returns-in-Json-clause-quiet g c = IfErr-weaker c.reported-in-Json.result _ _ (λ fault known apart. c.print_records.ensures.memory (known apart)) c.reported-in-Json.ensures.memory

pub returns-in-Edn-clause-quiet : goal.returns-in-Edn-clause-quiet
returns-in-Edn-clause-quiet g c = IfErr-weaker c.reported-in-Edn.result _ _ (λ fault known apart. c.print_records-in-Edn.ensures.memory (known apart)) c.reported-in-Edn.ensures.memory

pub returns-in-GitHub-clause-quiet : goal.returns-in-GitHub-clause-quiet
returns-in-GitHub-clause-quiet g c = IfErr-weaker c.reported-in-GitHub.result _ _ (λ fault known apart. c.print_for_ci.ensures.memory (known apart)) c.reported-in-GitHub.ensures.memory

pub returns-in-Junit-clause-quiet : goal.returns-in-Junit-clause-quiet
returns-in-Junit-clause-quiet g c = IfErr-weaker c.reported-in-Junit.result _ _ (λ fault known apart. c.print_for_ci-in-Junit.ensures.memory (known apart)) c.reported-in-Junit.ensures.memory
