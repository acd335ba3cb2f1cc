-- There are as many commands and cases as what they are of.
use Rattle.std.proofs.Common.{◌≡◌, ◌∙◌, ℕ, ◌+◌, Bool, true, false, cond, eqb, List, [], ◌∷◌, ◌++◌, Option, Some, None, length, refl, ap, arith}
use Rattle.std.proofs.lemmas.List.{length-append}
use Rattle.std.proofs.lemmas.List.Sums.{sum_by-cons}
use Rattle.std.specs.Prelude.{count_by, is_some}
use Rattle.std.specs.Option.{option_map_or}
use Rattle.logs.specs.declared.log.Broken.{Broken}
use Rattle.logs.specs.declared.log.Log.{Log}
use Rattle.report.specs.declared.finding.Finding.{Finding}
use Rattle.report.specs.Few.{few_text}
use Rattle.report.specs.Summary.{is_broken, is_failing}
use Rattle.ci_forms.specs.Facts.{CiFacts}
use Rattle.ci_forms.specs.GitHub.{break_command_of, break_commands, failure_command_of, failure_commands}
use Rattle.ci_forms.specs.Junit.{break_case_of, break_cases, cases_for_few, cases_of, few_case, few_cases, register_cases, tests_of}

one_of : {A B : Type 0} (write : A → B) (found : Option A) → length (option_map_or (λ one. write one ∷ []) found []) ≡ cond (is_some found) 1 0
one_of write None = refl
one_of write (Some one) = refl

pub failures_counted : (facts : CiFacts) (number : ℕ) (findings : List Finding) → length (failure_commands facts number findings) ≡ count_by is_failing findings
failures_counted facts number [] = refl
failures_counted facts number (finding ∷ findings) =
    let first : length (failure_command_of facts number finding) ≡ cond (is_failing finding) 1 0 = one_of _ finding.witness in
    let rest = failures_counted facts (number + 1) findings in
    omega (arith, length-append (failure_command_of facts number finding) (failure_commands facts (number + 1) findings), first, rest, sum_by-cons (λ (one : Finding). cond (is_failing one) 1 0) finding findings)

break_command_counted : (facts : CiFacts) (feeder : ℕ) (broken : Option Broken) → length (break_command_of facts feeder broken) ≡ cond (is_some broken) 1 0
break_command_counted facts feeder None = refl
break_command_counted facts feeder (Some broken) = refl

pub breaks_counted : (facts : CiFacts) (feeder : ℕ) (logs : List Log) → length (break_commands facts feeder logs) ≡ count_by is_broken logs
breaks_counted facts feeder [] = refl
breaks_counted facts feeder (log ∷ logs) =
    omega (
      arith,
      length-append (break_command_of facts feeder log.broken) (break_commands facts (feeder + 1) logs),
      break_command_counted facts feeder log.broken,
      breaks_counted facts (feeder + 1) logs,
      sum_by-cons (λ (one : Log). cond (is_broken one) 1 0) log logs,
    )

break_case_counted : (facts : CiFacts) (feeder : ℕ) (broken : Option Broken) → length (break_case_of facts feeder broken) ≡ cond (is_some broken) 1 0
break_case_counted facts feeder None = refl
break_case_counted facts feeder (Some broken) = refl

break_cases_counted : (facts : CiFacts) (feeder : ℕ) (logs : List Log) → length (break_cases facts feeder logs) ≡ count_by is_broken logs
break_cases_counted facts feeder [] = refl
break_cases_counted facts feeder (log ∷ logs) =
    omega (
      arith,
      length-append (break_case_of facts feeder log.broken) (break_cases facts (feeder + 1) logs),
      break_case_counted facts feeder log.broken,
      break_cases_counted facts (feeder + 1) logs,
      sum_by-cons (λ (one : Log). cond (is_broken one) 1 0) log logs,
    )

register_cases_counted : (facts : CiFacts) (number : ℕ) (findings : List Finding) → length (register_cases facts number findings) ≡ length findings
register_cases_counted facts number [] = refl
register_cases_counted facts number (finding ∷ findings) = omega (arith, register_cases_counted facts (number + 1) findings)

few_counted : (few : List ℕ) (none : Bool) → length (cond none [] (few_case few ∷ [])) ≡ cond none 0 1
few_counted few true = refl
few_counted few false = refl

pub cases_counted : (facts : CiFacts) → length (cases_of facts) ≡ tests_of facts (cases_for_few (few_text facts.least facts.findings))
cases_counted facts =
    let few = few_text facts.least facts.findings in
    let registers = register_cases facts 0 facts.findings in
    let breaks = break_cases facts 0 facts.logs in
    omega (
      arith,
      length-append (registers ++ breaks) (few_cases few),
      length-append registers breaks,
      register_cases_counted facts 0 facts.findings,
      break_cases_counted facts 0 facts.logs,
      few_counted few (eqb (length few) 0),
    )
