-- Of a least number that is 0 nothing is too few.
use Rattle.std.proofs.Common.{◌≡◌, ◌∙◌, ℕ, Bool, false, cond, List, [], ◌∷◌, ◌++◌, append-nil, refl, ap, arith}
use Rattle.std.proofs.lemmas.Bool.Decides.{nat_tests}
use Rattle.std.proofs.lemmas.List.Sums.{sum_by-cons}
use Rattle.std.specs.Prelude.{count_by, length, nat_lt}
use Rattle.report.specs.declared.few.Least.{Least}
use Rattle.report.specs.declared.finding.Finding.{Finding}
use Rattle.report.specs.Few.{few_each_line, few_line, few_text, has_fewer, operations}
use Rattle.ci_forms.specs.Facts.{few_of_all}

none_below : (n : ℕ) → nat_lt n 0 ≡ false
none_below n = grind (arith, nat_tests)

none_fewer : (findings : List Finding) → count_by (has_fewer 0) findings ≡ 0
none_fewer [] = refl
none_fewer (finding ∷ findings) = sum_by-cons (λ (one : Finding). cond (has_fewer 0 one) 1 0) finding findings ∙ rw (none_below finding.operations, none_fewer findings) refl

pub all_alone : (least : Least) (findings : List Finding) → few_text (record { all = least.all; each = 0 }) findings ≡ few_of_all least findings
all_alone least findings =
    ap (λ (many : ℕ). few_line (operations findings) least.all ++ few_each_line many (length findings) 0) (none_fewer findings)
    ∙ append-nil (few_line (operations findings) least.all)
