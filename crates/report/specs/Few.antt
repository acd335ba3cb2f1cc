-- What a summary says where fewer operations stand than were asked for.
use Rattle.std.specs.Prelude.{ℕ, Bool, List, [], ◌∷◌, ◌++◌, length, codes, nat_eq, nat_lt, if◌then◌else◌, count_by, sum_by}
use Rattle.std.specs.Fmt.{decimal}
use Rattle.report.specs.declared.few.Least.{Least}
use Rattle.report.specs.declared.few.TheConstants.{TOO_FEW, TOO_FEW_IN, LEAST, LEAST_EACH}
use Rattle.report.specs.declared.finding.Finding.{Finding}

-- how many operations stand in all registers together
abbrev pub operations : List Finding → ℕ
operations findings = sum_by (λ finding. finding.operations) findings

-- fewer operations stand in the register than this number
abbrev pub has_fewer : ℕ → Finding → Bool
has_fewer least finding = nat_lt finding.operations least

-- the line that says that so many operations are fewer than the least
abbrev pub few_words : ℕ → ℕ → List ℕ
few_words many least = TOO_FEW.now ++ decimal many ++ LEAST.now ++ decimal least ++ 10 ∷ []

-- that line where it is so; empty where it is not
abbrev pub few_line : ℕ → ℕ → List ℕ
few_line many least = if nat_lt many least then few_words many least else []

-- the line that says that in so many of all registers fewer operations stand than the least
abbrev pub few_each_words : ℕ → ℕ → ℕ → List ℕ
few_each_words short many least =
    TOO_FEW_IN.now ++ decimal short ++ codes " of " ++ decimal many ++ LEAST_EACH.now ++ decimal least ++ 10 ∷ []

-- that line; empty where that is so of no register
abbrev pub few_each_line : ℕ → ℕ → ℕ → List ℕ
few_each_line short many least = if nat_eq short 0 then [] else few_each_words short many least

-- the lines of what is too few, in all registers together and in each; empty where nothing is
abbrev pub few_text : Least → List Finding → List ℕ
few_text least findings =
    few_line (operations findings) least.all ++ few_each_line (count_by (has_fewer least.each) findings) (length findings) least.each
