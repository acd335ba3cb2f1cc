-- The line of a register's verdict.
use Rattle.std.specs.Prelude.{ℕ, Bool, List, [], ◌∷◌, ◌++◌, codes}
use Rattle.std.specs.Fmt.{decimal}
use Rattle.intervals.specs.declared.claim.Kind.{Kind}
use Rattle.phrases.specs.Names.{printed, kind_word, verdict_word}

-- the line of a register: its name, its kind, its verdict and how many operations it has
abbrev pub register_line : List ℕ → Kind → Bool → ℕ → List ℕ
register_line name kind holds operations =
    codes "register " ++ printed name ++ codes " " ++ kind_word kind ++ codes " " ++ verdict_word holds ++ codes " " ++ decimal operations ++ 10 ∷ []
