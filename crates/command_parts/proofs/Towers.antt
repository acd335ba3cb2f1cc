-- What is so of the tower file that is asked for.
use Rattle.std.proofs.Common.{◌≡◌, ℕ, List, Option, Some, None, map, subst}
use Rattle.std.specs.Prelude.{IfSome}
use Rattle.std.specs.Borrow.{Bor}
use Rattle.clap.specs.Words.{Text}
use Rattle.words.specs.Words.{AskedTower, OfFile, OfTraces}
use Rattle.command_parts.specs.Tower.{OfTower}

of_known : (held : Option (List ℕ)) (P Q : List ℕ → Type 0) → ((file : List ℕ) → P file → Q file) → IfSome held P → IfSome held Q
of_known None P Q follows is = tt
of_known (Some file) P Q follows is = follows file is

-- what follows for each file follows for the one that is asked for
of_tower : (tower : AskedTower) (files : Text → Option (List ℕ)) (names : List Text) (P Q : List ℕ → Type 0) → ((file : List ℕ) → P file → Q file) → OfTower tower files names P → OfTower tower files names Q
of_tower (OfFile name) files names P Q follows is = of_known (files name) P Q follows is
of_tower (OfTraces kind) files names P Q follows is = λ traces held. let it = is traces held in (it.0, it.1, it.2, follows it.1 it.3)

-- the same, where the names of the traces are lent
pub of_lent_tower : (tower : AskedTower) (files : Text → Option (List ℕ)) (names lent : List (Bor (List ℕ))) (P Q : List ℕ → Type 0) → lent ≡ names → ((file : List ℕ) → P file → Q file)
    → OfTower tower files (map (λ name. name.now) lent) P → OfTower tower files (map (λ name. name.now) names) Q
of_lent_tower tower files names lent P Q same follows is =
    of_tower tower files (map (λ name. name.now) names) P Q follows (subst (λ (all : List (Bor (List ℕ))). OfTower tower files (map (λ name. name.now) all) P) same is)
