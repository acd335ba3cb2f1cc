-- What files hold.
use Rattle.std.specs.Prelude.{◌≡◌, ℕ, List, map, Option, Some}
use Rattle.clap.specs.Words.{Text}

-- these are the bytes that the files of these names hold
abbrev pub AreHeld : (Text → Option (List ℕ)) → List Text → List (List ℕ) → Type 0
AreHeld files names texts = map files names ≡ map (λ text. Some text) texts
