-- The lines of registers, one after another.
use Rattle.std.proofs.Common.{◌≡◌, ℕ, ◌+◌, ◌<◌, List, [], ◌∷◌, ◌++◌, length, take, get_or, Some, append_assoc}
use Rattle.std.specs.Prelude.{flat_map}
use Rattle.std.specs.List.{slice_get}
use Rattle.std.proofs.lemmas.Option.{slice_get-get_or}
use Rattle.std.proofs.lemmas.List.{take_more, append-nil}
use Rattle.std.proofs.lemmas.List.Concat.{flat_map-append}
use Rattle.keys.specs.Named.{NamedModel}

-- the lines of one more register
pub one_more_line : (f : NamedModel → List ℕ) (registers : List NamedModel) (number : ℕ) (first : NamedModel) (before old new : List ℕ) → number < length registers
    → old ≡ before ++ flat_map f (take number registers) → ((entry : NamedModel) → slice_get registers number ≡ Some entry → new ≡ old ++ f entry)
    → new ≡ before ++ flat_map f (take (number + 1) registers)
one_more_line f registers number first before old new within so_far goes =
    let entry = get_or registers number first in
    let is = goes entry (slice_get-get_or registers number first within) in
    rw (is, so_far, take_more registers number first within, flat_map-append f (take number registers) (entry ∷ []), append-nil (f entry)) (append_assoc before (flat_map f (take number registers)) (f entry))
