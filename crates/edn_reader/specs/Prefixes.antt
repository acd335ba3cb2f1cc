-- How the elements of a prefix relate to those of the whole.
use Rattle.std.specs.Prelude.{◌≡◌, ◌⊎◌, ℕ, Bool, true, false, List, [], ◌∷◌, ◌++◌}
use Rattle.edn_reader.specs.declared.element.ElementKind.{ElementKind}
use Rattle.edn_reader.specs.declared.element.ElementKind.TheVariants as kinds
use Rattle.edn_reader.specs.Grammar.{ElementModel}

-- whether this is the kind of a run, Atom or Char, which goes on up to a delimiter or the end
abbrev pub is_run_kind : ElementKind → Bool
is_run_kind kinds.Atom = true
is_run_kind kinds.Char = true
is_run_kind kinds.Text = false
is_run_kind kinds.List = false
is_run_kind kinds.Vector = false
is_run_kind kinds.Map = false
is_run_kind kinds.Set = false
is_run_kind kinds.Tagged = false

-- the element with these bytes added at its end
abbrev pub with_bytes : ElementModel → List ℕ → ElementModel
with_bytes piece added = record { kind = piece.kind; start = piece.start; text = piece.text ++ added; core = piece.core }

-- the second element is the first, or the first with more bytes at its end where the core of that is a run
abbrev pub GoesOnAs : ElementModel → ElementModel → Type 0
GoesOnAs piece longer = (piece ≡ longer) ⊎ ((is_run_kind piece.core.kind ≡ true) × (added : List ℕ) × (longer ≡ with_bytes piece added))

-- the first list is a prefix of the second, in which the last of its elements may be longer (`GoesOnAs`)
abbrev pub ArePrefix : List ElementModel → List ElementModel → Type 0
ArePrefix [] all = Unit {0}
ArePrefix (piece ∷ pieces) [] = ⊥
ArePrefix (piece ∷ []) (other ∷ all) = GoesOnAs piece other
ArePrefix (piece ∷ second ∷ pieces) (other ∷ all) = (piece ≡ other) × ArePrefix (second ∷ pieces) all
