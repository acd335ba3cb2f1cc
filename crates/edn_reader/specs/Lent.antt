-- What the program lends: elements, and views of maps and vectors with what is left in them.
use Rattle.std.specs.Prelude.{◌≡◌, ℕ, List, [], ◌∷◌, length, Option, Some, None}
use Rattle.edn_reader.specs.declared.element.Element.{Element}
use Rattle.edn_reader.specs.declared.parts.Parts.{Parts}
use Rattle.edn_reader.specs.declared.token.Opener.{Opener}
use Rattle.edn_reader.specs.declared.token.Opener.TheVariants as openers
use Rattle.edn_reader.specs.declared.view.MapView.{MapView}
use Rattle.edn_reader.specs.declared.view.VectorView.{VectorView}
use Rattle.edn_reader.specs.Grammar.{ElementModel}
use Rattle.edn_reader.specs.Pairs.{PartsFrom, in_turn}

-- the model of an element of the program: its kind, its first place, its bytes and its core
abbrev pub piece_of : Element → ElementModel
piece_of element = record { kind = element.kind; start = element.start; text = element.text.now; core = element.core }

-- these elements are left between the brackets of what was opened
abbrev pub PartsLeft : Opener → Parts → List ElementModel → Type 0
PartsLeft opener parts pieces = PartsFrom opener parts.at parts.left.now pieces

-- some elements are left up to the bracket that closes them
abbrev pub HoldsParts : Parts → Type 0
HoldsParts parts = (opener : Opener) × (pieces : List ElementModel) × PartsLeft opener parts pieces

-- how many bytes are left between brackets, with the closing one
abbrev pub part_bytes : Parts → ℕ
part_bytes parts = length parts.left.now

-- what the next call answers where these elements are left: none where there are none, else the first, and then the
-- others are left
abbrev pub NextPart : Opener → Option Element → Parts → List ElementModel → Type 0
NextPart opener None parts pieces = pieces ≡ []
NextPart opener (Some element) parts [] = ⊥
NextPart opener (Some element) parts (piece ∷ pieces) = (piece_of element ≡ piece) × PartsLeft opener parts pieces

-- these elements are left in a view of a vector
abbrev pub MembersLeft : VectorView → List ElementModel → Type 0
MembersLeft view members = PartsLeft openers.Vector view.parts members

-- how many bytes are left in a view of a vector
abbrev pub members_left : VectorView → ℕ
members_left view = part_bytes view.parts

-- what the next call on a view of a vector answers where these elements are left: none where there are none, else the
-- first, and then the others are left
abbrev pub NextMember : Option Element → VectorView → List ElementModel → Type 0
NextMember element view members = NextPart openers.Vector element view.parts members

-- these pairs are left in a view of a map
abbrev pub PairsLeft : MapView → List (ElementModel × ElementModel) → Type 0
PairsLeft view pairs = PartsLeft openers.Map view.parts (in_turn pairs)

-- how many bytes are left in a view of a map
abbrev pub bytes_left : MapView → ℕ
bytes_left view = part_bytes view.parts

-- what the next call on a view of a map answers where these pairs are left: none where there are none, else the first,
-- and then the others are left
abbrev pub NextPair : Option (Element × Element) → MapView → List (ElementModel × ElementModel) → Type 0
NextPair None view pairs = pairs ≡ []
NextPair (Some pair) view [] = ⊥
NextPair (Some pair) view (first ∷ pairs) = (piece_of pair.0 ≡ first.0) × (piece_of pair.1 ≡ first.1) × PairsLeft view pairs
