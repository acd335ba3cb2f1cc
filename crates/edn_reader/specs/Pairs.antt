-- What is between the brackets of an element, keywords and nil, and the pairs and fields of a map.
use Rattle.std.specs.Prelude.{◌≡◌, ℕ, ◌==◌, ◌&&◌, if◌then◌else◌, Bool, true, false, List, [], ◌∷◌, map, filter, Option, Some, None, codes}
use Rattle.std.specs.Str.{bytes_eq}
use Rattle.edn_reader.specs.declared.bytes.Bracket.{Bracket}
use Rattle.edn_reader.specs.declared.element.ElementKind.{ElementKind}
use Rattle.edn_reader.specs.declared.element.ElementKind.TheVariants as kinds
use Rattle.edn_reader.specs.declared.token.Opener.{Opener}
use Rattle.edn_reader.specs.declared.token.Opener.TheVariants as openers
use Rattle.edn_reader.specs.declared.token.Token.TheVariants.{Opens, Closes}
use Rattle.edn_reader.specs.Grammar.{ElementModel, untagged, IsToken, IsGap, IsElements, fits, kind_of}

-- the bytes from a place on are these elements, a gap, and the bracket that closes what was opened, which is the last
-- byte; before it at most 63 things are open at once
pub record PartsFrom (opener : Opener) (place : ℕ) (bytes : List ℕ) (parts : List ElementModel) : Type 0 where
  pub ends : ℕ
  pub beyond : List ℕ
  pub begins : ℕ
  pub following : List ℕ
  pub after : ℕ
  pub bracket : Bracket
  pub elements : IsElements 63 place bytes parts ends beyond
  pub gap : IsGap 63 ends beyond begins following
  pub close : IsToken (Closes bracket) begins following after []
  pub closes : fits opener bracket ≡ true

-- the element without its tags begins with this opener, and these elements, in order, are between its brackets (EDN)
pub record HasParts (opener : Opener) (piece : ElementModel) (parts : List ElementModel) : Type 0 where
  pub kind : piece.core.kind ≡ kind_of opener
  pub inner : ℕ
  pub left : List ℕ
  pub opens : IsToken (Opens opener) piece.core.start (untagged piece).text inner left
  pub inside : PartsFrom opener inner left parts

-- the element without its tags is a vector of these elements, in order
abbrev pub HasMembers : ElementModel → List ElementModel → Type 0
HasMembers piece members = HasParts openers.Vector piece members

-- the bytes from a place on are some elements and the bracket that closes a vector
abbrev pub HoldsMembers : ℕ → List ℕ → Type 0
HoldsMembers place bytes = (members : List ElementModel) × PartsFrom openers.Vector place bytes members

-- the keys and the values of pairs as one list: each key, then its value
abbrev pub in_turn : List (ElementModel × ElementModel) → List ElementModel
in_turn [] = []
in_turn (pair ∷ pairs) = pair.0 ∷ pair.1 ∷ in_turn pairs

-- the element without its tags is a map of these pairs, in order; keys may be equal (this project's profile of EDN)
abbrev pub HasPairs : ElementModel → List (ElementModel × ElementModel) → Type 0
HasPairs piece pairs = HasParts openers.Map piece (in_turn pairs)

-- the bytes from a place on are some pairs and the brace that closes a map
abbrev pub HoldsPairs : ℕ → List ℕ → Type 0
HoldsPairs place bytes = (pairs : List (ElementModel × ElementModel)) × PartsFrom openers.Map place bytes (in_turn pairs)

-- whether a kind is Atom, the kind of words and numbers
abbrev pub is_atom : ElementKind → Bool
is_atom kinds.Atom = true
is_atom kinds.Char = false
is_atom kinds.Text = false
is_atom kinds.List = false
is_atom kinds.Vector = false
is_atom kinds.Map = false
is_atom kinds.Set = false
is_atom kinds.Tagged = false

-- whether bytes begin with a colon
abbrev pub begins_with_colon : List ℕ → Bool
begins_with_colon [] = false
begins_with_colon (b ∷ bytes) = b == 58

-- whether an element without its tags is a keyword: an Atom that begins with a colon (this project's profile of EDN)
abbrev pub is_keyword : ElementModel → Bool
is_keyword piece = is_atom piece.core.kind && begins_with_colon (untagged piece).text

-- the bytes of a keyword, with its colon and without its tags; none where the element is no keyword
abbrev pub keyword_of : ElementModel → Option (List ℕ)
keyword_of piece = if is_keyword piece then Some (untagged piece).text else None

-- whether an element without its tags is the keyword with exactly these bytes, colon included
abbrev pub is_word : List ℕ → ElementModel → Bool
is_word word piece = is_keyword piece && bytes_eq (untagged piece).text word

-- whether an element without its tags is the word nil
abbrev pub is_nil : ElementModel → Bool
is_nil piece = is_atom piece.core.kind && bytes_eq (untagged piece).text (codes "nil")

-- the values under a key: those of the pairs whose key is the keyword with exactly these bytes
abbrev pub values_of : List ℕ → List (ElementModel × ElementModel) → List ElementModel
values_of key pairs = map (λ pair. pair.1) (filter (λ pair. is_word key pair.0) pairs)
