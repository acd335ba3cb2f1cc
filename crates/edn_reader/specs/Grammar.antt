-- The grammar of tokens, gaps and elements.
-- Each relation leads from a place to a later one, with the bytes that are left at each, so it sees what follows.
use Rattle.std.specs.Prelude.{◌≡◌, ◌≢◌, ℕ, suc, ◌-◌, Bool, true, false, not, ◌&&◌, List, [], ◌∷◌, ◌++◌, drop}
use Rattle.edn_reader.specs.declared.bytes.ByteClass.TheVariants.{White, Plain, Hash, Backslash, Semicolon, Quote, Opens, Closes}
use Rattle.edn_reader.specs.declared.bytes.Bracket.{Bracket}
use Rattle.edn_reader.specs.declared.bytes.Bracket.TheVariants.{Round, Square, Curly}
use Rattle.edn_reader.specs.declared.element.ElementKind.{ElementKind}
use Rattle.edn_reader.specs.declared.element.ElementKind.TheVariants as kinds
use Rattle.edn_reader.specs.declared.element.Core.{Core}
use Rattle.edn_reader.specs.declared.token.Token.{Token}
use Rattle.edn_reader.specs.declared.token.Token.TheVariants.{Gap, Leaf, Opens as Opening, Closes as Closing}
use Rattle.edn_reader.specs.declared.token.Opener.{Opener}
use Rattle.edn_reader.specs.declared.token.Opener.TheVariants as openers
use Rattle.edn_reader.specs.Bytes.{class_of, is_run, is_in_comment, Ends}

-- an element of an input: its kind, the place of its first byte, its bytes with its tags, and its core: the kind and
-- the first place of the element without its tags
pub record ElementModel : Type 0 where
  pub kind : ElementKind
  pub start : ℕ
  pub text : List ℕ
  pub core : Core

-- the element without its tags: it has the kind and the first place of the core, and the bytes from there on
abbrev pub untagged : ElementModel → ElementModel
untagged piece = record { kind = piece.core.kind; start = piece.core.start; text = drop (piece.core.start - piece.start) piece.text; core = piece.core }

-- every byte from the first place up to the second passes the test, and the next one, if there is one, fails it
pub data IsStretch (test : ℕ → Bool) : ℕ → List ℕ → ℕ → List ℕ → Type 0 where
  ended : {place : ℕ} {bytes : List ℕ} → Ends test bytes → IsStretch test place bytes place bytes
  more : {b place after : ℕ} {bytes rest : List ℕ} → test b ≡ true → IsStretch test (suc place) bytes after rest
      → IsStretch test place (b ∷ bytes) after rest

-- a whole run goes from one place to another: run bytes up to a delimiter or the end (this project's profile of EDN)
abbrev pub IsWholeRun : ℕ → List ℕ → ℕ → List ℕ → Type 0
IsWholeRun = IsStretch is_run

-- the bytes of a Text after its opening quote (byte 34), up to and with its closing one: the first quote that no
-- backslash (byte 92) escapes; a backslash escapes the byte after it
pub data IsQuoted : ℕ → List ℕ → ℕ → List ℕ → Type 0 where
  closing : {b place : ℕ} {rest : List ℕ} → b ≡ 34 → IsQuoted place (b ∷ rest) (suc place) rest
  taken : {b c place after : ℕ} {bytes rest : List ℕ} → b ≡ 92 → IsQuoted (suc (suc place)) bytes after rest
      → IsQuoted place (b ∷ c ∷ bytes) after rest
  other : {b place after : ℕ} {bytes rest : List ℕ} → b ≢ 34 → b ≢ 92 → IsQuoted (suc place) bytes after rest
      → IsQuoted place (b ∷ bytes) after rest

-- what a bracket opens: ( a List, [ a Vector, { a Map
abbrev pub opener_of : Bracket → Opener
opener_of Round = openers.List
opener_of Square = openers.Vector
opener_of Curly = openers.Map

-- the bytes after a # make it a tag: there are some, and the first is no #, quote, opening brace or underscore
abbrev pub IsTag : List ℕ → Type 0
IsTag [] = ⊥
IsTag (c ∷ bytes) = (class_of c ≢ Hash) × (class_of c ≢ Quote) × (class_of c ≢ Opens Curly) × (c ≢ 95)

-- one token: a white byte or a comment; an Atom, a Char or a Text; what opens a bracket, a tag or a discard; a closing
-- bracket (this project's profile of EDN)
pub data IsToken : Token → ℕ → List ℕ → ℕ → List ℕ → Type 0 where
  white : {b place : ℕ} {rest : List ℕ} → class_of b ≡ White → IsToken Gap place (b ∷ rest) (suc place) rest
  comment : {b place after : ℕ} {bytes rest : List ℕ} → class_of b ≡ Semicolon
      → IsStretch is_in_comment (suc place) bytes after rest → IsToken Gap place (b ∷ bytes) after rest
  run : {b place after : ℕ} {bytes rest : List ℕ} → class_of b ≡ Plain → IsWholeRun (suc place) bytes after rest
      → IsToken (Leaf kinds.Atom) place (b ∷ bytes) after rest
  hashed : {b c place after : ℕ} {bytes rest : List ℕ} → class_of b ≡ Hash → class_of c ≡ Hash
      → IsWholeRun (suc (suc place)) bytes after rest → IsToken (Leaf kinds.Atom) place (b ∷ c ∷ bytes) after rest
  character : {b c place after : ℕ} {bytes rest : List ℕ} → class_of b ≡ Backslash
      → IsWholeRun (suc (suc place)) bytes after rest → IsToken (Leaf kinds.Char) place (b ∷ c ∷ bytes) after rest
  text : {b place after : ℕ} {bytes rest : List ℕ} → class_of b ≡ Quote → IsQuoted (suc place) bytes after rest
      → IsToken (Leaf kinds.Text) place (b ∷ bytes) after rest
  hash_text : {b c place after : ℕ} {bytes rest : List ℕ} → class_of b ≡ Hash → class_of c ≡ Quote
      → IsQuoted (suc (suc place)) bytes after rest → IsToken (Leaf kinds.Text) place (b ∷ c ∷ bytes) after rest
  opening : {b place : ℕ} {rest : List ℕ} {bracket : Bracket} → class_of b ≡ Opens bracket
      → IsToken (Opening (opener_of bracket)) place (b ∷ rest) (suc place) rest
  set : {b c place : ℕ} {rest : List ℕ} → class_of b ≡ Hash → class_of c ≡ Opens Curly
      → IsToken (Opening openers.Set) place (b ∷ c ∷ rest) (suc (suc place)) rest
  discard : {b c place : ℕ} {rest : List ℕ} → class_of b ≡ Hash → c ≡ 95
      → IsToken (Opening openers.Discard) place (b ∷ c ∷ rest) (suc (suc place)) rest
  tag : {b place after : ℕ} {bytes rest : List ℕ} → class_of b ≡ Hash → IsTag bytes → IsWholeRun (suc place) bytes after rest
      → IsToken (Opening openers.Tag) place (b ∷ bytes) after rest
  close : {b place : ℕ} {rest : List ℕ} {bracket : Bracket} → class_of b ≡ Closes bracket
      → IsToken (Closing bracket) place (b ∷ rest) (suc place) rest

-- whether a bracket is ( or )
abbrev pub is_round : Bracket → Bool
is_round Round = true
is_round Square = false
is_round Curly = false

-- whether a bracket is [ or ]
abbrev pub is_square : Bracket → Bool
is_square Round = false
is_square Square = true
is_square Curly = false

-- whether a bracket is { or }
abbrev pub is_curly : Bracket → Bool
is_curly Round = false
is_curly Square = false
is_curly Curly = true

-- whether a bracket closes what the opener opened; none closes a tag or a discard
abbrev pub fits : Opener → Bracket → Bool
fits openers.List bracket = is_round bracket
fits openers.Vector bracket = is_square bracket
fits openers.Map bracket = is_curly bracket
fits openers.Set bracket = is_curly bracket
fits openers.Tag bracket = false
fits openers.Discard bracket = false

-- whether what was opened waits for one element, as a tag and a discard do, and not for a closing bracket
abbrev pub waits : Opener → Bool
waits openers.List = false
waits openers.Vector = false
waits openers.Map = false
waits openers.Set = false
waits openers.Tag = true
waits openers.Discard = true

-- whether what was opened must hold an even number of elements, as a Map must (it may be 0)
abbrev pub is_paired : Opener → Bool
is_paired openers.List = false
is_paired openers.Vector = false
is_paired openers.Map = true
is_paired openers.Set = false
is_paired openers.Tag = false
is_paired openers.Discard = false

-- the kind of the element that an opener begins; a discard begins none, and counts as Tagged here
abbrev pub kind_of : Opener → ElementKind
kind_of openers.List = kinds.List
kind_of openers.Vector = kinds.Vector
kind_of openers.Map = kinds.Map
kind_of openers.Set = kinds.Set
kind_of openers.Tag = kinds.Tagged
kind_of openers.Discard = kinds.Tagged

-- whether a list of elements has an odd length
abbrev pub is_odd : List ElementModel → Bool
is_odd [] = false
is_odd (piece ∷ pieces) = not (is_odd pieces)

mutual
  -- a gap: white bytes, comments, and discards with their elements (this project's profile of EDN); the first number is
  -- how many brackets, tags and discards may be open in it at once
  pub data IsGap : ℕ → ℕ → List ℕ → ℕ → List ℕ → Type 0 where
    nothing : {room place : ℕ} {bytes : List ℕ} → IsGap room place bytes place bytes
    skipped : {room place inner after : ℕ} {bytes left rest : List ℕ} → IsToken Gap place bytes inner left
        → IsGap room inner left after rest → IsGap room place bytes after rest
    discarded : {room place inner begins ends after : ℕ} {bytes left beyond following rest : List ℕ} {kind : ElementKind} {core : Core}
        → IsToken (Opening openers.Discard) place bytes inner left → IsGap room inner left begins beyond
        → IsElementAt room kind core begins beyond ends following → IsGap (suc room) ends following after rest
        → IsGap (suc room) place bytes after rest

  -- an element of this kind and core (this project's profile of EDN): one token; or elements between brackets that fit;
  -- or a tag, a gap and an element; the first number is how many brackets, tags and discards may be open in it at once
  pub data IsElementAt : ℕ → ElementKind → Core → ℕ → List ℕ → ℕ → List ℕ → Type 0 where
    leaf : {room place after : ℕ} {bytes rest : List ℕ} {kind : ElementKind} → IsToken (Leaf kind) place bytes after rest
        → IsElementAt room kind (record { kind = kind; start = place }) place bytes after rest
    bracketed : {room place inner ends begins after : ℕ} {bytes left beyond following rest : List ℕ} {pieces : List ElementModel}
        {opener : Opener} {bracket : Bracket} → IsToken (Opening opener) place bytes inner left
        → IsElements room inner left pieces ends beyond → IsGap room ends beyond begins following
        → IsToken (Closing bracket) begins following after rest → fits opener bracket ≡ true → is_paired opener && is_odd pieces ≡ false
        → IsElementAt (suc room) (kind_of opener) (record { kind = kind_of opener; start = place }) place bytes after rest
    tagged : {room place inner begins after : ℕ} {bytes left beyond rest : List ℕ} {kind : ElementKind} {core : Core}
        → IsToken (Opening openers.Tag) place bytes inner left → IsGap room inner left begins beyond
        → IsElementAt room kind core begins beyond after rest → IsElementAt (suc room) kinds.Tagged core place bytes after rest

  -- these elements in order, each after a gap; the end place is the end of the last one; the first number is how many
  -- brackets, tags and discards may be open at once
  pub data IsElements : ℕ → ℕ → List ℕ → List ElementModel → ℕ → List ℕ → Type 0 where
    none : {room place : ℕ} {bytes : List ℕ} → IsElements room place bytes [] place bytes
    next : {room place ended after : ℕ} {bytes left beyond rest : List ℕ} {piece : ElementModel} {pieces : List ElementModel}
        → IsGap room place bytes piece.start left → IsElementAt room piece.kind piece.core piece.start left ended beyond
        → left ≡ piece.text ++ beyond → IsElements room ended beyond pieces after rest
        → IsElements room place bytes (piece ∷ pieces) after rest

-- the bytes of the element are that element by the grammar, with nothing after it and at most 64 things open at once
abbrev pub IsElement : ElementModel → Type 0
IsElement piece = (after : ℕ) × IsElementAt 64 piece.kind piece.core piece.start piece.text after []
