-- A map of words, and of vectors of words, that bytes begin with, and what was read of it.
use Rattle.std.specs.Prelude.{◌≡◌, ◌≤◌, ◌<◌, ◌+◌, ◌-◌, ◌^◌, ◌⊎◌, ℕ, suc, List, [], ◌∷◌, ◌++◌, length, take, drop, get_or, ◌==◌, if◌then◌else◌}
use Rattle.edn_reader.specs.declared.element.ElementKind.{ElementKind}
use Rattle.edn_reader.specs.declared.element.ElementKind.TheVariants as kinds
use Rattle.edn_reader.specs.declared.flat.FlatMap.{FlatMap}
use Rattle.edn_reader.specs.declared.flat.FlatPart.{FlatPart}
use Rattle.edn_reader.specs.declared.flat.FlatPart.TheVariants.{Pair, End, Other}
use Rattle.edn_reader.specs.declared.token.Token.TheVariants.{Leaf, Opens}
use Rattle.edn_reader.specs.declared.token.Opener.TheVariants.{Map, Tag}
use Rattle.edn_reader.specs.Grammar.{ElementModel, IsToken, IsGap, IsElementAt, IsElements}
use Rattle.edn_reader.specs.Pairs.{in_turn, HasPairs}
use Rattle.edn_reader.specs.Lent.{piece_of}

-- an Atom goes from one index of the bytes to another, where a byte follows, whatever place these begin at
abbrev pub IsWordAt : List ℕ → ℕ → ℕ → Type 0
IsWordAt bytes at end = (at < end) × (end < length bytes) × ((base : ℕ) → IsToken (Leaf kinds.Atom) (base + at) (drop at bytes) (base + end) (drop end bytes))

-- an element of this kind, without a tag, goes from one index of the bytes to another, whatever place these begin at
abbrev pub IsValueAt : List ℕ → ℕ → ElementKind → ℕ → Type 0
IsValueAt bytes at kind end =
    (at < end) × (end ≤ length bytes)
    × ((base room : ℕ) → IsElementAt (suc room) kind (record { kind = kind; start = base + at }) (base + at) (drop at bytes) (base + end) (drop end bytes))

-- the element of this kind, without a tag, from one index of the bytes to another; the first byte is at place `base`
abbrev pub piece_at : List ℕ → ℕ → ElementKind → ℕ → ℕ → ElementModel
piece_at bytes base kind from to = record { kind = kind; start = base + from; text = take (to - from) (drop from bytes); core = record { kind = kind; start = base + from } }

-- elements of one token each, with gaps without discards, fill the bytes from one index to another; the first byte is
-- at place `base`
pub record WordsTo (bytes : List ℕ) (base from at : ℕ) : Type 0 where
  pub words : List ElementModel
  pub last : ℕ
  pub rest : List ℕ
  pub elements : (room : ℕ) → IsElements room (base + from) (drop from bytes) words last rest
  pub gap : (room : ℕ) → IsGap room last rest (base + at) (drop at bytes)

-- the elements of a vector, of one token each, begin at one index, and it ends at the other, after its closing bracket
abbrev pub IsVectorFrom : List ℕ → ℕ → ℕ → Type 0
IsVectorFrom bytes from end =
    (place : ℕ) × (end ≡ suc place) × (from ≤ place) × (place < length bytes) × (get_or bytes place 0 ≡ 93) × ((base : ℕ) → WordsTo bytes base from place)

-- a tag and a gap without discards lead from one index to another
pub record TagTo (bytes : List ℕ) (start core : ℕ) : Type 0 where
  pub name : ℕ
  pub token : (base : ℕ) → IsToken (Opens Tag) (base + start) (drop start bytes) (base + name) (drop name bytes)
  pub gap : (base room : ℕ) → IsGap room (base + name) (drop name bytes) (base + core) (drop core bytes)
  pub before : start < core

-- what begins at one index has its core at the other: there where it has no tag, else after the tag and a gap
abbrev pub IsCoreAt : List ℕ → ℕ → ℕ → Type 0
IsCoreAt bytes start core = (start ≡ core) ⊎ TagTo bytes start core

-- the kind of a map that begins at one index and has its core at the other: Tagged where these differ
abbrev pub kind_with : ℕ → ℕ → ElementKind
kind_with start core = if core == start then kinds.Map else kinds.Tagged

-- these pairs of a map were read so far, after a gap, an optional tag and the opening brace; all within its bytes
pub record HasRead (map : FlatMap) (pairs : List (ElementModel × ElementModel)) : Type 0 where
  pub fits : map.base + length map.bytes.now < 2 ^ 64
  pub gap : (room : ℕ) → IsGap room map.base map.bytes.now (map.base + map.start) (drop map.start map.bytes.now)
  pub core : IsCoreAt map.bytes.now map.start map.core
  pub bracket : IsToken (Opens Map) (map.base + map.core) (drop map.core map.bytes.now) (suc (map.base + map.core)) (drop (suc map.core) map.bytes.now)
  pub elements : (room : ℕ) → IsElements (suc room) (suc (map.base + map.core)) (drop (suc map.core) map.bytes.now) (in_turn pairs) (map.base + map.at) (drop map.at map.bytes.now)
  pub following : map.core < map.at
  pub within : map.at ≤ length map.bytes.now

-- the map is read from these bytes, of which the first is at place `base`
abbrev pub IsOf : List ℕ → ℕ → FlatMap → Type 0
IsOf bytes base map = (map.bytes.now ≡ bytes) × (map.base ≡ base)

-- after what was read of the map there are a gap without discards and, at this index, a closing brace
abbrev pub IsBraceAt : FlatMap → ℕ → Type 0
IsBraceAt map brace =
    (map.at ≤ brace) × (brace < length map.bytes.now) × (get_or map.bytes.now brace 0 ≡ 125)
    × ((room : ℕ) → IsGap room (map.base + map.at) (drop map.at map.bytes.now) (map.base + brace) (drop brace map.bytes.now))

-- how many bytes of the map are left to read
abbrev pub flat_left : FlatMap → ℕ
flat_left map = length map.bytes.now - map.at

-- bytes of which the first is at place `base` begin with a gap and this element, whatever follows them
abbrev pub BeginsWithElement : List ℕ → ℕ → ElementModel → Type 0
BeginsWithElement bytes base piece =
    (base ≤ piece.start) × (piece.start + length piece.text ≤ base + length bytes)
    × (piece.text ≡ drop (piece.start - base) (take (piece.start + length piece.text - base) bytes))
    × ((following : List ℕ) → IsElements 64 base (bytes ++ following) (piece ∷ []) (piece.start + length piece.text) (drop (piece.start + length piece.text - base) bytes ++ following))

-- what the next part says of a map of which these pairs were read: it has one pair more; or it has ended, with these
-- pairs; or nothing is said
abbrev pub ReadsPart : FlatPart → FlatMap → FlatMap → List (ElementModel × ElementModel) → Type 0
ReadsPart (Pair key value) old new pairs = HasRead new (pairs ++ (piece_of key, piece_of value) ∷ [])
ReadsPart (End map) old new pairs = BeginsWithElement old.bytes.now old.base (piece_of map) × HasPairs (piece_of map) pairs
ReadsPart Other old new pairs = Unit {0}

-- where the next part is a pair, fewer bytes are left to read
abbrev pub Advances : FlatPart → FlatMap → FlatMap → Type 0
Advances (Pair key value) old new = flat_left new < flat_left old
Advances (End map) old new = Unit {0}
Advances Other old new = Unit {0}
