-- A map of words that bytes begin with: the grammar has what was found at the indices.
use Rattle.std.proofs.Common.{◌≡◌, ◌≢◌, inl, inr, ℕ, suc, ◌+◌, ◌-◌, ◌<◌, ◌≤◌, ◌^◌, Bool, true, false, not, cond, eqb, List, [], ◌∷◌, ◌++◌, length, get_or, take, drop, refl, sym, ap, subst, ◌∙◌, arith, length-drop}
use Rattle.std.proofs.lemmas.List.{append-nil, drop-drop, drop-take, take-append-drop, length-take-le}
use Rattle.std.proofs.lemmas.Bool.Decides.{nat_tests}
use Rattle.edn_reader.specs.declared.bytes.Bracket.{Bracket}
use Rattle.edn_reader.specs.declared.bytes.Bracket.TheVariants.{Square, Curly}
use Rattle.edn_reader.specs.declared.bytes.ByteClass.TheVariants as classes
use Rattle.edn_reader.specs.declared.element.ElementKind.{ElementKind}
use Rattle.edn_reader.specs.declared.element.ElementKind.TheVariants as kinds
use Rattle.edn_reader.specs.declared.element.Core.{Core}
use Rattle.edn_reader.specs.declared.flat.FlatMap.{FlatMap}
use Rattle.edn_reader.specs.declared.token.Token.{Token}
use Rattle.edn_reader.specs.declared.token.Token.TheVariants.{Opens, Closes}
use Rattle.edn_reader.specs.declared.token.Opener.TheVariants as openers
use Rattle.edn_reader.specs.Bytes.{class_of, is_run, is_plain, is_white, stretch}
use Rattle.edn_reader.specs.Grammar.{ElementModel, untagged, IsStretch, IsTag, opener_of, IsToken, white, run, opening, tag, close, is_odd, IsGap, nothing, skipped, IsElementAt, leaf, bracketed, tagged, IsElements, none, next, IsElement}
use Rattle.edn_reader.specs.Pairs.{in_turn, HasPairs}
use Rattle.edn_reader.specs.Flat.{IsWordAt, IsValueAt, piece_at, WordsTo, IsVectorFrom, IsCoreAt, kind_with, HasRead, IsBraceAt, BeginsWithElement}
use Rattle.edn_reader.proofs.Lexing.{white_class, plain_class}
use Rattle.edn_reader.proofs.Places.{Follows, Replaced, replaced_then, follows_before, follows_same, cancel_end, moved_token, moved_gap, moved_element, moved_elements}
use Rattle.edn_reader.proofs.Prefixes.{replaced_after}
use Rattle.edn_reader.proofs.Steps.{gap_then, elements_more}
use Rattle.edn_reader.proofs.Stretches.{along, drop_here, stretch_here}

-- ---- white bytes and words

white_byte : (bytes : List ℕ) (base room at : ℕ) → at < length bytes → is_white (get_or bytes at 0) ≡ true → IsGap room (base + at) (drop at bytes) (base + (at + 1)) (drop (at + 1) bytes)
white_byte bytes base room at lt is =
    let b = get_or bytes at 0 in
    let rest = drop (at + 1) bytes in
    let place : suc (base + at) ≡ base + (at + 1) = omega arith in
    subst (λ (xs : List ℕ). IsGap room (base + at) xs (base + (at + 1)) rest) (sym (drop_here bytes at lt))
    (subst (λ (q : ℕ). IsGap room (base + at) (b ∷ rest) q rest) place (skipped (white (white_class (class_of b) is)) nothing))

pub gap_white : (bytes : List ℕ) (base room at end : ℕ) → end ≡ at + stretch is_white (drop at bytes) → IsGap room (base + at) (drop at bytes) (base + end) (drop end bytes)
gap_white bytes base room at end place =
    let all : IsGap room (base + at) (drop at bytes) (base + (at + stretch is_white (drop at bytes))) (drop (at + stretch is_white (drop at bytes)) bytes) =
    along (λ n. IsGap room (base + at) (drop at bytes) (base + n) (drop n bytes)) is_white bytes (λ i lt is gap. gap_then gap (white_byte bytes base room i lt is)) (stretch is_white (drop at bytes)) at refl nothing in
    subst (λ (n : ℕ). IsGap room (base + at) (drop at bytes) (base + n) (drop n bytes)) (sym place) all

run_to : (bytes : List ℕ) (base at end : ℕ) → end ≡ at + stretch is_run (drop at bytes) → IsStretch is_run (base + at) (drop at bytes) (base + end) (drop end bytes)
run_to bytes base at end place =
    let size = stretch is_run (drop at bytes) in
    let there : base + at + size ≡ base + end = omega (arith, place) in
    let rest : drop size (drop at bytes) ≡ drop end bytes = drop-drop size at bytes ∙ ap (λ (n : ℕ). drop n bytes) (sym place) in
    subst (λ (q : ℕ). IsStretch is_run (base + at) (drop at bytes) q (drop end bytes)) there
    (subst (λ (xs : List ℕ). IsStretch is_run (base + at) (drop at bytes) (base + at + size) xs) rest (stretch_here is_run (base + at) (drop at bytes)))

-- a run after its first byte
run_after : (bytes : List ℕ) (base at end : ℕ) → end ≡ at + 1 + stretch is_run (drop (at + 1) bytes) → IsStretch is_run (suc (base + at)) (drop (at + 1) bytes) (base + end) (drop end bytes)
run_after bytes base at end place =
    let from : base + (at + 1) ≡ suc (base + at) = omega arith in
    subst (λ (p : ℕ). IsStretch is_run p (drop (at + 1) bytes) (base + end) (drop end bytes)) from (run_to bytes base (at + 1) end place)

-- a token, by its first byte
token_here : {token : Token} {q : ℕ} {rest : List ℕ} (bytes : List ℕ) (base at : ℕ) → at < length bytes → IsToken token (base + at) (get_or bytes at 0 ∷ drop (at + 1) bytes) q rest → IsToken token (base + at) (drop at bytes) q rest
token_here {token} {q} {rest} bytes base at lt is = subst (λ (xs : List ℕ). IsToken token (base + at) xs q rest) (sym (drop_here bytes at lt)) is

pub word_at : (bytes : List ℕ) (at end : ℕ) → at < length bytes → is_plain (get_or bytes at 0) ≡ true → end ≡ at + 1 + stretch is_run (drop (at + 1) bytes)
    → end ≤ length bytes → end ≢ length bytes → IsWordAt bytes at end
word_at bytes at end lt plain place le other = (
  omega (arith, place),
  omega (arith, le, other),
  λ base. token_here bytes base at lt (run (plain_class (class_of (get_or bytes at 0)) plain) (run_after bytes base at end place)),
)

pub value_of_word : (bytes : List ℕ) (at end : ℕ) → IsWordAt bytes at end → IsValueAt bytes at kinds.Atom end
value_of_word bytes at end word = (word.0, omega (arith, word.1), λ base room. leaf (word.2 base))

-- the bytes from one index to another, and those after
split_at : (bytes : List ℕ) (from to : ℕ) → from ≤ to → drop from bytes ≡ take (to - from) (drop from bytes) ++ drop to bytes
split_at bytes from to le =
    let place : from + (to - from) ≡ to = omega (arith, le) in
    sym (take-append-drop (to - from) (drop from bytes))
    ∙ ap (λ (xs : List ℕ). take (to - from) (drop from bytes) ++ xs) (drop-drop (to - from) from bytes ∙ ap (λ (n : ℕ). drop n bytes) place)

-- a derivation from one index to another, with other bytes after it, leads over the bytes between them
front_between : {p q : ℕ} {d e : List ℕ} (bytes : List ℕ) (from to : ℕ) → from ≤ to → (m : Replaced p (drop from bytes) q (drop to bytes) d e) → m.front ≡ take (to - from) (drop from bytes)
front_between bytes from to le m = cancel_end m.front (take (to - from) (drop from bytes)) (drop to bytes) (sym m.here ∙ split_at bytes from to le)

pub value_alone : (bytes : List ℕ) (base : ℕ) (kind : ElementKind) (from to : ℕ) → IsValueAt bytes from kind to → IsElement (piece_at bytes base kind from to)
value_alone bytes base kind from to value =
    let core : Core = record { kind = kind; start = base + from } in
    let m = moved_element (value.2 base 63) [] (λ h. tt) in
    let same : m.bytes ≡ take (to - from) (drop from bytes) = m.place.there ∙ append-nil m.place.front ∙ front_between bytes from to (omega (arith, value.0)) m.place in
    (base + to, subst (λ (xs : List ℕ). IsElementAt 64 kind core (base + from) xs (base + to) []) same m.element)

-- ---- a vector of words

pub words_first : (bytes : List ℕ) (base from at : ℕ) → at ≡ from + stretch is_white (drop from bytes) → WordsTo bytes base from at
words_first bytes base from at place =
    record { words = []; last = base + from; rest = drop from bytes; elements = λ room. none; gap = λ room. gap_white bytes base room from at place }

pub words_next : (bytes : List ℕ) (base from at end after : ℕ) → IsWordAt bytes at end → after ≡ end + stretch is_white (drop end bytes) → WordsTo bytes base from at → WordsTo bytes base from after
words_next bytes base from at end after word place words = record {
  words = words.words ++ piece_at bytes base kinds.Atom at end ∷ [];
  last = base + end;
  rest = drop end bytes;
  elements = λ room. elements_more (piece_at bytes base kinds.Atom at end) (words.elements room) (words.gap room) (leaf (word.2 base)) (split_at bytes at end (omega (arith, word.0)));
  gap = λ room. gap_white bytes base room end after place;
}

opens_square : (b : ℕ) → b ≡ 91 → class_of b ≡ classes.Opens Square
unfolding class_of
opens_square b e = rw e refl

closes_square : (b : ℕ) → b ≡ 93 → class_of b ≡ classes.Closes Square
unfolding class_of
closes_square b e = rw e refl

opens_curly : (b : ℕ) → b ≡ 123 → class_of b ≡ classes.Opens Curly
unfolding class_of
opens_curly b e = rw e refl

closes_curly : (b : ℕ) → b ≡ 125 → class_of b ≡ classes.Closes Curly
unfolding class_of
closes_curly b e = rw e refl

-- a bracket that opens at an index
opens_at : {bracket : Bracket} (bytes : List ℕ) (base at : ℕ) → at < length bytes → class_of (get_or bytes at 0) ≡ classes.Opens bracket
    → IsToken (Opens (opener_of bracket)) (base + at) (drop at bytes) (suc (base + at)) (drop (at + 1) bytes)
opens_at bytes base at lt is = token_here bytes base at lt (opening is)

closes_at : {bracket : Bracket} (bytes : List ℕ) (base at : ℕ) → at < length bytes → class_of (get_or bytes at 0) ≡ classes.Closes bracket
    → IsToken (Closes bracket) (base + at) (drop at bytes) (suc (base + at)) (drop (at + 1) bytes)
closes_at bytes base at lt is = token_here bytes base at lt (close is)

vector_element : (bytes : List ℕ) (base at place end room : ℕ) → at < length bytes → get_or bytes at 0 ≡ 91 → end ≡ suc place → place < length bytes → get_or bytes place 0 ≡ 93
    → WordsTo bytes base (at + 1) place → IsElementAt (suc room) kinds.Vector (record { kind = kinds.Vector; start = base + at }) (base + at) (drop at bytes) (base + end) (drop end bytes)
vector_element bytes base at place end room lt opens is within closes words =
    let core : Core = record { kind = kinds.Vector; start = base + at } in
    let inner : base + (at + 1) ≡ suc (base + at) = omega arith in
    let after : suc (base + place) ≡ base + end = omega (arith, is) in
    let following : place + 1 ≡ end = omega (arith, is) in
    let elements : IsElements room (suc (base + at)) (drop (at + 1) bytes) words.words words.last words.rest =
    subst (λ (p : ℕ). IsElements room p (drop (at + 1) bytes) words.words words.last words.rest) inner (words.elements room) in
    subst (λ (q : ℕ). IsElementAt (suc room) kinds.Vector core (base + at) (drop at bytes) q (drop end bytes)) after
    (subst (λ (n : ℕ). IsElementAt (suc room) kinds.Vector core (base + at) (drop at bytes) (suc (base + place)) (drop n bytes)) following
    (bracketed (opens_at {bracket = Square} bytes base at lt (opens_square (get_or bytes at 0) opens)) elements (words.gap room)
    (closes_at {bracket = Square} bytes base place within (closes_square (get_or bytes place 0) closes)) refl refl))

pub value_of_vector : (bytes : List ℕ) (at end : ℕ) → at < length bytes → get_or bytes at 0 ≡ 91 → IsVectorFrom bytes (at + 1) end → IsValueAt bytes at kinds.Vector end
value_of_vector bytes at end lt opens (place, is, low, within, closes, words) = (
  omega (arith, is, low),
  omega (arith, is, within),
  λ base room. vector_element bytes base at place end room lt opens is within closes (words base),
)

-- ---- a tag

hash_class : (b : ℕ) → b ≡ 35 → class_of b ≡ classes.Hash
unfolding class_of
hash_class b e = rw e refl

plain_no_hash : (b : ℕ) → class_of b ≡ classes.Plain → b ≢ 95 → (class_of b ≢ classes.Hash) × (class_of b ≢ classes.Quote) × (class_of b ≢ classes.Opens Curly) × (b ≢ 95)
plain_no_hash b is other = (
  λ e. let both : classes.Plain ≡ classes.Hash = sym is ∙ e in cc,
  λ e. let both : classes.Plain ≡ classes.Quote = sym is ∙ e in cc,
  λ e. let both : classes.Plain ≡ classes.Opens Curly = sym is ∙ e in cc,
  other,
)

tag_named : (bytes : List ℕ) (at : ℕ) → at < length bytes → is_plain (get_or bytes at 0) ≡ true → get_or bytes at 0 ≢ 95 → IsTag (drop at bytes)
tag_named bytes at lt plain other =
    subst IsTag (sym (drop_here bytes at lt)) (plain_no_hash (get_or bytes at 0) (plain_class (class_of (get_or bytes at 0)) plain) other)

pub core_following : (bytes : List ℕ) (start end core : ℕ) → start + 1 < length bytes → get_or bytes start 0 ≡ 35 → is_plain (get_or bytes (start + 1) 0) ≡ true → get_or bytes (start + 1) 0 ≢ 95
    → end ≡ start + 1 + stretch is_run (drop (start + 1) bytes) → core ≡ end + stretch is_white (drop end bytes) → IsCoreAt bytes start core
core_following bytes start end core lt hash plain other ends white_ends = inr (record {
  name = end;
  token = λ base. token_here bytes base start (omega (arith, lt)) (tag (hash_class (get_or bytes start 0) hash) (tag_named bytes (start + 1) lt plain other) (run_after bytes base start end ends));
  gap = λ base room. gap_white bytes base room end core white_ends;
  before = omega (arith, ends, white_ends);
})

-- ---- a map

pub map_first : (map : FlatMap) → map.base + length map.bytes.now < 2 ^ 64 → map.start ≡ 0 + stretch is_white (drop 0 map.bytes.now) → IsCoreAt map.bytes.now map.start map.core
    → map.core < length map.bytes.now → get_or map.bytes.now map.core 0 ≡ 123 → map.at ≡ map.core + 1 → HasRead map []
map_first map fits start core lt opens at =
    let bytes = map.bytes.now in
    let zero : map.base + 0 ≡ map.base = omega arith in
    let following : map.core + 1 ≡ suc map.core = omega arith in
    let inner : suc (map.base + map.core) ≡ map.base + map.at = omega (arith, at) in
    record {
      fits = fits;
      gap = λ room. subst (λ (p : ℕ). IsGap room p bytes (map.base + map.start) (drop map.start bytes)) zero (gap_white bytes map.base room 0 map.start start);
      core = core;
      bracket = subst (λ (n : ℕ). IsToken (Opens openers.Map) (map.base + map.core) (drop map.core bytes) (suc (map.base + map.core)) (drop n bytes)) following
          (opens_at {bracket = Curly} bytes map.base map.core lt (opens_curly (get_or bytes map.core 0) opens));
      elements = λ room. subst (λ (q : ℕ). IsElements (suc room) (suc (map.base + map.core)) (drop (suc map.core) bytes) [] q (drop map.at bytes)) inner
          (subst (λ (n : ℕ). IsElements (suc room) (suc (map.base + map.core)) (drop (suc map.core) bytes) [] (suc (map.base + map.core)) (drop n bytes)) (sym (at ∙ following)) none);
      following = omega (arith, at);
      within = omega (arith, at, lt);
    }

in_turn-more : (pairs : List (ElementModel × ElementModel)) (key value : ElementModel) → in_turn (pairs ++ (key, value) ∷ []) ≡ (in_turn pairs ++ key ∷ []) ++ value ∷ []
in_turn-more [] key value = refl
in_turn-more (pair ∷ pairs) key value = ap (λ (pieces : List ElementModel). pair.0 ∷ pair.1 ∷ pieces) (in_turn-more pairs key value)

in_turn-even : (pairs : List (ElementModel × ElementModel)) → is_odd (in_turn pairs) ≡ false
in_turn-even [] = refl
in_turn-even (pair ∷ pairs) = ap (λ (odd : Bool). not (not odd)) (in_turn-even pairs)

-- the map, read up to another index
abbrev pub read_to : FlatMap → ℕ → FlatMap
read_to map at = record { bytes = map.bytes; base = map.base; start = map.start; core = map.core; at = at }

pub map_next : (map : FlatMap) (pairs : List (ElementModel × ElementModel)) (key_at key_end value_at value_end : ℕ) (kind : ElementKind) → HasRead map pairs
    → key_at ≡ map.at + stretch is_white (drop map.at map.bytes.now) → IsWordAt map.bytes.now key_at key_end
    → value_at ≡ key_end + stretch is_white (drop key_end map.bytes.now) → IsValueAt map.bytes.now value_at kind value_end
    → HasRead (read_to map value_end) (pairs ++ (piece_at map.bytes.now map.base kinds.Atom key_at key_end, piece_at map.bytes.now map.base kind value_at value_end) ∷ [])
map_next map pairs key_at key_end value_at value_end kind read key_place key value_place value =
    let bytes = map.bytes.now in
    let base = map.base in
    let first = piece_at bytes base kinds.Atom key_at key_end in
    let second = piece_at bytes base kind value_at value_end in
    record {
      fits = read.fits;
      gap = read.gap;
      core = read.core;
      bracket = read.bracket;
      elements = λ room.
          subst (λ (pieces : List ElementModel). IsElements (suc room) (suc (base + map.core)) (drop (suc map.core) bytes) pieces (base + value_end) (drop value_end bytes)) (sym (in_turn-more pairs first second))
          (elements_more second
          (elements_more first (read.elements room) (gap_white bytes base (suc room) map.at key_at key_place) (leaf (key.2 base)) (split_at bytes key_at key_end (omega (arith, key.0))))
          (gap_white bytes base (suc room) key_end value_at value_place) (value.2 base room) (split_at bytes value_at value_end (omega (arith, value.0))));
      following = omega (arith, read.following, key_place, key.0, value_place, value.0);
      within = value.1;
    }

-- ---- a map that ends

-- the map up to its brace, with other bytes after that
record Closed (map : FlatMap) (pairs : List (ElementModel × ElementModel)) (brace room : ℕ) (following : List ℕ) : Type 0 where
  bytes : List ℕ
  left : List ℕ
  beyond : List ℕ
  last : ℕ
  opens : IsToken (Opens openers.Map) (map.base + map.core) bytes (suc (map.base + map.core)) left
  elements : IsElements (suc room) (suc (map.base + map.core)) left (in_turn pairs) (map.base + map.at) beyond
  gap : IsGap (suc room) (map.base + map.at) beyond (map.base + brace) (last ∷ following)
  closes : class_of last ≡ classes.Closes Curly
  place : Replaced (map.base + map.core) (drop map.core map.bytes.now) (suc (map.base + brace)) (drop (suc brace) map.bytes.now) bytes following
  begins : Follows (drop map.core map.bytes.now) bytes

closed : (map : FlatMap) (pairs : List (ElementModel × ElementModel)) (brace room : ℕ) (following : List ℕ) → HasRead map pairs → IsBraceAt map brace → Closed map pairs brace room following
closed map pairs brace room following read (low, lt, is, gap) =
    let bytes = map.bytes.now in
    let last = get_or bytes brace 0 in
    let here : drop brace bytes ≡ last ∷ drop (brace + 1) bytes = drop_here bytes brace lt in
    let after : brace + 1 ≡ suc brace = omega arith in
    let gap_here : IsGap (suc room) (map.base + map.at) (drop map.at bytes) (map.base + brace) (last ∷ drop (brace + 1) bytes) =
    subst (λ (xs : List ℕ). IsGap (suc room) (map.base + map.at) (drop map.at bytes) (map.base + brace) xs) here (gap (suc room)) in
    let class : class_of last ≡ classes.Closes Curly = closes_curly last is in
    let token : IsToken (Closes Curly) (map.base + brace) (last ∷ drop (brace + 1) bytes) (suc (map.base + brace)) (drop (brace + 1) bytes) = close class in
    let c = moved_token token following tt in
    let follows = follows_same last (drop (brace + 1) bytes) following in
    let g = moved_gap gap_here (last ∷ following) follows in
    let m = moved_elements (read.elements room) g.0 (follows_before g.2 follows) in
    let t = moved_token read.bracket m.0 (follows_before m.2 (follows_before g.2 follows)) in
    let ends : Replaced (map.base + brace) (last ∷ drop (brace + 1) bytes) (suc (map.base + brace)) (drop (brace + 1) bytes) (last ∷ following) following =
    record { front = last ∷ []; here = refl; there = refl; place = omega arith } in
    let all : Replaced (map.base + map.core) (drop map.core bytes) (suc (map.base + brace)) (drop (brace + 1) bytes) t.bytes following = replaced_then t.place (replaced_then m.2 (replaced_then g.2 ends)) in
    record {
      bytes = t.bytes;
      left = m.0;
      beyond = g.0;
      last = last;
      opens = t.token;
      elements = m.1;
      gap = g.1;
      closes = class;
      place = subst (λ (n : ℕ). Replaced (map.base + map.core) (drop map.core bytes) (suc (map.base + brace)) (drop n bytes) t.bytes following) after all;
      begins = t.begins;
    }

element_closed : (map : FlatMap) (pairs : List (ElementModel × ElementModel)) (brace room : ℕ) (following : List ℕ) (c : Closed map pairs brace room following)
    → IsElementAt (suc (suc room)) kinds.Map (record { kind = kinds.Map; start = map.base + map.core }) (map.base + map.core) c.bytes (suc (map.base + brace)) following
element_closed map pairs brace room following c = bracketed c.opens c.elements c.gap (close c.closes) refl (in_turn-even pairs)

-- the map with its tag, if it has one
record Whole (map : FlatMap) (brace : ℕ) (following : List ℕ) : Type 0 where
  bytes : List ℕ
  element : IsElementAt 64 (kind_with map.start map.core) (record { kind = kinds.Map; start = map.base + map.core }) (map.base + map.start) bytes (suc (map.base + brace)) following
  place : Replaced (map.base + map.start) (drop map.start map.bytes.now) (suc (map.base + brace)) (drop (suc brace) map.bytes.now) bytes following
  begins : Follows (drop map.start map.bytes.now) bytes

whole_by : (map : FlatMap) (pairs : List (ElementModel × ElementModel)) (brace : ℕ) (following : List ℕ) → HasRead map pairs → IsBraceAt map brace → IsCoreAt map.bytes.now map.start map.core → Whole map brace following
whole_by map pairs brace following read closes (inl same) =
    let c = closed map pairs brace 62 following read closes in
    let core : Core = record { kind = kinds.Map; start = map.base + map.core } in
    let test : eqb map.core map.start ≡ true = grind (arith, nat_tests) in
    let kind : kinds.Map ≡ kind_with map.start map.core = ap (λ (t : Bool). cond t kinds.Map kinds.Tagged) (sym test) in
    let element : IsElementAt 64 (kind_with map.start map.core) core (map.base + map.core) c.bytes (suc (map.base + brace)) following =
    subst (λ (k : ElementKind). IsElementAt 64 k core (map.base + map.core) c.bytes (suc (map.base + brace)) following) kind (element_closed map pairs brace 62 following c) in
    record {
      bytes = c.bytes;
      element = subst (λ (n : ℕ). IsElementAt 64 (kind_with map.start map.core) core (map.base + n) c.bytes (suc (map.base + brace)) following) (sym same) element;
      place = subst (λ (n : ℕ). Replaced (map.base + n) (drop n map.bytes.now) (suc (map.base + brace)) (drop (suc brace) map.bytes.now) c.bytes following) (sym same) c.place;
      begins = subst (λ (n : ℕ). Follows (drop n map.bytes.now) c.bytes) (sym same) c.begins;
    }
whole_by map pairs brace following read closes (inr named) =
    let c = closed map pairs brace 61 following read closes in
    let core : Core = record { kind = kinds.Map; start = map.base + map.core } in
    let test : eqb map.core map.start ≡ false = let before = named.before in grind (arith, nat_tests) in
    let kind : kinds.Tagged ≡ kind_with map.start map.core = ap (λ (t : Bool). cond t kinds.Map kinds.Tagged) (sym test) in
    let g = moved_gap (named.gap map.base 63) c.bytes c.begins in
    let t = moved_token (named.token map.base) g.0 (follows_before g.2 c.begins) in
    record {
      bytes = t.bytes;
      element = subst (λ (k : ElementKind). IsElementAt 64 k core (map.base + map.start) t.bytes (suc (map.base + brace)) following) kind (tagged t.token g.1 (element_closed map pairs brace 61 following c));
      place = replaced_then t.place (replaced_then g.2 c.place);
      begins = t.begins;
    }

-- the element that is the map up to a brace
abbrev pub map_piece : FlatMap → ℕ → ElementModel
map_piece map brace = record {
  kind = kind_with map.start map.core;
  start = map.base + map.start;
  text = take (suc brace - map.start) (drop map.start map.bytes.now);
  core = record { kind = kinds.Map; start = map.base + map.core };
}

-- the element that is the map up to a brace, where its kind and its end were computed
pub made_piece : (map : FlatMap) (brace end : ℕ) (kind : ElementKind) → kind ≡ kind_with map.start map.core → end ≡ suc brace
    → record { kind = kind; start = map.base + map.start; text = take (end - map.start) (drop map.start map.bytes.now); core = record { kind = kinds.Map; start = map.base + map.core } } ≡ map_piece map brace
made_piece map brace end kind same ends =
    let core : Core = record { kind = kinds.Map; start = map.base + map.core } in
    let text = drop map.start map.bytes.now in
    ap (λ (k : ElementKind). record { kind = k; start = map.base + map.start; text = take (end - map.start) text; core = core }) same
    ∙ ap (λ (n : ℕ). record { kind = kind_with map.start map.core; start = map.base + map.start; text = take (n - map.start) text; core = core }) ends

core_low : (bytes : List ℕ) (start core : ℕ) → IsCoreAt bytes start core → start ≤ core
core_low bytes start core (inl same) = omega (arith, same)
core_low bytes start core (inr named) = omega (arith, named.before)

text_size : (map : FlatMap) (brace : ℕ) → map.start ≤ brace → brace < length map.bytes.now → length (map_piece map brace).text ≡ suc brace - map.start
text_size map brace low lt = length-take-le (suc brace - map.start) (drop map.start map.bytes.now) (omega (arith, low, lt, length-drop map.start map.bytes.now))

brace_high : (map : FlatMap) (pairs : List (ElementModel × ElementModel)) (brace : ℕ) → HasRead map pairs → IsBraceAt map brace → map.start ≤ brace
brace_high map pairs brace read closes = omega (arith, core_low map.bytes.now map.start map.core read.core, read.following, closes.0)

first_following : (map : FlatMap) (pairs : List (ElementModel × ElementModel)) (brace : ℕ) (following : List ℕ) → HasRead map pairs → IsBraceAt map brace
    → IsElements 64 map.base (map.bytes.now ++ following) (map_piece map brace ∷ []) (suc (map.base + brace)) (drop (suc brace) map.bytes.now ++ following)
first_following map pairs brace following read closes =
    let bytes = map.bytes.now in
    let rest = drop (suc brace) bytes in
    let w = whole_by map pairs brace (rest ++ following) read closes read.core in
    let g = moved_gap (read.gap 64) w.bytes w.begins in
    let front = front_between bytes map.start (suc brace) (omega (arith, brace_high map pairs brace read closes)) w.place in
    let text : w.bytes ≡ (map_piece map brace).text ++ (rest ++ following) = w.place.there ∙ ap (λ (xs : List ℕ). xs ++ (rest ++ following)) front in
    let all : g.0 ≡ bytes ++ following = replaced_after following (replaced_then g.2 w.place) in
    subst (λ (xs : List ℕ). IsElements 64 map.base xs (map_piece map brace ∷ []) (suc (map.base + brace)) (rest ++ following)) all (next g.1 w.element text none)

pub map_is_first : (map : FlatMap) (pairs : List (ElementModel × ElementModel)) (brace : ℕ) → HasRead map pairs → IsBraceAt map brace → BeginsWithElement map.bytes.now map.base (map_piece map brace)
map_is_first map pairs brace read closes =
    let bytes = map.bytes.now in
    let low = brace_high map pairs brace read closes in
    let size = text_size map brace low closes.1 in
    let end : suc (map.base + brace) ≡ map.base + map.start + length (map_piece map brace).text = omega (arith, low, size) in
    let used : suc brace ≡ map.base + map.start + length (map_piece map brace).text - map.base = omega (arith, low, size) in
    let there : map.start ≡ map.base + map.start - map.base = omega arith in
    let upto : map.start + (suc brace - map.start) ≡ map.base + map.start + length (map_piece map brace).text - map.base = omega (arith, low, size) in (
      omega arith,
      omega (arith, low, size, closes.1),
      sym (drop-take map.start (suc brace - map.start) bytes)
          ∙ ap (λ (n : ℕ). drop n (take (map.start + (suc brace - map.start)) bytes)) there
          ∙ ap (λ (n : ℕ). drop (map.base + map.start - map.base) (take n bytes)) upto,
      λ following.
          subst (λ (q : ℕ). IsElements 64 map.base (bytes ++ following) (map_piece map brace ∷ []) q (drop (map.base + map.start + length (map_piece map brace).text - map.base) bytes ++ following)) end
          (subst (λ (n : ℕ). IsElements 64 map.base (bytes ++ following) (map_piece map brace ∷ []) (suc (map.base + brace)) (drop n bytes ++ following)) used (first_following map pairs brace following read closes)),
    )

pub map_is_element : (map : FlatMap) (pairs : List (ElementModel × ElementModel)) (brace : ℕ) → HasRead map pairs → IsBraceAt map brace → IsElement (map_piece map brace)
map_is_element map pairs brace read closes =
    let w = whole_by map pairs brace [] read closes read.core in
    let front = front_between map.bytes.now map.start (suc brace) (omega (arith, brace_high map pairs brace read closes)) w.place in
    let text : w.bytes ≡ (map_piece map brace).text = w.place.there ∙ append-nil w.place.front ∙ front in
    (suc (map.base + brace), subst (λ (xs : List ℕ). IsElementAt 64 (kind_with map.start map.core) (map_piece map brace).core (map.base + map.start) xs (suc (map.base + brace)) []) text w.element)

pub map_has_pairs : (map : FlatMap) (pairs : List (ElementModel × ElementModel)) (brace : ℕ) → HasRead map pairs → IsBraceAt map brace → HasPairs (map_piece map brace) pairs
map_has_pairs map pairs brace read closes =
    let bytes = map.bytes.now in
    let c = closed map pairs brace 62 [] read closes in
    let low = core_low bytes map.start map.core read.core in
    let front = front_between bytes map.core (suc brace) (omega (arith, read.following, closes.0)) c.place in
    let ahead : map.base + map.core - (map.base + map.start) ≡ map.core - map.start = omega (arith, low) in
    let sizes : suc brace - map.start ≡ map.core - map.start + (suc brace - map.core) = omega (arith, low, read.following, closes.0) in
    let there : map.start + (map.core - map.start) ≡ map.core = omega (arith, low) in
    let text : c.bytes ≡ (untagged (map_piece map brace)).text =
    c.place.there ∙ append-nil c.place.front ∙ front
    ∙ ap (λ (n : ℕ). take (suc brace - map.core) (drop n bytes)) (sym there)
    ∙ ap (take (suc brace - map.core)) (sym (drop-drop (map.core - map.start) map.start bytes))
    ∙ sym (drop-take (map.core - map.start) (suc brace - map.core) (drop map.start bytes))
    ∙ ap (λ (n : ℕ). drop (map.core - map.start) (take n (drop map.start bytes))) (sym sizes)
    ∙ ap (λ (n : ℕ). drop n (take (suc brace - map.start) (drop map.start bytes))) (sym ahead) in
    record {
      kind = refl;
      inner = suc (map.base + map.core);
      left = c.left;
      opens = subst (λ (xs : List ℕ). IsToken (Opens openers.Map) (map.base + map.core) xs (suc (map.base + map.core)) c.left) text c.opens;
      inside = record {
        ends = map.base + map.at;
        beyond = c.beyond;
        begins = map.base + brace;
        following = c.last ∷ [];
        after = suc (map.base + brace);
        bracket = Curly;
        elements = c.elements;
        gap = c.gap;
        close = close c.closes;
        closes = refl;
      };
    }
