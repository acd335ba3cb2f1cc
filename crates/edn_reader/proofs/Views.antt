-- Elements on their own, the elements between brackets, and the fields of a map.
use Rattle.std.proofs.Common.{◌≡◌, ◌↔◌, ℕ, suc, ◌+◌, ◌-◌, ◌≤◌, Bool, true, false, not, cond, ◌&&◌, List, [], ◌∷◌, ◌++◌, length, take, drop, Option, Some, None, refl, sym, ap, subst, ◌∙◌, append_assoc, arith}
use Rattle.std.specs.List.{AllByRecursion}
use Rattle.std.proofs.Math.Seq.{take-append_seam}
use Rattle.std.proofs.lemmas.Bool.Decides.{nat_tests}
use Rattle.std.proofs.lemmas.List.{append-nil, drop-drop}
use Rattle.edn_reader.specs.declared.bytes.Bracket.{Bracket}
use Rattle.edn_reader.specs.declared.bytes.Bracket.TheVariants.{Round, Square, Curly}
use Rattle.edn_reader.specs.declared.bytes.ByteClass.TheVariants as classes
use Rattle.edn_reader.specs.declared.element.ElementKind.{ElementKind}
use Rattle.edn_reader.specs.declared.element.ElementKind.TheVariants as kinds
use Rattle.edn_reader.specs.declared.element.Core.{Core}
use Rattle.edn_reader.specs.declared.element.Element.{Element}
use Rattle.edn_reader.specs.declared.field.Field.{Field}
use Rattle.edn_reader.specs.declared.parts.Parts.{Parts}
use Rattle.edn_reader.specs.declared.lookahead.Lookahead.{Lookahead}
use Rattle.edn_reader.specs.declared.token.Token.{Token}
use Rattle.edn_reader.specs.declared.token.Token.TheVariants.{Leaf, Opens, Closes}
use Rattle.edn_reader.specs.declared.token.Opener.{Opener}
use Rattle.edn_reader.specs.declared.token.Opener.TheVariants as openers
use Rattle.edn_reader.specs.declared.view.MapView.{MapView}
use Rattle.edn_reader.specs.Bytes.{class_of}
use Rattle.edn_reader.specs.Grammar.{ElementModel, untagged, IsToken, white, comment, run, hashed, character, text, hash_text, opening, set, discard, tag, close, opener_of, kind_of, fits, is_paired, is_odd, IsGap, nothing, IsElementAt, leaf, bracketed, tagged, IsElements, none, next, IsElement}
use Rattle.edn_reader.specs.Text.{IsFront}
use Rattle.edn_reader.specs.Token.{lexed}
use Rattle.edn_reader.specs.Skipping.{kind_token, NoGap, HasToken, SkipsElement, SkipsGap, SkipsTags, IsInside}
use Rattle.edn_reader.specs.Pairs.{PartsFrom, HasParts, in_turn, HasPairs, is_word, values_of}
use Rattle.edn_reader.specs.Lent.{piece_of, PartsLeft, NextPart, PairsLeft, NextPair}
use Rattle.edn_reader.specs.Given.{given, seen as seen_of}
use Rattle.edn_reader.proofs.Lexing.{lexed_token}
use Rattle.edn_reader.proofs.Places.{moved_element, cancel_end, wider_element}
use Rattle.edn_reader.proofs.Skipping.{core_at, element_no_gap, element_kind, beyond_gap, beyond_element, present_token, leaf_core, leaf_end}
use Rattle.edn_reader.proofs.Unique.{same_first, no_first}

-- ---- elements on their own

-- an element without its tags is an element
pub untagged_is_element : (piece : ElementModel) → IsElement piece → IsElement (untagged piece)
untagged_is_element piece h =
    let c = core_at h.1 in
    let same : c.ahead ≡ piece.core.start - piece.start = omega (arith, c.place) in
    (h.0, subst (λ (n : ℕ). IsElementAt 64 piece.core.kind piece.core piece.core.start (drop n piece.text) h.0 []) same c.element)

-- every element of a list of elements is one on its own
pub each_is_element : {room p q : ℕ} {pieces : List ElementModel} {a b : List ℕ} → room ≤ 64 → IsElements room p a pieces q b → AllByRecursion IsElement pieces
each_is_element low none = tt
each_is_element low (next {room = room} {ended = here} {beyond = beyond} {piece = piece} gap element whole others) =
    let m = moved_element element [] (λ h. tt) in
    let same : m.place.front ≡ piece.text = cancel_end m.place.front piece.text beyond (sym m.place.here ∙ whole) in
    let alone : m.bytes ≡ piece.text = m.place.there ∙ append-nil m.place.front ∙ same in
    let there : IsElementAt room piece.kind piece.core piece.start piece.text here [] = subst (λ (t : List ℕ). IsElementAt room piece.kind piece.core piece.start t here []) alone m.element in
    let roomy : IsElementAt 64 piece.kind piece.core piece.start piece.text here [] =
    subst (λ (r : ℕ). IsElementAt r piece.kind piece.core piece.start piece.text here []) (omega arith) (wider_element (64 - room) there) in
    ((here, roomy), each_is_element low others)

last_of : (pieces : List ElementModel) (piece : ElementModel) → AllByRecursion IsElement (pieces ++ piece ∷ []) → IsElement piece
last_of [] piece h = h.0
last_of (p ∷ pieces) piece h = last_of pieces piece h.1

-- the last element of a prefix of gaps and elements is one on its own
pub last_is_element : (input : List ℕ) (pieces : List ElementModel) (piece : ElementModel) (at : ℕ) → IsFront input (pieces ++ piece ∷ []) at → IsElement piece
last_is_element input pieces piece at front = let low : 64 ≤ 64 = omega arith in last_of pieces piece (each_is_element low front)

-- ---- brackets

opener_one : (x y : Bracket) → opener_of x ≡ opener_of y → x ≡ y
opener_one Round Round e = refl
opener_one Round Square e = absurd cc
opener_one Round Curly e = absurd cc
opener_one Square Round e = absurd cc
opener_one Square Square e = refl
opener_one Square Curly e = absurd cc
opener_one Curly Round e = absurd cc
opener_one Curly Square e = absurd cc
opener_one Curly Curly e = refl

kind_one : (x : Opener) (bracket : Bracket) → kind_of x ≡ kind_of (opener_of bracket) → x ≡ opener_of bracket
kind_one openers.List Round e = refl
kind_one openers.List Square e = absurd cc
kind_one openers.List Curly e = absurd cc
kind_one openers.Vector Round e = absurd cc
kind_one openers.Vector Square e = refl
kind_one openers.Vector Curly e = absurd cc
kind_one openers.Map Round e = absurd cc
kind_one openers.Map Square e = absurd cc
kind_one openers.Map Curly e = refl
kind_one openers.Set Round e = absurd cc
kind_one openers.Set Square e = absurd cc
kind_one openers.Set Curly e = absurd cc
kind_one openers.Tag Round e = absurd cc
kind_one openers.Tag Square e = absurd cc
kind_one openers.Tag Curly e = absurd cc
kind_one openers.Discard Round e = absurd cc
kind_one openers.Discard Square e = absurd cc
kind_one openers.Discard Curly e = absurd cc

abbrev is_bracket : Opener → Bool
is_bracket openers.List = true
is_bracket openers.Vector = true
is_bracket openers.Map = true
is_bracket openers.Set = false
is_bracket openers.Tag = false
is_bracket openers.Discard = false

bracket_opener : (bracket : Bracket) → is_bracket (opener_of bracket) ≡ true
bracket_opener Round = refl
bracket_opener Square = refl
bracket_opener Curly = refl

no_bracket : (x : Opener) (bracket : Bracket) → is_bracket x ≡ false → x ≡ opener_of bracket → ⊥
no_bracket x bracket e same = let both : false ≡ true = sym e ∙ ap is_bracket same ∙ bracket_opener bracket in absurd cc

-- the byte of an opening bracket, and the bytes after it
pub record OpenedBy (bracket : Bracket) (p : ℕ) (a : List ℕ) (q : ℕ) (b : List ℕ) : Type 0 where
  pub byte : ℕ
  pub bytes : a ≡ byte ∷ b
  pub class : class_of byte ≡ classes.Opens bracket
  pub place : q ≡ suc p

pub opened_by : {token : Token} {p q : ℕ} {a b : List ℕ} (bracket : Bracket) → IsToken token p a q b → token ≡ Opens (opener_of bracket) → OpenedBy bracket p a q b
opened_by bracket (white v) e = absurd cc
opened_by bracket (comment v g) e = absurd cc
opened_by bracket (run v g) e = absurd cc
opened_by bracket (hashed v u g) e = absurd cc
opened_by bracket (character v g) e = absurd cc
opened_by bracket (text v g) e = absurd cc
opened_by bracket (hash_text v u g) e = absurd cc
opened_by bracket (opening {b = b} {bracket = other} v) e =
    let same : opener_of other ≡ opener_of bracket = cc in
    record { byte = b; bytes = refl; class = v ∙ ap (λ (x : Bracket). classes.Opens x) (opener_one other bracket same); place = refl }
opened_by bracket (set v u) e = let same : openers.Set ≡ opener_of bracket = cc in absurd (no_bracket openers.Set bracket refl same)
opened_by bracket (discard v u) e = let same : openers.Discard ≡ opener_of bracket = cc in absurd (no_bracket openers.Discard bracket refl same)
opened_by bracket (tag v u g) e = let same : openers.Tag ≡ opener_of bracket = cc in absurd (no_bracket openers.Tag bracket refl same)
opened_by bracket (close v) e = absurd cc

opens_square : class_of 91 ≡ classes.Opens Square
unfolding class_of
opens_square = refl

opens_curly : class_of 123 ≡ classes.Opens Curly
unfolding class_of
opens_curly = refl

square_is : (b : ℕ) → class_of b ≡ classes.Opens Square → b ≡ 91
unfolding class_of
square_is b e = grind (arith, nat_tests)

curly_is : (b : ℕ) → class_of b ≡ classes.Opens Curly → b ≡ 123
unfolding class_of
curly_is b e = grind (arith, nat_tests)

-- the one byte of an opening bracket
pub record OneByte (bracket : Bracket) (byte : ℕ) : Type 0 where
  pub opens : class_of byte ≡ classes.Opens bracket
  pub alone : (b : ℕ) → class_of b ≡ classes.Opens bracket → b ≡ byte

pub square : OneByte Square 91
square = record { opens = opens_square; alone = square_is }

pub curly : OneByte Curly 123
curly = record { opens = opens_curly; alone = curly_is }

pub tail_same : {x y : ℕ} {a b : List ℕ} → x ∷ a ≡ y ∷ b → a ≡ b
tail_same e = cc

pub parts_of_inside : (bracket : Bracket) (byte : ℕ) → OneByte bracket byte → (parts : Parts) (piece : ElementModel) → IsInside (Some parts) piece (kind_of (opener_of bracket)) byte
    → (pieces : List ElementModel) → HasParts (opener_of bracket) piece pieces ↔ PartsLeft (opener_of bracket) parts pieces
parts_of_inside bracket byte one parts piece inside pieces =
    let opener = opener_of bracket in
    let place : suc piece.core.start ≡ parts.at = sym inside.2 in (
      λ h.
          let o = opened_by bracket h.opens refl in
          let tail : h.left ≡ parts.left.now = tail_same (sym o.bytes ∙ inside.1) in
          subst (λ (p : ℕ). PartsFrom opener p parts.left.now pieces) (o.place ∙ place) (subst (λ (x : List ℕ). PartsFrom opener h.inner x pieces) tail h.inside),
      λ h.
          let token : IsToken (Opens opener) piece.core.start (byte ∷ parts.left.now) (suc piece.core.start) parts.left.now = opening one.opens in
          record {
            kind = inside.0;
            inner = parts.at;
            left = parts.left.now;
            opens = subst (λ (p : ℕ). IsToken (Opens opener) piece.core.start (untagged piece).text p parts.left.now) place
                (subst (λ (x : List ℕ). IsToken (Opens opener) piece.core.start x (suc piece.core.start) parts.left.now) (sym inside.1) token);
            inside = h;
          },
    )

pub no_parts : (bracket : Bracket) (byte : ℕ) → OneByte bracket byte → (piece : ElementModel) → IsInside None piece (kind_of (opener_of bracket)) byte → (pieces : List ElementModel) → HasParts (opener_of bracket) piece pieces → ⊥
no_parts bracket byte one piece outside pieces h =
    let o = opened_by bracket h.opens refl in
    outside h.kind h.left (o.bytes ∙ ap (λ (x : ℕ). x ∷ h.left) (one.alone o.byte o.class))

-- ---- an element with brackets has parts

abbrev is_leaf : ElementKind → Bool
is_leaf kinds.Atom = true
is_leaf kinds.Char = true
is_leaf kinds.Text = true
is_leaf kinds.List = false
is_leaf kinds.Vector = false
is_leaf kinds.Map = false
is_leaf kinds.Set = false
is_leaf kinds.Tagged = false

leaf_kind : {token : Token} {p q : ℕ} {a b : List ℕ} (kind : ElementKind) → IsToken token p a q b → token ≡ Leaf kind → is_leaf kind ≡ true
leaf_kind kind (white v) e = absurd cc
leaf_kind kind (comment v g) e = absurd cc
leaf_kind kind (run v g) e = let same : kind ≡ kinds.Atom = cc in ap is_leaf same
leaf_kind kind (hashed v u g) e = let same : kind ≡ kinds.Atom = cc in ap is_leaf same
leaf_kind kind (character v g) e = let same : kind ≡ kinds.Char = cc in ap is_leaf same
leaf_kind kind (text v g) e = let same : kind ≡ kinds.Text = cc in ap is_leaf same
leaf_kind kind (hash_text v u g) e = let same : kind ≡ kinds.Text = cc in ap is_leaf same
leaf_kind kind (opening v) e = absurd cc
leaf_kind kind (set v u) e = absurd cc
leaf_kind kind (discard v u) e = absurd cc
leaf_kind kind (tag v u g) e = absurd cc
leaf_kind kind (close v) e = absurd cc

bracket_no_leaf : (bracket : Bracket) → is_leaf (kind_of (opener_of bracket)) ≡ false
bracket_no_leaf Round = refl
bracket_no_leaf Square = refl
bracket_no_leaf Curly = refl

bracket_no_tag : (bracket : Bracket) → kinds.Tagged ≡ kind_of (opener_of bracket) → ⊥
bracket_no_tag Round e = cc
bracket_no_tag Square e = cc
bracket_no_tag Curly e = cc

record Bracketed (bracket : Bracket) (p : ℕ) (a : List ℕ) : Type 0 where
  pieces : List ElementModel
  inner : ℕ
  left : List ℕ
  opens : IsToken (Opens (opener_of bracket)) p a inner left
  inside : PartsFrom (opener_of bracket) inner left pieces
  even : is_paired (opener_of bracket) && is_odd pieces ≡ false

parts_from : {room inner ends begins after : ℕ} {left beyond following rest : List ℕ} {opener : Opener} {last : Bracket} (pieces : List ElementModel) → room ≡ 63
    → IsElements room inner left pieces ends beyond → IsGap room ends beyond begins following → IsToken (Closes last) begins following after rest → fits opener last ≡ true → rest ≡ []
    → PartsFrom opener inner left pieces
parts_from {room} {inner} {ends} {begins} {after} {left} {beyond} {following} {rest} {opener} {last} pieces less els gap token fit end = record {
  ends = ends;
  beyond = beyond;
  begins = begins;
  following = following;
  after = after;
  bracket = last;
  elements = subst (λ (r : ℕ). IsElements r inner left pieces ends beyond) less els;
  gap = subst (λ (r : ℕ). IsGap r ends beyond begins following) less gap;
  close = subst (λ (x : List ℕ). IsToken (Closes last) begins following after x) end token;
  closes = fit;
}

bracketed_parts : {room p q : ℕ} {kind : ElementKind} {core : Core} {a b : List ℕ} (bracket : Bracket) → IsElementAt room kind core p a q b → room ≡ 64 → kind ≡ kind_of (opener_of bracket) → b ≡ []
    → Bracketed bracket p a
bracketed_parts bracket (leaf {kind = kind} token) full k end =
    let both : true ≡ false = sym (leaf_kind kind token refl) ∙ ap is_leaf k ∙ bracket_no_leaf bracket in absurd cc
bracketed_parts bracket (bracketed {room = room} {place = place} {inner = inner} {bytes = bytes} {left = left} {pieces = pieces} {opener = opener} {bracket = last} token els gap lasts fit even) full k end =
    let same : opener ≡ opener_of bracket = kind_one opener bracket k in
    let less : room ≡ 63 = omega arith in
    let inside : PartsFrom opener inner left pieces = parts_from pieces less els gap lasts fit end in
    record {
      pieces = pieces;
      inner = inner;
      left = left;
      opens = subst (λ (o : Opener). IsToken (Opens o) place bytes inner left) same token;
      inside = subst (λ (o : Opener). PartsFrom o inner left pieces) same inside;
      even = subst (λ (o : Opener). is_paired o && is_odd pieces ≡ false) same even;
    }
bracketed_parts bracket (tagged token gap element) full k end = absurd (bracket_no_tag bracket k)

-- an element that is a bracket without its tags has parts
pub has_parts : (bracket : Bracket) (piece : ElementModel) → IsElement piece → piece.core.kind ≡ kind_of (opener_of bracket)
    → (pieces : List ElementModel) × HasParts (opener_of bracket) piece pieces × (is_paired (opener_of bracket) && is_odd pieces ≡ false)
has_parts bracket piece h kind =
    let m = bracketed_parts bracket (untagged_is_element piece h).1 refl kind refl in
    (m.pieces, record { kind = kind; inner = m.inner; left = m.left; opens = m.opens; inside = m.inside }, m.even)

not-not : (t : Bool) → not (not t) ≡ t
not-not true = refl
not-not false = refl

-- an even number of elements are pairs, so every map has pairs
pub paired : (pieces : List ElementModel) → is_odd pieces ≡ false → (pairs : List (ElementModel × ElementModel)) × (in_turn pairs ≡ pieces)
paired [] e = ([], refl)
paired (p ∷ []) e = absurd cc
paired (p ∷ q ∷ pieces) e =
    let rest = paired pieces (sym (not-not (is_odd pieces)) ∙ e) in
    ((p, q) ∷ rest.0, ap (λ (ps : List ElementModel). p ∷ q ∷ ps) rest.1)

pub has_pairs : (piece : ElementModel) → IsElement piece → piece.core.kind ≡ kinds.Map → (pairs : List (ElementModel × ElementModel)) × HasPairs piece pairs
has_pairs piece h kind =
    let m = has_parts Curly piece h kind in
    let pairs = paired m.0 m.2 in
    (pairs.0, subst (HasParts openers.Map piece) (sym pairs.1) m.1)

-- ---- the next part

-- the first of several elements
record First (room p : ℕ) (a : List ℕ) (piece : ElementModel) (pieces : List ElementModel) (ends : ℕ) (beyond : List ℕ) : Type 0 where
  left : List ℕ
  ended : ℕ
  following : List ℕ
  gap : IsGap room p a piece.start left
  element : IsElementAt room piece.kind piece.core piece.start left ended following
  whole : left ≡ piece.text ++ following
  others : IsElements room ended following pieces ends beyond

first_of : {room p ends : ℕ} {a beyond : List ℕ} {piece : ElementModel} {pieces : List ElementModel} → IsElements room p a (piece ∷ pieces) ends beyond → First room p a piece pieces ends beyond
first_of (next {ended = ended} {left = left} {beyond = following} gap element whole others) =
    record { left = left; ended = ended; following = following; gap = gap; element = element; whole = whole; others = others }

none_of : {room p ends : ℕ} {a beyond : List ℕ} → IsElements room p a [] ends beyond → (p ≡ ends) × (a ≡ beyond)
none_of none = (refl, refl)

-- a gap ends where it was found to end, and there its rest begins
gap_over : {room p q : ℕ} {a b : List ℕ} (start : ℕ) → IsGap room p a q b → NoGap (lexed b).0 → SkipsGap a 0 start → (p + start ≡ q) × (drop start a ≡ b)
gap_over {room} {p} {q} {a} {b} start gap clear skips =
    let long : p + start ≡ q + 0 = skips room p q b gap clear in
    let place : p + start ≡ q = omega (arith, long) in
    (place, beyond_gap start gap place)

no_first_kind : (opener : Opener) (at : ℕ) (left : List ℕ) (start : ℕ) → PartsFrom opener at left [] → SkipsGap left 0 start → kind_token (lexed (drop start left)).0 ≡ None
no_first_kind opener at left start h skips =
    let close = (lexed_token h.close).token_is in
    let same = none_of h.elements in
    let gap : IsGap 63 at left h.begins h.following =
    subst (λ (p : ℕ). IsGap 63 p left h.begins h.following) (sym same.0) (subst (λ (a : List ℕ). IsGap 63 h.ends a h.begins h.following) (sym same.1) h.gap) in
    let here = gap_over start gap (subst NoGap (sym close) tt) skips in
    ap (λ (a : List ℕ). kind_token (lexed a).0) here.1 ∙ ap kind_token close

-- what the bytes have at the indices that were found
record Reached (left : List ℕ) (at start middle : ℕ) (piece : ElementModel) (ended : ℕ) (following : List ℕ) : Type 0 where
  begins : at + start ≡ piece.start
  first : kind_token (lexed (drop start left)).0 ≡ Some piece.kind
  core : at + middle ≡ piece.core.start
  inner : kind_token (lexed (drop middle left)).0 ≡ Some piece.core.kind
  room : ℕ
  element : IsElementAt room piece.core.kind piece.core piece.core.start (drop middle left) ended following

reached : {room at ended : ℕ} {left beyond following : List ℕ} (piece : ElementModel) (start middle : ℕ) → IsGap room at left piece.start beyond → IsElementAt room piece.kind piece.core piece.start beyond ended following
    → SkipsGap left 0 start → SkipsTags left start middle → Reached left at start middle piece ended following
reached {room} {at} {ended} {left} {beyond} {following} piece start middle gap element skips tags =
    let here = gap_over start gap (element_no_gap element) skips in
    let there : IsElementAt room piece.kind piece.core piece.start (drop start left) ended following =
    subst (λ (a : List ℕ). IsElementAt room piece.kind piece.core piece.start a ended following) (sym here.1) element in
    let long : piece.start + middle ≡ piece.core.start + start = tags room piece.start ended piece.kind piece.core following there in
    let c = core_at there in
    let same : drop c.ahead (drop start left) ≡ drop middle left =
    drop-drop c.ahead start left ∙ ap (λ (n : ℕ). drop n left) (omega (arith, long, c.place)) in
    let inside : IsElementAt room piece.core.kind piece.core piece.core.start (drop middle left) ended following =
    subst (λ (a : List ℕ). IsElementAt room piece.core.kind piece.core piece.core.start a ended following) same c.element in
    record {
      begins = here.0;
      first = element_kind there;
      core = omega (arith, here.0, long);
      inner = element_kind inside;
      room = room;
      element = inside;
    }

no_kind : {kind : ElementKind} {found : Option ElementKind} → found ≡ Some kind → found ≡ None → ⊥
no_kind e f = let both = sym e ∙ f in cc

-- where no element begins, none is left
pub none_left : (opener : Opener) (parts : Parts) (start : ℕ) → SkipsGap parts.left.now 0 start → kind_token (lexed (drop start parts.left.now)).0 ≡ None
    → (pieces : List ElementModel) → PartsLeft opener parts pieces → pieces ≡ []
none_left opener parts start skips e [] h = refl
none_left opener parts start skips e (piece ∷ pieces) h =
    let f = first_of h.elements in
    let here = gap_over start f.gap (element_no_gap f.element) skips in
    absurd (no_kind (ap (λ (a : List ℕ). kind_token (lexed a).0) here.1 ∙ element_kind f.element) e)

pub no_core_left : (opener : Opener) (parts : Parts) (start middle : ℕ) → SkipsGap parts.left.now 0 start → SkipsTags parts.left.now start middle
    → kind_token (lexed (drop middle parts.left.now)).0 ≡ None → (pieces : List ElementModel) → PartsLeft opener parts pieces → pieces ≡ []
no_core_left opener parts start middle skips tags e [] h = refl
no_core_left opener parts start middle skips tags e (piece ∷ pieces) h =
    let f = first_of h.elements in absurd (no_kind (reached piece start middle f.gap f.element skips tags).inner e)

abbrev pub found_piece : Parts → ℕ → ℕ → ℕ → ElementKind → ElementKind → ElementModel
found_piece parts start middle end kind inner = record {
  kind = kind;
  start = parts.at + start;
  text = take (end - start) (drop start parts.left.now);
  core = record { kind = inner; start = parts.at + middle };
}

kind_same : {found : Option ElementKind} {x y : ElementKind} → found ≡ Some x → found ≡ Some y → x ≡ y
kind_same e f = let both = sym e ∙ f in cc

same_piece : (x y : ElementModel) → x.kind ≡ y.kind → x.start ≡ y.start → x.text ≡ y.text → x.core.kind ≡ y.core.kind → x.core.start ≡ y.core.start → x ≡ y
same_piece x y e f g h i =
    ap (λ (k : ElementKind). record { kind = k; start = x.start; text = x.text; core = x.core }) e
    ∙ ap (λ (n : ℕ). record { kind = y.kind; start = n; text = x.text; core = x.core }) f
    ∙ ap (λ (t : List ℕ). record { kind = y.kind; start = y.start; text = t; core = x.core }) g
    ∙ ap (λ (k : ElementKind). record { kind = y.kind; start = y.start; text = y.text; core = record { kind = k; start = x.core.start } }) h
    ∙ ap (λ (n : ℕ). record { kind = y.kind; start = y.start; text = y.text; core = record { kind = y.core.kind; start = n } }) i

abbrev pub FoundPart : Opener → ElementModel → Parts → List ElementModel → Type 0
FoundPart opener found after [] = ⊥
FoundPart opener found after (piece ∷ pieces) = (found ≡ piece) × PartsLeft opener after pieces

-- what was found is the first element, and the others are left
pub found_part : (opener : Opener) (old after : Parts) (start middle end : ℕ) (kind inner : ElementKind) → SkipsGap old.left.now 0 start → SkipsTags old.left.now start middle
    → SkipsElement old.left.now middle end → start ≤ middle → middle ≤ end → Some kind ≡ kind_token (lexed (drop start old.left.now)).0
    → Some inner ≡ kind_token (lexed (drop middle old.left.now)).0
    → after.at ≡ old.at + end → after.left.now ≡ drop end old.left.now → (pieces : List ElementModel) → PartsLeft opener old pieces → FoundPart opener (found_piece old start middle end kind inner) after pieces
found_part opener old after start middle end kind inner skips tags ends low high first second at left [] h =
    absurd (no_kind (sym first) (no_first_kind opener old.at old.left.now start h skips))
found_part opener old after start middle end kind inner skips tags ends low high first second at left (piece ∷ pieces) h =
    let bytes = old.left.now in
    let f = first_of h.elements in
    let r = reached piece start middle f.gap f.element skips tags in
    let long : piece.core.start + end ≡ f.ended + middle = ends r.room piece.core.start piece.core.start f.ended piece.core.kind piece.core (drop middle bytes) f.following nothing r.element in
    let following : drop end bytes ≡ f.following =
    ap (λ (n : ℕ). drop n bytes) (omega (arith, high)) ∙ sym (drop-drop (end - middle) middle bytes) ∙ beyond_element (end - middle) r.element (omega (arith, long, high)) in
    let here = gap_over start f.gap (element_no_gap f.element) skips in
    let m = moved_element f.element f.following (λ e. e) in
    let front : m.place.front ≡ piece.text = cancel_end m.place.front piece.text f.following (sym m.place.here ∙ f.whole) in
    let size : end - start ≡ length piece.text = omega (arith, m.place.place, ap length front, long, r.begins, r.core, low, high) in
    let text : take (end - start) (drop start bytes) ≡ piece.text =
    ap (take (end - start)) (here.1 ∙ f.whole) ∙ ap (λ (n : ℕ). take n (piece.text ++ f.following)) size ∙ take-append_seam piece.text f.following in
    let same : found_piece old start middle end kind inner ≡ piece =
    same_piece (found_piece old start middle end kind inner) piece (kind_same (sym first) r.first) r.begins text (kind_same (sym second) r.inner) r.core in
    let ended : after.at ≡ f.ended = omega (arith, at, long, r.core) in
    let rest : after.left.now ≡ f.following = left ∙ following in
    let others : IsElements 63 after.at after.left.now pieces h.ends h.beyond =
    subst (λ (p : ℕ). IsElements 63 p after.left.now pieces h.ends h.beyond) (sym ended) (subst (λ (a : List ℕ). IsElements 63 f.ended a pieces h.ends h.beyond) (sym rest) f.others) in (
      same,
      record { ends = h.ends; beyond = h.beyond; begins = h.begins; following = h.following; after = h.after; bracket = h.bracket; elements = others; gap = h.gap; close = h.close; closes = h.closes },
    )

-- an element that was found as one token is the first one, and the others are left
pub leaf_part : (opener : Opener) (old after : Parts) (front : Lookahead) (kind : ElementKind) → SkipsGap old.left.now 0 front.at → HasToken old.left.now front → front.found.token ≡ Leaf kind
    → after.at ≡ old.at + front.found.end → after.left.now ≡ drop front.found.end old.left.now → (pieces : List ElementModel) → PartsLeft opener old pieces
    → FoundPart opener (found_piece old front.at front.at front.found.end kind kind) after pieces
leaf_part opener old after front kind skips present is at left =
    let bytes = old.left.now in
    let begins : Some kind ≡ kind_token (lexed (drop front.at bytes)).0 = sym (ap kind_token (present_token bytes front front.at present refl ∙ is)) in
    found_part opener old after front.at front.at front.found.end kind kind skips (leaf_core bytes front kind present is) (leaf_end bytes front kind present is)
    (omega arith) (omega (arith, present.forward)) begins begins at left

pub next_part : (opener : Opener) (after : Parts) (element : Element) (found : ElementModel) → piece_of element ≡ found → (pieces : List ElementModel) → FoundPart opener found after pieces → NextPart opener (Some element) after pieces
next_part opener after element found same [] h = absurd h
next_part opener after element found same (piece ∷ pieces) h = (same ∙ h.0, h.1)

pub parts_are_elements : {opener : Opener} {place : ℕ} {bytes : List ℕ} {pieces : List ElementModel} → PartsFrom opener place bytes pieces → AllByRecursion IsElement pieces
parts_are_elements h = let low : 63 ≤ 64 = omega arith in each_is_element low h.elements

-- ---- pairs

pub no_pair : (pairs : List (ElementModel × ElementModel)) → in_turn pairs ≡ [] → pairs ≡ []
no_pair [] e = refl
no_pair (pair ∷ pairs) e = absurd cc

pub first_alone : (old middle after : Parts) (view : MapView) (key : Element) → ((pieces : List ElementModel) → PartsLeft openers.Map old pieces → NextPart openers.Map (Some key) middle pieces)
    → ((pieces : List ElementModel) → PartsLeft openers.Map middle pieces → NextPart openers.Map None after pieces) → (pairs : List (ElementModel × ElementModel)) → PartsLeft openers.Map old (in_turn pairs) → NextPair None view pairs
first_alone old middle after view key first second [] h = refl
first_alone old middle after view key first second (pair ∷ pairs) h =
    let e : pair.1 ∷ in_turn pairs ≡ [] = second (pair.1 ∷ in_turn pairs) (first (pair.0 ∷ pair.1 ∷ in_turn pairs) h).1 in absurd cc

pub both_given : (old middle : Parts) (view : MapView) (key value : Element) → ((pieces : List ElementModel) → PartsLeft openers.Map old pieces → NextPart openers.Map (Some key) middle pieces)
    → ((pieces : List ElementModel) → PartsLeft openers.Map middle pieces → NextPart openers.Map (Some value) view.parts pieces) → (pairs : List (ElementModel × ElementModel)) → PartsLeft openers.Map old (in_turn pairs)
    → NextPair (Some (key, value)) view pairs
both_given old middle view key value first second [] h = absurd (first [] h)
both_given old middle view key value first second (pair ∷ pairs) h =
    let f = first (pair.0 ∷ pair.1 ∷ in_turn pairs) h in
    let s = second (pair.1 ∷ in_turn pairs) f.1 in (f.0, s.0, s.1)

abbrev AreElements : ElementModel × ElementModel → Type 0
AreElements pair = IsElement pair.0 × IsElement pair.1

pairs_each : (pairs : List (ElementModel × ElementModel)) → AllByRecursion IsElement (in_turn pairs) → AllByRecursion AreElements pairs
pairs_each [] h = tt
pairs_each (pair ∷ pairs) h = ((h.0, h.1.0), pairs_each pairs h.1.1)

pub pairs_are_elements : {opener : Opener} {place : ℕ} {bytes : List ℕ} (pairs : List (ElementModel × ElementModel)) → PartsFrom opener place bytes (in_turn pairs)
    → AllByRecursion (λ pair. IsElement pair.0 × IsElement pair.1) pairs
pairs_are_elements pairs h = pairs_each pairs (parts_are_elements h)

-- ---- fields

abbrev IsOf : Field → List ElementModel → Type 0
IsOf found values = seen_of found ≡ given values

-- the values found so far are those of the pairs that were seen
abbrev pub Seen : MapView → MapView → List ℕ → Field → Type 0
Seen first view key found =
    (pairs : List (ElementModel × ElementModel)) → PairsLeft first pairs
    → (seen left : List (ElementModel × ElementModel)) × (pairs ≡ seen ++ left) × PairsLeft view left × IsOf found (values_of key seen)

abbrev fits_key : List ℕ → ElementModel × ElementModel → Bool
fits_key key pair = is_word key pair.0

one_value : (key : List ℕ) (pair : ElementModel × ElementModel) (pairs : List (ElementModel × ElementModel)) (t : Bool) → fits_key key pair ≡ t → values_of key (pair ∷ pairs) ≡ cond t (pair.1 ∷ values_of key pairs) (values_of key pairs)
one_value key pair pairs true e = rw e refl
one_value key pair pairs false e = rw e refl

following : (t : Bool) (x : ElementModel) (a b c : List ElementModel) → a ≡ b ++ c → cond t (x ∷ a) a ≡ cond t (x ∷ b) b ++ c
following true x a b c e = ap (λ (xs : List ElementModel). x ∷ xs) e
following false x a b c e = e

values_after : (key : List ℕ) (p : ElementModel × ElementModel) (seen more : List (ElementModel × ElementModel)) (values : List ElementModel) (t : Bool) → fits_key key p ≡ t → values_of key (seen ++ more) ≡ values_of key seen ++ values
    → values_of key (p ∷ seen ++ more) ≡ values_of key (p ∷ seen) ++ values
values_after key p seen more values t e h =
    one_value key p (seen ++ more) t e ∙ following t p.1 (values_of key (seen ++ more)) (values_of key seen) values h
    ∙ ap (λ (xs : List ElementModel). xs ++ values) (sym (one_value key p seen t e))

values_more : (key : List ℕ) (seen : List (ElementModel × ElementModel)) (pair : ElementModel × ElementModel) → fits_key key pair ≡ true → values_of key (seen ++ pair ∷ []) ≡ values_of key seen ++ pair.1 ∷ []
values_more key [] pair e = one_value key pair [] true e
values_more key (p ∷ seen) pair e = values_after key p seen (pair ∷ []) (pair.1 ∷ []) (fits_key key p) refl (values_more key seen pair e)

values_same : (key : List ℕ) (seen : List (ElementModel × ElementModel)) (pair : ElementModel × ElementModel) → fits_key key pair ≡ false → values_of key (seen ++ pair ∷ []) ≡ values_of key seen
values_same key [] pair e = one_value key pair [] false e
values_same key (p ∷ seen) pair e =
    values_after key p seen (pair ∷ []) [] (fits_key key p) refl (values_same key seen pair e ∙ sym (append-nil (values_of key seen))) ∙ append-nil (values_of key (p ∷ seen))

with_key : (view after : MapView) (key : List ℕ) (found more : Field) (name value : Element) (seen left pairs : List (ElementModel × ElementModel)) → pairs ≡ seen ++ left
    → NextPair (Some (name, value)) after left → IsOf found (values_of key seen) → is_word key (piece_of name) ≡ true
    → ((values : List ElementModel) → IsOf found values → IsOf more (values ++ piece_of value ∷ []))
    → (s l : List (ElementModel × ElementModel)) × (pairs ≡ s ++ l) × PairsLeft after l × IsOf more (values_of key s)
with_key view after key found more name value seen [] pairs e n k t f = absurd n
with_key view after key found more name value seen (pair ∷ left) pairs e n k t f =
    let same : fits_key key pair ≡ true = subst (λ (x : ElementModel). is_word key x ≡ true) n.0 t in
    let longer : IsOf more (values_of key seen ++ pair.1 ∷ []) = subst (λ (x : ElementModel). IsOf more (values_of key seen ++ x ∷ [])) n.1 (f (values_of key seen) k) in
    (seen ++ pair ∷ [], left, e ∙ sym (append_assoc seen (pair ∷ []) left), n.2, subst (IsOf more) (sym (values_more key seen pair same)) longer)

with_other : (view after : MapView) (key : List ℕ) (found : Field) (name value : Element) (seen left pairs : List (ElementModel × ElementModel)) → pairs ≡ seen ++ left
    → NextPair (Some (name, value)) after left → IsOf found (values_of key seen) → is_word key (piece_of name) ≡ false
    → (s l : List (ElementModel × ElementModel)) × (pairs ≡ s ++ l) × PairsLeft after l × IsOf found (values_of key s)
with_other view after key found name value seen [] pairs e n k t = absurd n
with_other view after key found name value seen (pair ∷ left) pairs e n k t =
    let same : fits_key key pair ≡ false = subst (λ (x : ElementModel). is_word key x ≡ false) n.0 t in
    (seen ++ pair ∷ [], left, e ∙ sym (append_assoc seen (pair ∷ []) left), n.2, subst (IsOf found) (sym (values_same key seen pair same)) k)

pub seen_key : (first view after : MapView) (key : List ℕ) (found more : Field) (name value : Element) → Seen first view key found
    → ((pairs : List (ElementModel × ElementModel)) → PairsLeft view pairs → NextPair (Some (name, value)) after pairs) → is_word key (piece_of name) ≡ true
    → ((values : List ElementModel) → IsOf found values → IsOf more (values ++ piece_of value ∷ [])) → Seen first after key more
seen_key first view after key found more name value s n e f pairs h =
    let k = s pairs h in with_key view after key found more name value k.0 k.1 pairs k.2 (n k.1 k.3) k.4 e f

pub seen_other : (first view after : MapView) (key : List ℕ) (found : Field) (name value : Element) → Seen first view key found
    → ((pairs : List (ElementModel × ElementModel)) → PairsLeft view pairs → NextPair (Some (name, value)) after pairs) → is_word key (piece_of name) ≡ false → Seen first after key found
seen_other first view after key found name value s n e pairs h =
    let k = s pairs h in with_other view after key found name value k.0 k.1 pairs k.2 (n k.1 k.3) k.4 e

pub seen_end : (first view after : MapView) (key : List ℕ) (found : Field) → Seen first view key found → ((pairs : List (ElementModel × ElementModel)) → PairsLeft view pairs → NextPair None after pairs)
    → (pairs : List (ElementModel × ElementModel)) → PairsLeft first pairs → IsOf found (values_of key pairs)
seen_end first view after key found s n pairs h =
    let k = s pairs h in
    let e : pairs ≡ k.0 = k.2 ∙ ap (λ (left : List (ElementModel × ElementModel)). k.0 ++ left) (n k.1 k.3) ∙ append-nil k.0 in
    subst (λ (ps : List (ElementModel × ElementModel)). IsOf found (values_of key ps)) (sym e) k.4

-- ---- one list of parts

only_none : (opener : Opener) (place : ℕ) (bytes : List ℕ) (pieces : List ElementModel) → PartsFrom opener place bytes [] → PartsFrom opener place bytes pieces → pieces ≡ []
only_none opener place bytes [] h k = refl
only_none opener place bytes (piece ∷ pieces) h k =
    let same = none_of h.elements in
    let f = first_of k.elements in
    let low : 63 ≤ 64 = omega arith in
    let gap : IsGap 63 place bytes h.begins h.following =
    subst (λ (p : ℕ). IsGap 63 p bytes h.begins h.following) (sym same.0) (subst (λ (a : List ℕ). IsGap 63 h.ends a h.begins h.following) (sym same.1) h.gap) in
    absurd (no_first low low f.gap f.element gap h.close)

without_first : {opener : Opener} {place : ℕ} {bytes : List ℕ} {piece : ElementModel} {pieces : List ElementModel} (h : PartsFrom opener place bytes (piece ∷ pieces)) → PartsFrom opener (first_of h.elements).ended (first_of h.elements).following pieces
without_first h =
    record { ends = h.ends; beyond = h.beyond; begins = h.begins; following = h.following; after = h.after; bracket = h.bracket; elements = (first_of h.elements).others; gap = h.gap; close = h.close; closes = h.closes }

one_list : (opener : Opener) (place : ℕ) (bytes : List ℕ) (firsts seconds : List ElementModel) → PartsFrom opener place bytes firsts → PartsFrom opener place bytes seconds → firsts ≡ seconds
one_list opener place bytes [] seconds h k = sym (only_none opener place bytes seconds h k)
one_list opener place bytes (piece ∷ firsts) [] h k = only_none opener place bytes (piece ∷ firsts) k h
one_list opener place bytes (piece ∷ firsts) (second ∷ seconds) h k =
    let f = first_of h.elements in
    let s = first_of k.elements in
    let low : 63 ≤ 64 = omega arith in
    let same = same_first piece second low low f.gap f.element f.whole s.gap s.element s.whole in
    let moved : PartsFrom opener f.ended f.following seconds =
    subst (λ (p : ℕ). PartsFrom opener p f.following seconds) (sym same.1) (subst (λ (a : List ℕ). PartsFrom opener s.ended a seconds) (sym same.2) (without_first k)) in
    let others : firsts ≡ seconds = one_list opener f.ended f.following firsts seconds (without_first h) moved in
    ap (λ (x : ElementModel). x ∷ firsts) same.0 ∙ ap (λ (xs : List ElementModel). second ∷ xs) others

-- a list of keys and values in turn is that of one list of pairs
same_pairs : (firsts seconds : List (ElementModel × ElementModel)) → in_turn firsts ≡ in_turn seconds → firsts ≡ seconds
same_pairs [] [] e = refl
same_pairs [] (pair ∷ seconds) e = absurd cc
same_pairs (pair ∷ firsts) [] e = absurd cc
same_pairs ((key, value) ∷ firsts) ((other, worth) ∷ seconds) e =
    let keys : key ≡ other = cc in
    let values : value ≡ worth = cc in
    let rest : in_turn firsts ≡ in_turn seconds = cc in
    let same = same_pairs firsts seconds rest in
    cc

-- an element with brackets has one list of elements
pub one_list_of_parts : (bracket : Bracket) (piece : ElementModel) (firsts seconds : List ElementModel) → HasParts (opener_of bracket) piece firsts → HasParts (opener_of bracket) piece seconds → firsts ≡ seconds
one_list_of_parts bracket piece firsts seconds h k =
    let o = opened_by bracket h.opens refl in
    let u = opened_by bracket k.opens refl in
    let tail : k.left ≡ h.left = tail_same (sym u.bytes ∙ o.bytes) in
    let place : k.inner ≡ h.inner = u.place ∙ sym o.place in
    let moved : PartsFrom (opener_of bracket) h.inner h.left seconds =
    subst (λ (p : ℕ). PartsFrom (opener_of bracket) p h.left seconds) place (subst (λ (a : List ℕ). PartsFrom (opener_of bracket) k.inner a seconds) tail k.inside) in
    one_list (opener_of bracket) h.inner h.left firsts seconds h.inside moved

-- a map has one list of pairs
pub one_list_of_pairs : (piece : ElementModel) (firsts seconds : List (ElementModel × ElementModel)) → HasPairs piece firsts → HasPairs piece seconds → firsts ≡ seconds
one_list_of_pairs piece firsts seconds h k = same_pairs firsts seconds (one_list_of_parts Curly piece (in_turn firsts) (in_turn seconds) h k)
