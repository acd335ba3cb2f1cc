-- What is open after one more gap, bracket, tag, discard or element.
use Rattle.std.proofs.Common.{◌≡◌, ℕ, suc, ◌+◌, ◌-◌, ◌<◌, Bool, true, false, not, ◌&&◌, List, [], ◌∷◌, ◌++◌, length, refl, ap, subst, arith}
use Rattle.edn_reader.specs.declared.bytes.Bracket.{Bracket}
use Rattle.edn_reader.specs.declared.element.ElementKind.{ElementKind}
use Rattle.edn_reader.specs.declared.element.Core.{Core}
use Rattle.edn_reader.specs.declared.nesting.Open.{Open}
use Rattle.edn_reader.specs.declared.token.Opener.{Opener}
use Rattle.edn_reader.specs.declared.token.Token.TheVariants.{Opens, Closes}
use Rattle.edn_reader.specs.Grammar.{ElementModel, IsToken, IsGap, nothing, skipped, discarded, IsElementAt, bracketed, IsElements, none, next, is_odd, waits, fits, is_paired, kind_of}
use Rattle.edn_reader.specs.Text.{within, waiting, StandsOpen, outermost, opened}

pub gap_then : {room p q r : ℕ} {a b c : List ℕ} → IsGap room p a q b → IsGap room q b r c → IsGap room p a r c
gap_then nothing more = more
gap_then (skipped token gap) more = skipped token (gap_then gap more)
gap_then (discarded token before element gap) more = discarded token before element (gap_then gap more)

pub elements_more : {room p q ended : ℕ} {a b left beyond : List ℕ} {pieces : List ElementModel} (piece : ElementModel) → IsElements room p a pieces q b
    → IsGap room q b piece.start left → IsElementAt room piece.kind piece.core piece.start left ended beyond → left ≡ piece.text ++ beyond
    → IsElements room p a (pieces ++ piece ∷ []) ended beyond
elements_more piece none gap element whole = next gap element whole none
elements_more piece (next g e w els) gap element whole = next g e w (elements_more piece els gap element whole)

pub is_odd-more : (pieces : List ElementModel) (piece : ElementModel) → is_odd (pieces ++ piece ∷ []) ≡ not (is_odd pieces)
is_odd-more [] piece = refl
is_odd-more (x ∷ pieces) piece = ap not (is_odd-more pieces piece)

-- one more gap
pub present_gap : {p q : ℕ} {input a b : List ℕ} {pieces : List ElementModel} {opens : List Open} → StandsOpen input pieces opens p a
    → ((room : ℕ) → room + length opens ≡ 64 → IsGap room p a q b) → StandsOpen input pieces opens q b
present_gap (outermost els gap) more = outermost els (gap_then gap (more 64 refl))
present_gap (opened {room = room} present token full (within bracket els gap)) more = opened present token full (within bracket els (gap_then gap (more room full)))
present_gap (opened {room = room} present token full (waiting bracket gap)) more = opened present token full (waiting bracket (gap_then gap (more room full)))

-- one more bracket, tag or discard that opens
pub present_opened : {p q : ℕ} {input a b : List ℕ} {pieces : List ElementModel} {opens : List Open} (opener : Opener) (w : Bool) → waits opener ≡ w → StandsOpen input pieces opens p a
    → IsToken (Opens opener) p a q b → length opens < 64 → StandsOpen input pieces (record { place = p; opener = opener; odd = false } ∷ opens) q b
present_opened {opens = opens} opener true w present token room = opened {room = 63 - length opens} present token (omega arith) (waiting w nothing)
present_opened {opens = opens} opener false w present token room = opened {room = 63 - length opens} present token (omega arith) (within w none nothing)

-- one more element in the innermost bracket
pub present_inside : {p q : ℕ} {input a b : List ℕ} {pieces : List ElementModel} {innermost : Open} {opens : List Open} (kind : ElementKind) (core : Core) (text : List ℕ)
    → waits innermost.opener ≡ false → StandsOpen input pieces (innermost ∷ opens) p a → ((room : ℕ) → room + suc (length opens) ≡ 64 → IsElementAt room kind core p a q b)
    → a ≡ text ++ b → StandsOpen input pieces (record { place = innermost.place; opener = innermost.opener; odd = not innermost.odd } ∷ opens) q b
present_inside {p} {q} {input} {a} {b} {pieces} {innermost} {opens} kind core text w (opened {room = room} {place = place} {opener = opener} present token full (within {inside = inside} bracket els gap)) element whole =
    let piece : ElementModel = record { kind = kind; start = p; text = text; core = core } in
    let longer = elements_more piece els gap (element room full) whole in
    subst (λ (odd : Bool). StandsOpen input pieces (record { place = place; opener = opener; odd = odd } ∷ opens) q b) (is_odd-more inside piece) (opened present token full (within bracket longer nothing))
present_inside kind core text w (opened present token full (waiting bracket gap)) element whole = absurd cc

-- one more outermost element
pub present_outermost : {p q : ℕ} {input a b : List ℕ} {pieces : List ElementModel} (kind : ElementKind) (core : Core) (text : List ℕ)
    → StandsOpen input pieces [] p a → IsElementAt 64 kind core p a q b → a ≡ text ++ b
    → IsElements 64 0 input (pieces ++ record { kind = kind; start = p; text = text; core = core } ∷ []) q b
present_outermost {p} kind core text (outermost els gap) element whole = elements_more (record { kind = kind; start = p; text = text; core = core }) els gap element whole

-- what was open before a bracket that is closed, and the element from that bracket on
pub record Closed (input : List ℕ) (pieces : List ElementModel) (innermost : Open) (opens : List Open) (q : ℕ) (rest : List ℕ) : Type 0 where
  pub bytes : List ℕ
  pub before : StandsOpen input pieces opens innermost.place bytes
  pub element : (room : ℕ) → room + length opens ≡ 64 → IsElementAt room (kind_of innermost.opener) (record { kind = kind_of innermost.opener; start = innermost.place }) innermost.place bytes q rest

pub present_closed : {p q : ℕ} {input a b : List ℕ} {pieces : List ElementModel} {innermost : Open} {opens : List Open} {bracket : Bracket}
    → waits innermost.opener ≡ false → StandsOpen input pieces (innermost ∷ opens) p a → IsToken (Closes bracket) p a q b
    → fits innermost.opener bracket ≡ true → is_paired innermost.opener && innermost.odd ≡ false
    → Closed input pieces innermost opens q b
present_closed {q = q} {b = b} {opens = opens} w (opened {room = inner_room} {place = place} {bytes = bytes} {opener = opener} present token full (within square els gap)) last fit even = record {
  bytes = bytes;
  before = present;
  element = λ room enough.
      let same : suc inner_room ≡ room = omega arith in
      subst (λ (n : ℕ). IsElementAt n (kind_of opener) (record { kind = kind_of opener; start = place }) place bytes q b) same (bracketed token els gap last fit even);
}
present_closed w (opened present token full (waiting square gap)) last fit even = absurd cc

-- what was open before a tag or a discard that waits, its token, and the gap after it
pub record Waited (input : List ℕ) (pieces : List ElementModel) (innermost : Open) (opens : List Open) (p : ℕ) (a : List ℕ) : Type 0 where
  pub bytes : List ℕ
  pub before : StandsOpen input pieces opens innermost.place bytes
  pub room : ℕ
  pub full : room + suc (length opens) ≡ 64
  pub inner : ℕ
  pub left : List ℕ
  pub token : IsToken (Opens innermost.opener) innermost.place bytes inner left
  pub gap : IsGap room inner left p a

pub present_waited : {p : ℕ} {input a : List ℕ} {pieces : List ElementModel} {innermost : Open} {opens : List Open} → waits innermost.opener ≡ true → StandsOpen input pieces (innermost ∷ opens) p a
    → Waited input pieces innermost opens p a
present_waited w (opened present token full (within bracket els gap)) = absurd cc
present_waited w (opened {room = room} {inner = inner} {bytes = bytes} {left = left} present token full (waiting bracket gap)) = record {
  bytes = bytes;
  before = present;
  room = room;
  full = full;
  inner = inner;
  left = left;
  token = token;
  gap = gap;
}
