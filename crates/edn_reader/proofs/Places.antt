-- A derivation holds with another rest after its bytes too, if that rest goes on with them as little.
use Rattle.std.proofs.Common.{◌≡◌, ℕ, zero, suc, ◌+◌, ◌<◌, ◌≤◌, Bool, List, [], ◌∷◌, ◌++◌, length, refl, sym, ap, subst, ◌∙◌, append_assoc, arith, length-append}
use Rattle.edn_reader.specs.declared.element.ElementKind.{ElementKind}
use Rattle.edn_reader.specs.declared.element.Core.{Core}
use Rattle.edn_reader.specs.declared.nesting.Open.{Open}
use Rattle.edn_reader.specs.declared.token.Token.{Token}
use Rattle.edn_reader.specs.declared.token.Token.TheVariants.{Gap, Leaf, Opens, Closes, Unfinished}
use Rattle.edn_reader.specs.Bytes.{is_run, is_in_comment, Ends}
use Rattle.edn_reader.specs.Grammar.{ElementModel, IsStretch, ended, more, IsQuoted, closing, taken, other, IsTag, IsToken, white, comment, run, hashed, character, text, hash_text, opening, set, discard, tag, close, IsGap, nothing, skipped, discarded, IsElementAt, leaf, bracketed, tagged, IsElements, none, next}
use Rattle.edn_reader.specs.Text.{within, waiting, StandsOpen, outermost, opened}

-- where the first bytes do not go on with a run or a comment, the second ones do not; and where a # before the first
-- ones begins a tag, it does before the second ones
abbrev pub Follows : List ℕ → List ℕ → Type 0
Follows b e = (Ends is_run b → Ends is_run e) × (Ends is_in_comment b → Ends is_in_comment e) × (IsTag b → IsTag e)

-- the bytes that lead from place p to place q, with one rest after them and with another
pub record Replaced (p : ℕ) (bytes : List ℕ) (q : ℕ) (rest : List ℕ) (others : List ℕ) (other_rest : List ℕ) : Type 0 where
  pub front : List ℕ
  pub here : bytes ≡ front ++ rest
  pub there : others ≡ front ++ other_rest
  pub place : q ≡ p + length front

pub replaced_none : (p : ℕ) (a b : List ℕ) → Replaced p a p a b b
replaced_none p a b = record { front = []; here = refl; there = refl; place = omega arith }

pub replaced_one : (x p : ℕ) (a b : List ℕ) → Replaced p (x ∷ a) (suc p) a (x ∷ b) b
replaced_one x p a b = record { front = x ∷ []; here = refl; there = refl; place = omega arith }

pub replaced_then : {p q r : ℕ} {a b c d e f : List ℕ} → Replaced p a q b d e → Replaced q b r c e f → Replaced p a r c d f
replaced_then {c = c} {f = f} x y = record {
  front = x.front ++ y.front;
  here = x.here ∙ ap (λ (s : List ℕ). x.front ++ s) y.here ∙ sym (append_assoc x.front y.front c);
  there = x.there ∙ ap (λ (s : List ℕ). x.front ++ s) y.there ∙ sym (append_assoc x.front y.front f);
  place = omega (arith, x.place, y.place, length-append x.front y.front);
}

pub replaced_more : (x : ℕ) {p q : ℕ} {a b d e : List ℕ} → Replaced (suc p) a q b d e → Replaced p (x ∷ a) q b (x ∷ d) e
replaced_more x {p} {q} {a} {b} {d} {e} y = replaced_then (replaced_one x p a d) y

follows_front : (front a b : List ℕ) → Follows a b → Follows (front ++ a) (front ++ b)
follows_front [] a b f = f
follows_front (x ∷ front) a b f = (λ h. h, λ h. h, λ h. h)

-- the same bytes before two rests that follow alike follow alike too
pub follows_before : {p q : ℕ} {a b d e : List ℕ} → Replaced p a q b d e → Follows b e → Follows a d
follows_before {a = a} {b = b} {d = d} {e = e} x f =
    subst (λ (s : List ℕ). Follows s d) (sym x.here) (subst (λ (s : List ℕ). Follows (x.front ++ b) s) (sym x.there) (follows_front x.front b e f))

pub follows_same : (x : ℕ) (a b : List ℕ) → Follows (x ∷ a) (x ∷ b)
follows_same x a b = (λ h. h, λ h. h, λ h. h)

-- two lists with one end that are equal are equal without it
pub cancel_end : (a b c : List ℕ) → a ++ c ≡ b ++ c → a ≡ b
cancel_end [] [] c e = refl
cancel_end [] (y ∷ b) c e = absurd (omega (arith, ap length e, length-append (y ∷ b) c))
cancel_end (x ∷ a) [] c e = absurd (omega (arith, ap length e, length-append (x ∷ a) c))
cancel_end (x ∷ a) (y ∷ b) c e =
    let heads : x ≡ y = cc in
    let tails : a ++ c ≡ b ++ c = cc in
    let same = cancel_end a b c tails in
    cc

moved_stretch : {test : ℕ → Bool} {p q : ℕ} {a b : List ℕ} → IsStretch test p a q b → (e : List ℕ) → (Ends test b → Ends test e)
    → (d : List ℕ) × IsStretch test p d q e × Replaced p a q b d e
moved_stretch {p = p} {b = b} (ended h) e k = (e, ended (k h), replaced_none p b e)
moved_stretch (more {b = x} w g) e k =
    let m = moved_stretch g e k in (x ∷ m.0, more w m.1, replaced_more x m.2)

pub moved_quoted : {p q : ℕ} {a b : List ℕ} → IsQuoted p a q b → (e : List ℕ) → (d : List ℕ) × IsQuoted p d q e × Replaced p a q b d e
moved_quoted {p = p} {b = b} (closing {b = x} h) e = (x ∷ e, closing h, replaced_one x p b e)
moved_quoted (taken {b = x} {c = y} h g) e =
    let m = moved_quoted g e in (x ∷ y ∷ m.0, taken h m.1, replaced_more x (replaced_more y m.2))
moved_quoted (other {b = x} h k g) e =
    let m = moved_quoted g e in (x ∷ m.0, other h k m.1, replaced_more x m.2)

-- what a token asks of the rest that replaces another
abbrev pub Needs : Token → List ℕ → List ℕ → Type 0
Needs Gap b e = Ends is_in_comment b → Ends is_in_comment e
Needs (Leaf kind) b e = Ends is_run b → Ends is_run e
Needs (Opens opener) b e = Follows b e
Needs (Closes bracket) b e = Unit {0}
Needs Unfinished b e = Unit {0}

pub needed : (t : Token) (b e : List ℕ) → Follows b e → Needs t b e
needed Gap b e f = f.1
needed (Leaf kind) b e f = f.0
needed (Opens opener) b e f = f
needed (Closes bracket) b e f = tt
needed Unfinished b e f = tt

-- the token with another rest, which begins with the same byte
pub record MovedToken (t : Token) (p : ℕ) (a : List ℕ) (q : ℕ) (b : List ℕ) (e : List ℕ) : Type 0 where
  pub bytes : List ℕ
  pub token : IsToken t p bytes q e
  pub place : Replaced p a q b bytes e
  pub begins : Follows a bytes
  pub some : p < q

stretch_forward : {test : ℕ → Bool} {p q : ℕ} {a b : List ℕ} → IsStretch test p a q b → p ≤ q
stretch_forward (ended h) = omega arith
stretch_forward (more w g) = omega (arith, stretch_forward g)

quoted_forward : {p q : ℕ} {a b : List ℕ} → IsQuoted p a q b → p ≤ q
quoted_forward (closing h) = omega arith
quoted_forward (taken h g) = omega (arith, quoted_forward g)
quoted_forward (other h k g) = omega (arith, quoted_forward g)

tag_named : {p q : ℕ} {a b d e : List ℕ} → Replaced p a q b d e → (IsTag b → IsTag e) → IsTag a → IsTag d
tag_named {a = a} {b = b} {d = d} {e = e} x f h = subst IsTag (sym x.there) (named x.front (subst IsTag x.here h)) where
  named : (front : List ℕ) → IsTag (front ++ b) → IsTag (front ++ e)
  named [] k = f k
  named (y ∷ front) k = k

pub moved_token : {t : Token} {p q : ℕ} {a b : List ℕ} → IsToken t p a q b → (e : List ℕ) → Needs t b e → MovedToken t p a q b e
moved_token {p = p} {b = b} (white {b = x} w) e f =
    record { bytes = x ∷ e; token = white w; place = replaced_one x p b e; begins = follows_same x b e; some = omega arith }
moved_token (comment {b = x} {bytes = a} w g) e f =
    let m = moved_stretch g e f in
    record { bytes = x ∷ m.0; token = comment w m.1; place = replaced_more x m.2; begins = follows_same x a m.0; some = omega (arith, stretch_forward g) }
moved_token (run {b = x} {bytes = a} w g) e f =
    let m = moved_stretch g e f in
    record { bytes = x ∷ m.0; token = run w m.1; place = replaced_more x m.2; begins = follows_same x a m.0; some = omega (arith, stretch_forward g) }
moved_token (hashed {b = x} {c = y} {bytes = a} v w g) e f =
    let m = moved_stretch g e f in
    record { bytes = x ∷ y ∷ m.0; token = hashed v w m.1; place = replaced_more x (replaced_more y m.2); begins = follows_same x (y ∷ a) (y ∷ m.0); some = omega (arith, stretch_forward g) }
moved_token (character {b = x} {c = y} {bytes = a} v g) e f =
    let m = moved_stretch g e f in
    record { bytes = x ∷ y ∷ m.0; token = character v m.1; place = replaced_more x (replaced_more y m.2); begins = follows_same x (y ∷ a) (y ∷ m.0); some = omega (arith, stretch_forward g) }
moved_token (text {b = x} {bytes = a} w g) e f =
    let m = moved_quoted g e in
    record { bytes = x ∷ m.0; token = text w m.1; place = replaced_more x m.2; begins = follows_same x a m.0; some = omega (arith, quoted_forward g) }
moved_token (hash_text {b = x} {c = y} {bytes = a} v w g) e f =
    let m = moved_quoted g e in
    record { bytes = x ∷ y ∷ m.0; token = hash_text v w m.1; place = replaced_more x (replaced_more y m.2); begins = follows_same x (y ∷ a) (y ∷ m.0); some = omega (arith, quoted_forward g) }
moved_token {p = p} {b = b} (opening {b = x} w) e f =
    record { bytes = x ∷ e; token = opening w; place = replaced_one x p b e; begins = follows_same x b e; some = omega arith }
moved_token {p = p} {b = b} (set {b = x} {c = y} v w) e f =
    record { bytes = x ∷ y ∷ e; token = set v w; place = replaced_more x (replaced_one y (suc p) b e); begins = follows_same x (y ∷ b) (y ∷ e); some = omega arith }
moved_token {p = p} {b = b} (discard {b = x} {c = y} v w) e f =
    record { bytes = x ∷ y ∷ e; token = discard v w; place = replaced_more x (replaced_one y (suc p) b e); begins = follows_same x (y ∷ b) (y ∷ e); some = omega arith }
moved_token (tag {b = x} {bytes = a} v n g) e f =
    let m = moved_stretch g e f.0 in
    record { bytes = x ∷ m.0; token = tag v (tag_named m.2 f.2 n) m.1; place = replaced_more x m.2; begins = follows_same x a m.0; some = omega (arith, stretch_forward g) }
moved_token {p = p} {b = b} (close {b = x} w) e f =
    record { bytes = x ∷ e; token = close w; place = replaced_one x p b e; begins = follows_same x b e; some = omega arith }

-- ---- gaps and elements

pub record MovedElement (room : ℕ) (kind : ElementKind) (core : Core) (p : ℕ) (a : List ℕ) (q : ℕ) (b : List ℕ) (e : List ℕ) : Type 0 where
  pub bytes : List ℕ
  pub element : IsElementAt room kind core p bytes q e
  pub place : Replaced p a q b bytes e
  pub begins : Follows a bytes

mutual
  pub moved_gap : {room p q : ℕ} {a b : List ℕ} → IsGap room p a q b → (e : List ℕ) → Follows b e
      → (d : List ℕ) × IsGap room p d q e × Replaced p a q b d e
  moved_gap {p = p} {b = b} nothing e f = (e, nothing, replaced_none p b e)
  moved_gap (skipped token gap) e f =
      let g = moved_gap gap e f in
      let t = moved_token token g.0 (follows_before g.2 f).1 in
      (t.bytes, skipped t.token g.1, replaced_then t.place g.2)
  moved_gap (discarded token before element gap) e f =
      let g = moved_gap gap e f in
      let m = moved_element element g.0 (follows_before g.2 f).0 in
      let h = moved_gap before m.bytes m.begins in
      let t = moved_token token h.0 (follows_before h.2 m.begins) in
      (t.bytes, discarded {bytes = t.bytes} t.token h.1 m.element g.1, replaced_then t.place (replaced_then h.2 (replaced_then m.place g.2)))

  pub moved_element : {room p q : ℕ} {kind : ElementKind} {core : Core} {a b : List ℕ} → IsElementAt room kind core p a q b → (e : List ℕ)
      → (Ends is_run b → Ends is_run e) → MovedElement room kind core p a q b e
  moved_element (leaf token) e f =
      let t = moved_token token e f in
      record { bytes = t.bytes; element = leaf t.token; place = t.place; begins = t.begins }
  moved_element (bracketed token els gap last fit even) e f =
      let c = moved_token last e tt in
      let g = moved_gap gap c.bytes c.begins in
      let m = moved_elements els g.0 (follows_before g.2 c.begins) in
      let t = moved_token token m.0 (follows_before m.2 (follows_before g.2 c.begins)) in
      record {
        bytes = t.bytes;
        element = bracketed t.token m.1 g.1 c.token fit even;
        place = replaced_then t.place (replaced_then m.2 (replaced_then g.2 c.place));
        begins = t.begins;
      }
  moved_element (tagged token before element) e f =
      let m = moved_element element e f in
      let h = moved_gap before m.bytes m.begins in
      let t = moved_token token h.0 (follows_before h.2 m.begins) in
      record { bytes = t.bytes; element = tagged t.token h.1 m.element; place = replaced_then t.place (replaced_then h.2 m.place); begins = t.begins }

  pub moved_elements : {room p q : ℕ} {pieces : List ElementModel} {a b : List ℕ} → IsElements room p a pieces q b → (e : List ℕ) → Follows b e
      → (d : List ℕ) × IsElements room p d pieces q e × Replaced p a q b d e
  moved_elements {p = p} {b = b} none e f = (e, none, replaced_none p b e)
  moved_elements (next {beyond = beyond} {piece = piece} gap element whole els) e f =
      let m = moved_elements els e f in
      let n = moved_element element m.0 (follows_before m.2 f).0 in
      let g = moved_gap gap n.bytes n.begins in
      let same : n.place.front ≡ piece.text = cancel_end n.place.front piece.text beyond (sym n.place.here ∙ whole) in
      (g.0, next g.1 n.element (n.place.there ∙ ap (λ (s : List ℕ). s ++ m.0) same) m.1, replaced_then g.2 (replaced_then n.place m.2))

pub moved_present : {input : List ℕ} {pieces : List ElementModel} {opens : List Open} {q : ℕ} {b : List ℕ} → StandsOpen input pieces opens q b → (e : List ℕ) → Follows b e
    → (others : List ℕ) × StandsOpen others pieces opens q e × Replaced 0 input q b others e
moved_present (outermost els gap) e f =
    let g = moved_gap gap e f in
    let m = moved_elements els g.0 (follows_before g.2 f) in
    (m.0, outermost m.1 g.1, replaced_then m.2 g.2)
moved_present (opened present token room (within bracket els gap)) e f =
    let g = moved_gap gap e f in
    let m = moved_elements els g.0 (follows_before g.2 f) in
    let t = moved_token token m.0 (follows_before m.2 (follows_before g.2 f)) in
    let s = moved_present present t.bytes t.begins in
    (s.0, opened s.1 t.token room (within bracket m.1 g.1), replaced_then s.2 (replaced_then t.place (replaced_then m.2 g.2)))
moved_present (opened present token room (waiting bracket gap)) e f =
    let g = moved_gap gap e f in
    let t = moved_token token g.0 (follows_before g.2 f) in
    let s = moved_present present t.bytes t.begins in
    (s.0, opened s.1 t.token room (waiting bracket g.1), replaced_then s.2 (replaced_then t.place g.2))

-- ---- room

mutual
  pub wider_gap : {room p q : ℕ} {a b : List ℕ} → IsGap room p a q b → IsGap (suc room) p a q b
  wider_gap nothing = nothing
  wider_gap (skipped token gap) = skipped token (wider_gap gap)
  wider_gap (discarded token before element gap) = discarded token (wider_gap before) (wider_one element) (wider_gap gap)

  pub wider_one : {room p q : ℕ} {kind : ElementKind} {core : Core} {a b : List ℕ} → IsElementAt room kind core p a q b → IsElementAt (suc room) kind core p a q b
  wider_one (leaf token) = leaf token
  wider_one (bracketed token els gap last fit even) = bracketed token (wider_elements els) (wider_gap gap) last fit even
  wider_one (tagged token before element) = tagged token (wider_gap before) (wider_one element)

  pub wider_elements : {room p q : ℕ} {pieces : List ElementModel} {a b : List ℕ} → IsElements room p a pieces q b → IsElements (suc room) p a pieces q b
  wider_elements none = none
  wider_elements (next gap element whole els) = next (wider_gap gap) (wider_one element) whole (wider_elements els)

pub wider_element : {room p q : ℕ} {kind : ElementKind} {core : Core} {a b : List ℕ} (n : ℕ) → IsElementAt room kind core p a q b → IsElementAt (n + room) kind core p a q b
wider_element {room} {p} {q} {kind} {core} {a} {b} zero element =
    let same : room ≡ 0 + room = omega arith in subst (λ (m : ℕ). IsElementAt m kind core p a q b) same element
wider_element {room} {p} {q} {kind} {core} {a} {b} (suc n) element =
    let same : suc (n + room) ≡ suc n + room = omega arith in subst (λ (m : ℕ). IsElementAt m kind core p a q b) same (wider_one (wider_element n element))

-- ---- the core of an element

pub gap_forward : {room p q : ℕ} {a b : List ℕ} → IsGap room p a q b → p ≤ q
gap_forward {b = b} gap = let m = moved_gap gap b (λ h. h, λ h. h, λ h. h) in omega (arith, m.2.place)

pub token_forward : {t : Token} {p q : ℕ} {a b : List ℕ} → IsToken t p a q b → p < q
token_forward {t = t} {b = b} token = (moved_token token b (needed t b b (λ h. h, λ h. h, λ h. h))).some

pub elements_forward : {room p q : ℕ} {pieces : List ElementModel} {a b : List ℕ} → IsElements room p a pieces q b → p ≤ q
elements_forward {b = b} els = let m = moved_elements els b (λ h. h, λ h. h, λ h. h) in omega (arith, m.2.place)

pub core_within : {room p q : ℕ} {kind : ElementKind} {core : Core} {a b : List ℕ} → IsElementAt room kind core p a q b → (p ≤ core.start) × (core.start < q)
core_within (leaf token) = (omega arith, token_forward token)
core_within (bracketed token els gap last fit even) =
    (omega arith, omega (arith, token_forward token, elements_forward els, gap_forward gap, token_forward last))
core_within (tagged token before element) =
    let inner = core_within element in (omega (arith, token_forward token, gap_forward before, inner.0), inner.1)
