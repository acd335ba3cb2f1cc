-- The elements of a prefix are the first of the elements of the whole.
use Rattle.std.proofs.Common.{◌≡◌, ◌⊎◌, inl, inr, ℕ, suc, ◌+◌, ◌<◌, Bool, true, List, [], ◌∷◌, ◌++◌, length, take, drop, refl, sym, ap, subst, ◌∙◌, append_assoc, append-nil, arith, length-append}
use Rattle.std.proofs.lemmas.List.{take-append-drop, length-take-le}
use Rattle.edn_reader.specs.declared.element.ElementKind.{ElementKind}
use Rattle.edn_reader.specs.declared.element.Core.{Core}
use Rattle.edn_reader.specs.declared.element.ElementKind.TheVariants.{Tagged}
use Rattle.edn_reader.specs.Bytes.{stretch}
use Rattle.edn_reader.specs.Grammar.{ElementModel, IsStretch, ended, more, run, hashed, character, text, hash_text, IsElementAt, leaf, bracketed, tagged, IsElements, none, next}
use Rattle.edn_reader.specs.Text.{IsFront, IsText, outermost}
use Rattle.edn_reader.specs.Fault.{IsBeginning, AreElementsBefore, AreElementsSoFar}
use Rattle.edn_reader.specs.Prefixes.{is_run_kind, with_bytes, GoesOnAs, ArePrefix}
use Rattle.edn_reader.proofs.Places.{Follows, Replaced, replaced_then, replaced_more, follows_before, moved_quoted, moved_token, moved_gap, moved_element, moved_elements, gap_forward, core_within, elements_forward}
use Rattle.edn_reader.proofs.Stretches.{stretch_here, stretch_within}
use Rattle.edn_reader.proofs.Unique.{ending_end, front_fewer, agree}
use Rattle.edn_reader.proofs.Ended.{elements_left}

-- ---- bytes with more after them

follows_some : (a b : List ℕ) → 0 < length a → Follows a (a ++ b)
follows_some [] b some = absurd (omega arith)
follows_some (x ∷ a) b some = (λ h. h, λ h. h, λ h. h)

-- what comes after the rest comes after all of the bytes
pub replaced_after : {p q : ℕ} {a b d : List ℕ} (following : List ℕ) → Replaced p a q b d (b ++ following) → d ≡ a ++ following
replaced_after {b = b} following m = m.there ∙ sym (append_assoc m.front b following) ∙ ap (λ (s : List ℕ). s ++ following) (sym m.here)

element_some : {room p q : ℕ} {kind : ElementKind} {core : Core} {a b : List ℕ} → IsElementAt room kind core p a q b → 0 < length a
element_some {b = b} element =
    let m = (moved_element element b (λ h. h)).place in
    let within = core_within element in
    omega (arith, within.0, within.1, m.place, ap length m.here, length-append m.front b)

elements_some : {room p q : ℕ} {a b : List ℕ} {piece : ElementModel} {pieces : List ElementModel} → IsElements room p a (piece ∷ pieces) q b → 0 < length a
elements_some {b = b} (next {beyond = beyond} gap element whole els) =
    let some = element_some element in
    let m = (moved_elements (next gap element whole els) b (λ h. h, λ h. h, λ h. h)).2 in
    let within = core_within element in
    omega (arith, within.0, within.1, gap_forward gap, elements_forward els, m.place, ap length m.here, length-append m.front b)

-- ---- one element with nothing left, and with more after it

-- a stretch takes some of the bytes after it
record LongerStretch (test : ℕ → Bool) (p : ℕ) (a : List ℕ) (q : ℕ) (following : List ℕ) : Type 0 where
  added : List ℕ
  rest : List ℕ
  parts : following ≡ added ++ rest
  stretch_is : IsStretch test p (a ++ following) (q + length added) rest

longer_stretch : {test : ℕ → Bool} {p q : ℕ} {a : List ℕ} → IsStretch test p a q [] → (following : List ℕ) → LongerStretch test p a q following
longer_stretch {test} {p} (ended h) following =
    let n = stretch test following in
    let long : n ≡ length (take n following) = sym (length-take-le n following (stretch_within test following)) in
    record {
      added = take n following;
      rest = drop n following;
      parts = sym (take-append-drop n following);
      stretch_is = subst (λ (m : ℕ). IsStretch test p following (p + m) (drop n following)) long (stretch_here test p following);
    }
longer_stretch (more w g) following =
    let m = longer_stretch g following in record { added = m.added; rest = m.rest; parts = m.parts; stretch_is = more w m.stretch_is }

-- an element ends where it did; or its core is a run, which takes some of the bytes after it
record Longer (room : ℕ) (kind : ElementKind) (core : Core) (p : ℕ) (a : List ℕ) (q : ℕ) (following : List ℕ) : Type 0 where
  added : List ℕ
  rest : List ℕ
  parts : following ≡ added ++ rest
  element : IsElementAt room kind core p (a ++ following) (q + length added) rest
  goes : (added ≡ []) ⊎ (is_run_kind core.kind ≡ true)

-- an element that ends where it did
ends_there : {room p q : ℕ} {kind : ElementKind} {core : Core} {a : List ℕ} (d following : List ℕ) → IsElementAt room kind core p d q following → Replaced p a q [] d following → Longer room kind core p a q following
ends_there {room} {p} {q} {kind} {core} {a} d following element m =
    let place : q ≡ q + length {A = ℕ} [] = omega arith in
    record {
      added = [];
      rest = following;
      parts = refl;
      element = subst (λ (n : ℕ). IsElementAt room kind core p (a ++ following) n following) place (subst (λ (x : List ℕ). IsElementAt room kind core p x q following) (replaced_after following m) element);
      goes = inl refl;
    }

longer : {room p q : ℕ} {kind : ElementKind} {core : Core} {a : List ℕ} → IsElementAt room kind core p a q [] → (following : List ℕ) → Longer room kind core p a q following
longer (leaf (run w g)) following =
    let m = longer_stretch g following in record { added = m.added; rest = m.rest; parts = m.parts; element = leaf (run w m.stretch_is); goes = inr refl }
longer (leaf (hashed v w g)) following =
    let m = longer_stretch g following in record { added = m.added; rest = m.rest; parts = m.parts; element = leaf (hashed v w m.stretch_is); goes = inr refl }
longer (leaf (character v g)) following =
    let m = longer_stretch g following in record { added = m.added; rest = m.rest; parts = m.parts; element = leaf (character v m.stretch_is); goes = inr refl }
longer (leaf (text {b = x} w g)) following =
    let m = moved_quoted g following in ends_there (x ∷ m.0) following (leaf (text w m.1)) (replaced_more x m.2)
longer (leaf (hash_text {b = x} {c = y} v w g)) following =
    let m = moved_quoted g following in ends_there (x ∷ y ∷ m.0) following (leaf (hash_text v w m.1)) (replaced_more x (replaced_more y m.2))
longer (bracketed token els gap last fit even) following =
    let c = moved_token last following tt in
    let g = moved_gap gap c.bytes c.begins in
    let m = moved_elements els g.0 (follows_before g.2 c.begins) in
    let t = moved_token token m.0 (follows_before m.2 (follows_before g.2 c.begins)) in
    ends_there t.bytes following (bracketed t.token m.1 g.1 c.token fit even) (replaced_then t.place (replaced_then m.2 (replaced_then g.2 c.place)))
longer {p = p} {q = q} {core = core} (tagged {room = room} {beyond = beyond} token before element) following =
    let m = longer element following in
    let follows = follows_some beyond following (element_some element) in
    let h = moved_gap before (beyond ++ following) follows in
    let t = moved_token token h.0 (follows_before h.2 follows) in
    record {
      added = m.added;
      rest = m.rest;
      parts = m.parts;
      element = subst (λ (x : List ℕ). IsElementAt (suc room) Tagged core p x (q + length m.added) m.rest) (replaced_after following (replaced_then t.place h.2)) (tagged t.token h.1 m.element);
      goes = m.goes;
    }

-- ---- elements with nothing left, and with more after them

-- the elements with more bytes after them: the last may be longer, and others may follow it
record Onward (room : ℕ) (p : ℕ) (a : List ℕ) (pieces : List ElementModel) (following : List ℕ) : Type 0 where
  all : List ElementModel
  end : ℕ
  left : List ℕ
  elements : IsElements room p (a ++ following) all end left
  prefix : ArePrefix pieces all

goes_on : (piece : ElementModel) (added : List ℕ) → (added ≡ []) ⊎ (is_run_kind piece.core.kind ≡ true) → GoesOnAs piece (with_bytes piece added)
goes_on piece added (inl none_added) =
    inl (sym (ap (with_bytes piece) none_added ∙ ap (λ (x : List ℕ). record { kind = piece.kind; start = piece.start; text = x; core = piece.core }) (append-nil piece.text)))
goes_on piece added (inr run_is) = inr (run_is, added, refl)

onward : {room p q : ℕ} {a : List ℕ} (pieces : List ElementModel) → IsElements room p a pieces q [] → (following : List ℕ) → Onward room p a pieces following
onward {p = p} [] none following = record { all = []; end = p; left = following; elements = none; prefix = tt }
onward {room} {p} {q} {a} (piece ∷ []) (next {left = left} gap element whole none) following =
    let m = longer element following in
    let follows = follows_some left following (element_some element) in
    let g = moved_gap gap (left ++ following) follows in
    let text : left ++ following ≡ (piece.text ++ m.added) ++ m.rest =
    ap (λ (x : List ℕ). x ++ following) (whole ∙ append-nil piece.text) ∙ ap (λ (x : List ℕ). piece.text ++ x) m.parts ∙ sym (append_assoc piece.text m.added m.rest) in
    record {
      all = with_bytes piece m.added ∷ [];
      end = q + length m.added;
      left = m.rest;
      elements = subst (λ (x : List ℕ). IsElements room p x (with_bytes piece m.added ∷ []) (q + length m.added) m.rest) (replaced_after following g.2)
          (next {piece = with_bytes piece m.added} g.1 m.element text none);
      prefix = goes_on piece m.added m.goes;
    }
onward {room} {p} {q} {a} (piece ∷ second ∷ pieces) (next {left = left} {beyond = beyond} gap element whole els) following =
    let m = onward (second ∷ pieces) els following in
    let n = moved_element element (beyond ++ following) (follows_some beyond following (elements_some els)).0 in
    let g = moved_gap gap n.bytes n.begins in
    let here : n.bytes ≡ left ++ following = replaced_after following n.place in
    let text : n.bytes ≡ piece.text ++ (beyond ++ following) = here ∙ ap (λ (x : List ℕ). x ++ following) whole ∙ append_assoc piece.text beyond following in
    record {
      all = piece ∷ m.all;
      end = m.end;
      left = m.left;
      elements = subst (λ (x : List ℕ). IsElements room p x (piece ∷ m.all) m.end m.left) (replaced_after following (replaced_then g.2 n.place)) (next g.1 n.element text m.elements);
      prefix = (refl, m.prefix);
    }

-- ---- the elements before a fault

prefix_more : (pieces all rest : List ElementModel) → ArePrefix pieces all → ArePrefix pieces (all ++ rest)
prefix_more [] all rest h = tt
prefix_more (piece ∷ pieces) [] rest h = absurd h
prefix_more (piece ∷ []) (other ∷ all) rest h = h
prefix_more (piece ∷ second ∷ pieces) (other ∷ all) rest h = (h.0, prefix_more (second ∷ pieces) all rest h.1)

pub prefix_same : (pieces rest : List ElementModel) → ArePrefix pieces (pieces ++ rest)
prefix_same [] rest = tt
prefix_same (piece ∷ []) rest = inl refl
prefix_same (piece ∷ second ∷ pieces) rest = (refl, prefix_same (second ∷ pieces) rest)

front_onward : (bytes following : List ℕ) (pieces : List ElementModel) (at : ℕ) (left : List ℕ) → IsElements 64 0 bytes pieces at left → Onward 64 0 bytes pieces following
front_onward bytes following pieces at [] front = onward pieces front following
front_onward bytes following pieces at (x ∷ left) front =
    let m = moved_elements front ((x ∷ left) ++ following) (follows_some (x ∷ left) following (omega arith)) in
    record {
      all = pieces;
      end = at;
      left = (x ∷ left) ++ following;
      elements = subst (λ (d : List ℕ). IsElements 64 0 d pieces at ((x ∷ left) ++ following)) (replaced_after following m.2) m.1;
      prefix = subst (ArePrefix pieces) (append-nil pieces) (prefix_same pieces []);
    }

pub elements_before : (bytes following : List ℕ) (pieces all : List ElementModel) → AreElementsBefore bytes pieces → AreElementsBefore (bytes ++ following) all → ArePrefix pieces all
elements_before bytes following pieces all (at, front, longest) (there, whole, most) =
    let o = front_onward bytes following pieces at (drop at bytes) front in
    let begins = most o.all o.end (subst (λ (left : List ℕ). IsElements 64 0 (bytes ++ following) o.all o.end left) (elements_left o.elements) o.elements) in
    subst (ArePrefix pieces) (sym begins.1) (prefix_more pieces o.all begins.0 o.prefix)

pub elements_so_far : (bytes following : List ℕ) (pieces all : List ElementModel) → AreElementsSoFar bytes [] pieces → AreElementsBefore (bytes ++ following) all → IsBeginning pieces all
elements_so_far bytes following pieces all ((at, low, front), longest) (there, whole, most) = most pieces at (front following)

pub elements_of_text : (input : List ℕ) (pieces : List ElementModel) → IsText input pieces → AreElementsBefore input pieces
elements_of_text input pieces (at, after, front, gap) = (at, front, longest) where
  longest : (others : List ElementModel) (there : ℕ) → IsFront input others there → IsBeginning others pieces
  longest others there other =
      agree others pieces (omega arith) (omega arith) other front (front_fewer (omega arith) other (ending_end (outermost front gap)))
