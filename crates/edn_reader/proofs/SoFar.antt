-- What a splitter has given are the elements that have ended in the bytes that it has taken, whatever follows them.
use Rattle.std.proofs.Common.{◌≡◌, ◌⊎◌, inl, inr, ℕ, ◌+◌, ◌-◌, ◌<◌, ◌≤◌, List, [], ◌∷◌, ◌++◌, length, get_or, take, drop, refl, sym, ap, subst, ◌∙◌, append_assoc, arith, append-nil, length-append, length-drop}
use Rattle.std.proofs.lemmas.List.{take-append-drop, take-append-le}
use Rattle.std.proofs.lemmas.Bool.{cases_lt}
use Rattle.edn_reader.specs.declared.element.ElementKind.{ElementKind}
use Rattle.edn_reader.specs.declared.element.Core.{Core}
use Rattle.edn_reader.specs.declared.nesting.Open.{Open}
use Rattle.edn_reader.specs.declared.step.Span.{Span}
use Rattle.edn_reader.specs.declared.token.Token.{Token}
use Rattle.edn_reader.specs.Grammar.{ElementModel, IsElement, IsElementAt, IsElements, none, next}
use Rattle.edn_reader.specs.Text.{IsFront, StandsOpen, outermost, opened}
use Rattle.edn_reader.specs.Fault.{IsBeginning, AreElementsSoFar}
use Rattle.edn_reader.specs.Token.{lexed}
use Rattle.edn_reader.specs.Splitting.{SplitterModel, IsAfter, StandsAfter}
use Rattle.edn_reader.proofs.Places.{Follows, Replaced, cancel_end, core_within, follows_same, gap_forward, moved_element, moved_present, token_forward}
use Rattle.edn_reader.proofs.Lexing.{lexed_some}
use Rattle.edn_reader.proofs.Stretches.{drop_before, drop_here, from_index}
use Rattle.edn_reader.proofs.Keeping.{inside_forward}
use Rattle.edn_reader.proofs.Runs.{Leads, here, further, one_run, given_more, leads_outermost, leads_present}
use Rattle.edn_reader.proofs.Unique.{agree}
use Rattle.edn_reader.proofs.Resuming.{one_taken}
use Rattle.edn_reader.proofs.Reading.{elements_within, front_of}

-- ---- where elements end

-- the place after the last of these elements, or this place where there are none
abbrev place_following : ℕ → List ElementModel → ℕ
place_following place [] = place
place_following place (piece ∷ pieces) = place_following (piece.start + length piece.text) pieces

one_ends : {room p q : ℕ} {kind : ElementKind} {core : Core} {a b : List ℕ} (text : List ℕ) → IsElementAt room kind core p a q b → a ≡ text ++ b → q ≡ p + length text
one_ends {b = b} text element whole =
    let m = (moved_element element b (λ h. h)).place in
    let same : m.front ≡ text = cancel_end m.front text b (sym m.here ∙ whole) in
    omega (arith, m.place, ap length same)

-- the core of an element begins within it
pub core_inside : (piece : ElementModel) → IsElement piece → (piece.start ≤ piece.core.start) × (piece.core.start ≤ piece.start + length piece.text)
core_inside piece (after, element) =
    let within = core_within element in
    (within.0, omega (arith, within.1, one_ends piece.text element (sym (append-nil piece.text))))

elements_end : {room p q : ℕ} {a b : List ℕ} (pieces : List ElementModel) → IsElements room p a pieces q b → q ≡ place_following p pieces
elements_end [] none = refl
elements_end (piece ∷ pieces) (next gap element whole els) = elements_end pieces els ∙ ap (λ (n : ℕ). place_following n pieces) (one_ends piece.text element whole)

-- the elements that have ended before a place end no later than that
front_low : {p : ℕ} {input rest : List ℕ} {pieces : List ElementModel} {opens : List Open} → StandsOpen input pieces opens p rest → place_following 0 pieces ≤ p
front_low {pieces = pieces} (outermost els gap) = omega (arith, elements_end pieces els, gap_forward gap)
front_low (opened s token room inside) = omega (arith, front_low s, token_forward token, inside_forward inside)

-- ---- runs

forward : {p q : ℕ} {a b : List ℕ} {ao bo : List Open} {ag bg : List Span} → Leads p a ao ag q b bo bg → p ≤ q
forward here = omega arith
forward (further after e run) = omega (arith, forward run)

-- a run has given nothing more, or has gone past its first token
past_token : {p q : ℕ} {a b : List ℕ} {ao bo : List Open} {ag bg : List Span} → Leads p a ao ag q b bo bg → (ag ≡ bg) ⊎ (p + (lexed a).1 ≤ q)
past_token here = inl refl
past_token (further after e run) = inr (forward run)

-- a prefix that ends before the end of the next token has no more elements than have ended before that token
fewer : {p there : ℕ} {input a : List ℕ} {pieces others : List ElementModel} {opens : List Open} → StandsOpen input pieces opens p a → there < p + (lexed a).1 → IsFront input others there
    → length others ≤ length pieces
fewer present sooner front =
    let o = leads_present present in
    let f = leads_outermost front [] (omega arith) in
    elim (one_run o.run f.run) [
      | inl more ↦ (elim (past_token more) [
        | inl same ↦ omega (arith, o.many, f.many, ap length same)
        | inr past ↦ absurd (omega (arith, past, sooner))
      ])
      | inr more ↦ (let m = given_more more in omega (arith, o.many, f.many, ap length m.1, length-append f.spans m.0))
    ]

-- ---- the elements so far

-- where a token has begun within the bytes, what is open before it is open whatever follows them
present_still : (bytes coming : List ℕ) (pieces : List ElementModel) (splitting : SplitterModel) → StandsAfter bytes coming pieces splitting → splitting.begun.start < length bytes → (following : List ℕ)
    → StandsOpen (bytes ++ following) pieces splitting.opens splitting.begun.start (drop splitting.begun.start bytes ++ following)
present_still bytes coming pieces splitting present lt following = subst (λ (xs : List ℕ). StandsOpen xs pieces splitting.opens start (drop start bytes ++ following)) same moved.1 where
  start : ℕ
  start = splitting.begun.start

  input : List ℕ
  input = bytes ++ (coming ++ [])

  after : StandsOpen input pieces splitting.opens start (drop start input)
  after = (present input [] refl).present.present

  begins : (more : List ℕ) → drop start bytes ++ more ≡ get_or bytes start 0 ∷ (drop (start + 1) bytes ++ more)
  begins more = ap (λ (xs : List ℕ). xs ++ more) (drop_here bytes start lt)

  follows : Follows (drop start input) (drop start bytes ++ following)
  follows =
      subst (λ (xs : List ℕ). Follows xs (drop start bytes ++ following)) (sym (drop_before start bytes (coming ++ []) (omega (arith, lt)) ∙ begins (coming ++ [])))
      (subst (λ (xs : List ℕ). Follows (get_or bytes start 0 ∷ (drop (start + 1) bytes ++ (coming ++ []))) xs) (sym (begins following)) (follows_same (get_or bytes start 0) (drop (start + 1) bytes ++ (coming ++ [])) (drop (start + 1) bytes ++ following)))

  moved : (others : List ℕ) × StandsOpen others pieces splitting.opens start (drop start bytes ++ following) × Replaced 0 input start (drop start input) others (drop start bytes ++ following)
  moved = moved_present after (drop start bytes ++ following) follows

  front : moved.2.front ≡ take start bytes
  front =
      cancel_end moved.2.front (take start bytes) (drop start input)
      (sym moved.2.here ∙ sym (take-append-drop start input) ∙ ap (λ (xs : List ℕ). xs ++ drop start input) (take-append-le start bytes (coming ++ []) (omega (arith, lt))))

  same : moved.0 ≡ bytes ++ following
  same =
      moved.2.there ∙ ap (λ (xs : List ℕ). xs ++ (drop start bytes ++ following)) front ∙ sym (append_assoc (take start bytes) (drop start bytes) following)
      ∙ ap (λ (xs : List ℕ). xs ++ following) (take-append-drop start bytes)

pub elements_so_far : (bytes coming : List ℕ) (pieces : List ElementModel) (splitting : SplitterModel) → StandsAfter bytes coming pieces splitting → AreElementsSoFar bytes coming pieces
elements_so_far bytes coming pieces splitting present = ((place_following 0 pieces, within, whatever), longest) where
  start : ℕ
  start = splitting.begun.start

  after : (more : List ℕ) → IsAfter bytes (bytes ++ (coming ++ more)) pieces splitting
  after more = present (bytes ++ (coming ++ more)) more refl

  front : {input : List ℕ} {p : ℕ} {a : List ℕ} → StandsOpen input pieces splitting.opens p a → IsFront input pieces (place_following 0 pieces)
  front {input = input} s = let f = front_of s in subst (IsFront input pieces) (elements_end pieces f.1) f.1

  whatever : (more : List ℕ) → IsFront (bytes ++ (coming ++ more)) pieces (place_following 0 pieces)
  whatever more = front (after more).present.present

  within : place_following 0 pieces ≤ length bytes
  within = omega (arith, front_low (after []).present.present, (after []).present.low)

  -- no more elements than have ended before the next token
  few : {input : List ℕ} {p : ℕ} {a : List ℕ} (others : List ElementModel) (there : ℕ) → StandsOpen input pieces splitting.opens p a → there < p + (lexed a).1 → IsFront input others there → IsBeginning others pieces
  few others there s sooner found = agree others pieces (omega arith) (omega arith) found (front s) (fewer s sooner found)

  longest_by : (start < length bytes) ⊎ (length bytes ≤ start) → (others : List ElementModel) (there : ℕ) → ((more : List ℕ) → IsFront (bytes ++ more) others there) → there ≤ length bytes → IsBeginning others pieces
  longest_by (inl lt) others there fronts low =
      let w = (after []).present in
      let token : take (length bytes - start) (drop start (bytes ++ (coming ++ []))) ≡ drop start bytes =
      ap (take (length bytes - start)) (drop_before start bytes (coming ++ []) (omega (arith, lt)))
      ∙ take-append-le (length bytes - start) (drop start bytes) (coming ++ []) (omega (arith, length-drop start bytes)) ∙ from_index bytes start in
      let size = ap (λ (x : Token × ℕ). x.1) (ap (λ (xs : List ℕ). lexed (xs ++ 97 ∷ [])) (sym token) ∙ w.makes (97 ∷ [])) in
      few others there (present_still bytes coming pieces splitting present lt (97 ∷ [])) (omega (arith, low, lt, size, one_taken splitting.begun.part)) (fronts (97 ∷ []))
  longest_by (inr ge) others there fronts low =
      let w = (after (97 ∷ [])).present in
      let input = bytes ++ (coming ++ 97 ∷ []) in
      let some : 0 < length (drop start input) = omega (arith, length-drop start input, length-append bytes (coming ++ 97 ∷ []), length-append coming (97 ∷ []), w.low) in
      few others there w.present (omega (arith, low, ge, lexed_some (drop start input) some)) (fronts (coming ++ 97 ∷ []))

  longest : (others : List ElementModel) (there : ℕ) → ((more : List ℕ) → IsFront (bytes ++ more) others there) → IsBeginning others pieces
  longest others there fronts = longest_by (cases_lt start (length bytes)) others there fronts (omega (arith, elements_within (fronts []), length-append bytes []))
