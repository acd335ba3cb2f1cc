-- One run from one place: so the bytes decide what an element is and where it ends, and a text has one division.
use Rattle.std.proofs.Common.{◌≡◌, ◌≢◌, inl, inr, ℕ, ◌+◌, ◌-◌, ◌≤◌, Bool, true, false, not, cond, ◌&&◌, eqb, List, [], ◌∷◌, ◌++◌, length, drop, Option, Some, None, refl, sym, ap, subst, ◌∙◌, arith, length-append}
use Rattle.std.proofs.Math.Seq.{drop-append_seam}
use Rattle.std.proofs.lemmas.Bool.Decides.{nat_tests}
use Rattle.std.proofs.lemmas.List.{append-nil}
use Rattle.edn_reader.specs.declared.bytes.ByteClass.{ByteClass}
use Rattle.edn_reader.specs.declared.bytes.ByteClass.TheVariants.{White, Plain, Hash, Backslash, Semicolon, Quote, Opens, Closes}
use Rattle.edn_reader.specs.declared.bytes.Bracket.{Bracket}
use Rattle.edn_reader.specs.declared.bytes.Bracket.TheVariants.{Round, Square, Curly}
use Rattle.edn_reader.specs.declared.element.ElementKind.{ElementKind}
use Rattle.edn_reader.specs.declared.element.Core.{Core}
use Rattle.edn_reader.specs.declared.fault.EdnFault.{EdnFault}
use Rattle.edn_reader.specs.declared.fault.EdnFault.TheVariants as faults
use Rattle.edn_reader.specs.declared.nesting.Open.{Open}
use Rattle.edn_reader.specs.declared.step.Span.{Span}
use Rattle.edn_reader.specs.declared.token.Token.{Token}
use Rattle.edn_reader.specs.declared.token.Token.TheVariants as tokens
use Rattle.edn_reader.specs.declared.token.Opener.{Opener}
use Rattle.edn_reader.specs.declared.token.Opener.TheVariants as openers
use Rattle.edn_reader.specs.Bytes.{class_of}
use Rattle.edn_reader.specs.Grammar.{ElementModel, IsToken, IsGap, IsElementAt, IsElements, none, next, opener_of, waits, fits, is_paired}
use Rattle.edn_reader.specs.Text.{StandsOpen}
use Rattle.edn_reader.specs.Fault.{by_bracket, by_hash, fault_in, fault_of_close, Refuses, too_deep, closing, IsBeginning, innermost}
use Rattle.edn_reader.specs.Token.{lexed, class_token, hash_token, after_hash, tag_token}
use Rattle.edn_reader.specs.Taking.{Taken, fails, on, closed, taken, fault_before}
use Rattle.edn_reader.proofs.Places.{Replaced, replaced_then, cancel_end, moved_gap, moved_element}
use Rattle.edn_reader.proofs.Lexing.{lexed_token}
use Rattle.edn_reader.proofs.Runs.{Leads, leads_then, one_run, given_more, run_ends, goes, front_taken, span_at, leads_gap, leads_outermost_element, leads_outermost, leads_present}

-- ---- the first element

-- the bytes that a derivation leaves
left_of : {p q : ℕ} {a b d e : List ℕ} → Replaced p a q b d e → b ≡ drop (q - p) a
left_of {p} {q} {a} {b} m =
    let long : q - p ≡ length m.front = omega (arith, m.place) in
    sym (ap (λ (n : ℕ). drop n a) long ∙ ap (drop (length m.front)) m.here ∙ drop-append_seam m.front b)

left_of_gap : {room p q : ℕ} {a b : List ℕ} → IsGap room p a q b → b ≡ drop (q - p) a
left_of_gap {b = b} gap = left_of (moved_gap gap b (λ h. h, λ h. h, λ h. h)).2

left_of_element : {room other p s q : ℕ} {kind : ElementKind} {core : Core} {a left b : List ℕ} → IsGap room p a s left → IsElementAt other kind core s left q b → b ≡ drop (q - p) a
left_of_element {b = b} gap element =
    let m = moved_element element b (λ h. h) in
    left_of (replaced_then (moved_gap gap m.bytes m.begins).2 m.place)

span_head : {x y : Span} {more : List Span} → y ∷ [] ≡ (x ∷ []) ++ more → x ≡ y
span_head e = cc

same_span : {p q r : ℕ} {a b d : List ℕ} (x y : Span) → Leads p a [] [] q b [] (x ∷ []) → Leads p a [] [] r d [] (y ∷ []) → x ≡ y
same_span x y run other =
    elim (one_run run other) [
      | inl more ↦ (let m = given_more more in span_head m.1)
      | inr more ↦ (let m = given_more more in sym (span_head m.1))
    ]

same_piece : (x y : ElementModel) → x.kind ≡ y.kind → x.start ≡ y.start → x.text ≡ y.text → x.core ≡ y.core → x ≡ y
same_piece x y k s t c =
    ap (λ (v : ElementKind). record { kind = v; start = x.start; text = x.text; core = x.core }) k
    ∙ ap (λ (v : ℕ). record { kind = y.kind; start = v; text = x.text; core = x.core }) s
    ∙ ap (λ (v : List ℕ). record { kind = y.kind; start = y.start; text = v; core = x.core }) t
    ∙ ap (λ (v : Core). record { kind = y.kind; start = y.start; text = y.text; core = v }) c

-- what comes first after a gap is one element, at one place
pub same_first : {room other p q r : ℕ} {a left b others d : List ℕ} (piece second : ElementModel) → room ≤ 64 → other ≤ 64
    → IsGap room p a piece.start left → IsElementAt room piece.kind piece.core piece.start left q b → left ≡ piece.text ++ b
    → IsGap other p a second.start others → IsElementAt other second.kind second.core second.start others r d → others ≡ second.text ++ d
    → (piece ≡ second) × (q ≡ r) × (b ≡ d)
same_first {p = p} {q = q} {r = r} {a = a} {left = left} {b = b} {others = others} {d = d} piece second le ge gap element whole before found all =
    let spans = same_span (span_at piece.kind piece.core piece.start q) (span_at second.kind second.core second.start r)
    (leads_then (leads_gap gap [] [] (omega arith)) (leads_outermost_element element [] le)) (leads_then (leads_gap before [] [] (omega arith)) (leads_outermost_element found [] ge)) in
    let start : piece.start ≡ second.start = ap (λ (s : Span). s.start) spans in
    let following : q ≡ r = ap (λ (s : Span). s.end) spans in
    let rest : b ≡ d = left_of_element gap element ∙ ap (λ (n : ℕ). drop (n - p) a) following ∙ sym (left_of_element before found) in
    let front : left ≡ others = left_of_gap gap ∙ ap (λ (n : ℕ). drop (n - p) a) start ∙ sym (left_of_gap before) in
    let text : piece.text ≡ second.text = cancel_end piece.text second.text d (ap (λ (x : List ℕ). piece.text ++ x) (sym rest) ∙ sym whole ∙ front ∙ all) in
    (same_piece piece second (ap (λ (s : Span). s.kind) spans) start text (ap (λ (s : Span). s.core) spans), following, rest)

-- ---- what fails

lexed_of : (b : ℕ) (bytes : List ℕ) (k : ByteClass) → class_of b ≡ k → lexed (b ∷ bytes) ≡ class_token k bytes
unfolding lexed
lexed_of b bytes k e = ap (λ (c : ByteClass). class_token c bytes) e

taken_of : (p : ℕ) (a : List ℕ) (opens : List Open) (x : Token × ℕ) → lexed a ≡ x → front_taken p a opens ≡ taken x.0 p (p + x.1) opens
taken_of p a opens x e = ap (λ (y : Token × ℕ). taken y.0 p (p + y.1) opens) e

full_opens : (opener : Opener) (p q : ℕ) (opens : List Open) → length opens ≡ 64 → taken (tokens.Opens opener) p q opens ≡ fails (faults.TooDeep p)
unfolding taken
full_opens opener p q opens full =
    let test : eqb (length opens) 64 ≡ true = grind (arith, nat_tests) in
    ap (λ (t : Bool). cond t (fails (faults.TooDeep p)) (on (record { place = p; opener = opener; odd = false } ∷ opens))) test

record OpensSome (x : Token × ℕ) : Type 0 where
  opener : Opener
  is : x.0 ≡ tokens.Opens opener

either_opens : (t : Bool) (x y : Token × ℕ) → OpensSome x → OpensSome y → OpensSome (cond t x y)
either_opens true x y h k = h
either_opens false x y h k = k

tag_opens : (bytes : List ℕ) → OpensSome (tag_token bytes)
tag_opens bytes = record { opener = openers.Tag; is = refl }

hash_opens : (k : ByteClass) (c : ℕ) (bytes : List ℕ) → k ≢ Hash → k ≢ Quote → OpensSome (hash_token k c bytes)
hash_opens Hash c bytes h q = absurd (h refl)
hash_opens Quote c bytes h q = absurd (q refl)
hash_opens (Opens Curly) c bytes h q = record { opener = openers.Set; is = refl }
hash_opens (Opens Round) c bytes h q = tag_opens (c ∷ bytes)
hash_opens (Opens Square) c bytes h q = tag_opens (c ∷ bytes)
hash_opens (Closes bracket) c bytes h q = tag_opens (c ∷ bytes)
hash_opens White c bytes h q = tag_opens (c ∷ bytes)
hash_opens Semicolon c bytes h q = tag_opens (c ∷ bytes)
hash_opens Backslash c bytes h q = tag_opens (c ∷ bytes)
hash_opens Plain c bytes h q = either_opens (eqb c 95) (tokens.Opens openers.Discard, 2) (tag_token (c ∷ bytes)) (record { opener = openers.Discard; is = refl }) (tag_opens (c ∷ bytes))

full_some : (x : Token × ℕ) (p q : ℕ) (opens : List Open) → OpensSome x → length opens ≡ 64 → taken x.0 p q opens ≡ fails (faults.TooDeep p)
full_some x p q opens o full = ap (λ (t : Token). taken t p q opens) o.is ∙ full_opens o.opener p q opens full

after_of : (c : ℕ) (bytes : List ℕ) → after_hash (c ∷ bytes) ≡ hash_token (class_of c) c bytes
unfolding after_hash
after_of c bytes = refl

-- after what waits, and at the innermost bracket itself, the fault of a closing bracket is that of its definition
waits_first : (t w o : Bool) (wrong tag odd fault : EdnFault) → w ≡ true → cond (not t) (Some wrong) (cond w (Some tag) (cond o (Some odd) None)) ≡ Some fault
    → fails (cond t tag wrong) ≡ fails fault
waits_first true true o wrong tag odd fault w e = let same : tag ≡ fault = cc in ap fails same
waits_first true false o wrong tag odd fault w e = absurd cc
waits_first false w o wrong tag odd fault h e = let same : wrong ≡ fault = cc in ap fails same

bracket_first : (t w o : Bool) (x : Taken) (wrong tag odd fault : EdnFault) → w ≡ false → cond (not t) (Some wrong) (cond w (Some tag) (cond o (Some odd) None)) ≡ Some fault
    → cond t (cond o (fails odd) x) (fails wrong) ≡ fails fault
bracket_first true true o x wrong tag odd fault w e = absurd cc
bracket_first true false true x wrong tag odd fault w e = let same : odd ≡ fault = cc in ap fails same
bracket_first true false false x wrong tag odd fault w e = absurd cc
bracket_first false w o x wrong tag odd fault h e = let same : wrong ≡ fault = cc in ap fails same

closes_by : (p : ℕ) (bracket : Bracket) (item : Open) (o : Option Open) (x : Taken) (fault : EdnFault) (w : Bool) → waits item.opener ≡ w → fault_in p bracket item (cond w o (Some item)) ≡ Some fault
    → cond w (fails (fault_before p bracket item o)) (cond (fits item.opener bracket) (cond (is_paired item.opener && item.odd) (fails (faults.OddMap p)) x) (fails (faults.WrongClose p))) ≡ fails fault
closes_by p bracket item None x fault true w e = let same : faults.StrayClose p ≡ fault = cc in ap fails same
closes_by p bracket item (Some inner) x fault true w e =
    waits_first (fits inner.opener bracket) (waits item.opener) (is_paired item.opener && item.odd) _ _ _ fault w e
closes_by p bracket item o x fault false w e =
    bracket_first (fits item.opener bracket) (waits item.opener) (is_paired item.opener && item.odd) x _ _ _ fault w e

closes_refused : (p q : ℕ) (bracket : Bracket) (opens : List Open) (fault : EdnFault) → fault_of_close p bracket opens ≡ Some fault → closed p q bracket opens ≡ fails fault
unfolding closed
closes_refused p q bracket [] fault e = let same : faults.StrayClose p ≡ fault = cc in ap fails same
closes_refused p q bracket (item ∷ opens) fault e = closes_by p bracket item (innermost opens) _ fault (waits item.opener) refl e

closes_taken : (p q : ℕ) (bracket : Bracket) (opens : List Open) → taken (tokens.Closes bracket) p q opens ≡ closed p q bracket opens
unfolding taken
closes_taken p q bracket opens = refl

closing_taken : (p b : ℕ) (bytes : List ℕ) (bracket : Bracket) (opens : List Open) → class_of b ≡ Closes bracket → front_taken p (b ∷ bytes) opens ≡ closed p (p + 1) bracket opens
closing_taken p b bytes bracket opens e = taken_of p (b ∷ bytes) opens (tokens.Closes bracket, 1) (lexed_of b bytes (Closes bracket) e) ∙ closes_taken p (p + 1) bracket opens

pub refused_taken : {p at : ℕ} {bytes : List ℕ} {opens : List Open} {fault : EdnFault} → Refuses opens p bytes at fault → front_taken p bytes opens ≡ fails fault
refused_taken {p} {opens = opens} (too_deep full (by_bracket {b = b} {bytes = bytes} {bracket = bracket} e)) =
    taken_of p (b ∷ bytes) opens (tokens.Opens (opener_of bracket), 1) (lexed_of b bytes (Opens bracket) e) ∙ full_opens (opener_of bracket) p (p + 1) opens full
refused_taken {p} {opens = opens} (too_deep full (by_hash {b = b} {c = c} {bytes = bytes} e h q)) =
    let token = hash_token (class_of c) c bytes in
    taken_of p (b ∷ c ∷ bytes) opens token (lexed_of b (c ∷ bytes) Hash e ∙ after_of c bytes) ∙ full_some token p (p + token.1) opens (hash_opens (class_of c) c bytes h q) full
refused_taken {p} {opens = opens} {fault = fault} (closing {b = b} {bytes = bytes} {bracket = bracket} e r) =
    closing_taken p b bytes bracket opens e ∙ closes_refused p (p + 1) bracket opens fault r

-- ---- one ending

-- the run over an input up to where a token fails
pub record Ending (input : List ℕ) (p : ℕ) (a : List ℕ) (opens : List Open) (pieces : List ElementModel) : Type 0 where
  pub spans : List Span
  pub run : Leads 0 input [] [] p a opens spans
  pub stuck : goes (front_taken p a opens) ≡ None
  pub many : length spans ≡ length pieces

pub record SameEnding (p : ℕ) (a : List ℕ) (ao : List Open) (firsts : List ElementModel) (q : ℕ) (b : List ℕ) (bo : List Open) (seconds : List ElementModel) : Type 0 where
  pub place : p ≡ q
  pub bytes : a ≡ b
  pub opens : ao ≡ bo
  pub many : length firsts ≡ length seconds

pub same_ending : {input a b : List ℕ} {p q : ℕ} {ao bo : List Open} {firsts seconds : List ElementModel} → Ending input p a ao firsts → Ending input q b bo seconds → SameEnding p a ao firsts q b bo seconds
same_ending x y =
    elim (one_run x.run y.run) [
      | inl more ↦ (let s = run_ends x.stuck more in
          record { place = s.place; bytes = s.bytes; opens = s.opens; many = sym x.many ∙ ap length s.given ∙ y.many })
      | inr more ↦ (let s = run_ends y.stuck more in
          record { place = sym s.place; bytes = sym s.bytes; opens = sym s.opens; many = sym x.many ∙ ap length (sym s.given) ∙ y.many })
    ]

pub ending_present : {p : ℕ} {input a : List ℕ} {pieces : List ElementModel} {opens : List Open} → StandsOpen input pieces opens p a → goes (front_taken p a opens) ≡ None → Ending input p a opens pieces
ending_present present stuck = let o = leads_present present in record { spans = o.spans; run = o.run; stuck = stuck; many = o.many }

at_end : (p : ℕ) (opens : List Open) → goes (front_taken p [] opens) ≡ None
unfolding lexed taken
at_end p opens = refl

pub ending_end : {p : ℕ} {input : List ℕ} {pieces : List ElementModel} {opens : List Open} → StandsOpen input pieces opens p [] → Ending input p [] opens pieces
ending_end {p} {opens = opens} present = ending_present present (at_end p opens)

-- a prefix of gaps and elements has no more elements than the run up to a failing token
pub front_fewer : {p q room : ℕ} {input a b : List ℕ} {opens : List Open} {firsts seconds : List ElementModel} → room ≤ 64 → IsElements room 0 input firsts q b → Ending input p a opens seconds → length firsts ≤ length seconds
front_fewer {firsts = firsts} le els x =
    let o = leads_outermost els [] le in
    elim (one_run o.run x.run) [
      | inl more ↦ (let m = given_more more in omega (arith, x.many, o.many, ap length m.1, length-append o.spans m.0))
      | inr more ↦ (let s = run_ends x.stuck more in omega (arith, x.many, o.many, ap length s.given))
    ]

-- ---- one division

pub agree : {room other p q r : ℕ} {a b d : List ℕ} (firsts seconds : List ElementModel) → room ≤ 64 → other ≤ 64 → IsElements room p a firsts q b → IsElements other p a seconds r d
    → length firsts ≤ length seconds → IsBeginning firsts seconds
agree firsts seconds lo hi none h le = (seconds, refl)
agree firsts seconds lo hi (next gap element whole els) none le = absurd (omega arith)
agree firsts seconds lo hi (next {ended = here} {beyond = beyond} {piece = piece} {pieces = pieces} gap element whole els) (next {room = other} {ended = there} {after = r} {beyond = left} {rest = d} {piece = second} {pieces = others} g e t h) le =
    let same = same_first piece second lo hi gap element whole g e t in
    let moved : IsElements other here beyond others r d = subst (λ (n : ℕ). IsElements other n beyond others r d) (sym same.1) (subst (λ (x : List ℕ). IsElements other there x others r d) (sym same.2) h) in
    let rest = agree pieces others lo hi els moved (omega arith) in
    (rest.0, ap (λ (x : ElementModel). x ∷ others) (sym same.0) ∙ ap (λ (xs : List ElementModel). piece ∷ xs) rest.1)

pub no_more : (pieces : List ElementModel) → length pieces ≡ 0 → pieces ≡ []
no_more [] e = refl
no_more (piece ∷ others) e = absurd (omega arith)

pub same_list : {room other p q r : ℕ} {a b d : List ℕ} (firsts seconds : List ElementModel) → room ≤ 64 → other ≤ 64 → IsElements room p a firsts q b → IsElements other p a seconds r d
    → length firsts ≡ length seconds → firsts ≡ seconds
same_list firsts seconds lo hi els others long =
    let b = agree firsts seconds lo hi els others (omega arith) in
    let none_left : b.0 ≡ [] = no_more b.0 (omega (arith, ap length b.1, length-append firsts b.0)) in
    sym (b.1 ∙ ap (λ (m : List ElementModel). firsts ++ m) none_left ∙ append-nil firsts)

-- where nothing is open, a closing bracket fails
closing_stuck : {r s : ℕ} {others d : List ℕ} {bracket : Bracket} → IsToken (tokens.Closes bracket) r others s d → goes (front_taken r others []) ≡ None
unfolding taken closed
closing_stuck {r} {s} {others} token =
    let l = lexed_token token in
    ap (λ (t : Token). goes (taken t r (r + (lexed others).1) [])) l.token_is

empty_span : {x : Span} {more : List Span} → [] ≡ (x ∷ []) ++ more → ⊥
empty_span e = cc

pub no_first : {room other p s q r t : ℕ} {a left b others d : List ℕ} {kind : ElementKind} {core : Core} {bracket : Bracket} → room ≤ 64 → other ≤ 64
    → IsGap room p a s left → IsElementAt room kind core s left q b → IsGap other p a r others → IsToken (tokens.Closes bracket) r others t d → ⊥
no_first le ge gap element before token =
    let run = leads_then (leads_gap gap [] [] (omega arith)) (leads_outermost_element element [] le) in
    elim (one_run run (leads_gap before [] [] (omega arith))) [
      | inl more ↦ (let m = given_more more in empty_span m.1)
      | inr more ↦ (let e = run_ends (closing_stuck token) more in empty_span (e.given ∙ sym (append-nil _)))
    ]
