-- What each token says of the input, and so what reading an element says.
use Rattle.std.proofs.Common.{◌≡◌, ◌⊎◌, inl, inr, ℕ, zero, suc, ◌+◌, ◌<◌, ◌≤◌, Bool, true, false, cond, eqb, ◌&&◌, List, [], ◌∷◌, ◌++◌, length, drop, length-drop, Option, Some, None, refl, sym, ap, subst, ◌∙◌, arith, length-append}
use Rattle.std.proofs.lemmas.Bool.Decides.{nat_tests}
use Rattle.std.proofs.Math.ListN.{drop_of_length-le}
use Rattle.std.proofs.lemmas.Option.{IfSome_then}
use Rattle.edn_reader.specs.declared.bytes.ByteClass.TheVariants.{Plain, Hash, Quote, Opens, Closes}
use Rattle.edn_reader.specs.declared.bytes.Bracket.{Bracket}
use Rattle.edn_reader.specs.declared.bytes.Bracket.TheVariants.{Curly}
use Rattle.edn_reader.specs.declared.fault.EdnFault.{EdnFault}
use Rattle.edn_reader.specs.declared.fault.EdnFault.TheVariants as faults
use Rattle.edn_reader.specs.declared.nesting.Open.{Open}
use Rattle.edn_reader.specs.declared.step.Span.{Span}
use Rattle.edn_reader.specs.declared.token.Found.{Found}
use Rattle.edn_reader.specs.declared.token.Token.{Token}
use Rattle.edn_reader.specs.declared.token.Token.TheVariants as tokens
use Rattle.edn_reader.specs.declared.token.Opener.{Opener}
use Rattle.edn_reader.specs.declared.token.Opener.TheVariants as openers
use Rattle.edn_reader.specs.Bytes.{class_of}
use Rattle.edn_reader.specs.Grammar.{ElementModel, IsToken, opening, set, discard, tag, close, nothing, skipped, IsElementAt, leaf, IsElements, none, waits, fits, is_paired, kind_of}
use Rattle.edn_reader.specs.Text.{IsFront, IsText, StandsOpen, outermost, opened}
use Rattle.edn_reader.specs.Fault.{by_bracket, by_hash, Refuses, too_deep, closing, FaultOf, wanted_at, CanWantMemory, MemoryOnlyThere, AreElementsBefore, innermost}
use Rattle.edn_reader.specs.Token.{found_at, lexed}
use Rattle.edn_reader.specs.Taking.{Taken, on, ends, fails, with_one, is_tag, after_tag, completed, EndsOne, plain_span, fault_before, closed, taken, GrowthRefused, piece_in}
use Rattle.edn_reader.specs.Within.{OneMore}
use Rattle.edn_reader.proofs.Lexing.{token_lexed, lexed_some, unfinished_long, finishing}
use Rattle.edn_reader.proofs.Places.{moved_elements}
use Rattle.edn_reader.proofs.Steps.{present_gap, present_opened, present_closed}
use Rattle.edn_reader.proofs.Runs.{goes, settled, settles, front_taken}
use Rattle.edn_reader.proofs.Unique.{Ending, ending_present, ending_end, front_fewer, agree}
use Rattle.edn_reader.proofs.Ended.{elements_left, present_left, present_room, present_text, Stands, present_completed}
use Rattle.edn_reader.proofs.Viable.{fault_refused, ending_refused, fault_open_end, fault_unfinished}

-- ---- one token

-- a fault of the input, and the run up to it
pub record Fails (input : List ℕ) (pieces : List ElementModel) (fault : EdnFault) : Type 0 where
  pub met : FaultOf input fault
  pub place : ℕ
  pub bytes : List ℕ
  pub opens : List Open
  pub ending : Ending input place bytes opens pieces

abbrev pub Says : List ℕ → List ElementModel → ℕ → List ℕ → Taken → Type 0
Says input pieces q b (on opens) = StandsOpen input pieces opens q b
Says input pieces q b (ends span) =
    (span.start ≤ span.core.start) × (span.core.start < span.end) × (span.end ≡ q) × IsElements 64 0 input (pieces ++ piece_in input span ∷ []) q b
Says input pieces q b (fails fault) = Fails input pieces fault

says_refused : {p at : ℕ} {input a : List ℕ} {pieces : List ElementModel} {opens : List Open} {fault : EdnFault} → StandsOpen input pieces opens p a → Refuses opens p a at fault → Fails input pieces fault
says_refused {p} {a = a} {opens = opens} s r = record { met = fault_refused s r; place = p; bytes = a; opens = opens; ending = ending_refused s r }

-- an element that ended is never a fault
never_fails : (span : Span) (opens : List Open) (fault : EdnFault) → completed span opens ≡ fails fault → ⊥
never_fails span opens fault e = let both : Some (settled span opens) ≡ None = sym (settles span opens) ∙ ap goes e in absurd cc

says_present : (input : List ℕ) (pieces : List ElementModel) (q : ℕ) (b : List ℕ) (t : Taken) → ((fault : EdnFault) → t ≡ fails fault → ⊥) → Stands input pieces q b t → Says input pieces q b t
says_present input pieces q b (on opens) h s = s
says_present input pieces q b (ends span) h s = s
says_present input pieces q b (fails fault) h s = absurd (h fault refl)

says_completed : {input b : List ℕ} {pieces : List ElementModel} (opens : List Open) (span : Span) (a : List ℕ) → StandsOpen input pieces opens span.start a
    → ((room : ℕ) → room + length opens ≡ 64 → IsElementAt room span.kind span.core span.start a span.end b) → Says input pieces span.end b (completed span opens)
says_completed {input} {b} {pieces} opens span a s element =
    says_present input pieces span.end b (completed span opens) (never_fails span opens) (present_completed opens span a s element)

-- what opens while 64 are open is refused
deep_refused : {opener : Opener} {p q : ℕ} {a b : List ℕ} {opens : List Open} → IsToken (tokens.Opens opener) p a q b → length opens ≡ 64
    → (at : ℕ) × Refuses opens p a at (faults.TooDeep p)
unfolding class_of
deep_refused {p = p} (opening e) full = (p, too_deep full (by_bracket e))
deep_refused {p = p} (set v w) full = (suc p, too_deep full (by_hash v (λ h. let both : Opens Curly ≡ Hash = sym w ∙ h in cc) (λ h. let both : Opens Curly ≡ Quote = sym w ∙ h in cc)))
deep_refused {p = p} (discard {c = c} v w) full =
    let plain : class_of c ≡ Plain = ap class_of w in
    (suc p, too_deep full (by_hash v (λ h. let both : Plain ≡ Hash = sym plain ∙ h in cc) (λ h. let both : Plain ≡ Quote = sym plain ∙ h in cc)))
deep_refused {p = p} (tag {bytes = []} v n g) full = absurd n
deep_refused {p = p} (tag {bytes = c ∷ bytes} v n g) full = (suc p, too_deep full (by_hash v n.0 n.1))

says_opened : {p q : ℕ} {input a b : List ℕ} {pieces : List ElementModel} (opener : Opener) (opens : List Open) (t : Bool) → eqb (length opens) 64 ≡ t → StandsOpen input pieces opens p a → IsToken (tokens.Opens opener) p a q b
    → Says input pieces q b (cond t (fails (faults.TooDeep p)) (on (record { place = p; opener = opener; odd = false } ∷ opens)))
says_opened opener opens true e s token =
    let full : length opens ≡ 64 = grind (arith, nat_tests) in says_refused s (deep_refused token full).1
says_opened opener opens false e s token =
    let most = present_room opens s in
    let room : length opens < 64 = grind (arith, nat_tests) in
    present_opened opener (waits opener) refl s token room

-- ---- a closing bracket

record Closing (bracket : Bracket) (p : ℕ) (a : List ℕ) (q : ℕ) (b : List ℕ) : Type 0 where
  byte : ℕ
  is : class_of byte ≡ Closes bracket
  bytes : a ≡ byte ∷ b

closing_of : {bracket : Bracket} {p q : ℕ} {a b : List ℕ} → IsToken (tokens.Closes bracket) p a q b → Closing bracket p a q b
closing_of (close {b = x} e) = record { byte = x; is = e; bytes = refl }

refuses_at : {p at : ℕ} {a b : List ℕ} {opens : List Open} {fault : EdnFault} → a ≡ b → Refuses opens p b at fault → Refuses opens p a at fault
refuses_at {p} {at} {opens = opens} {fault = fault} e r = subst (λ (x : List ℕ). Refuses opens p x at fault) (sym e) r

says_before : {p q : ℕ} {input a b : List ℕ} {pieces : List ElementModel} {bracket : Bracket} (item inner : Open) (opens : List Open) (t : Bool) → fits inner.opener bracket ≡ t → waits item.opener ≡ true → innermost opens ≡ Some inner
    → StandsOpen input pieces (item ∷ opens) p a → Closing bracket p a q b → Fails input pieces (cond t (faults.TagWithoutElement item.place) (faults.WrongClose p))
says_before item inner opens true f w e s c = says_refused s (refuses_at c.bytes (closing c.is (rw (w, e, f, w) refl)))
says_before item inner opens false f w e s c = says_refused s (refuses_at c.bytes (closing c.is (rw (w, e, f) refl)))

says_waiting : {p q : ℕ} {input a b : List ℕ} {pieces : List ElementModel} {bracket : Bracket} (item : Open) (opens : List Open) (o : Option Open) → innermost opens ≡ o → waits item.opener ≡ true
    → StandsOpen input pieces (item ∷ opens) p a → Closing bracket p a q b → Fails input pieces (fault_before p bracket item o)
says_waiting item opens None e w s c = says_refused s (refuses_at c.bytes (closing c.is (rw (w, e) refl)))
says_waiting {bracket = bracket} item opens (Some inner) e w s c = says_before item inner opens (fits inner.opener bracket) refl w e s c

says_paired : {p q : ℕ} {input a b : List ℕ} {pieces : List ElementModel} {bracket : Bracket} (item : Open) (opens : List Open) (t : Bool) → is_paired item.opener && item.odd ≡ t → waits item.opener ≡ false → fits item.opener bracket ≡ true
    → StandsOpen input pieces (item ∷ opens) p a → IsToken (tokens.Closes bracket) p a q b → Says input pieces q b (cond t (fails (faults.OddMap p)) (completed (plain_span (kind_of item.opener) item.place q) opens))
says_paired item opens true e w f s token = let c = closing_of token in says_refused s (refuses_at c.bytes (closing c.is (rw (w, f, w, e) refl)))
says_paired {q = q} item opens false e w f s token =
    let c = present_closed w s token f e in
    says_completed opens (plain_span (kind_of item.opener) item.place q) c.bytes c.before c.element

says_closed_by : {p q : ℕ} {input a b : List ℕ} {pieces : List ElementModel} {bracket : Bracket} (item : Open) (opens : List Open) (w f : Bool) → waits item.opener ≡ w → fits item.opener bracket ≡ f
    → StandsOpen input pieces (item ∷ opens) p a → IsToken (tokens.Closes bracket) p a q b
    → Says input pieces q b (cond w (fails (fault_before p bracket item (innermost opens)))
    (cond f (cond (is_paired item.opener && item.odd) (fails (faults.OddMap p)) (completed (plain_span (kind_of item.opener) item.place q) opens)) (fails (faults.WrongClose p))))
says_closed_by item opens true f w g s token = says_waiting item opens (innermost opens) refl w s (closing_of token)
says_closed_by item opens false true w g s token = says_paired item opens (is_paired item.opener && item.odd) refl w g s token
says_closed_by item opens false false w g s token = let c = closing_of token in says_refused s (refuses_at c.bytes (closing c.is (rw (w, g) refl)))

says_closed : {p q : ℕ} {input a b : List ℕ} {pieces : List ElementModel} (bracket : Bracket) (opens : List Open) → StandsOpen input pieces opens p a → IsToken (tokens.Closes bracket) p a q b
    → Says input pieces q b (closed p q bracket opens)
unfolding closed
says_closed bracket [] s token = let c = closing_of token in says_refused s (refuses_at c.bytes (closing c.is refl))
says_closed bracket (item ∷ opens) s token = says_closed_by item opens (waits item.opener) (fits item.opener bracket) refl refl s token

-- ---- each token

says_unfinished : {p : ℕ} {input a : List ℕ} {pieces : List ElementModel} (opens : List Open) → StandsOpen input pieces opens p a → 0 < length a → (lexed a).0 ≡ tokens.Unfinished
    → Fails input pieces (faults.Truncated (p + (lexed a).1))
unfolding taken
says_unfinished {p} {input} {a} {pieces} opens s some e =
    let stuck : goes (front_taken p a opens) ≡ None = ap (λ (t : Token). goes (taken t p (p + (lexed a).1) opens)) e in
    let met = fault_unfinished s some (finishing a some e) stuck in
    let long : p + length a ≡ p + (lexed a).1 = ap (λ (n : ℕ). p + n) (sym (unfinished_long a e)) in
    record { met = subst (λ (n : ℕ). FaultOf input (faults.Truncated n)) long met; place = p; bytes = a; opens = opens; ending = ending_present s stuck }

token_by : (input : List ℕ) (pieces : List ElementModel) (opens : List Open) (p : ℕ) (a : List ℕ) (t : Token) → (lexed a).0 ≡ t → StandsOpen input pieces opens p a → 0 < length a
    → Says input pieces (p + (lexed a).1) (drop (lexed a).1 a) (taken t p (p + (lexed a).1) opens)
unfolding taken
token_by input pieces opens p a tokens.Gap e s some = let token = token_lexed p a tokens.Gap e (λ h. cc) in present_gap s (λ room fit. skipped token nothing)
token_by input pieces opens p a (tokens.Leaf kind) e s some =
    let token = token_lexed p a (tokens.Leaf kind) e (λ h. cc) in
    says_completed opens (plain_span kind p (p + (lexed a).1)) a s (λ room fit. leaf token)
token_by input pieces opens p a (tokens.Opens opener) e s some =
    says_opened opener opens (eqb (length opens) 64) refl s (token_lexed p a (tokens.Opens opener) e (λ h. cc))
token_by input pieces opens p a (tokens.Closes bracket) e s some =
    says_closed bracket opens s (token_lexed p a (tokens.Closes bracket) e (λ h. cc))
token_by input pieces opens p a tokens.Unfinished e s some = says_unfinished opens s some e

pub says : (input : List ℕ) (pieces : List ElementModel) (opens : List Open) (p : ℕ) (a : List ℕ) → StandsOpen input pieces opens p a → 0 < length a
    → Says input pieces (p + (lexed a).1) (drop (lexed a).1 a) (front_taken p a opens)
says input pieces opens p a s some = token_by input pieces opens p a (lexed a).0 refl s some

-- ---- what the next token says

-- what is open at a place of the input
abbrev pub StandsAt : List ℕ → List ElementModel → List Open → ℕ → Type 0
StandsAt input pieces opens at = StandsOpen input pieces opens at (drop at input)

some_left : (input : List ℕ) (at : ℕ) → at < length input → 0 < length (drop at input)
some_left input at lt = omega (arith, length-drop at input, lt)

-- the token that was found is the first of the bytes
found_front : (input : List ℕ) (at : ℕ) (found : Found) (opens : List Open) → found ≡ found_at at (lexed (drop at input)) → taken found.token at found.end opens ≡ front_taken at (drop at input) opens
found_front input at found opens e = ap (λ (f : Found). taken f.token at f.end opens) e

said : (input : List ℕ) (pieces : List ElementModel) (at : ℕ) (found : Found) (opens : List Open) (t : Taken) → at < length input → StandsAt input pieces opens at → found ≡ found_at at (lexed (drop at input))
    → taken found.token at found.end opens ≡ t → Says input pieces (at + (lexed (drop at input)).1) (drop (lexed (drop at input)).1 (drop at input)) t
said input pieces at found opens t lt s e f =
    subst (Says input pieces (at + (lexed (drop at input)).1) (drop (lexed (drop at input)).1 (drop at input))) (sym (found_front input at found opens e) ∙ f)
    (says input pieces opens at (drop at input) s (some_left input at lt))

pub present_next : (input : List ℕ) (pieces : List ElementModel) (at : ℕ) (found : Found) (opens after : List Open) → at < length input → StandsAt input pieces opens at → found ≡ found_at at (lexed (drop at input))
    → taken found.token at found.end opens ≡ on after → StandsAt input pieces after found.end
present_next input pieces at found opens after lt s e f =
    let now = said input pieces at found opens (on after) lt s e f in
    let place : at + (lexed (drop at input)).1 ≡ found.end = sym (ap (λ (x : Found). x.end) e) in
    let rest : drop (lexed (drop at input)).1 (drop at input) ≡ drop found.end input = present_left now ∙ ap (λ (n : ℕ). drop n input) place in
    subst (λ (n : ℕ). StandsOpen input pieces after n (drop found.end input)) place (subst (λ (b : List ℕ). StandsOpen input pieces after (at + (lexed (drop at input)).1) b) rest now)

pub elements_within : {q : ℕ} {pieces : List ElementModel} {input rest : List ℕ} → IsElements 64 0 input pieces q rest → q ≤ length input
elements_within {rest = rest} els = let m = moved_elements els rest (λ h. h, λ h. h, λ h. h) in omega (arith, m.2.place, ap length m.2.here, length-append m.2.front rest)

-- an element ends where its last token ends
ends_by : (t w : Bool) (x : Taken) (y z : List Open) (s : Span) (n : ℕ) → (x ≡ ends s → s.end ≡ n) → cond t x (cond w (on y) (on z)) ≡ ends s → s.end ≡ n
ends_by true w x y z s n h e = h e
ends_by false true x y z s n h e = absurd cc
ends_by false false x y z s n h e = absurd cc

completed_ends : (opens : List Open) (span s : Span) → completed span opens ≡ ends s → s.end ≡ span.end
unfolding completed
completed_ends [] span s e = let same : span ≡ s = cc in ap (λ (x : Span). x.end) (sym same)
completed_ends (item ∷ opens) span s e =
    ends_by (is_tag item.opener) (waits item.opener) (completed (after_tag item span) opens) opens (with_one item ∷ opens) s span.end (completed_ends opens (after_tag item span) s) e

closed_by : (w f o : Bool) (x : Taken) (a b c : EdnFault) (s : Span) (n : ℕ) → (x ≡ ends s → s.end ≡ n) → cond w (fails a) (cond f (cond o (fails b) x) (fails c)) ≡ ends s → s.end ≡ n
closed_by true f o x a b c s n h e = absurd cc
closed_by false true true x a b c s n h e = absurd cc
closed_by false true false x a b c s n h e = h e
closed_by false false o x a b c s n h e = absurd cc

closed_ends : (p q : ℕ) (bracket : Bracket) (opens : List Open) (s : Span) → closed p q bracket opens ≡ ends s → s.end ≡ q
unfolding closed
closed_ends p q bracket [] s e = absurd cc
closed_ends p q bracket (item ∷ opens) s e =
    closed_by (waits item.opener) (fits item.opener bracket) (is_paired item.opener && item.odd) _ _ _ _ s q (completed_ends opens (plain_span (kind_of item.opener) item.place q) s) e

opened_never : (t : Bool) (f : EdnFault) (opens : List Open) (s : Span) → cond t (fails f) (on opens) ≡ ends s → ⊥
opened_never true f opens s e = cc
opened_never false f opens s e = cc

pub taken_ends : (t : Token) (p q : ℕ) (opens : List Open) (s : Span) → taken t p q opens ≡ ends s → s.end ≡ q
unfolding taken
taken_ends tokens.Gap p q opens s e = absurd cc
taken_ends (tokens.Leaf kind) p q opens s e = completed_ends opens (plain_span kind p q) s e
taken_ends (tokens.Opens opener) p q opens s e = absurd (opened_never (eqb (length opens) 64) _ _ s e)
taken_ends (tokens.Closes bracket) p q opens s e = closed_ends p q bracket opens s e
taken_ends tokens.Unfinished p q opens s e = absurd cc

pub element_next : (input : List ℕ) (pieces : List ElementModel) (at : ℕ) (found : Found) (span : Span) (opens : List Open) → at < length input → StandsAt input pieces opens at
    → found ≡ found_at at (lexed (drop at input)) → taken found.token at found.end opens ≡ ends span → OneMore input pieces span
element_next input pieces at found span opens lt s e f =
    let now = said input pieces at found opens (ends span) lt s e f in
    let there : IsElements 64 0 input (pieces ++ piece_in input span ∷ []) span.end (drop (lexed (drop at input)).1 (drop at input)) =
    subst (λ (n : ℕ). IsElements 64 0 input (pieces ++ piece_in input span ∷ []) n (drop (lexed (drop at input)).1 (drop at input))) (sym now.2) now.3 in
    (now.0, now.1, elements_within there, subst (λ (b : List ℕ). IsElements 64 0 input (pieces ++ piece_in input span ∷ []) span.end b) (elements_left there) there)

-- the elements that have ended before what is open are those of a prefix
pub front_of : {p : ℕ} {input rest : List ℕ} {pieces : List ElementModel} {opens : List Open} → StandsOpen input pieces opens p rest → (at : ℕ) × IsFront input pieces at
front_of {input = input} {pieces = pieces} (outermost {place = at} els gap) = (at, subst (λ (b : List ℕ). IsElements 64 0 input pieces at b) (elements_left els) els)
front_of (opened s token room inside) = front_of s

before_fault : (input : List ℕ) (pieces : List ElementModel) (fault : EdnFault) → (at : ℕ) × IsFront input pieces at → Fails input pieces fault → FaultOf input fault × AreElementsBefore input pieces
before_fault input pieces fault (from, front) f = (
  f.met,
  (from, front, λ others there h. agree others pieces (omega arith) (omega arith) h front (front_fewer (omega arith) h f.ending)),
)

pub fault_next : (input : List ℕ) (pieces : List ElementModel) (at : ℕ) (found : Found) (fault : EdnFault) (opens : List Open) → at < length input → StandsAt input pieces opens at
    → found ≡ found_at at (lexed (drop at input)) → taken found.token at found.end opens ≡ fails fault → FaultOf input fault × AreElementsBefore input pieces
fault_next input pieces at found fault opens lt s e f = before_fault input pieces fault (front_of s) (said input pieces at found opens (fails fault) lt s e f)

-- what opens at a place where 64 are open is refused, whatever more of it follows
pub full_fails : (input : List ℕ) (pieces : List ElementModel) (at : ℕ) (opener : Opener) (opens : List Open) → StandsAt input pieces opens at → (lexed (drop at input)).0 ≡ tokens.Opens opener → length opens ≡ 64
    → FaultOf input (faults.TooDeep at) × AreElementsBefore input pieces
full_fails input pieces at opener opens s is full =
    let token = token_lexed at (drop at input) (tokens.Opens opener) is (λ h. cc) in
    before_fault input pieces (faults.TooDeep at) (front_of s) (says_refused s (deep_refused token full).1)

-- where a growth was refused, memory may be refused
pub memory_next : (input : List ℕ) (pieces : List ElementModel) (at : ℕ) (found : Found) (fault : EdnFault) (opens after : List Open) → StandsAt input pieces opens at
    → found ≡ found_at at (lexed (drop at input)) → GrowthRefused found.token at opens fault after → MemoryOnlyThere input pieces fault
memory_next input pieces at found fault opens after s e refused =
    let left = drop at input in
    IfSome_then (wanted_at fault) refused (λ place (same, kept, opener, token, many, room).
    let is : (lexed left).0 ≡ tokens.Opens opener = sym (ap (λ (f : Found). f.token) e) ∙ token in
    subst (λ (n : ℕ). CanWantMemory input pieces n) (sym same)
    (record {
      opens = opens;
      bytes = left;
      opener = opener;
      inner = at + (lexed left).1;
      left = drop (lexed left).1 left;
      present = s;
      begins = token_lexed at left (tokens.Opens opener) is (λ h. cc);
      many = many;
      room = omega (arith, present_room opens s);
    }))

nothing_left : (at : ℕ) (input : List ℕ) → length input ≤ at → drop at input ≡ []
nothing_left at input le = drop_of_length-le input le

-- at its end the input is a text where nothing is open, and else it ends too early
pub text_end : (input : List ℕ) (pieces : List ElementModel) (at : ℕ) → length input ≤ at → StandsAt input pieces [] at → IsText input pieces
text_end input pieces at le s = present_text (subst (λ (r : List ℕ). StandsOpen input pieces [] at r) (nothing_left at input le) s)

fails_open : {p : ℕ} {input : List ℕ} {pieces : List ElementModel} {item : Open} {opens : List Open} → StandsOpen input pieces (item ∷ opens) p [] → Fails input pieces (faults.Truncated p)
fails_open {p} {item = item} {opens = opens} s = record { met = fault_open_end s; place = p; bytes = []; opens = item ∷ opens; ending = ending_end s }

pub open_end : (input : List ℕ) (pieces : List ElementModel) (at : ℕ) (item : Open) (opens : List Open) → length input ≤ at → StandsAt input pieces (item ∷ opens) at
    → FaultOf input (faults.Truncated at) × AreElementsBefore input pieces
open_end input pieces at item opens le s =
    before_fault input pieces (faults.Truncated at) (front_of s) (fails_open (subst (λ (r : List ℕ). StandsOpen input pieces (item ∷ opens) at r) (nothing_left at input le) s))

-- ---- every input is a text or has a fault

abbrev pub Settled : List ℕ → Type 0
Settled input = ((pieces : List ElementModel) × IsText input pieces) ⊎ ((fault : EdnFault) × FaultOf input fault)

abbrev Later : List ℕ → ℕ → Type 0
Later input fuel = (pieces : List ElementModel) (opens : List Open) (p : ℕ) (a : List ℕ) → length a ≤ fuel → StandsOpen input pieces opens p a → Settled input

settle_token : (fuel : ℕ) (input : List ℕ) (pieces : List ElementModel) (q : ℕ) (b : List ℕ) → length b ≤ fuel → Later input fuel → (t : Taken) → Says input pieces q b t → Settled input
settle_token fuel input pieces q b le later (on opens) s = later pieces opens q b le s
settle_token fuel input pieces q b le later (ends span) s = later (pieces ++ piece_in input span ∷ []) [] q b le (outermost s.3 nothing)
settle_token fuel input pieces q b le later (fails fault) s = inr (fault, s.met)

settle_end : (input : List ℕ) (pieces : List ElementModel) (opens : List Open) (p : ℕ) → StandsOpen input pieces opens p [] → Settled input
settle_end input pieces [] p s = inl (pieces, present_text s)
settle_end input pieces (item ∷ opens) p s = inr (faults.Truncated p, fault_open_end s)

settle : (input : List ℕ) (fuel : ℕ) → Later input fuel
settle input fuel pieces opens p [] le s = settle_end input pieces opens p s
settle input zero pieces opens p (x ∷ a) le s = absurd (omega arith)
settle input (suc fuel) pieces opens p (x ∷ a) le s =
    let shorter : length (drop (lexed (x ∷ a)).1 (x ∷ a)) ≤ fuel = omega (arith, length-drop (lexed (x ∷ a)).1 (x ∷ a), lexed_some (x ∷ a) (omega arith), le) in
    settle_token fuel input pieces (p + (lexed (x ∷ a)).1) (drop (lexed (x ∷ a)).1 (x ∷ a)) shorter (settle input fuel) (front_taken p (x ∷ a) opens) (says input pieces opens p (x ∷ a) s (omega arith))

pub settled_text : (input : List ℕ) → Settled input
settled_text input = settle input (length input) [] [] 0 input (omega arith) (outermost none nothing)

-- ---- an element that ended

completed_tag : (span : Span) (item : Open) (opens : List Open) → item.opener ≡ openers.Tag → completed span (item ∷ opens) ≡ completed (after_tag item span) opens
unfolding completed
completed_tag span item opens e = rw e refl

no_tag_by : (opener : Opener) (x : Taken) (y z : List Open) → (opener ≡ openers.Tag → ⊥) → cond (is_tag opener) x (cond (waits opener) (on y) (on z)) ≡ on (cond (waits opener) y z)
no_tag_by openers.List x y z h = refl
no_tag_by openers.Vector x y z h = refl
no_tag_by openers.Map x y z h = refl
no_tag_by openers.Set x y z h = refl
no_tag_by openers.Tag x y z h = absurd (h refl)
no_tag_by openers.Discard x y z h = refl

completed_one : (span : Span) (item : Open) (opens : List Open) → (item.opener ≡ openers.Tag → ⊥) → completed span (item ∷ opens) ≡ on (cond (waits item.opener) opens (with_one item ∷ opens))
unfolding completed
completed_one span item opens h = no_tag_by item.opener (completed (after_tag item span) opens) opens (with_one item ∷ opens) h

pub tag_ended : (span : Span) (item : Open) (before after : List Open) → EndsOne (Some item) before after → item.opener ≡ openers.Tag → completed span before ≡ completed (after_tag item span) after
tag_ended span item before after (others, whole, rest) e =
    ap (completed span) whole ∙ completed_tag span item others e ∙ ap (completed (after_tag item span)) (sym (rest ∙ ap (λ (o : Opener). cond (waits o) others (with_one item ∷ others)) e))

pub one_ended : (span : Span) (item : Open) (before after : List Open) → EndsOne (Some item) before after → (item.opener ≡ openers.Tag → ⊥) → completed span before ≡ on after
one_ended span item before after (others, whole, rest) h = ap (completed span) whole ∙ completed_one span item others h ∙ ap on (sym rest)

pub none_ended : (span : Span) (before after : List Open) → EndsOne None before after → completed span before ≡ ends span
unfolding completed
none_ended span before after (empty, also) = ap (completed span) empty
