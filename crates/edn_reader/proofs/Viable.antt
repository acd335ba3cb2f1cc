-- What is open can be completed to a text, and after a byte that is refused it cannot: so a refusal is the first fault.
use Rattle.std.proofs.Common.{◌≡◌, ◌≢◌, ℕ, zero, suc, ◌+◌, ◌<◌, ◌≤◌, Bool, true, false, not, cond, ◌&&◌, List, [], ◌∷◌, ◌++◌, length, take, drop, None, refl, sym, ap, subst, ◌∙◌, append_assoc, arith, length-append}
use Rattle.std.proofs.Math.Seq.{take-append_seam}
use Rattle.std.proofs.lemmas.List.{take-append-drop}
use Rattle.edn_reader.specs.declared.bytes.ByteClass.{ByteClass}
use Rattle.edn_reader.specs.declared.bytes.ByteClass.TheVariants.{White, Plain, Hash, Closes}
use Rattle.edn_reader.specs.declared.bytes.Bracket.{Bracket}
use Rattle.edn_reader.specs.declared.bytes.Bracket.TheVariants.{Round, Square, Curly}
use Rattle.edn_reader.specs.declared.element.ElementKind.TheVariants.{Atom}
use Rattle.edn_reader.specs.declared.fault.EdnFault.{EdnFault}
use Rattle.edn_reader.specs.declared.fault.EdnFault.TheVariants as faults
use Rattle.edn_reader.specs.declared.nesting.Open.{Open}
use Rattle.edn_reader.specs.declared.step.Span.{Span}
use Rattle.edn_reader.specs.declared.token.Opener.{Opener}
use Rattle.edn_reader.specs.declared.token.Opener.TheVariants as openers
use Rattle.edn_reader.specs.declared.token.Token.TheVariants as tokens
use Rattle.edn_reader.specs.Bytes.{class_of, is_run, Ends}
use Rattle.edn_reader.specs.Grammar.{ElementModel, ended, IsToken, white, run, hashed, close, IsGap, nothing, skipped, IsElementAt, leaf, fits, waits, is_paired, kind_of}
use Rattle.edn_reader.specs.Text.{IsText, IsViable, StandsOpen, outermost}
use Rattle.edn_reader.specs.Fault.{by_bracket, by_hash, Refuses, too_deep, closing, FaultOf, truncated, refused}
use Rattle.edn_reader.specs.Taking.{fails, with_one, is_tag}
use Rattle.edn_reader.proofs.Stretches.{take_all}
use Rattle.edn_reader.proofs.Lexing.{Finishing}
use Rattle.edn_reader.proofs.Places.{Follows, moved_present}
use Rattle.edn_reader.proofs.Steps.{present_gap, present_closed}
use Rattle.edn_reader.proofs.Runs.{settled, span_at, front_taken, failing, goes}
use Rattle.edn_reader.proofs.Unique.{Ending, ending_present, ending_end, same_ending, refused_taken, same_list}
use Rattle.edn_reader.proofs.Ended.{present_more, present_end, present_text}

-- ---- bytes that go on alike after anything

line_end : class_of 10 ≡ White
unfolding class_of
line_end = refl

letter : class_of 97 ≡ Plain
unfolding class_of
letter = refl

hash : class_of 35 ≡ Hash
unfolding class_of
hash = refl

-- a line end ends runs and comments, and a # before it is a tag
pub clear : (b tail : List ℕ) → Follows b (10 ∷ tail)
unfolding class_of
clear b tail = (λ h. refl, λ h. refl, λ h. (λ e. cc, λ e. cc, λ e. cc, λ e. cc))

newline : {room p : ℕ} {rest : List ℕ} → IsGap room p (10 ∷ rest) (suc p) rest
newline = skipped (white line_end) nothing

letter_run : {p : ℕ} {rest : List ℕ} → IsToken (tokens.Leaf Atom) p (97 ∷ 10 ∷ rest) (suc p) (10 ∷ rest)
unfolding class_of
letter_run = run letter (ended refl)

-- ---- completions

-- what is open after one more element
unfoldable pub after_one : List Open → List Open
after_one [] = []
after_one (item ∷ opens) = cond (is_tag item.opener) (after_one opens) (cond (waits item.opener) opens (with_one item ∷ opens))

both_by : (t w : Bool) (x y : List Open × List Span) (z u : List Open) → x.0 ≡ z → y.0 ≡ u → (m : List Open × List Span) (n : List Open) → m.0 ≡ n → (cond t x (cond w y m)).0 ≡ cond t z (cond w u n)
both_by true w x y z u e f m n g = e
both_by false true x y z u e f m n g = f
both_by false false x y z u e f m n g = g

settled_after : (span : Span) (opens : List Open) → (settled span opens).0 ≡ after_one opens
unfolding settled after_one
settled_after span [] = refl
settled_after span (item ∷ opens) =
    both_by (is_tag item.opener) (waits item.opener) _ (opens, []) (after_one opens) opens (settled_after _ opens) refl (with_one item ∷ opens, []) (with_one item ∷ opens) refl

after_short_by : (t w : Bool) (x y z : List Open) (n : ℕ) → length x ≤ n → length y ≤ n → length z ≤ suc n → length (cond t x (cond w y z)) ≤ suc n
after_short_by true w x y z n e f g = omega (arith, e)
after_short_by false true x y z n e f g = omega (arith, f)
after_short_by false false x y z n e f g = g

after_short : (opens : List Open) → length (after_one opens) ≤ length opens
unfolding after_one
after_short [] = omega arith
after_short (item ∷ opens) =
    after_short_by (is_tag item.opener) (waits item.opener) (after_one opens) opens (with_one item ∷ opens) (length opens) (after_short opens) (omega arith) (omega arith)

after_waiting_by : (t w : Bool) (x y z : List Open) (n : ℕ) → w ≡ true → length x ≤ n → length y ≤ n → length (cond t x (cond w y z)) ≤ n
after_waiting_by true w x y z n h e f = e
after_waiting_by false true x y z n h e f = f
after_waiting_by false false x y z n h e f = absurd cc

after_waiting : (item : Open) (opens : List Open) → waits item.opener ≡ true → length (after_one (item ∷ opens)) ≤ length opens
unfolding after_one
after_waiting item opens w = after_waiting_by (is_tag item.opener) (waits item.opener) (after_one opens) opens (with_one item ∷ opens) (length opens) w (after_short opens) (omega arith)

no_tag : (opener : Opener) → waits opener ≡ false → is_tag opener ≡ false
no_tag openers.List e = refl
no_tag openers.Vector e = refl
no_tag openers.Map e = refl
no_tag openers.Set e = refl
no_tag openers.Tag e = absurd cc
no_tag openers.Discard e = absurd cc

after_bracket : (item : Open) (opens : List Open) → waits item.opener ≡ false → after_one (item ∷ opens) ≡ with_one item ∷ opens
unfolding after_one
after_bracket item opens w = rw (no_tag item.opener w, w) refl

-- one more element where these are open
pub present_after : {input a b : List ℕ} {pieces : List ElementModel} (opens : List Open) (span : Span) → StandsOpen input pieces opens span.start a
    → ((room : ℕ) → room + length opens ≡ 64 → IsElementAt room span.kind span.core span.start a span.end b)
    → (others : List ElementModel) × StandsOpen input others (after_one opens) span.end b
present_after {input} {a} {b} opens span present element =
    let m = present_more opens span present element in
    (m.0, subst (λ (x : List Open). StandsOpen input m.0 x span.end b) (settled_after span opens) m.1)

-- how what is open can go on to be a text, after a line end
record Completion (opens : List Open) : Type 0 where
  tail : List ℕ
  text : (input : List ℕ) (pieces : List ElementModel) (p : ℕ) → StandsOpen input pieces opens p (10 ∷ tail) → (others : List ElementModel) × IsText input others

completed_none : Completion []
completed_none = record {
  tail = [];
  text = λ input pieces p s. (pieces, present_text (present_gap s (λ room fit. newline)));
}

completed_element : (opens : List Open) → Completion (after_one opens) → Completion opens
completed_element opens c = record {
  tail = 97 ∷ 10 ∷ c.tail;
  text = λ input pieces p s.
      let span = span_at Atom (record { kind = Atom; start = suc p }) (suc p) (suc (suc p)) in
      let t = present_after opens span (present_gap s (λ room fit. newline)) (λ room fit. leaf letter_run) in
      c.text input t.0 (suc (suc p)) t.1;
}

-- the byte that closes a bracket
record Closer (opener : Opener) : Type 0 where
  byte : ℕ
  bracket : Bracket
  is : class_of byte ≡ Closes bracket
  fit : fits opener bracket ≡ true

closer : (opener : Opener) → waits opener ≡ false → Closer opener
unfolding class_of
closer openers.List w = record { byte = 41; bracket = Round; is = refl; fit = refl }
closer openers.Vector w = record { byte = 93; bracket = Square; is = refl; fit = refl }
closer openers.Map w = record { byte = 125; bracket = Curly; is = refl; fit = refl }
closer openers.Set w = record { byte = 125; bracket = Curly; is = refl; fit = refl }
closer openers.Tag w = absurd cc
closer openers.Discard w = absurd cc

completed_even : (item : Open) (opens : List Open) → waits item.opener ≡ false → is_paired item.opener && item.odd ≡ false → Completion (after_one opens) → Completion (item ∷ opens)
completed_even item opens w even c =
    let k = closer item.opener w in
    record {
      tail = k.byte ∷ 10 ∷ c.tail;
      text = λ input pieces p s.
          let closed = present_closed w (present_gap s (λ room fit. newline)) (close k.is) k.fit even in
          let span = span_at (kind_of item.opener) (record { kind = kind_of item.opener; start = item.place }) item.place (suc (suc p)) in
          let t = present_after opens span closed.before closed.element in
          c.text input t.0 (suc (suc p)) t.1;
    }

one_even : (m o : Bool) → m && o ≡ true → m && not o ≡ false
one_even true true e = refl
one_even true false e = absurd cc
one_even false o e = absurd cc

completed_bracket : (t : Bool) (item : Open) (opens : List Open) → waits item.opener ≡ false → is_paired item.opener && item.odd ≡ t → Completion (after_one opens) → Completion (item ∷ opens)
completed_bracket false item opens w e c = completed_even item opens w e c
completed_bracket true item opens w e c =
    completed_element (item ∷ opens) (subst Completion (sym (after_bracket item opens w)) (completed_even (with_one item) opens w (one_even (is_paired item.opener) item.odd e) c))

completion_by : (n : ℕ) (w : Bool) (item : Open) (opens : List Open) → ((others : List Open) → length others ≤ n → Completion others) → waits item.opener ≡ w → length opens ≤ n
    → Completion (item ∷ opens)
completion_by n true item opens shorter w le = completed_element (item ∷ opens) (shorter (after_one (item ∷ opens)) (omega (arith, after_waiting item opens w)))
completion_by n false item opens shorter w le =
    completed_bracket (is_paired item.opener && item.odd) item opens w refl (shorter (after_one opens) (omega (arith, after_short opens)))

completion : (n : ℕ) (opens : List Open) → length opens ≤ n → Completion opens
completion n [] le = completed_none
completion zero (item ∷ opens) le = absurd (omega arith)
completion (suc n) (item ∷ opens) le = completion_by n (waits item.opener) item opens (completion n) refl (omega arith)

complete : (opens : List Open) → Completion opens
complete opens = completion (length opens) opens (omega arith)

-- ---- viable prefixes

take_front : (front rest : List ℕ) (p : ℕ) → p ≡ 0 + length front → take p (front ++ rest) ≡ front
take_front front rest p e = let n : p ≡ length front = omega arith in rw n (take-append_seam front rest)

pub viable : {p : ℕ} {input rest : List ℕ} {pieces : List ElementModel} {opens : List Open} → StandsOpen input pieces opens p rest → IsViable (take p input)
viable {p} {input} {rest} {pieces} {opens} s =
    let c = complete opens in
    let m = moved_present s (10 ∷ c.tail) (clear rest c.tail) in
    let t = c.text m.0 pieces p m.1 in
    let taken : take p input ≡ m.2.front = ap (take p) m.2.here ∙ take_front m.2.front rest p m.2.place in
    (10 ∷ c.tail, t.0, subst (λ (x : List ℕ). IsText x t.0) (m.2.there ∙ ap (λ (f : List ℕ). f ++ (10 ∷ c.tail)) (sym taken)) t.1)

-- a prefix with some of the bytes left after it
taken_more : (p : ℕ) (front mark rest input : List ℕ) → input ≡ front ++ (mark ++ rest) → p ≡ 0 + length front → (at : ℕ) → at ≡ p + length mark → take at input ≡ front ++ mark
taken_more p front mark rest input e n at k =
    let regroup : input ≡ (front ++ mark) ++ rest = e ∙ sym (append_assoc front mark rest) in
    ap (take at) regroup ∙ take_front (front ++ mark) rest at (omega (arith, length-append front mark))

hash_word : {b p : ℕ} {rest : List ℕ} → class_of b ≡ Hash → IsToken (tokens.Leaf Atom) p (b ∷ 35 ∷ 10 ∷ rest) (suc (suc p)) (10 ∷ rest)
unfolding class_of
hash_word e = hashed e hash (ended refl)

viable_hash : {b p : ℕ} {input rest : List ℕ} {pieces : List ElementModel} {opens : List Open} → StandsOpen input pieces opens p (b ∷ rest) → class_of b ≡ Hash → IsViable (take (suc p) input)
viable_hash {b} {p} {input} {rest} {pieces} {opens} s h =
    let c = complete (after_one opens) in
    let m = moved_present s (b ∷ 35 ∷ 10 ∷ c.tail) (λ k. k, λ k. k, λ k. k) in
    let span = span_at Atom (record { kind = Atom; start = p }) p (suc (suc p)) in
    let n = present_after opens span m.1 (λ room fit. leaf (hash_word h)) in
    let t = c.text m.0 n.0 (suc (suc p)) n.1 in
    let taken : take (suc p) input ≡ m.2.front ++ b ∷ [] = taken_more p m.2.front (b ∷ []) rest input m.2.here m.2.place (suc p) (omega arith) in
    (35 ∷ 10 ∷ c.tail, t.0, subst (λ (x : List ℕ). IsText x t.0) (m.2.there ∙ sym (append_assoc m.2.front (b ∷ []) (35 ∷ 10 ∷ c.tail)) ∙ ap (λ (f : List ℕ). f ++ (35 ∷ 10 ∷ c.tail)) (sym taken)) t.1)

-- the bytes that decide a refusal: whatever follows them, it is the same refusal
record Mark (opens : List Open) (p : ℕ) (bytes : List ℕ) (at : ℕ) (fault : EdnFault) : Type 0 where
  first : ℕ
  mark : List ℕ
  rest : List ℕ
  here : bytes ≡ (first ∷ mark) ++ rest
  place : suc at ≡ p + length (first ∷ mark)
  again : (more : List ℕ) → Refuses opens p ((first ∷ mark) ++ more) at fault

one_byte : {opens : List Open} {b p : ℕ} {rest : List ℕ} {fault : EdnFault} → ((more : List ℕ) → Refuses opens p (b ∷ more) p fault) → Mark opens p (b ∷ rest) p fault
one_byte {b = b} {rest = rest} f = record { first = b; mark = []; rest = rest; here = refl; place = omega arith; again = f }

mark_of : {opens : List Open} {p at : ℕ} {bytes : List ℕ} {fault : EdnFault} → Refuses opens p bytes at fault → Mark opens p bytes at fault
mark_of (too_deep full (by_bracket e)) = one_byte (λ more. too_deep full (by_bracket e))
mark_of (too_deep full (by_hash {b = b} {c = c} {bytes = bytes} e h q)) =
    record { first = b; mark = c ∷ []; rest = bytes; here = refl; place = omega arith; again = λ more. too_deep full (by_hash e h q) }
mark_of (closing e r) = one_byte (λ more. closing e r)

pub ending_text : {input : List ℕ} {pieces : List ElementModel} → IsText input pieces → (after : ℕ) × Ending input after [] [] pieces
ending_text (at, after, front, gap) = (after, ending_end (outermost front gap))

pub ending_refused : {p at : ℕ} {input bytes : List ℕ} {pieces : List ElementModel} {opens : List Open} {fault : EdnFault} → StandsOpen input pieces opens p bytes → Refuses opens p bytes at fault → Ending input p bytes opens pieces
ending_refused {p} {bytes = bytes} {opens = opens} {fault = fault} s r = ending_present s (failing p bytes opens fault (refused_taken r))

pub not_viable : {p at : ℕ} {input bytes : List ℕ} {pieces : List ElementModel} {opens : List Open} {fault : EdnFault} → StandsOpen input pieces opens p bytes → Refuses opens p bytes at fault
    → IsViable (take (suc at) input) → ⊥
not_viable {p} {at} {input} {bytes} {pieces} {opens} {fault} s r (more, others, text) =
    let k = mark_of r in
    let m = moved_present s ((k.first ∷ k.mark) ++ more) (subst (λ (x : List ℕ). Follows x ((k.first ∷ k.mark) ++ more)) (sym k.here) (λ h. h, λ h. h, λ h. h)) in
    let here : input ≡ m.2.front ++ ((k.first ∷ k.mark) ++ k.rest) = m.2.here ∙ ap (λ (x : List ℕ). m.2.front ++ x) k.here in
    let taken : take (suc at) input ≡ m.2.front ++ (k.first ∷ k.mark) = taken_more p m.2.front (k.first ∷ k.mark) k.rest input here m.2.place (suc at) k.place in
    let same : take (suc at) input ++ more ≡ m.0 = ap (λ (x : List ℕ). x ++ more) taken ∙ append_assoc m.2.front (k.first ∷ k.mark) more ∙ sym m.2.there in
    let t = ending_text (subst (λ (x : List ℕ). IsText x others) same text) in
    let both = same_ending (ending_refused m.1 (k.again more)) t.1 in
    absurd (omega (arith, ap length both.bytes))

viable_before : {p at : ℕ} {input bytes : List ℕ} {pieces : List ElementModel} {opens : List Open} {fault : EdnFault} → StandsOpen input pieces opens p bytes → Refuses opens p bytes at fault
    → IsViable (take at input)
viable_before s (too_deep full (by_bracket e)) = viable s
viable_before s (too_deep full (by_hash e h q)) = viable_hash s e
viable_before s (closing e r) = viable s

pub fault_refused : {p at : ℕ} {input bytes : List ℕ} {pieces : List ElementModel} {opens : List Open} {fault : EdnFault} → StandsOpen input pieces opens p bytes → Refuses opens p bytes at fault
    → FaultOf input fault
fault_refused {at = at} {input = input} s r = refused input at (viable_before s r) (not_viable s r) s r

-- ---- inputs that end too early

ends_early : {p after : ℕ} {input bytes : List ℕ} {pieces : List ElementModel} {opens : List Open} → Ending input p bytes opens pieces → (bytes ≡ [] → opens ≡ [] → ⊥) → IsViable input → after ≡ length input
    → FaultOf input (faults.Truncated after)
ends_early {input = input} x more v e =
    subst (λ (k : ℕ). FaultOf input (faults.Truncated k)) (sym e)
    (truncated input v (λ pieces text. let t = ending_text text in let s = same_ending x t.1 in more s.bytes s.opens))

pub fault_open_end : {p : ℕ} {input : List ℕ} {pieces : List ElementModel} {item : Open} {opens : List Open} → StandsOpen input pieces (item ∷ opens) p [] → FaultOf input (faults.Truncated p)
fault_open_end {p} {input} s =
    let long : p ≡ length input = omega (arith, present_end s) in
    let whole : take p input ≡ input = ap (λ (k : ℕ). take k input) long ∙ take_all input in
    ends_early (ending_end s) (λ e f. absurd (omega (arith, ap length f))) (subst IsViable whole (viable s)) long

same_front : (a b : List ℕ) → 0 < length a → Follows a (a ++ b)
same_front [] b some = absurd (omega arith)
same_front (x ∷ a) b some = (λ h. h, λ h. h, λ h. h)

clear_run : (tail : List ℕ) → Ends is_run (10 ∷ tail)
unfolding class_of
clear_run tail = refl

pub viable_finished : {p : ℕ} {input a : List ℕ} {pieces : List ElementModel} {opens : List Open} → StandsOpen input pieces opens p a → 0 < length a → Finishing a → IsViable input
viable_finished {p} {input} {a} {pieces} {opens} s some f =
    let c = complete (after_one opens) in
    let more = f.tail ++ (10 ∷ c.tail) in
    let m = moved_present s (a ++ more) (same_front a more some) in
    let span = span_at f.kind (record { kind = f.kind; start = p }) p (p + length (a ++ f.tail)) in
    let n = present_after opens span m.1 (λ room fit. leaf (f.token p (10 ∷ c.tail) (clear_run c.tail))) in
    let t = c.text m.0 n.0 (p + length (a ++ f.tail)) n.1 in
    (more, t.0, subst (λ (x : List ℕ). IsText x t.0) (m.2.there ∙ sym (append_assoc m.2.front a more) ∙ ap (λ (x : List ℕ). x ++ more) (sym m.2.here)) t.1)

pub fault_unfinished : {p : ℕ} {input a : List ℕ} {pieces : List ElementModel} {opens : List Open} → StandsOpen input pieces opens p a → 0 < length a → Finishing a → goes (front_taken p a opens) ≡ None
    → FaultOf input (faults.Truncated (p + length a))
fault_unfinished {p} {input} {a} s some f stuck =
    ends_early (ending_present s stuck) (λ e g. absurd (omega (arith, some, ap length e))) (viable_finished s some f) (present_end s)

-- ---- one fault

viable_part : (at : ℕ) (input : List ℕ) → IsViable input → IsViable (take at input)
viable_part at input (more, pieces, text) =
    let e : input ++ more ≡ take at input ++ (drop at input ++ more) =
    ap (λ (x : List ℕ). x ++ more) (sym (take-append-drop at input)) ∙ append_assoc (take at input) (drop at input) more in
    (drop at input ++ more, pieces, subst (λ (x : List ℕ). IsText x pieces) e text)

fails_one : {f g : EdnFault} → fails f ≡ fails g → f ≡ g
fails_one e = cc

same_refusal : {p q at there : ℕ} {a b : List ℕ} {ao bo : List Open} {f g : EdnFault} → p ≡ q → a ≡ b → ao ≡ bo → Refuses ao p a at f → Refuses bo q b there g → f ≡ g
same_refusal {p} {q} {at} {there} {a} {b} {ao} {bo} {f} {g} e h k r s =
    let place : front_taken p a ao ≡ front_taken q b bo =
    ap (λ (n : ℕ). front_taken n a ao) e ∙ ap (λ (x : List ℕ). front_taken q x ao) h ∙ ap (λ (o : List Open). front_taken q b o) k in
    fails_one (sym (refused_taken r) ∙ place ∙ refused_taken s)

pub one_fault : (input : List ℕ) (f g : EdnFault) → FaultOf input f → FaultOf input g → f ≡ g
one_fault input f g (truncated _ v n) (truncated _ w m) = refl
one_fault input f g (truncated _ v n) (refused _ at w m s r) = absurd (m (viable_part (suc at) input v))
one_fault input f g (refused _ at w m s r) (truncated _ v n) = absurd (m (viable_part (suc at) input v))
one_fault input f g (refused _ at v n s r) (refused _ there w m t q) =
    let x = same_ending (ending_refused s r) (ending_refused t q) in same_refusal x.place x.bytes x.opens r q

refused_some : {p at : ℕ} {bytes : List ℕ} {opens : List Open} {fault : EdnFault} → Refuses opens p bytes at fault → bytes ≡ [] → ⊥
refused_some r e = let k = mark_of r in absurd (omega (arith, ap length (sym k.here ∙ e)))

-- a text has no fault
pub no_fault : (input : List ℕ) (pieces : List ElementModel) (f : EdnFault) → IsText input pieces → FaultOf input f → ⊥
no_fault input pieces f text (truncated _ v n) = n pieces text
no_fault input pieces f text (refused _ at v n s r) =
    let t = ending_text text in
    let x = same_ending (ending_refused s r) t.1 in refused_some r x.bytes

-- a text has one division into elements
pub one_division : (input : List ℕ) (firsts seconds : List ElementModel) → IsText input firsts → IsText input seconds → firsts ≡ seconds
one_division input firsts seconds s t =
    let x = same_ending (ending_text s).1 (ending_text t).1 in
    same_list firsts seconds (omega arith) (omega arith) s.2 t.2 x.many
