-- What is open after an element that ended: it ends the tags before it too.
use Rattle.std.proofs.Common.{◌≡◌, ℕ, suc, ◌+◌, ◌-◌, ◌<◌, ◌≤◌, Bool, true, false, cond, List, [], ◌∷◌, ◌++◌, length, take, drop, Some, refl, sym, ap, subst, ◌∙◌, arith, length-append}
use Rattle.std.proofs.Math.Seq.{take-append_seam, drop-append_seam}
use Rattle.edn_reader.specs.declared.element.ElementKind.{ElementKind}
use Rattle.edn_reader.specs.declared.element.ElementKind.TheVariants.{Tagged}
use Rattle.edn_reader.specs.declared.element.Core.{Core}
use Rattle.edn_reader.specs.declared.nesting.Open.{Open}
use Rattle.edn_reader.specs.declared.step.Span.{Span}
use Rattle.edn_reader.specs.declared.token.Token.TheVariants.{Opens}
use Rattle.edn_reader.specs.declared.token.Opener.{Opener}
use Rattle.edn_reader.specs.declared.token.Opener.TheVariants as openers
use Rattle.edn_reader.specs.Grammar.{ElementModel, IsToken, IsGap, nothing, discarded, IsElementAt, tagged, IsElements, waits}
use Rattle.edn_reader.specs.Text.{IsText, StandsOpen, outermost, opened}
use Rattle.edn_reader.specs.Taking.{Taken, on, ends, fails, with_one, is_tag, after_tag, completed, piece_in}
use Rattle.edn_reader.proofs.Places.{moved_element, moved_elements, moved_present, core_within}
use Rattle.edn_reader.proofs.Steps.{present_gap, present_inside, present_outermost, Waited, present_waited}
use Rattle.edn_reader.proofs.Runs.{goes, settled, settles}

-- ---- the bytes from a place on

left_following : (front rest bytes : List ℕ) (q : ℕ) → bytes ≡ front ++ rest → q ≡ 0 + length front → rest ≡ drop q bytes
left_following front rest bytes q e n =
    let k : q ≡ length front = omega arith in
    sym (rw (k, e) (drop-append_seam front rest))

pub elements_left : {room q : ℕ} {pieces : List ElementModel} {input rest : List ℕ} → IsElements room 0 input pieces q rest → rest ≡ drop q input
elements_left {q = q} {input = input} {rest = rest} els =
    let m = moved_elements els rest (λ h. h, λ h. h, λ h. h) in left_following m.2.front rest input q m.2.here m.2.place

pub present_left : {q : ℕ} {pieces : List ElementModel} {opens : List Open} {input rest : List ℕ} → StandsOpen input pieces opens q rest → rest ≡ drop q input
present_left {q = q} {input = input} {rest = rest} s =
    let m = moved_present s rest (λ h. h, λ h. h, λ h. h) in left_following m.2.front rest input q m.2.here m.2.place

-- a place and the number of bytes left there make the length of the input
pub present_end : {q : ℕ} {pieces : List ElementModel} {opens : List Open} {input rest : List ℕ} → StandsOpen input pieces opens q rest → q + length rest ≡ length input
present_end {q = q} {input = input} {rest = rest} s =
    let m = moved_present s rest (λ h. h, λ h. h, λ h. h) in omega (arith, m.2.place, ap length m.2.here, length-append m.2.front rest)

pub present_room : {q : ℕ} {pieces : List ElementModel} (opens : List Open) {input rest : List ℕ} → StandsOpen input pieces opens q rest → length opens ≤ 64
present_room [] s = omega arith
present_room (item ∷ opens) (opened s token full inside) = omega (arith, full)

pub present_text : {p : ℕ} {pieces : List ElementModel} {input : List ℕ} → StandsOpen input pieces [] p [] → IsText input pieces
present_text {p} {pieces} {input} (outermost {place = at} els gap) =
    (at, p, subst (λ (r : List ℕ). IsElements 64 0 input pieces at r) (elements_left els) els, subst (λ (r : List ℕ). IsGap 64 at r p []) (elements_left els) gap)

-- ---- an element that ended

-- what a token led to says this of the input up to a place and of the bytes that are left there
abbrev pub Stands : List ℕ → List ElementModel → ℕ → List ℕ → Taken → Type 0
Stands input pieces q b (on opens) = StandsOpen input pieces opens q b
Stands input pieces q b (ends span) =
    (span.start ≤ span.core.start) × (span.core.start < span.end) × (span.end ≡ q) × IsElements 64 0 input (pieces ++ piece_in input span ∷ []) q b
Stands input pieces q b (fails fault) = Unit {0}

-- the bytes of an element
record Text (input : List ℕ) (p q : ℕ) (a b : List ℕ) : Type 0 where
  bytes : List ℕ
  whole : a ≡ bytes ++ b
  taken : bytes ≡ take (q - p) (drop p input)

text_of : {room p q : ℕ} {kind : ElementKind} {core : Core} {input a b : List ℕ} {pieces : List ElementModel} {opens : List Open} → StandsOpen input pieces opens p a → IsElementAt room kind core p a q b → Text input p q a b
text_of {p = p} {q = q} {input = input} {a = a} {b = b} present element =
    let m = (moved_element element b (λ h. h)).place in
    let long : q - p ≡ length m.front = omega (arith, m.place) in
    record {
      bytes = m.front;
      whole = m.here;
      taken = sym (ap (take (q - p)) (sym (present_left present)) ∙ ap (take (q - p)) m.here ∙ ap (λ (n : ℕ). take n (m.front ++ b)) long ∙ take-append_seam m.front b);
    }

completed_by : (input : List ℕ) (pieces : List ElementModel) (q : ℕ) (b : List ℕ) (t w : Bool) (x : Taken) (y z : List Open)
    → (t ≡ true → Stands input pieces q b x) → (t ≡ false → w ≡ true → Stands input pieces q b (on y)) → (w ≡ false → Stands input pieces q b (on z))
    → (t ≡ true → w ≡ true) → Stands input pieces q b (cond t x (cond w (on y) (on z)))
completed_by input pieces q b true w x y z f g h k = f refl
completed_by input pieces q b false true x y z f g h k = g refl refl
completed_by input pieces q b false false x y z f g h k = h refl

tag_waits : (opener : Opener) → is_tag opener ≡ true → waits opener ≡ true
tag_waits openers.List e = absurd cc
tag_waits openers.Vector e = absurd cc
tag_waits openers.Map e = absurd cc
tag_waits openers.Set e = absurd cc
tag_waits openers.Tag e = refl
tag_waits openers.Discard e = absurd cc

is_the_tag : (opener : Opener) → is_tag opener ≡ true → opener ≡ openers.Tag
is_the_tag openers.List e = absurd cc
is_the_tag openers.Vector e = absurd cc
is_the_tag openers.Map e = absurd cc
is_the_tag openers.Set e = absurd cc
is_the_tag openers.Tag e = refl
is_the_tag openers.Discard e = absurd cc

is_the_discard : (opener : Opener) → is_tag opener ≡ false → waits opener ≡ true → opener ≡ openers.Discard
is_the_discard openers.List e w = absurd cc
is_the_discard openers.Vector e w = absurd cc
is_the_discard openers.Map e w = absurd cc
is_the_discard openers.Set e w = absurd cc
is_the_discard openers.Tag e w = absurd cc
is_the_discard openers.Discard e w = refl

-- a discard with its element is a gap
discard_over : {q : ℕ} {input a b : List ℕ} {pieces : List ElementModel} {item : Open} {opens : List Open} {kind : ElementKind} {core : Core} (p : ℕ) → waits item.opener ≡ true → item.opener ≡ openers.Discard
    → StandsOpen input pieces (item ∷ opens) p a → ((room : ℕ) → room + suc (length opens) ≡ 64 → IsElementAt room kind core p a q b) → StandsOpen input pieces opens q b
discard_over {q} {b = b} {item = item} {opens = opens} p w e present element =
    let s = present_waited w present in
    let token : IsToken (Opens openers.Discard) item.place s.bytes s.inner s.left = subst (λ (o : Opener). IsToken (Opens o) item.place s.bytes s.inner s.left) e s.token in
    present_gap s.before (λ room fit.
    let same : suc s.room ≡ room = omega (arith, s.full, fit) in
    subst (λ (n : ℕ). IsGap n item.place s.bytes q b) same (discarded token s.gap (element s.room s.full) nothing))

-- a tag with its element is an element
tag_over : {q : ℕ} {input a b : List ℕ} {pieces : List ElementModel} {item : Open} {opens : List Open} {kind : ElementKind} {core : Core} (p : ℕ) (w : waits item.opener ≡ true) → item.opener ≡ openers.Tag
    → (s : Waited input pieces item opens p a) → ((room : ℕ) → room + suc (length opens) ≡ 64 → IsElementAt room kind core p a q b)
    → (room : ℕ) → room + length opens ≡ 64 → IsElementAt room Tagged core item.place s.bytes q b
tag_over {q} {b = b} {item = item} {opens = opens} {core = core} p w e s element room fit =
    let token : IsToken (Opens openers.Tag) item.place s.bytes s.inner s.left = subst (λ (o : Opener). IsToken (Opens o) item.place s.bytes s.inner s.left) e s.token in
    let same : suc s.room ≡ room = omega (arith, s.full, fit) in
    subst (λ (n : ℕ). IsElementAt n Tagged core item.place s.bytes q b) same (tagged token s.gap (element s.room s.full))

pub present_completed : {input b : List ℕ} {pieces : List ElementModel} (opens : List Open) (span : Span) (a : List ℕ) → StandsOpen input pieces opens span.start a
    → ((room : ℕ) → room + length opens ≡ 64 → IsElementAt room span.kind span.core span.start a span.end b) → Stands input pieces span.end b (completed span opens)
unfolding completed
present_completed {input} {b} {pieces} [] span a present element =
    let el = element 64 refl in
    let t = text_of present el in
    let core = core_within el in (
      core.0,
      core.1,
      refl,
      subst (λ (x : List ℕ). IsElements 64 0 input (pieces ++ record { kind = span.kind; start = span.start; text = x; core = span.core } ∷ []) span.end b) t.taken
          (present_outermost span.kind span.core t.bytes present el t.whole),
    )
present_completed {input} {b} {pieces} (item ∷ opens) span a present element =
    completed_by input pieces span.end b (is_tag item.opener) (waits item.opener) (completed (after_tag item span) opens) opens (with_one item ∷ opens)
    (λ t. let w = tag_waits item.opener t in let s = present_waited w present in
    present_completed opens (after_tag item span) s.bytes s.before (tag_over span.start w (is_the_tag item.opener t) s element))
    (λ t w. discard_over span.start w (is_the_discard item.opener t w) present element)
    (λ w. let x = text_of present (element (64 - suc (length opens)) (omega (arith, present_room (item ∷ opens) present))) in
    present_inside span.kind span.core x.bytes w present element x.whole)
    (tag_waits item.opener)

-- ---- what is open then

pub next_present : (input : List ℕ) (pieces : List ElementModel) (q : ℕ) (b : List ℕ) (t : Taken) (next : List Open × List Span) → goes t ≡ Some next → Stands input pieces q b t
    → (others : List ElementModel) × StandsOpen input others next.0 q b
next_present input pieces q b (on opens) next e s =
    let same : opens ≡ next.0 = cc in (pieces, subst (λ (x : List Open). StandsOpen input pieces x q b) same s)
next_present input pieces q b (ends span) next e s =
    let same : [] ≡ next.0 = cc in
    (pieces ++ piece_in input span ∷ [], subst (λ (x : List Open). StandsOpen input (pieces ++ piece_in input span ∷ []) x q b) same (outermost s.3 nothing))
next_present input pieces q b (fails fault) next e s = absurd cc

-- one more element, outermost or not
pub present_more : {input a b : List ℕ} {pieces : List ElementModel} (opens : List Open) (span : Span) → StandsOpen input pieces opens span.start a
    → ((room : ℕ) → room + length opens ≡ 64 → IsElementAt room span.kind span.core span.start a span.end b)
    → (others : List ElementModel) × StandsOpen input others (settled span opens).0 span.end b
present_more {input} {a} {b} {pieces} opens span present element =
    next_present input pieces span.end b (completed span opens) (settled span opens) (settles span opens) (present_completed opens span a present element)
