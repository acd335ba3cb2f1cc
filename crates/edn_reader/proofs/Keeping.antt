-- The place of the outermost thing open never falls, and an element that ends begins no earlier than that.
use Rattle.std.proofs.Common.{◌≡◌, ℕ, ◌+◌, ◌≤◌, Bool, true, false, cond, eqb, ◌&&◌, List, [], ◌∷◌, length, drop, refl, sym, ap, subst, ◌∙◌, arith}
use Rattle.edn_reader.specs.declared.bytes.Bracket.{Bracket}
use Rattle.edn_reader.specs.declared.fault.EdnFault.{EdnFault}
use Rattle.edn_reader.specs.declared.fault.EdnFault.TheVariants.{TooDeep}
use Rattle.edn_reader.specs.declared.nesting.Open.{Open}
use Rattle.edn_reader.specs.declared.resume.Part.{Part}
use Rattle.edn_reader.specs.declared.resume.Part.TheVariants as parts
use Rattle.edn_reader.specs.declared.step.Span.{Span}
use Rattle.edn_reader.specs.declared.token.Token.{Token}
use Rattle.edn_reader.specs.declared.token.Token.TheVariants as tokens
use Rattle.edn_reader.specs.declared.token.Opener.{Opener}
use Rattle.edn_reader.specs.Grammar.{ElementModel, fits, waits, is_paired, kind_of}
use Rattle.edn_reader.specs.Text.{within, waiting, StandsIn, StandsOpen, outermost, opened}
use Rattle.edn_reader.specs.Token.{lexed}
use Rattle.edn_reader.specs.Resuming.{resumed, last}
use Rattle.edn_reader.specs.Taking.{Taken, on, ends, fails, with_one, is_tag, after_tag, completed, plain_span, closed, taken, LeadsOn, stays, by_token}
use Rattle.edn_reader.specs.Within.{outer, kept_token}
use Rattle.edn_reader.proofs.Places.{gap_forward, token_forward, elements_forward}
use Rattle.edn_reader.proofs.Reading.{StandsAt}
use Rattle.edn_reader.proofs.Leading.{present_led}

-- what is open began no later than a place, each no later than what opened in it
abbrev pub Rising : List Open → ℕ → Type 0
Rising [] place = Unit {0}
Rising (item ∷ opens) place = (item.place ≤ place) × Rising opens item.place

pub inside_forward : {opener : Opener} {room p q : ℕ} {a b : List ℕ} {odd : Bool} → StandsIn opener room p a odd q b → p ≤ q
inside_forward (within w els gap) = omega (arith, elements_forward els, gap_forward gap)
inside_forward (waiting w gap) = gap_forward gap

pub rising_present : {p : ℕ} {input rest : List ℕ} {pieces : List ElementModel} {opens : List Open} → StandsOpen input pieces opens p rest → Rising opens p
rising_present (outermost els gap) = tt
rising_present (opened s token room inside) = (omega (arith, token_forward token, inside_forward inside), rising_present s)

pub outer_up : (opens : List Open) (p q : ℕ) → p ≤ q → outer opens p ≤ outer opens q
outer_up [] p q le = le
outer_up (item ∷ opens) p q le = omega arith

pub outer_low : (opens : List Open) (p : ℕ) → Rising opens p → outer opens p ≤ p
outer_low [] p r = omega arith
outer_low (item ∷ opens) p r = omega (arith, r.0, outer_low opens item.place r.1)

pub rising_up : (opens : List Open) (p q : ℕ) → p ≤ q → Rising opens p → Rising opens q
rising_up [] p q le r = tt
rising_up (item ∷ opens) p q le r = (omega (arith, r.0, le), r.1)

-- what a token led to begins no earlier than the place kept: what is open then, or the element that ended
abbrev Keeps : ℕ → ℕ → Taken → Type 0
Keeps keep end (on opens) = keep ≤ outer opens end
Keeps keep end (ends span) = keep ≤ span.start
Keeps keep end (fails fault) = Unit {0}

keeps_by : (keep end : ℕ) (t w : Bool) (x : Taken) (y z : List Open) → Keeps keep end x → keep ≤ outer y end → keep ≤ outer z end → Keeps keep end (cond t x (cond w (on y) (on z)))
keeps_by keep end true w x y z a b c = a
keeps_by keep end false true x y z a b c = b
keeps_by keep end false false x y z a b c = c

completed_keeps : (opens : List Open) (span : Span) (end : ℕ) → span.start ≤ end → Rising opens span.start → Keeps (outer opens span.start) end (completed span opens)
unfolding completed
completed_keeps [] span end le r = omega arith
completed_keeps (item ∷ opens) span end le r =
    let low : item.place ≤ end = omega (arith, r.0, le) in
    keeps_by (outer opens item.place) end (is_tag item.opener) (waits item.opener) (completed (after_tag item span) opens) opens (with_one item ∷ opens)
    (completed_keeps opens (after_tag item span) end low r.1) (outer_up opens item.place end low) (omega arith)

closed_by : (keep end : ℕ) (w f o : Bool) (x : Taken) (a b c : EdnFault) → Keeps keep end x → Keeps keep end (cond w (fails a) (cond f (cond o (fails b) x) (fails c)))
closed_by keep end true f o x a b c k = tt
closed_by keep end false true true x a b c k = tt
closed_by keep end false true false x a b c k = k
closed_by keep end false false o x a b c k = tt

closed_keeps : (start end : ℕ) (bracket : Bracket) (opens : List Open) → start ≤ end → Rising opens start → Keeps (outer opens start) end (closed start end bracket opens)
unfolding closed
closed_keeps start end bracket [] le r = tt
closed_keeps start end bracket (item ∷ opens) le r =
    closed_by (outer opens item.place) end (waits item.opener) (fits item.opener bracket) (is_paired item.opener && item.odd) _ _ _ _
    (completed_keeps opens (plain_span (kind_of item.opener) item.place end) end (omega (arith, r.0, le)) r.1)

opened_by : (keep end : ℕ) (t : Bool) (fault : EdnFault) (opens : List Open) → keep ≤ outer opens end → Keeps keep end (cond t (fails fault) (on opens))
opened_by keep end true fault opens le = tt
opened_by keep end false fault opens le = le

keeps : (token : Token) (start end : ℕ) (opens : List Open) → start ≤ end → Rising opens start → Keeps (outer opens start) end (taken token start end opens)
unfolding taken
keeps tokens.Gap start end opens le r = outer_up opens start end le
keeps (tokens.Leaf kind) start end opens le r = completed_keeps opens (plain_span kind start end) end le r
keeps (tokens.Opens opener) start end opens le r =
    opened_by (outer opens start) end (eqb (length opens) 64) (TooDeep start) (record { place = start; opener = opener; odd = false } ∷ opens) (omega arith)
keeps (tokens.Closes bracket) start end opens le r = closed_keeps start end bracket opens le r
keeps tokens.Unfinished start end opens le r = tt

pub on_keeps : (token : Token) (start end : ℕ) (opens after : List Open) → start ≤ end → Rising opens start → taken token start end opens ≡ on after → outer opens start ≤ outer after end
on_keeps token start end opens after le r e = subst (Keeps (outer opens start) end) e (keeps token start end opens le r)

pub ends_keeps : (token : Token) (start end : ℕ) (opens : List Open) (span : Span) → start ≤ end → Rising opens start → taken token start end opens ≡ ends span → outer opens start ≤ span.start
ends_keeps token start end opens span le r e = subst (Keeps (outer opens start) end) e (keeps token start end opens le r)

-- where tokens lead on, the place of the outermost does not fall
pub led_keeps : (input : List ℕ) (pieces : List ElementModel) (from end : ℕ) (opens after : List Open) → StandsAt input pieces opens from → LeadsOn input from opens end after → outer opens from ≤ outer after end
led_keeps input pieces from end opens after s stays = omega arith
led_keeps input pieces from end opens after s (by_token {at = at} {inner = inner} led lt e) =
    let size = (lexed (drop at input)).1 in
    omega (
      arith,
      led_keeps input pieces from at opens inner s led,
      on_keeps (lexed (drop at input)).0 at (at + size) inner after (omega arith) (rising_present (present_led input pieces from at opens inner s led)) e,
    )

-- ---- after what has begun

gap_on : (start end : ℕ) (opens after : List Open) → taken tokens.Gap start end opens ≡ on after → opens ≡ after
unfolding taken
gap_on start end opens after e = cc

gap_ends : (start end : ℕ) (opens : List Open) (span : Span) → taken tokens.Gap start end opens ≡ ends span → ⊥
unfolding taken
gap_ends start end opens span e = cc

-- a part that would be a gap if the bytes ended here is one, whatever follows
pub gap_stays : (part : Part) (rest : List ℕ) → last part ≡ tokens.Gap → (resumed part rest).0 ≡ tokens.Gap
gap_stays parts.Nothing rest e = absurd cc
gap_stays parts.Comment rest e = refl
gap_stays (parts.Run token) rest e = e
gap_stays parts.Text rest e = absurd cc
gap_stays parts.Escape rest e = absurd cc
gap_stays parts.Hash rest e = absurd cc
gap_stays parts.Backslash rest e = absurd cc

kept_on : (last_one token : Token) (start at end : ℕ) (opens after : List Open) → (last_one ≡ tokens.Gap → token ≡ tokens.Gap) → start ≤ at → at ≤ end → Rising opens start
    → taken token start end opens ≡ on after → outer opens (kept_token last_one start at) ≤ outer after end
kept_on tokens.Gap token start at end opens after g le high r t =
    let same = gap_on start end opens after (ap (λ (k : Token). taken k start end opens) (sym (g refl)) ∙ t) in
    subst (λ (x : List Open). outer opens at ≤ outer x end) same (outer_up opens at end high)
kept_on (tokens.Leaf kind) token start at end opens after g le high r t = on_keeps token start end opens after (omega arith) r t
kept_on (tokens.Opens opener) token start at end opens after g le high r t = on_keeps token start end opens after (omega arith) r t
kept_on (tokens.Closes bracket) token start at end opens after g le high r t = on_keeps token start end opens after (omega arith) r t
kept_on tokens.Unfinished token start at end opens after g le high r t = on_keeps token start end opens after (omega arith) r t

kept_ends : (last_one token : Token) (start at end : ℕ) (opens : List Open) (span : Span) → (last_one ≡ tokens.Gap → token ≡ tokens.Gap) → start ≤ end → Rising opens start
    → taken token start end opens ≡ ends span → outer opens (kept_token last_one start at) ≤ span.start
kept_ends tokens.Gap token start at end opens span g le r t = absurd (gap_ends start end opens span (ap (λ (k : Token). taken k start end opens) (sym (g refl)) ∙ t))
kept_ends (tokens.Leaf kind) token start at end opens span g le r t = ends_keeps token start end opens span le r t
kept_ends (tokens.Opens opener) token start at end opens span g le r t = ends_keeps token start end opens span le r t
kept_ends (tokens.Closes bracket) token start at end opens span g le r t = ends_keeps token start end opens span le r t
kept_ends tokens.Unfinished token start at end opens span g le r t = ends_keeps token start end opens span le r t

-- a gap that has begun makes no element, so its own bytes are not kept
pub part_on : (part : Part) (start at end : ℕ) (rest : List ℕ) (token : Token) (opens after : List Open) → (resumed part rest).0 ≡ token → start ≤ at → at ≤ end → Rising opens start
    → taken token start end opens ≡ on after → outer opens (kept_token (last part) start at) ≤ outer after end
part_on part start at end rest token opens after e le high r t = kept_on (last part) token start at end opens after (λ g. sym e ∙ gap_stays part rest g) le high r t

pub part_ends : (part : Part) (start at end : ℕ) (rest : List ℕ) (token : Token) (opens : List Open) (span : Span) → (resumed part rest).0 ≡ token → start ≤ end → Rising opens start
    → taken token start end opens ≡ ends span → outer opens (kept_token (last part) start at) ≤ span.start
part_ends part start at end rest token opens span e le r t = kept_ends (last part) token start at end opens span (λ g. sym e ∙ gap_stays part rest g) le r t

-- a part is kept from its start or later, and the place kept does not fall as it goes on
pub token_low : (token : Token) (start at : ℕ) → start ≤ at → start ≤ kept_token token start at
token_low tokens.Gap start at le = le
token_low (tokens.Leaf kind) start at le = omega arith
token_low (tokens.Opens opener) start at le = omega arith
token_low (tokens.Closes bracket) start at le = omega arith
token_low tokens.Unfinished start at le = omega arith

pub token_high : (token : Token) (start at : ℕ) → start ≤ at → kept_token token start at ≤ at
token_high tokens.Gap start at le = omega arith
token_high (tokens.Leaf kind) start at le = le
token_high (tokens.Opens opener) start at le = le
token_high (tokens.Closes bracket) start at le = le
token_high tokens.Unfinished start at le = le

token_rises : (token later : Token) (start at end : ℕ) → (token ≡ tokens.Gap → later ≡ tokens.Gap) → start ≤ at → at ≤ end → kept_token token start at ≤ kept_token later start end
token_rises tokens.Gap later start at end g le high =
    subst (λ (k : Token). at ≤ kept_token k start end) (sym (g refl)) high
token_rises (tokens.Leaf kind) later start at end g le high = token_low later start end (omega arith)
token_rises (tokens.Opens opener) later start at end g le high = token_low later start end (omega arith)
token_rises (tokens.Closes bracket) later start at end g le high = token_low later start end (omega arith)
token_rises tokens.Unfinished later start at end g le high = token_low later start end (omega arith)

pub part_low : (opens : List Open) (part : Part) (start at : ℕ) → start ≤ at → outer opens start ≤ outer opens (kept_token (last part) start at)
part_low opens part start at le = outer_up opens start (kept_token (last part) start at) (token_low (last part) start at le)

pub part_rises : (opens : List Open) (part later : Part) (start at end : ℕ) → (last part ≡ tokens.Gap → last later ≡ tokens.Gap) → start ≤ at → at ≤ end
    → outer opens (kept_token (last part) start at) ≤ outer opens (kept_token (last later) start end)
part_rises opens part later start at end g le high =
    outer_up opens (kept_token (last part) start at) (kept_token (last later) start end) (token_rises (last part) (last later) start at end g le high)
