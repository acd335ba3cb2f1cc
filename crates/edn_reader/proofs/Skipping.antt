-- Ways over elements, gaps and tags, by tokens alone.
use Rattle.std.proofs.Common.{◌≡◌, ◌≢◌, ◌⊎◌, inl, inr, ℕ, zero, suc, pred, ◌+◌, ◌-◌, ◌<◌, ◌≤◌, true, false, List, [], length, get_or, drop, Some, refl, sym, ap, subst, ◌∙◌, arith}
use Rattle.std.proofs.Math.ListN.{drop_of_length-le}
use Rattle.std.proofs.lemmas.Bool.{cases_lt}
use Rattle.std.proofs.lemmas.List.{drop-drop, drop_at}
use Rattle.edn_reader.specs.declared.bytes.Bracket.{Bracket}
use Rattle.edn_reader.specs.declared.element.ElementKind.{ElementKind}
use Rattle.edn_reader.specs.declared.element.Core.{Core}
use Rattle.edn_reader.specs.declared.lookahead.OpenCounts.{OpenCounts}
use Rattle.edn_reader.specs.declared.lookahead.Lookahead.{Lookahead}
use Rattle.edn_reader.specs.declared.token.Found.{Found}
use Rattle.edn_reader.specs.declared.token.Token.{Token}
use Rattle.edn_reader.specs.declared.token.Token.TheVariants.{Gap, Leaf, Opens, Closes, Unfinished}
use Rattle.edn_reader.specs.declared.token.Opener.{Opener}
use Rattle.edn_reader.specs.declared.token.Opener.TheVariants as openers
use Rattle.edn_reader.specs.Grammar.{ElementModel, IsGap, nothing, skipped, discarded, IsElementAt, leaf, bracketed, tagged, IsElements, none, next, fits}
use Rattle.edn_reader.specs.Bytes.{is_white, stretch}
use Rattle.edn_reader.specs.Token.{lexed}
use Rattle.edn_reader.specs.Skipping.{counts_after, ended_at, ended_one, one_more_wanted, closed_at, opened_with, kind_token, is_tag_token, HasToken, NoGap, SkipsElement, SkipsGap, SkipsTags}
use Rattle.edn_reader.proofs.Lexing.{Lexed, lexed_token, white_here}
use Rattle.edn_reader.proofs.Places.{Replaced, moved_gap, moved_element, wider_element}
use Rattle.edn_reader.proofs.Stretches.{along}

-- ---- the ends of elements

abbrev pub counts_of : ℕ → ℕ → OpenCounts
counts_of brackets elements = record { brackets = brackets; elements = elements }

-- from a place with so much to end, the tokens lead to another place, where nothing is left to end
pub data Scans : OpenCounts → ℕ → List ℕ → ℕ → List ℕ → Type 0 where
  done : {counts : OpenCounts} {p : ℕ} {a : List ℕ} → counts.brackets + counts.elements ≡ 0 → Scans counts p a p a
  further : {counts : OpenCounts} {p q : ℕ} {a b : List ℕ} → 0 < counts.brackets + counts.elements
      → Scans (counts_after (lexed a).0 counts) (p + (lexed a).1) (drop (lexed a).1 a) q b → Scans counts p a q b

over_token : {token : Token} {counts : OpenCounts} {p q r : ℕ} {a b c : List ℕ} → Lexed token p a q b → 0 < counts.brackets + counts.elements → Scans (counts_after token counts) q b r c → Scans counts p a r c
over_token {token} {counts} {p} {q} {r} {a} {b} {c} l busy h =
    let placed : Scans (counts_after token counts) (p + (lexed a).1) b r c = subst (λ (n : ℕ). Scans (counts_after token counts) n b r c) (sym l.place) h in
    let rested : Scans (counts_after token counts) (p + (lexed a).1) (drop (lexed a).1 a) r c = subst (λ (x : List ℕ). Scans (counts_after token counts) (p + (lexed a).1) x r c) (sym l.rest) placed in
    further busy (subst (λ (t : Token). Scans (counts_after t counts) (p + (lexed a).1) (drop (lexed a).1 a) r c) (sym l.token_is) rested)

wanted_busy : (brackets elements : ℕ) → 0 < (one_more_wanted brackets elements).brackets + (one_more_wanted brackets elements).elements
wanted_busy zero elements = omega arith
wanted_busy (suc brackets) elements = omega arith

wanted_ended : (brackets elements : ℕ) → counts_of brackets elements ≡ ended_one (one_more_wanted brackets elements)
wanted_ended zero elements = refl
wanted_ended (suc brackets) elements = refl

-- an opener that a bracket closes counts as a bracket
opened_bracket : (opener : Opener) (bracket : Bracket) (counts : OpenCounts) → fits opener bracket ≡ true → counts_of (suc counts.brackets) counts.elements ≡ opened_with opener counts
opened_bracket openers.List bracket counts e = refl
opened_bracket openers.Vector bracket counts e = refl
opened_bracket openers.Map bracket counts e = refl
opened_bracket openers.Set bracket counts e = refl
opened_bracket openers.Tag bracket counts e = absurd cc
opened_bracket openers.Discard bracket counts e = absurd cc

mutual
  over_gap : {room p q r : ℕ} {a b c : List ℕ} (counts : OpenCounts) → IsGap room p a q b → 0 < counts.brackets + counts.elements → Scans counts q b r c → Scans counts p a r c
  over_gap counts nothing busy h = h
  over_gap counts (skipped token gap) busy h = over_token (lexed_token token) busy (over_gap counts gap busy h)
  over_gap {r = r} {c = c} counts (discarded {ends = ends} {following = following} token inside element gap) busy h =
      let wanted = one_more_wanted counts.brackets counts.elements in
      let more : 0 < wanted.brackets + wanted.elements = wanted_busy counts.brackets counts.elements in
      let after : Scans counts ends following r c = over_gap counts gap busy h in
      over_token (lexed_token token) busy (over_gap wanted inside more
      (over_element wanted element more (subst (λ (k : OpenCounts). Scans k ends following r c) (wanted_ended counts.brackets counts.elements) after)))

  over_element : {room p q r : ℕ} {kind : ElementKind} {core : Core} {a b c : List ℕ} (counts : OpenCounts) → IsElementAt room kind core p a q b → 0 < counts.brackets + counts.elements
      → Scans (ended_one counts) q b r c → Scans counts p a r c
  over_element counts (leaf token) busy h = over_token (lexed_token token) busy h
  over_element {r = r} {c = c} counts (bracketed {inner = inner} {left = left} {opener = opener} {bracket = bracket} token inside gap last fit even) busy h =
      let deeper : 0 < suc counts.brackets + counts.elements = omega arith in
      let following : Scans (counts_of (suc counts.brackets) counts.elements) inner left r c =
      over_elements counts.brackets counts.elements inside (over_gap (counts_of (suc counts.brackets) counts.elements) gap deeper (over_token (lexed_token last) deeper h)) in
      over_token (lexed_token token) busy (subst (λ (k : OpenCounts). Scans k inner left r c) (opened_bracket opener bracket counts fit) following)
  over_element counts (tagged token gap element) busy h = over_token (lexed_token token) busy (over_gap counts gap busy (over_element counts element busy h))

  over_elements : {room p q r : ℕ} {pieces : List ElementModel} {a b c : List ℕ} (brackets elements : ℕ) → IsElements room p a pieces q b
      → Scans (counts_of (suc brackets) elements) q b r c → Scans (counts_of (suc brackets) elements) p a r c
  over_elements brackets elements none h = h
  over_elements brackets elements (next gap element text others) h =
      let deeper : 0 < suc brackets + elements = omega arith in
      over_gap (counts_of (suc brackets) elements) gap deeper (over_element (counts_of (suc brackets) elements) element deeper (over_elements brackets elements others h))

pred_less : (n : ℕ) → pred n ≤ n
pred_less zero = omega arith
pred_less (suc n) = omega arith

ended_bound : (brackets elements : ℕ) → (ended_at brackets elements).brackets + (ended_at brackets elements).elements ≤ brackets + elements + 1
ended_bound zero elements = omega (arith, pred_less elements)
ended_bound (suc brackets) elements = omega arith

wanted_bound : (brackets elements : ℕ) → (one_more_wanted brackets elements).brackets + (one_more_wanted brackets elements).elements ≤ brackets + elements + 1
wanted_bound zero elements = omega arith
wanted_bound (suc brackets) elements = omega arith

closed_bound : (brackets elements : ℕ) → (closed_at brackets elements).brackets + (closed_at brackets elements).elements ≤ brackets + elements + 1
closed_bound zero elements = omega arith
closed_bound (suc brackets) elements = omega (arith, ended_bound brackets elements)

pub counted_bound : (token : Token) (counts : OpenCounts) → (counts_after token counts).brackets + (counts_after token counts).elements ≤ counts.brackets + counts.elements + 1
counted_bound Gap counts = omega arith
counted_bound (Leaf kind) counts = ended_bound counts.brackets counts.elements
counted_bound (Opens openers.List) counts = omega arith
counted_bound (Opens openers.Vector) counts = omega arith
counted_bound (Opens openers.Map) counts = omega arith
counted_bound (Opens openers.Set) counts = omega arith
counted_bound (Opens openers.Tag) counts = omega arith
counted_bound (Opens openers.Discard) counts = wanted_bound counts.brackets counts.elements
counted_bound (Closes bracket) counts = closed_bound counts.brackets counts.elements
counted_bound Unfinished counts = omega arith

-- what leads from the first index to the end of an element leads there from the second one, with so much to end
abbrev pub Scanned : List ℕ → ℕ → ℕ → OpenCounts → Type 0
Scanned bytes from at counts =
    (start after : ℕ) (rest : List ℕ) → Scans (counts_of 0 1) start (drop from bytes) after rest → (other : ℕ) × (other + from ≡ start + at) × Scans counts other (drop at bytes) after rest

-- one token further
one_further : {counts : OpenCounts} {p q : ℕ} {a b : List ℕ} → Scans counts p a q b → 0 < counts.brackets + counts.elements
    → Scans (counts_after (lexed a).0 counts) (p + (lexed a).1) (drop (lexed a).1 a) q b
one_further (done e) busy = absurd (omega arith)
one_further (further more h) busy = h

pub scanned_more : (bytes : List ℕ) (from at end : ℕ) (counts more : OpenCounts) → Scanned bytes from at counts → 0 < counts.brackets + counts.elements
    → more ≡ counts_after (lexed (drop at bytes)).0 counts → end ≡ at + (lexed (drop at bytes)).1 → Scanned bytes from end more
scanned_more bytes from at end counts more scanned busy e f start after rest h =
    let k = scanned start after rest h in
    let token = lexed (drop at bytes) in
    let left : drop token.1 (drop at bytes) ≡ drop end bytes = drop-drop token.1 at bytes ∙ ap (λ (n : ℕ). drop n bytes) (sym f) in
    let step : Scans (counts_after token.0 counts) (k.0 + token.1) (drop token.1 (drop at bytes)) after rest = one_further k.2 busy in (
      k.0 + token.1,
      omega (arith, k.1, f),
      subst (λ (c : OpenCounts). Scans c (k.0 + token.1) (drop end bytes) after rest) (sym e) (subst (λ (x : List ℕ). Scans (counts_after token.0 counts) (k.0 + token.1) x after rest) left step),
    )

-- the first token
pub scanned_first : (bytes : List ℕ) (front : Lookahead) (counts : OpenCounts) → HasToken bytes front → counts ≡ counts_after front.found.token (counts_of 0 1) → Scanned bytes front.at front.found.end counts
scanned_first bytes front counts s e =
    scanned_more bytes front.at front.at front.found.end (counts_of 0 1) counts (λ start after rest h. (start, refl, h)) (omega arith)
    (e ∙ ap (λ (f : Found). counts_after f.token (counts_of 0 1)) s.found) (ap (λ (f : Found). f.end) s.found)

lexed_nothing : lexed [] ≡ (Unfinished, 0)
unfolding lexed
lexed_nothing = refl

-- where no byte is left, or nothing is to end, it goes no further
scans_last : {counts : OpenCounts} {p q : ℕ} {a b : List ℕ} → Scans counts p a q b → a ≡ [] → p ≡ q
scans_last (done e) last = refl
scans_last {p = p} (further {a = a} more h) last =
    let none_long : (lexed a).1 ≡ 0 = ap (λ (x : List ℕ). (lexed x).1) last ∙ ap (λ (t : Token × ℕ). t.1) lexed_nothing in
    let still : drop (lexed a).1 a ≡ [] = ap (λ (n : ℕ). drop n a) none_long ∙ last in
    omega (arith, none_long, scans_last h still)

scans_none : {counts : OpenCounts} {p q : ℕ} {a b : List ℕ} → Scans counts p a q b → counts.brackets + counts.elements ≡ 0 → p ≡ q
scans_none (done e) nothing_left = refl
scans_none (further more h) nothing_left = absurd (omega arith)

scans_element : {room other p r q : ℕ} {kind : ElementKind} {core : Core} {a b c : List ℕ} → IsGap room p a r b → IsElementAt other kind core r b q c → Scans (counts_of 0 1) p a q c
scans_element gap element =
    let one : 0 < 0 + 1 = omega arith in over_gap (counts_of 0 1) gap one (over_element (counts_of 0 1) element one (done refl))

pub skips_element : (bytes : List ℕ) (from at : ℕ) (counts : OpenCounts) → Scanned bytes from at counts → (at < length bytes → counts.brackets + counts.elements ≡ 0) → SkipsElement bytes from at
skips_element bytes from at counts scanned over room start begins after kind core left rest gap element =
    let k = scanned start after rest (scans_element gap element) in
    let last : k.0 ≡ after = reached k.0 after rest k.2 (cases_lt at (length bytes)) in
    omega (arith, k.1, last)
  where
    reached : (p q : ℕ) (b : List ℕ) → Scans counts p (drop at bytes) q b → (at < length bytes) ⊎ (length bytes ≤ at) → p ≡ q
    reached p q b h (inl lt) = scans_none h (over lt)
    reached p q b h (inr le) = scans_last h (drop_of_length-le bytes le)

-- ---- what a derivation leaves

beyond : {p q : ℕ} {a b d e : List ℕ} (n : ℕ) → Replaced p a q b d e → p + n ≡ q → drop n a ≡ b
beyond {b = b} n m at = ap (drop n) m.here ∙ drop_at m.front b n (omega (arith, m.place, at))

pub beyond_gap : {room p q : ℕ} {a b : List ℕ} (n : ℕ) → IsGap room p a q b → p + n ≡ q → drop n a ≡ b
beyond_gap {b = b} n gap at = beyond n (moved_gap gap b (λ h. h, λ h. h, λ h. h)).2 at

pub beyond_element : {room p q : ℕ} {kind : ElementKind} {core : Core} {a b : List ℕ} (n : ℕ) → IsElementAt room kind core p a q b → p + n ≡ q → drop n a ≡ b
beyond_element {b = b} n element at = beyond n (moved_element element b (λ h. h)).place at

gap_forward : {room p q : ℕ} {a b : List ℕ} → IsGap room p a q b → p ≤ q
gap_forward {b = b} gap = omega (arith, (moved_gap gap b (λ h. h, λ h. h, λ h. h)).2.place)

element_forward : {room p q : ℕ} {kind : ElementKind} {core : Core} {a b : List ℕ} → IsElementAt room kind core p a q b → p ≤ q
element_forward {b = b} element = omega (arith, (moved_element element b (λ h. h)).place.place)

-- the bytes that are left, between two indices of a list
between : (bytes left : List ℕ) (from end n : ℕ) → left ≡ drop from bytes → from + n ≡ end → drop n left ≡ drop end bytes
between bytes left from end n here at = ap (drop n) here ∙ drop-drop n from bytes ∙ ap (λ (i : ℕ). drop i bytes) at

-- ---- the end of a gap

-- a gap from the first index on is, from the second one on, a gap with the same end
abbrev pub GapLeft : List ℕ → ℕ → ℕ → Type 0
GapLeft bytes from at =
    (room start after : ℕ) (rest : List ℕ) → IsGap room start (drop from bytes) after rest → NoGap (lexed rest).0
    → (other place : ℕ) × (place + from ≡ start + at) × IsGap other place (drop at bytes) after rest

over_white : {room p q : ℕ} {a b : List ℕ} → IsGap room p a q b → NoGap (lexed b).0 → (lexed a).0 ≡ Gap → (other : ℕ) × IsGap other (p + (lexed a).1) (drop (lexed a).1 a) q b
over_white nothing clear e = absurd (subst NoGap e clear)
over_white {p = p} {q = q} {a = a} {b = b} (skipped {room = room} {left = left} token gap) clear e =
    let l = lexed_token token in
    (room, subst (λ (x : List ℕ). IsGap room (p + (lexed a).1) x q b) (sym l.rest) (subst (λ (n : ℕ). IsGap room n left q b) (sym l.place) gap))
over_white (discarded token inside element gap) clear e =
    let both : Gap ≡ Opens openers.Discard = sym e ∙ (lexed_token token).token_is in absurd cc

over_discard : {room p q : ℕ} {a b : List ℕ} (bytes : List ℕ) (from end : ℕ) → IsGap room p a q b → NoGap (lexed b).0 → (lexed a).0 ≡ Opens openers.Discard
    → drop (lexed a).1 a ≡ drop from bytes → SkipsElement bytes from end → from ≤ end → (other place : ℕ) × (place + from ≡ p + (lexed a).1 + end) × IsGap other place (drop end bytes) q b
over_discard bytes from end nothing clear e here skips le = absurd (subst NoGap e clear)
over_discard bytes from end (skipped token gap) clear e here skips le =
    let both : Opens openers.Discard ≡ Gap = sym e ∙ (lexed_token token).token_is in absurd cc
over_discard {q = q} {a = a} {b = b} bytes from end (discarded {room = room} {inner = inner} {begins = begins} {ends = ends} {left = left} {beyond = start} {following = following} {kind = kind} {core = core} token inside element gap) clear e here skips le =
    let l = lexed_token token in
    let there : left ≡ drop from bytes = sym l.rest ∙ here in
    let long : inner + end ≡ ends + from = skips room inner begins ends kind core start following (subst (λ (x : List ℕ). IsGap room inner x begins start) there inside) element in
    let first : ℕ = begins - inner in
    let second : ℕ = ends - begins in
    let ordered : (inner ≤ begins) × (begins ≤ ends) = (gap_forward inside, element_forward element) in
    let left_start : drop first left ≡ start = beyond_gap first inside (omega (arith, ordered.0)) in
    let start_after : drop second start ≡ following = beyond_element second element (omega (arith, ordered.1)) in
    let whole : drop end bytes ≡ following =
    sym (between bytes left from end (first + second) there (omega (arith, long, ordered.0, ordered.1, le)))
    ∙ sym (drop-drop second first left) ∙ ap (drop second) left_start ∙ start_after in
    (suc room, ends, omega (arith, long, l.place), subst (λ (x : List ℕ). IsGap (suc room) ends x q b) (sym whole) gap)

stop_gap : {room p q : ℕ} {a b : List ℕ} → IsGap room p a q b → ((lexed a).0 ≡ Gap → ⊥) → ((lexed a).0 ≡ Opens openers.Discard → ⊥) → p ≡ q
stop_gap nothing white discard = refl
stop_gap (skipped token gap) white discard = absurd (white (lexed_token token).token_is)
stop_gap (discarded token inside element gap) white discard = absurd (discard (lexed_token token).token_is)

pub gap_white : (bytes : List ℕ) (from at end : ℕ) → GapLeft bytes from at → (lexed (drop at bytes)).0 ≡ Gap → end ≡ at + (lexed (drop at bytes)).1 → GapLeft bytes from end
gap_white bytes from at end left e f room start after rest gap clear =
    let k = left room start after rest gap clear in
    let token = lexed (drop at bytes) in
    let m = over_white k.3 clear e in
    (m.0, k.1 + token.1, omega (arith, k.2, f), subst (λ (x : List ℕ). IsGap m.0 (k.1 + token.1) x after rest) (between bytes (drop at bytes) at end token.1 refl (sym f)) m.1)

pub gap_begins : (bytes : List ℕ) (from : ℕ) → GapLeft bytes from from
gap_begins bytes from room start after rest gap clear = (room, start, refl, gap)

one_white : (bytes : List ℕ) (from i : ℕ) → i < length bytes → is_white (get_or bytes i 0) ≡ true → GapLeft bytes from i → GapLeft bytes from (i + 1)
one_white bytes from i lt white left =
    let found = white_here bytes i lt white in
    gap_white bytes from i (i + 1) left (ap (λ (t : Token × ℕ). t.0) found) (sym (ap (λ (t : Token × ℕ). i + t.1) found))

pub gap_whites : (bytes : List ℕ) (from end : ℕ) → end ≡ from + stretch is_white (drop from bytes) → GapLeft bytes from end
gap_whites bytes from end ends =
    let after : GapLeft bytes from (from + stretch is_white (drop from bytes)) =
    along (λ n. GapLeft bytes from n) is_white bytes (one_white bytes from) (stretch is_white (drop from bytes)) from refl (gap_begins bytes from) in
    subst (λ (n : ℕ). GapLeft bytes from n) (sym ends) after

pub gap_discard : (bytes : List ℕ) (from at inner end : ℕ) → GapLeft bytes from at → (lexed (drop at bytes)).0 ≡ Opens openers.Discard → inner ≡ at + (lexed (drop at bytes)).1
    → SkipsElement bytes inner end → inner ≤ end → GapLeft bytes from end
gap_discard bytes from at inner end left e f skips le room start after rest gap clear =
    let k = left room start after rest gap clear in
    let token = lexed (drop at bytes) in
    let m = over_discard bytes inner end k.3 clear e (between bytes (drop at bytes) at inner token.1 refl (sym f)) skips le in
    (m.0, m.1, omega (arith, k.2, m.2, f), m.3)

skips_gap : (bytes : List ℕ) (from at : ℕ) → GapLeft bytes from at → ((lexed (drop at bytes)).0 ≡ Gap → ⊥) → ((lexed (drop at bytes)).0 ≡ Opens openers.Discard → ⊥) → SkipsGap bytes from at
skips_gap bytes from at left white discard room start after rest gap clear =
    let k = left room start after rest gap clear in
    let last : k.1 ≡ after = stop_gap k.3 white discard in
    omega (arith, k.2, last)

-- no token begins at the end of the bytes
pub none_at_end : (bytes : List ℕ) (at : ℕ) → length bytes ≤ at → (lexed (drop at bytes)).0 ≡ Unfinished
none_at_end bytes at le = ap (λ (x : List ℕ). (lexed x).0) (drop_of_length-le bytes le) ∙ ap (λ (t : Token × ℕ). t.0) lexed_nothing

-- ---- the end of the tags

opener_no_gap : (opener : Opener) (bracket : Bracket) → fits opener bracket ≡ true → NoGap (Opens opener)
opener_no_gap openers.List bracket e = tt
opener_no_gap openers.Vector bracket e = tt
opener_no_gap openers.Map bracket e = tt
opener_no_gap openers.Set bracket e = tt
opener_no_gap openers.Tag bracket e = tt
opener_no_gap openers.Discard bracket e = absurd cc

-- no gap begins where an element does
pub element_no_gap : {room p q : ℕ} {kind : ElementKind} {core : Core} {a b : List ℕ} → IsElementAt room kind core p a q b → NoGap (lexed a).0
element_no_gap (leaf {kind = kind} token) = subst NoGap (sym (lexed_token token).token_is) tt
element_no_gap (bracketed {opener = opener} {bracket = bracket} token inside gap last fit even) = subst NoGap (sym (lexed_token token).token_is) (opener_no_gap opener bracket fit)
element_no_gap (tagged token gap element) = subst NoGap (sym (lexed_token token).token_is) tt

pub element_kind : {room p q : ℕ} {kind : ElementKind} {core : Core} {a b : List ℕ} → IsElementAt room kind core p a q b → kind_token (lexed a).0 ≡ Some kind
element_kind (leaf token) = ap kind_token (lexed_token token).token_is
element_kind (bracketed token inside gap last fit even) = ap kind_token (lexed_token token).token_is
element_kind (tagged token gap element) = ap kind_token (lexed_token token).token_is

-- an element from the first index on is, from the second one on, an element with the same core and end
abbrev pub TagsLeft : List ℕ → ℕ → ℕ → Type 0
TagsLeft bytes from at =
    (room start after : ℕ) (kind : ElementKind) (core : Core) (rest : List ℕ) → IsElementAt room kind core start (drop from bytes) after rest
    → (other place : ℕ) × (following : ElementKind) × (place + from ≡ start + at) × IsElementAt other following core place (drop at bytes) after rest

not_tag : (opener : Opener) (bracket : Bracket) → fits opener bracket ≡ true → opener ≢ openers.Tag
not_tag opener bracket fit e = let both : fits openers.Tag bracket ≡ true = subst (λ (o : Opener). fits o bracket ≡ true) e fit in absurd cc

over_tag : {room p q : ℕ} {kind : ElementKind} {core : Core} {a b : List ℕ} (bytes : List ℕ) (from end : ℕ) → IsElementAt room kind core p a q b → (lexed a).0 ≡ Opens openers.Tag
    → drop (lexed a).1 a ≡ drop from bytes → SkipsGap bytes from end → from ≤ end
    → (other place : ℕ) × (following : ElementKind) × (place + from ≡ p + (lexed a).1 + end) × IsElementAt other following core place (drop end bytes) q b
over_tag bytes from end (leaf {kind = kind} token) e here skips le =
    let both : Opens openers.Tag ≡ Leaf kind = sym e ∙ (lexed_token token).token_is in absurd cc
over_tag bytes from end (bracketed {opener = opener} {bracket = bracket} token inside gap last fit even) e here skips le =
    let both : Opens openers.Tag ≡ Opens opener = sym e ∙ (lexed_token token).token_is in
    let same : opener ≡ openers.Tag = cc in
    absurd (not_tag opener bracket fit same)
over_tag {q = q} {core = core} {b = b} bytes from end (tagged {room = room} {inner = inner} {begins = begins} {left = left} {beyond = start} {kind = kind} token gap element) e here skips le =
    let l = lexed_token token in
    let there : left ≡ drop from bytes = sym l.rest ∙ here in
    let long : inner + end ≡ begins + from = skips room inner begins start (subst (λ (x : List ℕ). IsGap room inner x begins start) there gap) (element_no_gap element) in
    let left_start : drop (end - from) left ≡ start = beyond_gap (end - from) gap (omega (arith, long, le)) in
    let whole : drop end bytes ≡ start = sym (between bytes left from end (end - from) there (omega (arith, le))) ∙ left_start in
    (room, begins, kind, omega (arith, long, l.place), subst (λ (x : List ℕ). IsElementAt room kind core begins x q b) (sym whole) element)

stop_tags : {room p q : ℕ} {kind : ElementKind} {core : Core} {a b : List ℕ} → IsElementAt room kind core p a q b → ((lexed a).0 ≡ Opens openers.Tag → ⊥) → p ≡ core.start
stop_tags (leaf token) other = refl
stop_tags (bracketed token inside gap last fit even) other = refl
stop_tags (tagged token gap element) other = absurd (other (lexed_token token).token_is)

tags_tag : (bytes : List ℕ) (from at inner end : ℕ) → TagsLeft bytes from at → (lexed (drop at bytes)).0 ≡ Opens openers.Tag → inner ≡ at + (lexed (drop at bytes)).1
    → SkipsGap bytes inner end → inner ≤ end → TagsLeft bytes from end
tags_tag bytes from at inner end left e f skips le room start after kind core rest element =
    let k = left room start after kind core rest element in
    let token = lexed (drop at bytes) in
    let m = over_tag bytes inner end k.4 e (between bytes (drop at bytes) at inner token.1 refl (sym f)) skips le in
    (m.0, m.1, m.2, omega (arith, k.3, m.3, f), m.4)

skips_tags : (bytes : List ℕ) (from at : ℕ) → TagsLeft bytes from at → ((lexed (drop at bytes)).0 ≡ Opens openers.Tag → ⊥) → SkipsTags bytes from at
skips_tags bytes from at left other room start after kind core rest element =
    let k = left room start after kind core rest element in
    let last : k.1 ≡ core.start = stop_tags k.4 other in
    omega (arith, k.3, last)

-- ---- tokens that are met

-- the token that was looked at is the one at the index
pub present_token : (bytes : List ℕ) (front : Lookahead) (at : ℕ) → HasToken bytes front → front.at ≡ at → (lexed (drop at bytes)).0 ≡ front.found.token
present_token bytes front at s e = ap (λ (n : ℕ). (lexed (drop n bytes)).0) (sym e) ∙ sym (ap (λ (f : Found). f.token) s.found)

pub present_end : (bytes : List ℕ) (front : Lookahead) (at : ℕ) → HasToken bytes front → front.at ≡ at → front.found.end ≡ at + (lexed (drop at bytes)).1
present_end bytes front at s e = ap (λ (f : Found). f.end) s.found ∙ ap (λ (n : ℕ). n + (lexed (drop n bytes)).1) e

-- at the end of the bytes there is no element to go over
pub skips_nothing : (bytes : List ℕ) (from : ℕ) → length bytes ≤ from → SkipsElement bytes from from
skips_nothing bytes from le = skips_element bytes from from (counts_of 0 1) (λ start after rest h. (start, refl, h)) (λ lt. absurd (omega arith))

-- a gap ends at a token that begins none
pub gap_met : (bytes : List ℕ) (from at : ℕ) (front : Lookahead) → GapLeft bytes from at → HasToken bytes front → front.at ≡ at
    → (front.found.token ≡ Gap → ⊥) → (front.found.token ≡ Opens openers.Discard → ⊥) → SkipsGap bytes from front.at
gap_met bytes from at front left s e white discard =
    let token = present_token bytes front at s e in
    subst (SkipsGap bytes from) (sym e) (skips_gap bytes from at left (λ f. white (sym token ∙ f)) (λ f. discard (sym token ∙ f)))

-- a gap ends at the end of the bytes too
pub gap_at_end : (bytes : List ℕ) (from at : ℕ) → GapLeft bytes from at → at ≤ length bytes → length bytes ≤ at → SkipsGap bytes from (length bytes)
gap_at_end bytes from at left low high =
    let last = none_at_end bytes at high in
    subst (SkipsGap bytes from) (omega (arith, low, high))
    (skips_gap bytes from at left (λ e. let both : Gap ≡ Unfinished = sym e ∙ last in absurd cc) (λ e. let both : Opens openers.Discard ≡ Unfinished = sym e ∙ last in absurd cc))

tag_is : (token : Token) → is_tag_token token ≡ true → token ≡ Opens openers.Tag
tag_is Gap e = absurd cc
tag_is (Leaf kind) e = absurd cc
tag_is (Opens openers.List) e = absurd cc
tag_is (Opens openers.Vector) e = absurd cc
tag_is (Opens openers.Map) e = absurd cc
tag_is (Opens openers.Set) e = absurd cc
tag_is (Opens openers.Tag) e = refl
tag_is (Opens openers.Discard) e = absurd cc
tag_is (Closes bracket) e = absurd cc
tag_is Unfinished e = absurd cc

-- a token that is a whole element has no tag before it
pub leaf_core : (bytes : List ℕ) (front : Lookahead) (kind : ElementKind) → HasToken bytes front → front.found.token ≡ Leaf kind → SkipsTags bytes front.at front.at
leaf_core bytes front kind s is =
    skips_tags bytes front.at front.at (λ room start after k core rest h. (room, start, k, refl, h))
    (λ e. let both : Leaf kind ≡ Opens openers.Tag = sym is ∙ sym (present_token bytes front front.at s refl) ∙ e in absurd cc)

-- an element that is one token ends where the token does
pub leaf_end : (bytes : List ℕ) (front : Lookahead) (kind : ElementKind) → HasToken bytes front → front.found.token ≡ Leaf kind → SkipsElement bytes front.at front.found.end
leaf_end bytes front kind s is =
    skips_element bytes front.at front.found.end (counts_of 0 0)
    (scanned_first bytes front (counts_of 0 0) s (sym (ap (λ (t : Token). counts_after t (counts_of 0 1)) is))) (λ lt. refl)

-- one tag further
pub tags_on : (bytes : List ℕ) (from end : ℕ) (front : Lookahead) → TagsLeft bytes from front.at → HasToken bytes front → is_tag_token front.found.token ≡ true
    → SkipsGap bytes front.found.end end → front.found.end ≤ end → TagsLeft bytes from end
tags_on bytes from end front left s t skips le =
    tags_tag bytes from front.at front.found.end end left (present_token bytes front front.at s refl ∙ tag_is front.found.token t) (present_end bytes front front.at s refl) skips le

-- the tags end at a token that is not of a tag
pub tags_met : (bytes : List ℕ) (from : ℕ) (front : Lookahead) → TagsLeft bytes from front.at → HasToken bytes front → is_tag_token front.found.token ≡ false → SkipsTags bytes from front.at
tags_met bytes from front left s t =
    skips_tags bytes from front.at left
    (λ e. let both : false ≡ true = sym t ∙ ap is_tag_token (sym (present_token bytes front front.at s refl) ∙ e) in absurd cc)

-- the tags end at the end of the bytes too
pub tags_at_end : (bytes : List ℕ) (from : ℕ) → TagsLeft bytes from (length bytes) → SkipsTags bytes from (length bytes)
tags_at_end bytes from left =
    let last = none_at_end bytes (length bytes) (omega arith) in
    skips_tags bytes from (length bytes) left (λ e. let both : Opens openers.Tag ≡ Unfinished = sym e ∙ last in absurd cc)

-- ---- the core of an element

-- the core of an element begins so many bytes after the start of the element, and is an element
pub record CoreAt (room : ℕ) (core : Core) (p : ℕ) (a : List ℕ) (q : ℕ) (b : List ℕ) : Type 0 where
  pub ahead : ℕ
  pub place : p + ahead ≡ core.start
  pub element : IsElementAt room core.kind core core.start (drop ahead a) q b

pub core_at : {room p q : ℕ} {kind : ElementKind} {core : Core} {a b : List ℕ} → IsElementAt room kind core p a q b → CoreAt room core p a q b
core_at (leaf token) = record { ahead = 0; place = omega arith; element = leaf token }
core_at (bracketed token inside gap last fit even) = record { ahead = 0; place = omega arith; element = bracketed token inside gap last fit even }
core_at {room = room} {p = p} {q = q} {core = core} {a = a} {b = b} (tagged {room = less} {inner = inner} {begins = begins} {left = left} {beyond = start} token gap element) =
    let l = lexed_token token in
    let c = core_at element in
    let forward : inner ≤ begins = gap_forward gap in
    let first : ℕ = (lexed a).1 in
    let second : ℕ = begins - inner in
    let at_start : drop (first + second) a ≡ start = sym (drop-drop second first a) ∙ ap (drop second) l.rest ∙ beyond_gap second gap (omega (arith, forward)) in
    let at_core : drop c.ahead start ≡ drop (first + second + c.ahead) a = ap (drop c.ahead) (sym at_start) ∙ drop-drop c.ahead (first + second) a in
    let roomy : IsElementAt (suc less) core.kind core core.start (drop c.ahead start) q b =
    subst (λ (r : ℕ). IsElementAt r core.kind core core.start (drop c.ahead start) q b) (omega arith) (wider_element 1 c.element) in
    record {
      ahead = first + second + c.ahead;
      place = omega (arith, l.place, c.place, forward);
      element = subst (λ (x : List ℕ). IsElementAt (suc less) core.kind core core.start x q b) at_core roomy;
    }
