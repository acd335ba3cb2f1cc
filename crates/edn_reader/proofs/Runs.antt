-- Runs of tokens, with what is open and given after each: a derivation is a run, and from one place there is one run.
use Rattle.std.proofs.Common.{◌≡◌, ◌⊎◌, inl, inr, ℕ, suc, ◌+◌, ◌≤◌, Bool, true, false, not, cond, eqb, ◌&&◌, List, [], ◌∷◌, ◌++◌, length, drop, Option, Some, None, refl, sym, ap, subst, ◌∙◌, append_assoc, arith}
use Rattle.std.proofs.lemmas.Bool.Decides.{nat_tests}
use Rattle.std.proofs.lemmas.List.{append-nil}
use Rattle.edn_reader.specs.declared.bytes.Bracket.{Bracket}
use Rattle.edn_reader.specs.declared.element.ElementKind.{ElementKind}
use Rattle.edn_reader.specs.declared.element.ElementKind.TheVariants.{Tagged}
use Rattle.edn_reader.specs.declared.element.Core.{Core}
use Rattle.edn_reader.specs.declared.fault.EdnFault.{EdnFault}
use Rattle.edn_reader.specs.declared.fault.EdnFault.TheVariants.{TooDeep}
use Rattle.edn_reader.specs.declared.nesting.Open.{Open}
use Rattle.edn_reader.specs.declared.step.Span.{Span}
use Rattle.edn_reader.specs.declared.token.Token.{Token}
use Rattle.edn_reader.specs.declared.token.Token.TheVariants.{Gap, Leaf, Opens, Closes}
use Rattle.edn_reader.specs.declared.token.Opener.{Opener}
use Rattle.edn_reader.specs.declared.token.Opener.TheVariants as openers
use Rattle.edn_reader.specs.Grammar.{ElementModel, IsToken, IsGap, nothing, skipped, discarded, IsElementAt, leaf, bracketed, tagged, IsElements, none, next, is_odd, waits, fits, is_paired, kind_of}
use Rattle.edn_reader.specs.Text.{within, waiting, StandsOpen, outermost, opened}
use Rattle.edn_reader.specs.Token.{lexed}
use Rattle.edn_reader.specs.Taking.{Taken, on, ends, fails, with_one, is_tag, after_tag, completed, plain_span, closed, taken}
use Rattle.edn_reader.proofs.Lexing.{lexed_token}

-- what is open and what is given after a token; none where it fails
abbrev pub goes : Taken → Option (List Open × List Span)
goes (on opens) = Some (opens, [])
goes (ends span) = Some ([], span ∷ [])
goes (fails fault) = None

-- what the first token of the bytes leads to
abbrev pub front_taken : ℕ → List ℕ → List Open → Taken
front_taken p a opens = taken (lexed a).0 p (p + (lexed a).1) opens

pub data Leads : ℕ → List ℕ → List Open → List Span → ℕ → List ℕ → List Open → List Span → Type 0 where
  here : {p : ℕ} {a : List ℕ} {opens : List Open} {given : List Span} → Leads p a opens given p a opens given
  further : {p q : ℕ} {a b : List ℕ} {opens others : List Open} {given all : List Span} (after : List Open × List Span) → goes (front_taken p a opens) ≡ Some after
      → Leads (p + (lexed a).1) (drop (lexed a).1 a) after.0 (given ++ after.1) q b others all → Leads p a opens given q b others all

pub leads_then : {p q r : ℕ} {a b c : List ℕ} {ao bo co : List Open} {ag bg cg : List Span} → Leads p a ao ag q b bo bg → Leads q b bo bg r c co cg → Leads p a ao ag r c co cg
leads_then here more = more
leads_then (further after e run) more = further after e (leads_then run more)

-- from one place there is one run: of two, one goes on from where the other ends
pub one_run : {p q r : ℕ} {a b c : List ℕ} {ao bo co : List Open} {ag bg cg : List Span} → Leads p a ao ag q b bo bg → Leads p a ao ag r c co cg
    → Leads q b bo bg r c co cg ⊎ Leads r c co cg q b bo bg
one_run here y = inl y
one_run (further after e run) here = inr (further after e run)
one_run {p} {q} {r} {a} {b} {c} {ao} {bo} {co} {ag} {bg} {cg} (further after e run) (further other f more) =
    let both : Some other ≡ Some after = sym f ∙ e in
    let same : other ≡ after = cc in
    one_run run (subst (λ (x : List Open × List Span). Leads (p + (lexed a).1) (drop (lexed a).1 a) x.0 (ag ++ x.1) r c co cg) same more)

-- what was given stays given
pub given_more : {p q : ℕ} {a b : List ℕ} {ao bo : List Open} {ag bg : List Span} → Leads p a ao ag q b bo bg → (more : List Span) × (bg ≡ ag ++ more)
given_more {ag = ag} here = ([], sym (append-nil ag))
given_more {ag = ag} (further after e run) =
    let m = given_more run in (after.1 ++ m.0, m.1 ∙ append_assoc ag after.1 m.0)

-- a run goes no further than where a token fails: the two ends are one
pub record Same (p : ℕ) (a : List ℕ) (ao : List Open) (ag : List Span) (q : ℕ) (b : List ℕ) (bo : List Open) (bg : List Span) : Type 0 where
  pub place : p ≡ q
  pub bytes : a ≡ b
  pub opens : ao ≡ bo
  pub given : ag ≡ bg

pub run_ends : {p q : ℕ} {a b : List ℕ} {ao bo : List Open} {ag bg : List Span} → goes (front_taken p a ao) ≡ None → Leads p a ao ag q b bo bg → Same p a ao ag q b bo bg
run_ends e here = record { place = refl; bytes = refl; opens = refl; given = refl }
run_ends e (further after f run) = let both : Some after ≡ None = sym f ∙ e in absurd cc

pub failing : (p : ℕ) (a : List ℕ) (opens : List Open) (fault : EdnFault) → front_taken p a opens ≡ fails fault → goes (front_taken p a opens) ≡ None
failing p a opens fault e = ap goes e

-- ---- one token

pub leads_token : {p q : ℕ} {a b : List ℕ} {t : Token} (opens : List Open) (given : List Span) (after : List Open × List Span) → IsToken t p a q b → goes (taken t p q opens) ≡ Some after
    → Leads p a opens given q b after.0 (given ++ after.1)
leads_token {p} {q} {a} {b} {t} opens given after token e =
    let l = lexed_token token in
    let place : front_taken p a opens ≡ taken t p q opens =
    ap (λ (k : Token). taken k p (p + (lexed a).1) opens) l.token_is ∙ ap (λ (r : ℕ). taken t p r opens) l.place in
    further after (ap goes place ∙ e)
    (subst (λ (r : ℕ). Leads r (drop (lexed a).1 a) after.0 (given ++ after.1) q b after.0 (given ++ after.1)) (sym l.place)
    (subst (λ (c : List ℕ). Leads q c after.0 (given ++ after.1) q b after.0 (given ++ after.1)) (sym l.rest) here))

leads_same : {p q : ℕ} {a b : List ℕ} {ao bo : List Open} {ag bg : List Span} → ag ++ [] ≡ bg → Leads p a ao ag q b bo (ag ++ []) → Leads p a ao ag q b bo bg
leads_same {p} {q} {a} {b} {ao} {bo} {ag} e run = subst (λ (g : List Span). Leads p a ao ag q b bo g) e run

leads_gap_token : {p q : ℕ} {a b : List ℕ} (opens : List Open) (given : List Span) → IsToken Gap p a q b → Leads p a opens given q b opens given
unfolding taken
leads_gap_token opens given token = leads_same (append-nil given) (leads_token opens given (opens, []) token refl)

not_full : (opens : List Open) (room : ℕ) → suc room + length opens ≤ 64 → eqb (length opens) 64 ≡ false
not_full opens room e = grind (arith, nat_tests)

abbrev pub fresh : ℕ → Opener → Open
fresh place opener = record { place = place; opener = opener; odd = false }

leads_opening : {p q : ℕ} {a b : List ℕ} (room : ℕ) (opener : Opener) (opens : List Open) (given : List Span) → IsToken (Opens opener) p a q b → suc room + length opens ≤ 64
    → Leads p a opens given q b (fresh p opener ∷ opens) given
unfolding taken
leads_opening {p} room opener opens given token fit =
    leads_same (append-nil given) (leads_token opens given (fresh p opener ∷ opens, []) token (ap (λ (t : Bool). goes (cond t (fails (TooDeep p)) (on (fresh p opener ∷ opens)))) (not_full opens room fit)))

-- what is open and what is given after an element
unfoldable pub settled : Span → List Open → List Open × List Span
settled span [] = ([], span ∷ [])
settled span (item ∷ opens) = cond (is_tag item.opener) (settled (after_tag item span) opens) (cond (waits item.opener) (opens, []) (with_one item ∷ opens, []))

settles_by : (t w : Bool) (x y z : Taken) (u v m : List Open × List Span) → goes x ≡ Some u → goes y ≡ Some v → goes z ≡ Some m → goes (cond t x (cond w y z)) ≡ Some (cond t u (cond w v m))
settles_by true w x y z u v m e f g = e
settles_by false true x y z u v m e f g = f
settles_by false false x y z u v m e f g = g

pub settles : (span : Span) (opens : List Open) → goes (completed span opens) ≡ Some (settled span opens)
unfolding completed settled
settles span [] = refl
settles span (item ∷ opens) =
    settles_by (is_tag item.opener) (waits item.opener) (completed (after_tag item span) opens) (on opens) (on (with_one item ∷ opens)) (settled (after_tag item span) opens) (opens, []) (with_one item ∷ opens, [])
    (settles (after_tag item span) opens) refl refl

abbrev pub span_at : ElementKind → Core → ℕ → ℕ → Span
span_at kind core p q = record { kind = kind; start = p; end = q; core = core }

-- ---- derivations

no_tag : (opener : Opener) → waits opener ≡ false → is_tag opener ≡ false
no_tag openers.List e = refl
no_tag openers.Vector e = refl
no_tag openers.Map e = refl
no_tag openers.Set e = refl
no_tag openers.Tag e = absurd cc
no_tag openers.Discard e = refl

no_wait : (opener : Opener) (bracket : Bracket) → fits opener bracket ≡ true → waits opener ≡ false
no_wait openers.List bracket e = refl
no_wait openers.Vector bracket e = refl
no_wait openers.Map bracket e = refl
no_wait openers.Set bracket e = refl
no_wait openers.Tag bracket e = absurd cc
no_wait openers.Discard bracket e = absurd cc

settled_inside : (span : Span) (item : Open) (opens : List Open) → waits item.opener ≡ false → settled span (item ∷ opens) ≡ (with_one item ∷ opens, [])
unfolding settled
settled_inside span item opens w = rw (no_tag item.opener w, w) refl

settled_discard : (span : Span) (p : ℕ) (opens : List Open) → settled span (fresh p openers.Discard ∷ opens) ≡ (opens, [])
unfolding settled
settled_discard span p opens = refl

settled_tag : (kind : ElementKind) (core : Core) (begins p q : ℕ) (opens : List Open) → settled (span_at kind core begins q) (fresh p openers.Tag ∷ opens) ≡ settled (span_at Tagged core p q) opens
unfolding settled
settled_tag kind core begins p q opens = refl

leads_settled : {p q : ℕ} {a b : List ℕ} {opens : List Open} {given : List Span} (after other : List Open × List Span) → after ≡ other → Leads p a opens given q b after.0 (given ++ after.1)
    → Leads p a opens given q b other.0 (given ++ other.1)
leads_settled {p} {q} {a} {b} {opens} {given} after other e run = subst (λ (x : List Open × List Span). Leads p a opens given q b x.0 (given ++ x.1)) e run

closed_fitting : (w f o : Bool) (x y z m : Taken) (after : List Open × List Span) → w ≡ false → f ≡ true → o ≡ false → goes m ≡ Some after
    → goes (cond w x (cond f (cond o y m) z)) ≡ Some after
closed_fitting w f o x y z m after d e g h = rw (d, e, g) h

leads_closing : {p q : ℕ} {a b : List ℕ} (place : ℕ) (opener : Opener) (bracket : Bracket) (odd : Bool) (opens : List Open) (given : List Span) → IsToken (Closes bracket) p a q b
    → fits opener bracket ≡ true → is_paired opener && odd ≡ false
    → Leads p a (record { place = place; opener = opener; odd = odd } ∷ opens) given q b (settled (plain_span (kind_of opener) place q) opens).0 (given ++ (settled (plain_span (kind_of opener) place q) opens).1)
unfolding taken closed
leads_closing {p} {q} place opener bracket odd opens given token fit even =
    leads_token (record { place = place; opener = opener; odd = odd } ∷ opens) given (settled (plain_span (kind_of opener) place q) opens) token
    (closed_fitting (waits opener) (fits opener bracket) (is_paired opener && odd) _ _ _ (completed (plain_span (kind_of opener) place q) opens) (settled (plain_span (kind_of opener) place q) opens)
    (no_wait opener bracket fit) fit even (settles (plain_span (kind_of opener) place q) opens))

leads_leaf : {p q : ℕ} {a b : List ℕ} {kind : ElementKind} (opens : List Open) (given : List Span) → IsToken (Leaf kind) p a q b
    → Leads p a opens given q b (settled (plain_span kind p q) opens).0 (given ++ (settled (plain_span kind p q) opens).1)
unfolding taken
leads_leaf {p} {q} {kind = kind} opens given token = leads_token opens given (settled (plain_span kind p q) opens) token (settles (plain_span kind p q) opens)

-- a bracket with these elements more in it
abbrev pub counted_in : List ElementModel → Open → Open
counted_in [] item = item
counted_in (piece ∷ pieces) item = counted_in pieces (with_one item)

not-not : (t : Bool) → not (not t) ≡ t
not-not true = refl
not-not false = refl

counted_odd : (pieces : List ElementModel) (p : ℕ) (opener : Opener) (t : Bool)
    → counted_in pieces (record { place = p; opener = opener; odd = t }) ≡ record { place = p; opener = opener; odd = cond t (not (is_odd pieces)) (is_odd pieces) }
counted_odd [] p opener true = refl
counted_odd [] p opener false = refl
counted_odd (piece ∷ pieces) p opener true =
    counted_odd pieces p opener false ∙ ap (λ (t : Bool). record { place = p; opener = opener; odd = t }) (sym (not-not (is_odd pieces)))
counted_odd (piece ∷ pieces) p opener false = counted_odd pieces p opener true

inside_as : {p q place : ℕ} {a b : List ℕ} {opener : Opener} (pieces : List ElementModel) (opens : List Open) (given : List Span)
    → Leads p a (fresh place opener ∷ opens) given q b (counted_in pieces (fresh place opener) ∷ opens) given
    → Leads p a (fresh place opener ∷ opens) given q b (record { place = place; opener = opener; odd = is_odd pieces } ∷ opens) given
inside_as {p} {q} {place} {a} {b} {opener} pieces opens given run =
    subst (λ (item : Open). Leads p a (fresh place opener ∷ opens) given q b (item ∷ opens) given) (counted_odd pieces place opener false) run

mutual
  pub leads_gap : {room p q : ℕ} {a b : List ℕ} → IsGap room p a q b → (opens : List Open) (given : List Span) → room + length opens ≤ 64 → Leads p a opens given q b opens given
  leads_gap nothing opens given fit = here
  leads_gap (skipped token gap) opens given fit = leads_then (leads_gap_token opens given token) (leads_gap gap opens given fit)
  leads_gap (discarded {room = room} {place = place} {begins = begins} {ends = over} {kind = kind} {core = core} token before element gap) opens given fit =
      let deep = fresh place openers.Discard ∷ opens in
      leads_then (leads_opening room openers.Discard opens given token fit)
      (leads_then (leads_gap before deep given (omega arith))
      (leads_then (leads_same (append-nil given) (leads_settled (settled (span_at kind core begins over) deep) (opens, []) (settled_discard (span_at kind core begins over) place opens) (leads_element element deep given (omega arith))))
      (leads_gap gap opens given fit)))

  pub leads_element : {room p q : ℕ} {kind : ElementKind} {core : Core} {a b : List ℕ} → IsElementAt room kind core p a q b → (opens : List Open) (given : List Span) → room + length opens ≤ 64
      → Leads p a opens given q b (settled (span_at kind core p q) opens).0 (given ++ (settled (span_at kind core p q) opens).1)
  leads_element (leaf token) opens given fit = leads_leaf opens given token
  leads_element (bracketed {room = room} {place = place} {pieces = pieces} {opener = opener} {bracket = bracket} token els gap last fit even) opens given enough =
      leads_then (leads_opening room opener opens given token enough)
      (leads_then (inside_as pieces opens given (leads_inside els (fresh place opener) opens given (no_wait opener bracket fit) (omega arith)))
      (leads_then (leads_gap gap (record { place = place; opener = opener; odd = is_odd pieces } ∷ opens) given (omega arith))
      (leads_closing place opener bracket (is_odd pieces) opens given last fit even)))
  leads_element (tagged {room = room} {place = place} {begins = begins} {after = after} {kind = kind} {core = core} token before element) opens given fit =
      let deep = fresh place openers.Tag ∷ opens in
      leads_then (leads_opening room openers.Tag opens given token fit)
      (leads_then (leads_gap before deep given (omega arith))
      (leads_settled (settled (span_at kind core begins after) deep) (settled (span_at Tagged core place after) opens) (settled_tag kind core begins place after opens) (leads_element element deep given (omega arith))))

  pub leads_inside : {room p q : ℕ} {pieces : List ElementModel} {a b : List ℕ} → IsElements room p a pieces q b → (item : Open) (opens : List Open) (given : List Span) → waits item.opener ≡ false
      → room + suc (length opens) ≤ 64 → Leads p a (item ∷ opens) given q b (counted_in pieces item ∷ opens) given
  leads_inside none item opens given w fit = here
  leads_inside (next {ended = over} {piece = piece} gap element whole els) item opens given w fit =
      let span = span_at piece.kind piece.core piece.start over in
      leads_then (leads_gap gap (item ∷ opens) given (omega arith))
      (leads_then (leads_same (append-nil given) (leads_settled (settled span (item ∷ opens)) (with_one item ∷ opens, []) (settled_inside span item opens w) (leads_element element (item ∷ opens) given (omega arith))))
      (leads_inside els (with_one item) opens given w fit))

-- a run that gives as many outermost elements as there are
pub record Outermost (p : ℕ) (a : List ℕ) (given : List Span) (q : ℕ) (b : List ℕ) (opens : List Open) (pieces : List ElementModel) : Type 0 where
  pub spans : List Span
  pub run : Leads p a [] given q b opens (given ++ spans)
  pub many : length spans ≡ length pieces

settled_outermost : (span : Span) → settled span [] ≡ ([], span ∷ [])
unfolding settled
settled_outermost span = refl

pub leads_outermost_element : {room p q : ℕ} {kind : ElementKind} {core : Core} {a b : List ℕ} → IsElementAt room kind core p a q b → (given : List Span) → room ≤ 64
    → Leads p a [] given q b [] (given ++ span_at kind core p q ∷ [])
leads_outermost_element {p = p} {q = q} {kind = kind} {core = core} element given fit =
    leads_settled (settled (span_at kind core p q) []) ([], span_at kind core p q ∷ []) (settled_outermost (span_at kind core p q)) (leads_element element [] given (omega arith))

pub leads_outermost : {room p q : ℕ} {pieces : List ElementModel} {a b : List ℕ} → IsElements room p a pieces q b → (given : List Span) → room ≤ 64 → Outermost p a given q b [] pieces
leads_outermost {p = p} {a = a} none given fit =
    record { spans = []; run = subst (λ (g : List Span). Leads p a [] given p a [] g) (sym (append-nil given)) here; many = refl }
leads_outermost {p = p} {q = q} {a = a} {b = b} (next {ended = over} {beyond = beyond} {piece = piece} gap element whole els) given fit =
    let span = span_at piece.kind piece.core piece.start over in
    let rest = leads_outermost els (given ++ span ∷ []) fit in
    record {
      spans = span ∷ rest.spans;
      run = leads_then (leads_gap gap [] given (omega arith)) (leads_then (leads_outermost_element element given fit)
          (subst (λ (g : List Span). Leads over beyond [] (given ++ span ∷ []) q b [] g) (append_assoc given (span ∷ []) rest.spans) rest.run));
      many = omega (arith, rest.many);
    }

pub leads_present : {p : ℕ} {input a : List ℕ} {pieces : List ElementModel} {opens : List Open} → StandsOpen input pieces opens p a → Outermost 0 input [] p a opens pieces
leads_present (outermost els gap) =
    let o = leads_outermost els [] (omega arith) in
    record { spans = o.spans; run = leads_then o.run (leads_gap gap [] o.spans (omega arith)); many = o.many }
leads_present (opened {room = room} {place = place} {opens = opens} {opener = opener} present token full (within {inside = inside} bracket els gap)) =
    let o = leads_present present in
    record {
      spans = o.spans;
      run = leads_then o.run (leads_then (leads_opening room opener opens o.spans token (omega arith))
          (leads_then (inside_as inside opens o.spans (leads_inside els (fresh place opener) opens o.spans bracket (omega arith)))
          (leads_gap gap (record { place = place; opener = opener; odd = is_odd inside } ∷ opens) o.spans (omega arith))));
      many = o.many;
    }
leads_present (opened {room = room} {place = place} {opens = opens} {opener = opener} present token full (waiting bracket gap)) =
    let o = leads_present present in
    record {
      spans = o.spans;
      run = leads_then o.run (leads_then (leads_opening room opener opens o.spans token (omega arith)) (leads_gap gap (fresh place opener ∷ opens) o.spans (omega arith)));
      many = o.many;
    }
