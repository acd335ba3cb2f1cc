-- What is plain within a bracket, white bytes and plain runs: how the tokens lead over it.
use Rattle.std.proofs.Common.{◌≡◌, ◌≢◌, ℕ, ◌+◌, ◌<◌, ◌≤◌, Bool, true, false, not, cond, List, [], ◌∷◌, ◌++◌, length, get_or, drop, Some, None, refl, sym, ap, subst, ◌∙◌, arith, length-drop, length-append}
use Rattle.std.proofs.lemmas.List.{drop-drop}
use Rattle.edn_reader.specs.declared.bytes.ByteClass.TheVariants.{White, Plain}
use Rattle.edn_reader.specs.declared.element.ElementKind.TheVariants.{Atom}
use Rattle.edn_reader.specs.declared.nesting.Open.{Open}
use Rattle.edn_reader.specs.declared.token.Token.{Token}
use Rattle.edn_reader.specs.declared.token.Token.TheVariants.{Gap, Leaf}
use Rattle.edn_reader.specs.Bytes.{class_of, is_plain, is_white, is_run, stretch}
use Rattle.edn_reader.specs.Grammar.{ElementModel, waits}
use Rattle.edn_reader.specs.Token.{found_at, lexed}
use Rattle.edn_reader.specs.Taking.{taken, on, plain_span, LeadsOn, stays, by_token, IsPieceAt, LeadsOver, LeadsWithin, item_odd, with_odd, odd_inside}
use Rattle.edn_reader.proofs.Lexing.{lexed_by, white_class, plain_class}
use Rattle.edn_reader.proofs.Reading.{StandsAt, present_next, one_ended}
use Rattle.edn_reader.proofs.Stretches.{along, drop_here, drop_before}
use Rattle.edn_reader.proofs.Resuming.{stretch_stays}

-- one token more, as it was found
token_on : (input : List ℕ) (from at end : ℕ) (token : Token) (size : ℕ) (opens inner after : List Open) → at < length input → lexed (drop at input) ≡ (token, size) → at + size ≡ end
    → taken token at end inner ≡ on after → LeadsOn input from opens at inner → LeadsOn input from opens end after
token_on input from at end token size opens inner after lt is place e led =
    let size_is : (lexed (drop at input)).1 ≡ size = ap (λ (t : Token × ℕ). t.1) is in
    let token_is : (lexed (drop at input)).0 ≡ token = ap (λ (t : Token × ℕ). t.0) is in
    let ends : at + (lexed (drop at input)).1 ≡ end = ap (λ (n : ℕ). at + n) size_is ∙ place in
    let same : taken (lexed (drop at input)).0 at (at + (lexed (drop at input)).1) inner ≡ on after =
    ap (λ (t : Token). taken t at (at + (lexed (drop at input)).1) inner) token_is ∙ ap (λ (n : ℕ). taken token at n inner) ends ∙ e in
    subst (λ (n : ℕ). LeadsOn input from opens n after) ends (by_token led lt same)

-- an element within a bracket is one more of its elements
one_more_inside : (place end : ℕ) (odd : Bool) (item : Open) (opens : List Open) → waits item.opener ≡ false
    → taken (Leaf Atom) place end (item_odd odd item ∷ opens) ≡ on (item_odd (not odd) item ∷ opens)
unfolding taken
one_more_inside place end odd item opens w =
    one_ended (plain_span Atom place end) (item_odd odd item) (item_odd odd item ∷ opens) (item_odd (not odd) item ∷ opens)
    (opens, refl, rw w refl) (λ tag. let both : false ≡ true = sym w ∙ ap waits tag in absurd cc)

gap_on : (place end : ℕ) (opens : List Open) → taken Gap place end opens ≡ on opens
unfolding taken
gap_on place end opens = refl

-- ---- indices of a chunk

-- what is left of the input at an index of a chunk
pub in_piece : (input piece following : List ℕ) (base at : ℕ) → IsPieceAt input base piece following → at ≤ length piece → drop (base + at) input ≡ drop at piece ++ following
in_piece input piece following base at is le = sym (drop-drop at base input) ∙ ap (drop at) is.1 ∙ drop_before at piece following le

pub in_input : (input piece following : List ℕ) (base at : ℕ) → IsPieceAt input base piece following → at < length piece → base + at < length input
in_input input piece following base at is lt =
    omega (arith, length-drop (base + at) input, ap length (in_piece input piece following base at is (omega (arith, lt))), length-append (drop at piece) following, length-drop at piece, lt)

left_here : (input piece following : List ℕ) (base at : ℕ) → IsPieceAt input base piece following → at < length piece
    → drop (base + at) input ≡ get_or piece at 0 ∷ (drop (at + 1) piece ++ following)
left_here input piece following base at is lt =
    in_piece input piece following base at is (omega (arith, lt)) ∙ ap (λ (xs : List ℕ). xs ++ following) (drop_here piece at lt)

-- ---- what is plain

-- one white byte more
white_on : (piece : List ℕ) (from at end : ℕ) (before odd : Bool) → at < length piece → is_white (get_or piece at 0) ≡ true → end ≡ at + 1
    → LeadsWithin piece from before at odd → LeadsWithin piece from before end odd
white_on piece from at end before odd lt white place led item opens w input base following is =
    let b = get_or piece at 0 in
    let rest = drop (at + 1) piece ++ following in
    token_on input (base + from) (base + at) (base + end) Gap 1 (item_odd before item ∷ opens) (item_odd odd item ∷ opens) (item_odd odd item ∷ opens) (in_input input piece following base at is lt)
    (ap lexed (left_here input piece following base at is lt) ∙ lexed_by b rest White (white_class (class_of b) white)) (omega (arith, place))
    (gap_on (base + at) (base + end) (item_odd odd item ∷ opens)) (led item opens w input base following is)

-- all the white bytes that follow
pub whites_on : (piece : List ℕ) (from at end : ℕ) (before odd : Bool) → end ≡ at + stretch is_white (drop at piece) → LeadsWithin piece from before at odd → LeadsWithin piece from before end odd
whites_on piece from at end before odd ends led =
    let after : LeadsWithin piece from before (at + stretch is_white (drop at piece)) odd =
    along (λ n. LeadsWithin piece from before n odd) is_white piece (λ i lt white h. white_on piece from i (i + 1) before odd lt white refl h) (stretch is_white (drop at piece)) at refl led in
    subst (λ (n : ℕ). LeadsWithin piece from before n odd) (sym ends) after

-- one element of one run more, which ends within the chunk
pub run_on : (piece : List ℕ) (from at end : ℕ) (before odd : Bool) → at < length piece → is_plain (get_or piece at 0) ≡ true → end ≡ at + 1 + stretch is_run (drop (at + 1) piece)
    → end ≤ length piece → end ≢ length piece → LeadsWithin piece from before at odd → LeadsWithin piece from before end (not odd)
run_on piece from at end before odd lt plain place le other led item opens w input base following is =
    let b = get_or piece at 0 in
    let left = drop (at + 1) piece in
    let size = stretch is_run left in
    let stays : stretch is_run (left ++ following) ≡ size = stretch_stays is_run left following (omega (arith, place, le, other, length-drop (at + 1) piece)) in
    token_on input (base + from) (base + at) (base + end) (Leaf Atom) (1 + size) (item_odd before item ∷ opens) (item_odd odd item ∷ opens) (item_odd (not odd) item ∷ opens)
    (in_input input piece following base at is lt)
    (ap lexed (left_here input piece following base at is lt) ∙ lexed_by b (left ++ following) Plain (plain_class (class_of b) plain) ∙ ap (λ (n : ℕ). (Leaf Atom, 1 + n)) stays)
    (omega (arith, place)) (one_more_inside (base + at) (base + end) odd item opens w) (led item opens w input base following is)

pub none_on : (piece : List ℕ) (from : ℕ) (odd : Bool) → LeadsWithin piece from odd from odd
none_on piece from odd item opens w input base following is = stays

inside_by : (piece : List ℕ) (from end : ℕ) (odd odd_then w : Bool) (item : Open) (opens : List Open) → waits item.opener ≡ w → cond w None (Some item.odd) ≡ Some odd
    → LeadsWithin piece from odd end odd_then → LeadsOver piece from (item ∷ opens) end (item_odd odd_then item ∷ opens)
inside_by piece from end odd odd_then true item opens e is led = absurd cc
inside_by piece from end odd odd_then false item opens e is led =
    let same : item.odd ≡ odd = cc in
    subst (λ (o : Bool). LeadsOver piece from (item_odd o item ∷ opens) end (item_odd odd_then item ∷ opens)) (sym same) (led item opens e)

-- what leads within each bracket leads within the innermost one
pub leads_inside : (piece : List ℕ) (from end : ℕ) (odd odd_then : Bool) (opens after : List Open) → odd_inside opens ≡ Some odd
    → LeadsWithin piece from odd end odd_then → after ≡ with_odd odd_then opens → LeadsOver piece from opens end after
leads_inside piece from end odd odd_then [] after is led same = absurd cc
leads_inside piece from end odd odd_then (item ∷ opens) after is led same =
    subst (LeadsOver piece from (item ∷ opens) end) (sym same) (inside_by piece from end odd odd_then (waits item.opener) item opens refl is led)

pub leads_nowhere : (piece : List ℕ) (from : ℕ) (opens : List Open) → LeadsOver piece from opens from opens
leads_nowhere piece from opens input base following is = stays

-- tokens lead from what is open at one place to what is open at another
pub present_led : (input : List ℕ) (pieces : List ElementModel) (from end : ℕ) (opens after : List Open) → StandsAt input pieces opens from → LeadsOn input from opens end after → StandsAt input pieces after end
present_led input pieces from end opens after s stays = s
present_led input pieces from end opens after s (by_token {at = at} {inner = inner} led lt e) =
    present_next input pieces at (found_at at (lexed (drop at input))) inner after lt (present_led input pieces from at opens inner s led) refl e
