-- A token that goes on: what each next byte makes of the part so far.
use Rattle.std.proofs.Common.{◌≡◌, ◌≢◌, ℕ, suc, ◌+◌, ◌-◌, ◌<◌, ◌≤◌, Bool, true, false, cond, eqb, List, [], ◌∷◌, ◌++◌, length, get_or, drop, Option, Some, None, refl, sym, ap, ◌∙◌, arith, length-drop, length-append, append-nil}
use Rattle.std.proofs.Math.ListN.{drop_of_length-le}
use Rattle.std.proofs.lemmas.Bool.Decides.{nat_tests}
use Rattle.edn_reader.specs.declared.bytes.ByteClass.{ByteClass}
use Rattle.edn_reader.specs.declared.bytes.ByteClass.TheVariants as classes
use Rattle.edn_reader.specs.declared.bytes.Bracket.{Bracket}
use Rattle.edn_reader.specs.declared.bytes.Bracket.TheVariants.{Curly}
use Rattle.edn_reader.specs.declared.element.ElementKind.TheVariants as kinds
use Rattle.edn_reader.specs.declared.token.Found.{Found}
use Rattle.edn_reader.specs.declared.token.Token.{Token}
use Rattle.edn_reader.specs.declared.token.Token.TheVariants as tokens
use Rattle.edn_reader.specs.declared.token.Opener.TheVariants as openers
use Rattle.edn_reader.specs.declared.resume.Part.{Part}
use Rattle.edn_reader.specs.declared.resume.Part.TheVariants.{Nothing, Comment, Run, Text, Escape, Hash, Backslash}
use Rattle.edn_reader.specs.declared.resume.Ahead.{Ahead}
use Rattle.edn_reader.specs.declared.resume.Ahead.TheVariants.{Whole, Within}
use Rattle.edn_reader.specs.Bytes.{class_of, is_run, is_plain, is_white, is_in_comment, stretch}
use Rattle.edn_reader.specs.Grammar.{opener_of}
use Rattle.edn_reader.specs.Token.{found_at, quoted_length, text_token, quoted_token, tag_token, hash_token, after_hash, after_backslash, class_token, lexed}
use Rattle.edn_reader.specs.Resuming.{longer, less_one, resumed, last, LooksAhead}
use Rattle.edn_reader.proofs.Stretches.{drop_here, stretch_more, stretch_none, stretch_within, quoted_nothing, quoted_last, quoted_taken, add_length, add_zero, add_twice, add_two_length}
use Rattle.edn_reader.proofs.Lexing.{lexed_by, lexed_nothing, lexed_some, found_is, hash_by, hash_alone, tagged_by, underscore, plain_class, white_class, fits_after_hash}

pub same_size : (token : Token) (n m : ℕ) → n ≡ m → ◌≡◌ {A = Token × ℕ} (token, n) (token, m)
same_size token n m e = ap (λ (k : ℕ). (token, k)) e

pub longer_twice : (n m k : ℕ) (x : Token × ℕ) → n + m ≡ k → longer n (longer m x) ≡ longer k x
longer_twice n m k x e = same_size x.0 (n + (m + x.1)) (k + x.1) (omega (arith, e))

-- ---- one byte

-- with this byte a part goes on as a later part
abbrev pub Moves : Part → ℕ → Part → Type 0
Moves part b later = (rest : List ℕ) → resumed part (b ∷ rest) ≡ longer 1 (resumed later rest)

-- with this byte a part ends as this token
abbrev pub Makes : Part → ℕ → Token → Type 0
Makes part b token = (rest : List ℕ) → resumed part (b ∷ rest) ≡ (token, 1)

here_more : (bytes more : List ℕ) (at : ℕ) → at < length bytes → drop at bytes ++ more ≡ get_or bytes at 0 ∷ (drop (at + 1) bytes ++ more)
here_more bytes more at lt = ap (λ (xs : List ℕ). xs ++ more) (drop_here bytes at lt)

long_here : (bytes : List ℕ) (at : ℕ) → at < length bytes → length (drop at bytes) ≡ 1 + length (drop (at + 1) bytes)
long_here bytes at lt = omega (arith, length-drop at bytes, length-drop (at + 1) bytes, lt)

pub ahead_next : (part later : Part) (bytes : List ℕ) (at : ℕ) (ahead : Ahead) → at < length bytes → Moves part (get_or bytes at 0) later → LooksAhead later (at + 1) (drop (at + 1) bytes) ahead
    → LooksAhead part at (drop at bytes) ahead
unfolding LooksAhead
ahead_next part later bytes at (Whole found) lt moves (low, high, is) = (
  omega (arith, low),
  omega (arith, high, long_here bytes at lt),
  λ more.
      ap (resumed part) (here_more bytes more at lt) ∙ moves (drop (at + 1) bytes ++ more) ∙ ap (longer 1) (is more)
      ∙ same_size found.token (1 + (found.end - (at + 1))) (found.end - at) (omega (arith, low)),
)
ahead_next part later bytes at (Within further) lt moves is = λ more.
    ap (resumed part) (here_more bytes more at lt) ∙ moves (drop (at + 1) bytes ++ more) ∙ ap (longer 1) (is more)
    ∙ longer_twice 1 (length (drop (at + 1) bytes)) (length (drop at bytes)) (resumed further more) (sym (long_here bytes at lt))

pub ahead_one : (part : Part) (bytes : List ℕ) (at : ℕ) (found : Found) → at < length bytes → Makes part (get_or bytes at 0) found.token → found.end ≡ at + 1 → LooksAhead part at (drop at bytes) (Whole found)
unfolding LooksAhead
ahead_one part bytes at found lt makes end = (
  omega (arith, end),
  omega (arith, end, length-drop at bytes, lt),
  λ more. ap (resumed part) (here_more bytes more at lt) ∙ makes (drop (at + 1) bytes ++ more) ∙ same_size found.token 1 (found.end - at) (omega (arith, end)),
)

-- at the end of the bytes a part stays what it is
pub nothing_ahead : (part : Part) (bytes : List ℕ) (at : ℕ) → at ≡ length bytes → LooksAhead part at (drop at bytes) (Within part)
unfolding LooksAhead
nothing_ahead part bytes at e more =
    let none : drop at bytes ≡ [] = drop_of_length-le bytes (omega (arith, e)) in
    ap (λ (xs : List ℕ). resumed part (xs ++ more)) none ∙ same_size (resumed part more).0 (resumed part more).1 (0 + (resumed part more).1) (omega arith)
    ∙ ap (λ (xs : List ℕ). longer (length xs) (resumed part more)) (sym none)

-- ---- stretches

stays_by : (test : ℕ → Bool) (b : ℕ) (xs more : List ℕ) (t : Bool) → test b ≡ t → (stretch test xs < length xs → stretch test (xs ++ more) ≡ stretch test xs)
    → stretch test (b ∷ xs) < suc (length xs) → stretch test (b ∷ (xs ++ more)) ≡ stretch test (b ∷ xs)
stays_by test b xs more true e later lt = omega (arith, stretch_more test b (xs ++ more) e, stretch_more test b xs e, later (omega (arith, lt, stretch_more test b xs e)))
stays_by test b xs more false e later lt = stretch_none test (b ∷ (xs ++ more)) e ∙ sym (stretch_none test (b ∷ xs) e)

pub stretch_stays : (test : ℕ → Bool) (xs more : List ℕ) → stretch test xs < length xs → stretch test (xs ++ more) ≡ stretch test xs
stretch_stays test [] more lt = absurd (omega arith)
stretch_stays test (b ∷ xs) more lt = stays_by test b xs more (test b) refl (stretch_stays test xs more) lt

spans_by : (test : ℕ → Bool) (b : ℕ) (xs more : List ℕ) (t : Bool) → test b ≡ t → (stretch test xs ≡ length xs → stretch test (xs ++ more) ≡ length xs + stretch test more)
    → stretch test (b ∷ xs) ≡ suc (length xs) → stretch test (b ∷ (xs ++ more)) ≡ suc (length xs) + stretch test more
spans_by test b xs more true e later is = omega (arith, stretch_more test b (xs ++ more) e, later (omega (arith, is, stretch_more test b xs e)))
spans_by test b xs more false e later is = absurd (omega (arith, is, stretch_none test (b ∷ xs) e))

pub stretch_spans : (test : ℕ → Bool) (xs more : List ℕ) → stretch test xs ≡ length xs → stretch test (xs ++ more) ≡ length xs + stretch test more
stretch_spans test [] more e = omega arith
stretch_spans test (b ∷ xs) more e = spans_by test b xs more (test b) refl (stretch_spans test xs more) e

stretch_ended : (test : ℕ → Bool) (part : Part) (token : Token) (bytes : List ℕ) (at end : ℕ) → ((rest : List ℕ) → resumed part rest ≡ (token, stretch test rest))
    → end ≡ at + stretch test (drop at bytes) → end ≤ length bytes → end ≢ length bytes → LooksAhead part at (drop at bytes) (Whole (record { token = token; end = end }))
unfolding LooksAhead
stretch_ended test part token bytes at end is e le other =
    let long = length-drop at bytes in
    let within = stretch_within test (drop at bytes) in (
      omega (arith, e),
      omega (arith, e, within),
      λ more. is (drop at bytes ++ more) ∙ same_size token (stretch test (drop at bytes ++ more)) (end - at) (omega (arith, e, stretch_stays test (drop at bytes) more (omega (arith, e, le, other, long)))),
    )

stretch_open : (test : ℕ → Bool) (part : Part) (token : Token) (bytes : List ℕ) (at end : ℕ) → ((rest : List ℕ) → resumed part rest ≡ (token, stretch test rest))
    → end ≡ at + stretch test (drop at bytes) → end ≡ length bytes → LooksAhead part at (drop at bytes) (Within part)
unfolding LooksAhead
stretch_open test part token bytes at end is e last_one more =
    let spans = stretch_spans test (drop at bytes) more (omega (arith, e, last_one, length-drop at bytes)) in
    is (drop at bytes ++ more) ∙ same_size token (stretch test (drop at bytes ++ more)) (length (drop at bytes) + stretch test more) spans ∙ ap (longer (length (drop at bytes))) (sym (is more))

pub run_ended : (token : Token) (bytes : List ℕ) (at end : ℕ) → end ≡ at + stretch is_run (drop at bytes) → end ≤ length bytes → end ≢ length bytes
    → LooksAhead (Run token) at (drop at bytes) (Whole (record { token = token; end = end }))
run_ended token bytes at end e le other = stretch_ended is_run (Run token) token bytes at end (λ rest. refl) e le other

pub run_open : (token : Token) (bytes : List ℕ) (at end : ℕ) → end ≡ at + stretch is_run (drop at bytes) → end ≡ length bytes → LooksAhead (Run token) at (drop at bytes) (Within (Run token))
run_open token bytes at end e le = stretch_open is_run (Run token) token bytes at end (λ rest. refl) e le

pub comment_ended : (bytes : List ℕ) (at end : ℕ) → end ≡ at + stretch is_in_comment (drop at bytes) → end ≤ length bytes → end ≢ length bytes
    → LooksAhead Comment at (drop at bytes) (Whole (record { token = tokens.Gap; end = end }))
comment_ended bytes at end e le other = stretch_ended is_in_comment Comment tokens.Gap bytes at end (λ rest. refl) e le other

pub comment_open : (bytes : List ℕ) (at end : ℕ) → end ≡ at + stretch is_in_comment (drop at bytes) → end ≡ length bytes → LooksAhead Comment at (drop at bytes) (Within Comment)
comment_open bytes at end e le = stretch_open is_in_comment Comment tokens.Gap bytes at end (λ rest. refl) e le

-- ---- a Text

text_shift : (bytes rest : List ℕ) (n k m : ℕ) (o : Option ℕ) → m ≡ n + k → length bytes ≡ m + length rest → text_token 0 bytes (add_length m o) ≡ longer n (text_token k rest o)
unfolding add_length
text_shift bytes rest n k m None e long = same_size tokens.Unfinished (0 + length bytes) (n + (k + length rest)) (omega (arith, e, long))
text_shift bytes rest n k m (Some i) e long = same_size (tokens.Leaf kinds.Text) (0 + (m + i)) (n + (k + i)) (omega (arith, e))

quoted_shift : (bytes rest : List ℕ) (n k m : ℕ) → quoted_length bytes ≡ add_length m (quoted_length rest) → m ≡ n + k → length bytes ≡ m + length rest → quoted_token 0 bytes ≡ longer n (quoted_token k rest)
quoted_shift bytes rest n k m is e long = ap (text_token 0 bytes) is ∙ text_shift bytes rest n k m (quoted_length rest) e long

-- the Text that goes on at the first index goes on at the second one, so many bytes later
abbrev pub SameText : List ℕ → ℕ → ℕ → Type 0
SameText bytes from at = (following : List ℕ) → quoted_length (drop from bytes ++ following) ≡ add_length (at - from) (quoted_length (drop at bytes ++ following))

pub text_ended : (bytes : List ℕ) (from at end : ℕ) → from ≤ at → at < end → end ≤ length bytes → ((following : List ℕ) → quoted_length (drop at bytes ++ following) ≡ Some (end - at)) → SameText bytes from at
    → LooksAhead Text from (drop from bytes) (Whole (record { token = tokens.Leaf kinds.Text; end = end }))
unfolding LooksAhead add_length
text_ended bytes from at end low lt high is same = (
  omega (arith, low, lt),
  omega (arith, length-drop from bytes, low, lt, high),
  λ following.
      ap (text_token 0 (drop from bytes ++ following)) (same following ∙ ap (add_length (at - from)) (is following))
      ∙ same_size (tokens.Leaf kinds.Text) (0 + (at - from + (end - at))) (end - from) (omega (arith, low, lt)),
)

escape_by : (bytes following : List ℕ) (n b : ℕ) → b ≡ 92 → length bytes ≡ n → quoted_length (bytes ++ following) ≡ add_length (n - 1) (quoted_length (b ∷ following)) → 0 < n
    → resumed Text (bytes ++ following) ≡ longer n (resumed Escape following)
unfolding add_length
escape_by bytes [] n b e long is some =
    ap (text_token 0 (bytes ++ [])) (is ∙ ap (add_length (n - 1)) (quoted_last b (omega (arith, e)))) ∙ same_size tokens.Unfinished (0 + length (bytes ++ [])) (n + 0) (omega (arith, long, length-append bytes []))
escape_by bytes (c ∷ following) n b e long is some =
    let rest = quoted_length following in
    quoted_shift (bytes ++ c ∷ following) following n 1 (n + 1)
    (is ∙ ap (add_length (n - 1)) (quoted_taken b c following e ∙ add_two_length rest) ∙ add_twice (n - 1) 2 (n + 1) rest (omega (arith, some)))
    refl (omega (arith, long, length-append bytes (c ∷ following)))

pub text_escaped : (bytes : List ℕ) (from at place : ℕ) → from ≤ at → at ≤ place → place + 1 ≡ length bytes → get_or bytes place 0 ≡ 92
    → ((following : List ℕ) → quoted_length (drop at bytes ++ following) ≡ add_length (place - at) (quoted_length (get_or bytes place 0 ∷ following))) → SameText bytes from at
    → LooksAhead Text from (drop from bytes) (Within Escape)
unfolding LooksAhead
text_escaped bytes from at place low le last_one e is same following =
    let long = length-drop from bytes in
    escape_by (drop from bytes) following (length (drop from bytes)) (get_or bytes place 0) e refl
    (same following ∙ ap (add_length (at - from)) (is following)
    ∙ add_twice (at - from) (place - at) (length (drop from bytes) - 1) (quoted_length (get_or bytes place 0 ∷ following)) (omega (arith, long, low, le, last_one)))
    (omega (arith, long, low, le, last_one))

pub text_open : (bytes : List ℕ) (from at : ℕ) → from ≤ at → at ≤ length bytes
    → ((following : List ℕ) → quoted_length (drop at bytes ++ following) ≡ add_length (length (drop at bytes)) (quoted_length following)) → SameText bytes from at
    → LooksAhead Text from (drop from bytes) (Within Text)
unfolding LooksAhead
text_open bytes from at low high is same following =
    let long = length-drop from bytes in
    let left = length-drop at bytes in
    quoted_shift (drop from bytes ++ following) following (length (drop from bytes)) 0 (length (drop from bytes))
    (same following ∙ ap (add_length (at - from)) (is following) ∙ add_twice (at - from) (length (drop at bytes)) (length (drop from bytes)) (quoted_length following) (omega (arith, long, left, low, high)))
    (omega arith) (length-append (drop from bytes) following)

pub same_text_begin : (bytes : List ℕ) (from : ℕ) → SameText bytes from from
same_text_begin bytes from following =
    let none_yet : 0 ≡ from - from = omega arith in
    let o = quoted_length (drop from bytes ++ following) in
    sym (add_zero o) ∙ ap (λ (n : ℕ). add_length n o) none_yet

pub same_text_on : (bytes : List ℕ) (from at next : ℕ) → from ≤ at → at ≤ next → ((following : List ℕ) → quoted_length (drop at bytes ++ following) ≡ add_length (next - at) (quoted_length (drop next bytes ++ following)))
    → SameText bytes from at → SameText bytes from next
same_text_on bytes from at next low le is same following =
    same following ∙ ap (add_length (at - from)) (is following) ∙ add_twice (at - from) (next - at) (next - from) (quoted_length (drop next bytes ++ following)) (omega (arith, low, le))

-- ---- what each byte makes

-- with one byte more before it, a Text is one byte longer
text_longer : (opening : ℕ) (bytes : List ℕ) → quoted_token (1 + opening) bytes ≡ longer 1 (quoted_token opening bytes)
text_longer opening bytes = longer_by (quoted_length bytes) where
  longer_by : (o : Option ℕ) → text_token (1 + opening) bytes o ≡ longer 1 (text_token opening bytes o)
  longer_by None = same_size tokens.Unfinished (1 + opening + length bytes) (1 + (opening + length bytes)) (omega arith)
  longer_by (Some n) = same_size (tokens.Leaf kinds.Text) (1 + opening + n) (1 + (opening + n)) (omega arith)

text_same : (n m : ℕ) (bytes : List ℕ) → n ≡ m → quoted_token n bytes ≡ quoted_token m bytes
text_same n m bytes e = ap (λ (k : ℕ). quoted_token k bytes) e

pub escape_next : (bytes : List ℕ) (at : ℕ) (ahead : Ahead) → at < length bytes → LooksAhead Text (at + 1) (drop (at + 1) bytes) ahead → LooksAhead Escape at (drop at bytes) ahead
escape_next bytes at ahead lt is = ahead_next Escape Text bytes at ahead lt (λ rest. text_same 1 (1 + 0) rest (omega arith) ∙ text_longer 0 rest) is

hash_byte : (b : ℕ) (rest : List ℕ) (class : ByteClass) → class_of b ≡ class → resumed Hash (b ∷ rest) ≡ less_one (hash_token class b rest)
hash_byte b rest class e = ap less_one (hash_by b rest class e)

run_size : (token : Token) (n m : ℕ) → n ≡ 1 + m → ◌≡◌ {A = Token × ℕ} (token, n) (longer 1 (token, m))
run_size token n m e = same_size token n (1 + m) e

pub hashed_next : (bytes : List ℕ) (at : ℕ) (ahead : Ahead) → at < length bytes → class_of (get_or bytes at 0) ≡ classes.Hash
    → LooksAhead (Run (tokens.Leaf kinds.Atom)) (at + 1) (drop (at + 1) bytes) ahead → LooksAhead Hash at (drop at bytes) ahead
hashed_next bytes at ahead lt e is =
    ahead_next Hash (Run (tokens.Leaf kinds.Atom)) bytes at ahead lt
    (λ rest. hash_byte (get_or bytes at 0) rest classes.Hash e ∙ run_size (tokens.Leaf kinds.Atom) (2 + stretch is_run rest - 1) (stretch is_run rest) (omega arith)) is

less_text : (bytes : List ℕ) → less_one (quoted_token 2 bytes) ≡ longer 1 (quoted_token 0 bytes)
less_text bytes = less_by (quoted_length bytes) where
  less_by : (o : Option ℕ) → less_one (text_token 2 bytes o) ≡ longer 1 (text_token 0 bytes o)
  less_by None = same_size tokens.Unfinished (2 + length bytes - 1) (1 + (0 + length bytes)) (omega arith)
  less_by (Some n) = same_size (tokens.Leaf kinds.Text) (2 + n - 1) (1 + (0 + n)) (omega arith)

pub text_next : (bytes : List ℕ) (at : ℕ) (ahead : Ahead) → at < length bytes → class_of (get_or bytes at 0) ≡ classes.Quote → LooksAhead Text (at + 1) (drop (at + 1) bytes) ahead
    → LooksAhead Hash at (drop at bytes) ahead
text_next bytes at ahead lt e is = ahead_next Hash Text bytes at ahead lt (λ rest. hash_byte (get_or bytes at 0) rest classes.Quote e ∙ less_text rest) is

pub set_next : (bytes : List ℕ) (at end : ℕ) → at < length bytes → class_of (get_or bytes at 0) ≡ classes.Opens Curly → end ≡ at + 1
    → LooksAhead Hash at (drop at bytes) (Whole (record { token = tokens.Opens openers.Set; end = end }))
set_next bytes at end lt e place =
    ahead_one Hash bytes at (record { token = tokens.Opens openers.Set; end = end }) lt
    (λ rest. hash_byte (get_or bytes at 0) rest (classes.Opens Curly) e) place

pub discard_next : (bytes : List ℕ) (at end : ℕ) → at < length bytes → get_or bytes at 0 ≡ 95 → end ≡ at + 1
    → LooksAhead Hash at (drop at bytes) (Whole (record { token = tokens.Opens openers.Discard; end = end }))
discard_next bytes at end lt e place =
    let test : eqb (get_or bytes at 0) 95 ≡ true = grind (arith, nat_tests) in
    ahead_one Hash bytes at (record { token = tokens.Opens openers.Discard; end = end }) lt
    (λ rest. hash_byte (get_or bytes at 0) rest classes.Plain (ap class_of e ∙ underscore)
    ∙ ap (λ (t : Bool). less_one (cond t (tokens.Opens openers.Discard, 2) (tag_token (get_or bytes at 0 ∷ rest)))) test) place

-- the run of a tag begins with the byte that decides that it is one
pub tag_next : (bytes : List ℕ) (at : ℕ) (ahead : Ahead) → at < length bytes → class_of (get_or bytes at 0) ≢ classes.Hash → class_of (get_or bytes at 0) ≢ classes.Quote
    → class_of (get_or bytes at 0) ≢ classes.Opens Curly → get_or bytes at 0 ≢ 95 → LooksAhead (Run (tokens.Opens openers.Tag)) at (drop at bytes) ahead → LooksAhead Hash at (drop at bytes) ahead
unfolding LooksAhead
tag_next bytes at ahead lt u v w x is = tag_by ahead is where
  same : (more : List ℕ) → resumed Hash (drop at bytes ++ more) ≡ resumed (Run (tokens.Opens openers.Tag)) (drop at bytes ++ more)
  same more =
      let b = get_or bytes at 0 in
      let rest = drop (at + 1) bytes ++ more in
      ap (resumed Hash) (here_more bytes more at lt) ∙ hash_byte b rest (class_of b) refl ∙ ap less_one (tagged_by (class_of b) b rest u v w x)
      ∙ same_size (tokens.Opens openers.Tag) (1 + stretch is_run (b ∷ rest) - 1) (stretch is_run (b ∷ rest)) (omega arith)
      ∙ ap (resumed (Run (tokens.Opens openers.Tag))) (sym (here_more bytes more at lt))

  tag_by : (a : Ahead) → LooksAhead (Run (tokens.Opens openers.Tag)) at (drop at bytes) a → LooksAhead Hash at (drop at bytes) a
  tag_by (Whole found) k = (k.0, k.1, λ more. same more ∙ k.2 more)
  tag_by (Within later) k = λ more. same more ∙ k more

pub character_next : (bytes : List ℕ) (at : ℕ) (ahead : Ahead) → at < length bytes → LooksAhead (Run (tokens.Leaf kinds.Char)) (at + 1) (drop (at + 1) bytes) ahead
    → LooksAhead Backslash at (drop at bytes) ahead
character_next bytes at ahead lt is = ahead_next Backslash (Run (tokens.Leaf kinds.Char)) bytes at ahead lt (λ rest. refl) is

-- ---- what begins

begins : (part : Part) (bytes : List ℕ) (at : ℕ) (ahead : Ahead) (class : ByteClass) → at < length bytes → class_of (get_or bytes at 0) ≡ class
    → ((rest : List ℕ) → class_token class rest ≡ longer 1 (resumed part rest)) → LooksAhead part (at + 1) (drop (at + 1) bytes) ahead → LooksAhead Nothing at (drop at bytes) ahead
begins part bytes at ahead class lt e moves is = ahead_next Nothing part bytes at ahead lt (λ rest. lexed_by (get_or bytes at 0) rest class e ∙ moves rest) is

one_begins : (bytes : List ℕ) (at end : ℕ) (token : Token) (class : ByteClass) → at < length bytes → class_of (get_or bytes at 0) ≡ class
    → ((rest : List ℕ) → class_token class rest ≡ (token, 1)) → end ≡ at + 1 → LooksAhead Nothing at (drop at bytes) (Whole (record { token = token; end = end }))
one_begins bytes at end token class lt e makes place =
    ahead_one Nothing bytes at (record { token = token; end = end }) lt (λ rest. lexed_by (get_or bytes at 0) rest class e ∙ makes rest) place

pub atom_begins : (bytes : List ℕ) (at : ℕ) (ahead : Ahead) → at < length bytes → class_of (get_or bytes at 0) ≡ classes.Plain
    → LooksAhead (Run (tokens.Leaf kinds.Atom)) (at + 1) (drop (at + 1) bytes) ahead → LooksAhead Nothing at (drop at bytes) ahead
atom_begins bytes at ahead lt e is = begins (Run (tokens.Leaf kinds.Atom)) bytes at ahead classes.Plain lt e (λ rest. refl) is

pub plain_begins : (bytes : List ℕ) (at : ℕ) (ahead : Ahead) → at < length bytes → is_plain (get_or bytes at 0) ≡ true
    → LooksAhead (Run (tokens.Leaf kinds.Atom)) (at + 1) (drop (at + 1) bytes) ahead → LooksAhead Nothing at (drop at bytes) ahead
plain_begins bytes at ahead lt e is = atom_begins bytes at ahead lt (plain_class (class_of (get_or bytes at 0)) e) is

pub gap_begins : (bytes : List ℕ) (at end : ℕ) → at < length bytes → class_of (get_or bytes at 0) ≡ classes.White → end ≡ at + 1
    → LooksAhead Nothing at (drop at bytes) (Whole (record { token = tokens.Gap; end = end }))
gap_begins bytes at end lt e place = one_begins bytes at end tokens.Gap classes.White lt e (λ rest. refl) place

pub white_begins : (bytes : List ℕ) (at end : ℕ) → at < length bytes → is_white (get_or bytes at 0) ≡ true → end ≡ at + 1
    → LooksAhead Nothing at (drop at bytes) (Whole (record { token = tokens.Gap; end = end }))
white_begins bytes at end lt e place = gap_begins bytes at end lt (white_class (class_of (get_or bytes at 0)) e) place

less_longer : (x : Token × ℕ) → 0 < x.1 → x ≡ longer 1 (less_one x)
less_longer (token, n) some = same_size token n (1 + (n - 1)) (omega (arith, some))

hash_some : (bytes : List ℕ) → 0 < (after_hash bytes).1
hash_some bytes = let fits = fits_after_hash bytes in fits.some

pub hash_begins : (bytes : List ℕ) (at : ℕ) (ahead : Ahead) → at < length bytes → class_of (get_or bytes at 0) ≡ classes.Hash → LooksAhead Hash (at + 1) (drop (at + 1) bytes) ahead
    → LooksAhead Nothing at (drop at bytes) ahead
hash_begins bytes at ahead lt e is = begins Hash bytes at ahead classes.Hash lt e (λ rest. less_longer (after_hash rest) (hash_some rest)) is

backslash_moves : (rest : List ℕ) → after_backslash rest ≡ longer 1 (resumed Backslash rest)
unfolding after_backslash
backslash_moves [] = refl
backslash_moves (b ∷ rest) = same_size (tokens.Leaf kinds.Char) (2 + stretch is_run rest) (1 + (1 + stretch is_run rest)) (omega arith)

pub backslash_begins : (bytes : List ℕ) (at : ℕ) (ahead : Ahead) → at < length bytes → class_of (get_or bytes at 0) ≡ classes.Backslash → LooksAhead Backslash (at + 1) (drop (at + 1) bytes) ahead
    → LooksAhead Nothing at (drop at bytes) ahead
backslash_begins bytes at ahead lt e is = begins Backslash bytes at ahead classes.Backslash lt e backslash_moves is

pub comment_begins : (bytes : List ℕ) (at : ℕ) (ahead : Ahead) → at < length bytes → class_of (get_or bytes at 0) ≡ classes.Semicolon → LooksAhead Comment (at + 1) (drop (at + 1) bytes) ahead
    → LooksAhead Nothing at (drop at bytes) ahead
comment_begins bytes at ahead lt e is = begins Comment bytes at ahead classes.Semicolon lt e (λ rest. refl) is

pub text_begins : (bytes : List ℕ) (at : ℕ) (ahead : Ahead) → at < length bytes → class_of (get_or bytes at 0) ≡ classes.Quote → LooksAhead Text (at + 1) (drop (at + 1) bytes) ahead
    → LooksAhead Nothing at (drop at bytes) ahead
text_begins bytes at ahead lt e is = begins Text bytes at ahead classes.Quote lt e (λ rest. text_same 1 (1 + 0) rest (omega arith) ∙ text_longer 0 rest) is

pub opens_here : (bytes : List ℕ) (at end : ℕ) (bracket : Bracket) → at < length bytes → class_of (get_or bytes at 0) ≡ classes.Opens bracket → end ≡ at + 1
    → LooksAhead Nothing at (drop at bytes) (Whole (record { token = tokens.Opens (opener_of bracket); end = end }))
opens_here bytes at end bracket lt e place = one_begins bytes at end (tokens.Opens (opener_of bracket)) (classes.Opens bracket) lt e (λ rest. refl) place

pub closes_here : (bytes : List ℕ) (at end : ℕ) (bracket : Bracket) → at < length bytes → class_of (get_or bytes at 0) ≡ classes.Closes bracket → end ≡ at + 1
    → LooksAhead Nothing at (drop at bytes) (Whole (record { token = tokens.Closes bracket; end = end }))
closes_here bytes at end bracket lt e place = one_begins bytes at end (tokens.Closes bracket) (classes.Closes bracket) lt e (λ rest. refl) place

-- ---- the whole token

-- a token that ends within the bytes is the one that the part makes, whatever follows them
pub ahead_whole : (part : Part) (at : ℕ) (bytes : List ℕ) (found : Found) → LooksAhead part at bytes (Whole found)
    → (at ≤ found.end) × (found.end ≤ at + length bytes) × ((more : List ℕ) → resumed part (bytes ++ more) ≡ (found.token, found.end - at))
unfolding LooksAhead
ahead_whole part at bytes found is = is

pub ahead_within : (part : Part) (at : ℕ) (bytes : List ℕ) (later : Part) → LooksAhead part at bytes (Within later)
    → (more : List ℕ) → resumed part (bytes ++ more) ≡ longer (length bytes) (resumed later more)
unfolding LooksAhead
ahead_within part at bytes later is = is

-- every part takes a run byte that follows it
pub one_taken : (part : Part) → (resumed part (97 ∷ [])).1 ≡ 1
unfolding lexed class_of stretch quoted_length after_hash
one_taken Nothing = refl
one_taken Comment = refl
one_taken (Run token) = refl
one_taken Text = refl
one_taken Escape = refl
one_taken Hash = refl
one_taken Backslash = refl

-- so a chunk in which a token ends that began before it is not empty
pub piece_some : (piece : List ℕ) (part : Part) (found : Found) → LooksAhead part 0 (drop 0 piece) (Whole found) → 0 < length piece
piece_some [] part found is =
    let k = ahead_whole part 0 [] found is in
    let one = ap (λ (x : Token × ℕ). x.1) (k.2 (97 ∷ [])) in
    absurd (omega (arith, k.1, one, one_taken part))
piece_some (b ∷ piece) part found is = omega arith

-- what a part makes where nothing follows
pub resumed_last : (part : Part) → resumed part [] ≡ (last part, 0)
unfolding stretch
resumed_last Nothing = lexed_nothing
resumed_last Comment = refl
resumed_last (Run token) = refl
resumed_last Text = ap (text_token 0 []) quoted_nothing
resumed_last Escape = refl
resumed_last Hash = ap less_one hash_alone
resumed_last Backslash = refl

-- a token that ends within the bytes is the one that they have at the index
pub found_whole : (bytes : List ℕ) (at : ℕ) (found : Found) → at < length bytes → LooksAhead Nothing at (drop at bytes) (Whole found)
    → (found ≡ found_at at (lexed (drop at bytes))) × (found.end ≤ length bytes) × (at < found.end)
found_whole bytes at found lt is =
    let k = ahead_whole Nothing at (drop at bytes) found is in
    let long = length-drop at bytes in
    let here : lexed (drop at bytes) ≡ (found.token, found.end - at) = ap lexed (sym (append-nil (drop at bytes))) ∙ k.2 [] in
    let some = lexed_some (drop at bytes) (omega (arith, long, lt)) in
    let size : (lexed (drop at bytes)).1 ≡ found.end - at = ap (λ (x : Token × ℕ). x.1) here in (
      found_is at found.end (lexed (drop at bytes)) found.token (found.end - at) here (omega (arith, k.0)),
      omega (arith, k.1, long, lt),
      omega (arith, some, size),
    )

pub found_last : (bytes : List ℕ) (at : ℕ) (part : Part) (token : Token) → at < length bytes → LooksAhead Nothing at (drop at bytes) (Within part) → token ≡ last part
    → ◌≡◌ {A = Found} (record { token = token; end = length bytes }) (found_at at (lexed (drop at bytes)))
found_last bytes at part token lt is e =
    let k = ahead_within Nothing at (drop at bytes) part is in
    let here : lexed (drop at bytes) ≡ (last part, length (drop at bytes) + 0) =
    ap lexed (sym (append-nil (drop at bytes))) ∙ k [] ∙ ap (longer (length (drop at bytes))) (resumed_last part) in
    found_is at (length bytes) (lexed (drop at bytes)) token (length (drop at bytes) + 0) (here ∙ ap (λ (t : Token). (t, length (drop at bytes) + 0)) (sym e)) (omega (arith, length-drop at bytes, lt))
