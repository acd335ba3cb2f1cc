-- Tokens: the function that finds them (`lexed`) and the grammar (`IsToken`) agree, each way.
use Rattle.std.proofs.Common.{◌≡◌, ◌≢◌, ℕ, suc, ◌+◌, ◌<◌, ◌≤◌, Bool, true, false, cond, eqb, List, [], ◌∷◌, ◌++◌, length, get_or, drop, Option, Some, None, refl, sym, ap, subst, ◌∙◌, arith}
use Rattle.std.proofs.lemmas.Bool.Decides.{nat_tests}
use Rattle.edn_reader.specs.declared.bytes.ByteClass.{ByteClass}
use Rattle.edn_reader.specs.declared.bytes.ByteClass.TheVariants.{White, Plain, Hash, Backslash, Semicolon, Quote, Opens, Closes}
use Rattle.edn_reader.specs.declared.bytes.Bracket.TheVariants.{Round, Square, Curly}
use Rattle.edn_reader.specs.declared.element.ElementKind.{ElementKind}
use Rattle.edn_reader.specs.declared.element.ElementKind.TheVariants.{Atom, Char, Text}
use Rattle.edn_reader.specs.declared.token.Found.{Found}
use Rattle.edn_reader.specs.declared.token.Token.{Token}
use Rattle.edn_reader.specs.declared.token.Token.TheVariants.{Gap, Leaf, Opens as Opening, Unfinished}
use Rattle.edn_reader.specs.declared.token.Opener.TheVariants as openers
use Rattle.edn_reader.specs.Bytes.{class_of, is_run, is_plain_class, is_white, is_white_class, is_in_comment, Ends, stretch}
use Rattle.edn_reader.specs.Grammar.{ended, IsTag, IsToken, white, comment, run, hashed, character, text, hash_text, opening, set, discard, tag, close}
use Rattle.edn_reader.specs.Token.{quoted_length, text_token, quoted_token, tag_token, hash_token, after_hash, after_backslash, class_token, lexed, found_at}
use Rattle.edn_reader.proofs.Stretches.{drop_here, stretch_here, stretch_place, stretch_rest, stretch_within, quoted_is, quoted_here, quoted_within, ending}

-- what a derivation of a token says of the function
pub record Lexed (token : Token) (p : ℕ) (a : List ℕ) (q : ℕ) (b : List ℕ) : Type 0 where
  pub token_is : (lexed a).0 ≡ token
  pub place : p + (lexed a).1 ≡ q
  pub rest : drop (lexed a).1 a ≡ b
  pub some : 0 < (lexed a).1

pub lexed_by : (b : ℕ) (bytes : List ℕ) (k : ByteClass) → class_of b ≡ k → lexed (b ∷ bytes) ≡ class_token k bytes
unfolding lexed
lexed_by b bytes k e = ap (λ (c : ByteClass). class_token c bytes) e

pub hash_by : (c : ℕ) (bytes : List ℕ) (k : ByteClass) → class_of c ≡ k → after_hash (c ∷ bytes) ≡ hash_token k c bytes
unfolding after_hash
hash_by c bytes k e = ap (λ (d : ByteClass). hash_token d c bytes) e

pub hash_alone : after_hash [] ≡ (Unfinished, 1)
unfolding after_hash
hash_alone = refl

backslash_by : (c : ℕ) (bytes : List ℕ) → after_backslash (c ∷ bytes) ≡ (Leaf Char, 2 + stretch is_run bytes)
unfolding after_backslash
backslash_by c bytes = refl

quoted_by : (n : ℕ) (bytes : List ℕ) (size : ℕ) → quoted_length bytes ≡ Some size → quoted_token n bytes ≡ (Leaf Text, n + size)
quoted_by n bytes size e = ap (text_token n bytes) e

pub underscore : class_of 95 ≡ Plain
unfolding class_of
underscore = refl

-- a # begins a tag where the byte after it makes nothing else of it
pub tagged_by : (k : ByteClass) (c : ℕ) (bytes : List ℕ) → k ≢ Hash → k ≢ Quote → k ≢ Opens Curly → c ≢ 95 → hash_token k c bytes ≡ tag_token (c ∷ bytes)
tagged_by Hash c bytes u v w x = absurd (u refl)
tagged_by Quote c bytes u v w x = absurd (v refl)
tagged_by (Opens Curly) c bytes u v w x = absurd (w refl)
tagged_by (Opens Round) c bytes u v w x = refl
tagged_by (Opens Square) c bytes u v w x = refl
tagged_by (Closes bracket) c bytes u v w x = refl
tagged_by White c bytes u v w x = refl
tagged_by Semicolon c bytes u v w x = refl
tagged_by Backslash c bytes u v w x = refl
tagged_by Plain c bytes u v w x =
    let test : eqb c 95 ≡ false = grind (arith, nat_tests) in
    ap (λ (t : Bool). cond t (Opening openers.Discard, 2) (tag_token (c ∷ bytes))) test

-- ---- from a derivation to the function

lexed_as : {p q : ℕ} {a b : List ℕ} {t : Token} (n : ℕ) → lexed a ≡ (t, n) → p + n ≡ q → drop n a ≡ b → 0 < n → Lexed t p a q b
lexed_as {p} {q} {a} {b} {t} n e place rest some =
    let long : (lexed a).1 ≡ n = ap (λ (x : Token × ℕ). x.1) e in
    record {
      token_is = ap (λ (x : Token × ℕ). x.0) e;
      place = ap (λ (m : ℕ). p + m) long ∙ place;
      rest = ap (λ (m : ℕ). drop m a) long ∙ rest;
      some = subst (λ (m : ℕ). 0 < m) (sym long) some;
    }

drop_one : (b n : ℕ) (bytes : List ℕ) → drop (1 + n) (b ∷ bytes) ≡ drop n bytes
drop_one b n bytes = let e : 1 + n ≡ suc n = omega arith in ap (λ (m : ℕ). drop m (b ∷ bytes)) e

drop_two : (b c n : ℕ) (bytes : List ℕ) → drop (2 + n) (b ∷ c ∷ bytes) ≡ drop n bytes
drop_two b c n bytes = let e : 2 + n ≡ suc (suc n) = omega arith in ap (λ (m : ℕ). drop m (b ∷ c ∷ bytes)) e

pub lexed_token : {t : Token} {p q : ℕ} {a b : List ℕ} → IsToken t p a q b → Lexed t p a q b
lexed_token (white {b = b} {rest = rest} e) = lexed_as 1 (lexed_by b rest White e) (omega arith) refl (omega arith)
lexed_token (comment {b = b} {bytes = bytes} e g) =
    let n = stretch is_in_comment bytes in
    lexed_as (1 + n) (lexed_by b bytes Semicolon e) (omega (arith, stretch_place g)) (drop_one b n bytes ∙ stretch_rest g) (omega arith)
lexed_token (run {b = b} {bytes = bytes} e g) =
    let n = stretch is_run bytes in
    lexed_as (1 + n) (lexed_by b bytes Plain e) (omega (arith, stretch_place g)) (drop_one b n bytes ∙ stretch_rest g) (omega arith)
lexed_token (hashed {b = b} {c = c} {bytes = bytes} e f g) =
    let n = stretch is_run bytes in
    lexed_as (2 + n) (lexed_by b (c ∷ bytes) Hash e ∙ hash_by c bytes Hash f) (omega (arith, stretch_place g)) (drop_two b c n bytes ∙ stretch_rest g) (omega arith)
lexed_token (character {b = b} {c = c} {bytes = bytes} e g) =
    let n = stretch is_run bytes in
    lexed_as (2 + n) (lexed_by b (c ∷ bytes) Backslash e ∙ backslash_by c bytes) (omega (arith, stretch_place g)) (drop_two b c n bytes ∙ stretch_rest g) (omega arith)
lexed_token (text {b = b} {bytes = bytes} e g) =
    let h = quoted_is g in
    lexed_as (1 + h.size) (lexed_by b bytes Quote e ∙ quoted_by 1 bytes h.size h.is) (omega (arith, h.place)) (drop_one b h.size bytes ∙ h.rest) (omega arith)
lexed_token (hash_text {b = b} {c = c} {bytes = bytes} e f g) =
    let h = quoted_is g in
    lexed_as (2 + h.size) (lexed_by b (c ∷ bytes) Hash e ∙ (hash_by c bytes Quote f ∙ quoted_by 2 bytes h.size h.is)) (omega (arith, h.place)) (drop_two b c h.size bytes ∙ h.rest) (omega arith)
lexed_token (opening {b = b} {rest = rest} {bracket = bracket} e) = lexed_as 1 (lexed_by b rest (Opens bracket) e) (omega arith) refl (omega arith)
lexed_token (set {b = b} {c = c} {rest = rest} e f) = lexed_as 2 (lexed_by b (c ∷ rest) Hash e ∙ hash_by c rest (Opens Curly) f) (omega arith) refl (omega arith)
lexed_token (discard {b = b} {c = c} {rest = rest} e f) =
    let kind : class_of c ≡ Plain = ap class_of f ∙ underscore in
    let test : eqb c 95 ≡ true = grind (arith, nat_tests) in
    let token = ap (λ (t : Bool). cond t (Opening openers.Discard, 2) (tag_token (c ∷ rest))) test in
    lexed_as 2 (lexed_by b (c ∷ rest) Hash e ∙ (hash_by c rest Plain kind ∙ token)) (omega arith) refl (omega arith)
lexed_token (tag {bytes = []} e i g) = absurd i
lexed_token (tag {b = b} {bytes = c ∷ bytes} e i g) =
    let n = stretch is_run (c ∷ bytes) in
    let token = hash_by c bytes (class_of c) refl ∙ tagged_by (class_of c) c bytes i.0 i.1 i.2 i.3 in
    lexed_as (1 + n) (lexed_by b (c ∷ bytes) Hash e ∙ token) (omega (arith, stretch_place g)) (drop_one b n (c ∷ bytes) ∙ stretch_rest g) (omega arith)
lexed_token (close {b = b} {rest = rest} {bracket = bracket} e) = lexed_as 1 (lexed_by b rest (Closes bracket) e) (omega arith) refl (omega arith)

-- ---- from the function to a derivation

-- the token that was found is one by the grammar
abbrev IsFound : ℕ → List ℕ → Token × ℕ → Type 0
IsFound p a x = IsToken x.0 p a (p + x.1) (drop x.1 a)

found_as : {t : Token} {p q : ℕ} {a b : List ℕ} (n : ℕ) → IsToken t p a q b → q ≡ p + n → b ≡ drop n a → IsFound p a (t, n)
found_as {t} {p} {q} {a} {b} n d place rest = subst (λ (left : List ℕ). IsToken t p a (p + n) left) rest (subst (λ (after : ℕ). IsToken t p a after b) place d)

found_text : (p b : ℕ) (bytes : List ℕ) (o : Option ℕ) → class_of b ≡ Quote → quoted_length bytes ≡ o → (text_token 1 bytes o).0 ≢ Unfinished → IsFound p (b ∷ bytes) (text_token 1 bytes o)
found_text p b bytes None e f u = absurd (u refl)
found_text p b bytes (Some n) e f u = found_as (1 + n) (text e (quoted_here (suc p) bytes n f)) (omega arith) (sym (drop_one b n bytes))

found_hash_text : (p b c : ℕ) (bytes : List ℕ) (o : Option ℕ) → class_of b ≡ Hash → class_of c ≡ Quote → quoted_length bytes ≡ o → (text_token 2 bytes o).0 ≢ Unfinished → IsFound p (b ∷ c ∷ bytes) (text_token 2 bytes o)
found_hash_text p b c bytes None e k f u = absurd (u refl)
found_hash_text p b c bytes (Some n) e k f u = found_as (2 + n) (hash_text e k (quoted_here (suc (suc p)) bytes n f)) (omega arith) (sym (drop_two b c n bytes))

found_tag : (p b : ℕ) (bytes : List ℕ) → class_of b ≡ Hash → IsTag bytes → IsFound p (b ∷ bytes) (tag_token bytes)
found_tag p b bytes e i =
    let n = stretch is_run bytes in
    found_as (1 + n) (tag e i (stretch_here is_run (suc p) bytes)) (omega arith) (sym (drop_one b n bytes))

-- a byte whose class makes nothing else of a # makes it a tag
is_tag : (c : ℕ) (bytes : List ℕ) (k : ByteClass) → class_of c ≡ k → k ≢ Hash → k ≢ Quote → k ≢ Opens Curly → k ≢ Plain → IsTag (c ∷ bytes)
is_tag c bytes k e u v w x = (λ h. u (sym e ∙ h), λ h. v (sym e ∙ h), λ h. w (sym e ∙ h), λ h. x (sym e ∙ (ap class_of h ∙ underscore)))

found_plain : (p b c : ℕ) (bytes : List ℕ) (t : Bool) → class_of b ≡ Hash → class_of c ≡ Plain → eqb c 95 ≡ t → IsFound p (b ∷ c ∷ bytes) (cond t (Opening openers.Discard, 2) (tag_token (c ∷ bytes)))
found_plain p b c bytes true e k f =
    let same : c ≡ 95 = grind (arith, nat_tests) in
    found_as 2 (discard e same) (omega arith) refl
found_plain p b c bytes false e k f =
    let differs : c ≢ 95 = grind (arith, nat_tests) in
    let one : class_of c ≢ Hash = λ h. let both : Plain ≡ Hash = sym k ∙ h in cc in
    let two : class_of c ≢ Quote = λ h. let both : Plain ≡ Quote = sym k ∙ h in cc in
    let three : class_of c ≢ Opens Curly = λ h. let both : Plain ≡ Opens Curly = sym k ∙ h in cc in
    found_tag p b (c ∷ bytes) e (one, two, three, differs)

found_hash : (p b c : ℕ) (bytes : List ℕ) (k : ByteClass) → class_of b ≡ Hash → class_of c ≡ k → (hash_token k c bytes).0 ≢ Unfinished → IsFound p (b ∷ c ∷ bytes) (hash_token k c bytes)
found_hash p b c bytes Hash e f u =
    let n = stretch is_run bytes in
    found_as (2 + n) (hashed e f (stretch_here is_run (suc (suc p)) bytes)) (omega arith) (sym (drop_two b c n bytes))
found_hash p b c bytes Quote e f u = found_hash_text p b c bytes (quoted_length bytes) e f refl u
found_hash p b c bytes (Opens Curly) e f u = found_as 2 (set e f) (omega arith) refl
found_hash p b c bytes (Opens Round) e f u = found_tag p b (c ∷ bytes) e (is_tag c bytes (Opens Round) f (λ h. cc) (λ h. cc) (λ h. cc) (λ h. cc))
found_hash p b c bytes (Opens Square) e f u = found_tag p b (c ∷ bytes) e (is_tag c bytes (Opens Square) f (λ h. cc) (λ h. cc) (λ h. cc) (λ h. cc))
found_hash p b c bytes (Closes bracket) e f u = found_tag p b (c ∷ bytes) e (is_tag c bytes (Closes bracket) f (λ h. cc) (λ h. cc) (λ h. cc) (λ h. cc))
found_hash p b c bytes White e f u = found_tag p b (c ∷ bytes) e (is_tag c bytes White f (λ h. cc) (λ h. cc) (λ h. cc) (λ h. cc))
found_hash p b c bytes Semicolon e f u = found_tag p b (c ∷ bytes) e (is_tag c bytes Semicolon f (λ h. cc) (λ h. cc) (λ h. cc) (λ h. cc))
found_hash p b c bytes Backslash e f u = found_tag p b (c ∷ bytes) e (is_tag c bytes Backslash f (λ h. cc) (λ h. cc) (λ h. cc) (λ h. cc))
found_hash p b c bytes Plain e f u = found_plain p b c bytes (eqb c 95) e f refl

found_after_hash : (p b : ℕ) (bytes : List ℕ) → class_of b ≡ Hash → (after_hash bytes).0 ≢ Unfinished → IsFound p (b ∷ bytes) (after_hash bytes)
unfolding after_hash
found_after_hash p b [] e u = absurd (u refl)
found_after_hash p b (c ∷ bytes) e u = found_hash p b c bytes (class_of c) e refl u

found_after_backslash : (p b : ℕ) (bytes : List ℕ) → class_of b ≡ Backslash → (after_backslash bytes).0 ≢ Unfinished → IsFound p (b ∷ bytes) (after_backslash bytes)
unfolding after_backslash
found_after_backslash p b [] e u = absurd (u refl)
found_after_backslash p b (c ∷ bytes) e u =
    let n = stretch is_run bytes in
    found_as (2 + n) (character e (stretch_here is_run (suc (suc p)) bytes)) (omega arith) (sym (drop_two b c n bytes))

found_class : (p b : ℕ) (bytes : List ℕ) (k : ByteClass) → class_of b ≡ k → (class_token k bytes).0 ≢ Unfinished → IsFound p (b ∷ bytes) (class_token k bytes)
found_class p b bytes White e u = found_as 1 (white e) (omega arith) refl
found_class p b bytes Plain e u =
    let n = stretch is_run bytes in
    found_as (1 + n) (run e (stretch_here is_run (suc p) bytes)) (omega arith) (sym (drop_one b n bytes))
found_class p b bytes Hash e u = found_after_hash p b bytes e u
found_class p b bytes Backslash e u = found_after_backslash p b bytes e u
found_class p b bytes Semicolon e u =
    let n = stretch is_in_comment bytes in
    found_as (1 + n) (comment e (stretch_here is_in_comment (suc p) bytes)) (omega arith) (sym (drop_one b n bytes))
found_class p b bytes Quote e u = found_text p b bytes (quoted_length bytes) e refl u
found_class p b bytes (Opens bracket) e u = found_as 1 (opening e) (omega arith) refl
found_class p b bytes (Closes bracket) e u = found_as 1 (close e) (omega arith) refl

found_here : (p : ℕ) (a : List ℕ) → (lexed a).0 ≢ Unfinished → IsFound p a (lexed a)
unfolding lexed
found_here p [] u = absurd (u refl)
found_here p (b ∷ bytes) u = found_class p b bytes (class_of b) refl u

-- a token that the function finds, unless it is unfinished, is one by the grammar
pub token_lexed : (p : ℕ) (a : List ℕ) (t : Token) → (lexed a).0 ≡ t → t ≢ Unfinished → IsToken t p a (p + (lexed a).1) (drop (lexed a).1 a)
token_lexed p a t e u = subst (λ (token : Token). IsToken token p a (p + (lexed a).1) (drop (lexed a).1 a)) e (found_here p a (λ h. u (sym e ∙ h)))

-- ---- how long a token is

-- a token takes a byte or more and at most so many, and all of them where it is unfinished
pub record Fits (n : ℕ) (x : Token × ℕ) : Type 0 where
  pub within : x.1 ≤ n
  pub some : 0 < x.1
  pub all : x.0 ≡ Unfinished → x.1 ≡ n

fits_text : (opened : ℕ) (bytes : List ℕ) (o : Option ℕ) → 0 < opened → quoted_length bytes ≡ o → Fits (opened + length bytes) (text_token opened bytes o)
fits_text opened bytes None some e = record { within = omega arith; some = omega arith; all = λ h. refl }
fits_text opened bytes (Some n) some e = record { within = omega (arith, quoted_within bytes n e); some = omega arith; all = λ h. absurd cc }

-- any token but an unfinished one
fits_token : (n size : ℕ) (token : Token) → size ≤ n → 0 < size → token ≢ Unfinished → Fits n (token, size)
fits_token n size token within some u = record { within = within; some = some; all = λ h. absurd (u h) }

fits_plain : (c : ℕ) (bytes : List ℕ) (t : Bool) → Fits (2 + length bytes) (cond t (Opening openers.Discard, 2) (tag_token (c ∷ bytes)))
fits_plain c bytes true = fits_token _ _ _ (omega arith) (omega arith) (λ h. cc)
fits_plain c bytes false = fits_token _ _ _ (omega (arith, stretch_within is_run (c ∷ bytes))) (omega arith) (λ h. cc)

fits_after : (c : ℕ) (bytes : List ℕ) → Fits (2 + length bytes) (tag_token (c ∷ bytes))
fits_after c bytes = fits_plain c bytes false

fits_hash : (k : ByteClass) (c : ℕ) (bytes : List ℕ) → Fits (2 + length bytes) (hash_token k c bytes)
fits_hash Hash c bytes = fits_token _ _ _ (omega (arith, stretch_within is_run bytes)) (omega arith) (λ h. cc)
fits_hash Quote c bytes = fits_text 2 bytes (quoted_length bytes) (omega arith) refl
fits_hash (Opens Curly) c bytes = fits_token _ _ _ (omega arith) (omega arith) (λ h. cc)
fits_hash (Opens Round) c bytes = fits_after c bytes
fits_hash (Opens Square) c bytes = fits_after c bytes
fits_hash (Closes bracket) c bytes = fits_after c bytes
fits_hash White c bytes = fits_after c bytes
fits_hash Semicolon c bytes = fits_after c bytes
fits_hash Backslash c bytes = fits_after c bytes
fits_hash Plain c bytes = fits_plain c bytes (eqb c 95)

pub fits_after_hash : (bytes : List ℕ) → Fits (1 + length bytes) (after_hash bytes)
unfolding after_hash
fits_after_hash [] = record { within = omega arith; some = omega arith; all = λ h. refl }
fits_after_hash (c ∷ bytes) =
    let e : 2 + length bytes ≡ 1 + length (c ∷ bytes) = omega arith in
    subst (λ (n : ℕ). Fits n (hash_token (class_of c) c bytes)) e (fits_hash (class_of c) c bytes)

fits_after_backslash : (bytes : List ℕ) → Fits (1 + length bytes) (after_backslash bytes)
unfolding after_backslash
fits_after_backslash [] = record { within = omega arith; some = omega arith; all = λ h. refl }
fits_after_backslash (c ∷ bytes) = fits_token _ _ _ (omega (arith, stretch_within is_run bytes)) (omega arith) (λ h. cc)

fits_class : (k : ByteClass) (bytes : List ℕ) → Fits (1 + length bytes) (class_token k bytes)
fits_class White bytes = fits_token _ _ _ (omega arith) (omega arith) (λ h. cc)
fits_class Plain bytes = fits_token _ _ _ (omega (arith, stretch_within is_run bytes)) (omega arith) (λ h. cc)
fits_class Hash bytes = fits_after_hash bytes
fits_class Backslash bytes = fits_after_backslash bytes
fits_class Semicolon bytes = fits_token _ _ _ (omega (arith, stretch_within is_in_comment bytes)) (omega arith) (λ h. cc)
fits_class Quote bytes = fits_text 1 bytes (quoted_length bytes) (omega arith) refl
fits_class (Opens bracket) bytes = fits_token _ _ _ (omega arith) (omega arith) (λ h. cc)
fits_class (Closes bracket) bytes = fits_token _ _ _ (omega arith) (omega arith) (λ h. cc)

fits_here : (b : ℕ) (bytes : List ℕ) → Fits (1 + length bytes) (lexed (b ∷ bytes))
unfolding lexed
fits_here b bytes = fits_class (class_of b) bytes

pub lexed_nothing : lexed [] ≡ (Unfinished, 0)
unfolding lexed
lexed_nothing = refl

pub lexed_some : (a : List ℕ) → 0 < length a → 0 < (lexed a).1
lexed_some [] some = absurd (omega arith)
lexed_some (b ∷ bytes) some = (fits_here b bytes).some

-- an unfinished token goes up to the end of the bytes
pub unfinished_long : (a : List ℕ) → (lexed a).0 ≡ Unfinished → (lexed a).1 ≡ length a
unfinished_long [] e = ap (λ (x : Token × ℕ). x.1) lexed_nothing
unfinished_long (b ∷ bytes) e = omega (arith, (fits_here b bytes).all e)

-- ---- how an unfinished token goes on

-- some bytes that make an unfinished token an element without parts when they are added at its end, whatever follows
-- that is no run byte
pub record Finishing (a : List ℕ) : Type 0 where
  pub kind : ElementKind
  pub tail : List ℕ
  pub token : (p : ℕ) (c : List ℕ) → Ends is_run c → IsToken (Leaf kind) p (a ++ (tail ++ c)) (p + length (a ++ tail)) c

token_at : {t : Token} {p q r : ℕ} {a b : List ℕ} → IsToken t p a q b → q ≡ r → IsToken t p a r b
token_at {t} {p} {q} {r} {a} {b} d place = subst (λ (after : ℕ). IsToken t p a after b) place d

hash_sign : class_of 35 ≡ Hash
unfolding class_of
hash_sign = refl

finishing_text : (b : ℕ) (bytes : List ℕ) (o : Option ℕ) → class_of b ≡ Quote → quoted_length bytes ≡ o → (text_token 1 bytes o).0 ≡ Unfinished → Finishing (b ∷ bytes)
finishing_text b bytes (Some n) e f u = absurd cc
finishing_text b bytes None e f u =
    let h = ending bytes f in
    record { kind = Text; tail = h.tail; token = λ p c ends. token_at (text e (h.text (suc p) c)) (omega arith) }

finishing_hash_text : (b d : ℕ) (bytes : List ℕ) (o : Option ℕ) → class_of b ≡ Hash → class_of d ≡ Quote → quoted_length bytes ≡ o → (text_token 2 bytes o).0 ≡ Unfinished → Finishing (b ∷ d ∷ bytes)
finishing_hash_text b d bytes (Some n) e k f u = absurd cc
finishing_hash_text b d bytes None e k f u =
    let h = ending bytes f in
    record { kind = Text; tail = h.tail; token = λ p c ends. token_at (hash_text e k (h.text (suc (suc p)) c)) (omega arith) }

finished_plain : (d : ℕ) (bytes : List ℕ) (t : Bool) → (cond t (Opening openers.Discard, 2) (tag_token (d ∷ bytes))).0 ≢ Unfinished
finished_plain d bytes true u = cc
finished_plain d bytes false u = cc

finishing_hash : (b d : ℕ) (bytes : List ℕ) (k : ByteClass) → class_of b ≡ Hash → class_of d ≡ k → (hash_token k d bytes).0 ≡ Unfinished → Finishing (b ∷ d ∷ bytes)
finishing_hash b d bytes Hash e f u = absurd cc
finishing_hash b d bytes Quote e f u = finishing_hash_text b d bytes (quoted_length bytes) e f refl u
finishing_hash b d bytes (Opens Curly) e f u = absurd cc
finishing_hash b d bytes (Opens Round) e f u = absurd cc
finishing_hash b d bytes (Opens Square) e f u = absurd cc
finishing_hash b d bytes (Closes bracket) e f u = absurd cc
finishing_hash b d bytes White e f u = absurd cc
finishing_hash b d bytes Semicolon e f u = absurd cc
finishing_hash b d bytes Backslash e f u = absurd cc
finishing_hash b d bytes Plain e f u = absurd (finished_plain d bytes (eqb d 95) u)

finishing_after_hash : (b : ℕ) (bytes : List ℕ) → class_of b ≡ Hash → (after_hash bytes).0 ≡ Unfinished → Finishing (b ∷ bytes)
unfolding after_hash
finishing_after_hash b [] e u = record { kind = Atom; tail = 35 ∷ []; token = λ p c ends. token_at (hashed e hash_sign (ended ends)) (omega arith) }
finishing_after_hash b (d ∷ bytes) e u = finishing_hash b d bytes (class_of d) e refl u

finishing_after_backslash : (b : ℕ) (bytes : List ℕ) → class_of b ≡ Backslash → (after_backslash bytes).0 ≡ Unfinished → Finishing (b ∷ bytes)
unfolding after_backslash
finishing_after_backslash b [] e u = record { kind = Char; tail = 97 ∷ []; token = λ p c ends. token_at (character e (ended ends)) (omega arith) }
finishing_after_backslash b (d ∷ bytes) e u = absurd cc

finishing_class : (b : ℕ) (bytes : List ℕ) (k : ByteClass) → class_of b ≡ k → (class_token k bytes).0 ≡ Unfinished → Finishing (b ∷ bytes)
finishing_class b bytes White e u = absurd cc
finishing_class b bytes Plain e u = absurd cc
finishing_class b bytes Hash e u = finishing_after_hash b bytes e u
finishing_class b bytes Backslash e u = finishing_after_backslash b bytes e u
finishing_class b bytes Semicolon e u = absurd cc
finishing_class b bytes Quote e u = finishing_text b bytes (quoted_length bytes) e refl u
finishing_class b bytes (Opens bracket) e u = absurd cc
finishing_class b bytes (Closes bracket) e u = absurd cc

pub finishing : (a : List ℕ) → 0 < length a → (lexed a).0 ≡ Unfinished → Finishing a
unfolding lexed
finishing [] some e = absurd (omega arith)
finishing (b ∷ bytes) some e = finishing_class b bytes (class_of b) refl e

-- ---- what the bytes from an index on begin with

pub found_is : (at after : ℕ) (x : Token × ℕ) (t : Token) (n : ℕ) → x ≡ (t, n) → after ≡ at + n → ◌≡◌ {A = Found} (record { token = t; end = after }) (found_at at x)
found_is at after x t n e place = ap (λ (m : ℕ). record { token = t; end = m }) place ∙ ap (found_at at) (sym e)

lexed_here : (xs : List ℕ) (i : ℕ) (k : ByteClass) → i < length xs → class_of (get_or xs i 0) ≡ k → lexed (drop i xs) ≡ class_token k (drop (i + 1) xs)
lexed_here xs i k lt e = ap lexed (drop_here xs i lt) ∙ lexed_by (get_or xs i 0) (drop (i + 1) xs) k e

pub plain_class : (k : ByteClass) → is_plain_class k ≡ true → k ≡ Plain
plain_class Plain e = refl
plain_class Hash e = absurd cc
plain_class Backslash e = absurd cc
plain_class White e = absurd cc
plain_class Semicolon e = absurd cc
plain_class Quote e = absurd cc
plain_class (Opens bracket) e = absurd cc
plain_class (Closes bracket) e = absurd cc

pub white_class : (k : ByteClass) → is_white_class k ≡ true → k ≡ White
white_class White e = refl
white_class Plain e = absurd cc
white_class Hash e = absurd cc
white_class Backslash e = absurd cc
white_class Semicolon e = absurd cc
white_class Quote e = absurd cc
white_class (Opens bracket) e = absurd cc
white_class (Closes bracket) e = absurd cc

pub white_here : (xs : List ℕ) (i : ℕ) → i < length xs → is_white (get_or xs i 0) ≡ true → lexed (drop i xs) ≡ (Gap, 1)
white_here xs i lt e = lexed_here xs i White lt (white_class (class_of (get_or xs i 0)) e)
