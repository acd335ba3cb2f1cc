-- Stretches of bytes that pass a test, and the ends of Texts: their lengths, and that the grammar has them.
use Rattle.std.proofs.Common.{◌≡◌, ◌≢◌, ◌⊎◌, inl, inr, ℕ, zero, suc, ◌+◌, ◌-◌, ◌<◌, ◌≤◌, Bool, true, false, not, ◌||◌, cond, eqb, List, [], ◌∷◌, ◌++◌, length, get_or, take, drop, Option, Some, None, length-drop, refl, sym, ap, subst, ◌∙◌, arith, add-one, drop-cons}
use Rattle.std.proofs.Math.ListN.{drop_of_length-le}
use Rattle.std.proofs.lemmas.Bool.{cases_lt}
use Rattle.std.proofs.lemmas.Bool.Decides.{nat_tests}
use Rattle.std.specs.Option.{option_map}
use Rattle.memchr.specs.Find.{NoneBefore, Nowhere, Passes, is_byte, is_byte2}
use Rattle.edn_reader.specs.Bytes.{stretch, is_in_comment, Ends}
use Rattle.edn_reader.specs.Grammar.{IsStretch, ended, more, IsQuoted, closing, taken, other}
use Rattle.edn_reader.specs.Token.{quoted_length}

pub drop_here : (xs : List ℕ) (i : ℕ) → i < length xs → drop i xs ≡ get_or xs i 0 ∷ drop (i + 1) xs
drop_here xs i lt = rw (add-one i) (drop-cons xs i 0 lt)

pub take_all : (xs : List ℕ) → take (length xs) xs ≡ xs
take_all [] = refl
take_all (x ∷ xs) = ap (λ (ys : List ℕ). x ∷ ys) (take_all xs)

-- bytes dropped from two joined lists, where the first has so many
pub drop_before : (n : ℕ) (xs ys : List ℕ) → n ≤ length xs → drop n (xs ++ ys) ≡ drop n xs ++ ys
drop_before zero xs ys le = refl
drop_before (suc n) [] ys le = absurd (omega arith)
drop_before (suc n) (x ∷ xs) ys le = drop_before n xs ys (omega arith)

-- the slice from an index to the end
pub from_index : (xs : List ℕ) (i : ℕ) → take (length xs - i) (drop i xs) ≡ drop i xs
from_index xs i = ap (λ (n : ℕ). take n (drop i xs)) (sym (length-drop i xs)) ∙ take_all (drop i xs)

-- ---- how many bytes pass a test, from an index on

pub stretch_goes : (test : ℕ → Bool) (xs : List ℕ) (i : ℕ) → i < length xs → test (get_or xs i 0) ≡ true → stretch test (drop i xs) ≡ suc (stretch test (drop (i + 1) xs))
unfolding stretch
stretch_goes test xs i lt e = rw (drop_here xs i lt, e) refl

pub stretch_stops : (test : ℕ → Bool) (xs : List ℕ) (i : ℕ) → i < length xs → test (get_or xs i 0) ≡ false → stretch test (drop i xs) ≡ 0
unfolding stretch
stretch_stops test xs i lt e = rw (drop_here xs i lt, e) refl

pub stretch_past : (test : ℕ → Bool) (xs : List ℕ) (i : ℕ) → length xs ≤ i → stretch test (drop i xs) ≡ 0
unfolding stretch
stretch_past test xs i le = rw (drop_of_length-le xs le) refl

-- where the stretch from one index ends at a total, the one from the next index ends there too
pub same_goes : (test : ℕ → Bool) (xs : List ℕ) (end further total : ℕ) → further ≡ end + 1 → end < length xs → test (get_or xs end 0) ≡ true → end + stretch test (drop end xs) ≡ total
    → further + stretch test (drop further xs) ≡ total
same_goes test xs end further total one lt e same =
    subst (λ (n : ℕ). n + stretch test (drop n xs) ≡ total) (sym one) (omega (arith, stretch_goes test xs end lt e, same))

pub same_stops : (test : ℕ → Bool) (xs : List ℕ) (end total : ℕ) → end < length xs → test (get_or xs end 0) ≡ false → end + stretch test (drop end xs) ≡ total → end ≡ total
same_stops test xs end total lt e same = omega (arith, stretch_stops test xs end lt e, same)

goes_by : (test : ℕ → Bool) (xs : List ℕ) (i n : ℕ) (t : Bool) → test (get_or xs i 0) ≡ t → i < length xs → stretch test (drop i xs) ≡ suc n
    → (i < length xs) × (test (get_or xs i 0) ≡ true) × (stretch test (drop (i + 1) xs) ≡ n)
goes_by test xs i n true e lt same = (lt, e, omega (arith, stretch_goes test xs i lt e, same))
goes_by test xs i n false e lt same = absurd (omega (arith, stretch_stops test xs i lt e, same))

goes_on : (test : ℕ → Bool) (xs : List ℕ) (i n : ℕ) → (i < length xs) ⊎ (length xs ≤ i) → stretch test (drop i xs) ≡ suc n
    → (i < length xs) × (test (get_or xs i 0) ≡ true) × (stretch test (drop (i + 1) xs) ≡ n)
goes_on test xs i n (inl lt) same = goes_by test xs i n (test (get_or xs i 0)) refl lt same
goes_on test xs i n (inr le) same = absurd (omega (arith, stretch_past test xs i le, same))

-- what holds where a stretch begins, and is kept over each of its bytes, holds where it ends
pub along : (holds : ℕ → Type 0) (test : ℕ → Bool) (xs : List ℕ) → ((i : ℕ) → i < length xs → test (get_or xs i 0) ≡ true → holds i → holds (i + 1))
    → (n i : ℕ) → stretch test (drop i xs) ≡ n → holds i → holds (i + n)
along holds test xs step zero i same h = let none : i ≡ i + 0 = omega arith in subst holds none h
along holds test xs step (suc n) i same h =
    let k = goes_on test xs i n (cases_lt i (length xs)) same in
    let place : i + 1 + n ≡ i + suc n = omega arith in
    subst holds place (along holds test xs step n (i + 1) k.2 (step i k.0 k.1 h))

-- ---- a stretch at the beginning of bytes

pub stretch_more : (test : ℕ → Bool) (b : ℕ) (bytes : List ℕ) → test b ≡ true → stretch test (b ∷ bytes) ≡ suc (stretch test bytes)
unfolding stretch
stretch_more test b bytes e = rw e refl

pub stretch_none : (test : ℕ → Bool) (bytes : List ℕ) → Ends test bytes → stretch test bytes ≡ 0
unfolding stretch
stretch_none test [] h = refl
stretch_none test (b ∷ bytes) h = rw h refl

within_either : (test : ℕ → Bool) (b : ℕ) (bytes : List ℕ) (t : Bool) → test b ≡ t → stretch test bytes ≤ length bytes → stretch test (b ∷ bytes) ≤ suc (length bytes)
within_either test b bytes true e le = omega (arith, stretch_more test b bytes e)
within_either test b bytes false e le = omega (arith, stretch_none test (b ∷ bytes) e)

pub stretch_within : (test : ℕ → Bool) (bytes : List ℕ) → stretch test bytes ≤ length bytes
unfolding stretch
stretch_within test [] = omega arith
stretch_within test (b ∷ bytes) = within_either test b bytes (test b) refl (stretch_within test bytes)

stretch_either : (test : ℕ → Bool) (p b : ℕ) (bytes : List ℕ) (t : Bool) → test b ≡ t
    → IsStretch test (suc p) bytes (suc p + stretch test bytes) (drop (stretch test bytes) bytes)
    → IsStretch test p (b ∷ bytes) (p + stretch test (b ∷ bytes)) (drop (stretch test (b ∷ bytes)) (b ∷ bytes))
stretch_either test p b bytes true e r =
    let long = stretch_more test b bytes e in
    let place : suc p + stretch test bytes ≡ p + stretch test (b ∷ bytes) = omega (arith, long) in
    let rest : drop (stretch test bytes) bytes ≡ drop (stretch test (b ∷ bytes)) (b ∷ bytes) = ap (λ (n : ℕ). drop n (b ∷ bytes)) (sym long) in
    subst (λ (left : List ℕ). IsStretch test p (b ∷ bytes) (p + stretch test (b ∷ bytes)) left) rest
    (subst (λ (q : ℕ). IsStretch test p (b ∷ bytes) q (drop (stretch test bytes) bytes)) place (more e r))
stretch_either test p b bytes false e r =
    let long = stretch_none test (b ∷ bytes) e in
    let place : p ≡ p + stretch test (b ∷ bytes) = omega (arith, long) in
    let rest : b ∷ bytes ≡ drop (stretch test (b ∷ bytes)) (b ∷ bytes) = ap (λ (n : ℕ). drop n (b ∷ bytes)) (sym long) in
    subst (λ (left : List ℕ). IsStretch test p (b ∷ bytes) (p + stretch test (b ∷ bytes)) left) rest
    (subst (λ (q : ℕ). IsStretch test p (b ∷ bytes) q (b ∷ bytes)) place (ended e))

-- the stretch that was computed is one by the grammar
pub stretch_here : (test : ℕ → Bool) (p : ℕ) (bytes : List ℕ) → IsStretch test p bytes (p + stretch test bytes) (drop (stretch test bytes) bytes)
unfolding stretch
stretch_here test p [] = let place : p ≡ p + 0 = omega arith in subst (λ (q : ℕ). IsStretch test p [] q []) place (ended tt)
stretch_here test p (b ∷ bytes) = stretch_either test p b bytes (test b) refl (stretch_here test (suc p) bytes)

rest_none : (test : ℕ → Bool) (bytes : List ℕ) → Ends test bytes → drop (stretch test bytes) bytes ≡ bytes
rest_none test [] h = ap (λ (n : ℕ). drop n []) (stretch_none test [] h)
rest_none test (b ∷ bytes) h = ap (λ (n : ℕ). drop n (b ∷ bytes)) (stretch_none test (b ∷ bytes) h)

-- the grammar has no other stretch there
pub stretch_place : {test : ℕ → Bool} {p q : ℕ} {a b : List ℕ} → IsStretch test p a q b → p + stretch test a ≡ q
stretch_place {test = test} {a = a} (ended h) = omega (arith, stretch_none test a h)
stretch_place {test = test} (more {b = b} {bytes = bytes} w g) = omega (arith, stretch_more test b bytes w, stretch_place g)

pub stretch_rest : {test : ℕ → Bool} {p q : ℕ} {a b : List ℕ} → IsStretch test p a q b → drop (stretch test a) a ≡ b
stretch_rest {test = test} {a = a} (ended h) = rest_none test a h
stretch_rest {test = test} (more {b = b} {bytes = bytes} w g) = ap (λ (n : ℕ). drop n (b ∷ bytes)) (stretch_more test b bytes w) ∙ stretch_rest g

-- ---- a Text at the beginning of bytes

pub quoted_closing : (b : ℕ) (bytes : List ℕ) → b ≡ 34 → quoted_length (b ∷ bytes) ≡ Some 1
unfolding quoted_length
quoted_closing b [] e = rw e refl
quoted_closing b (c ∷ bytes) e = rw e refl

pub quoted_taken : (b c : ℕ) (bytes : List ℕ) → b ≡ 92 → quoted_length (b ∷ c ∷ bytes) ≡ option_map (λ n. suc (suc n)) (quoted_length bytes)
unfolding quoted_length
quoted_taken b c bytes e = rw e refl

other_tests : (b : ℕ) (x y z : Option ℕ) → b ≢ 34 → b ≢ 92 → cond (eqb b 34) x (cond (eqb b 92) y z) ≡ z
other_tests b x y z u v =
    let one : eqb b 34 ≡ false = grind (arith, nat_tests) in
    let two : eqb b 92 ≡ false = grind (arith, nat_tests) in
    rw (one, two) refl

last_test : (b : ℕ) (x y : Option ℕ) → b ≢ 34 → cond (eqb b 34) x y ≡ y
last_test b x y u = let one : eqb b 34 ≡ false = grind (arith, nat_tests) in rw one refl

pub quoted_other : (b : ℕ) (bytes : List ℕ) → b ≢ 34 → b ≢ 92 → quoted_length (b ∷ bytes) ≡ option_map suc (quoted_length bytes)
unfolding quoted_length
quoted_other b [] u v = last_test b (Some 1) None u
quoted_other b (c ∷ bytes) u v = other_tests b (Some 1) (option_map (λ n. suc (suc n)) (quoted_length bytes)) (option_map suc (quoted_length (c ∷ bytes))) u v

pub quoted_last : (b : ℕ) → b ≢ 34 → quoted_length (b ∷ []) ≡ None
unfolding quoted_length
quoted_last b u = last_test b (Some 1) None u

pub quoted_nothing : quoted_length [] ≡ None
unfolding quoted_length
quoted_nothing = refl

-- the computed length of a Text leads to the place where it ends by the grammar
pub record Closed (p : ℕ) (a : List ℕ) (q : ℕ) (b : List ℕ) : Type 0 where
  pub size : ℕ
  pub is : quoted_length a ≡ Some size
  pub place : p + size ≡ q
  pub rest : drop size a ≡ b

pub quoted_is : {p q : ℕ} {a b : List ℕ} → IsQuoted p a q b → Closed p a q b
quoted_is (closing {b = b} {rest = rest} e) = record { size = 1; is = quoted_closing b rest e; place = omega arith; rest = refl }
quoted_is (taken {b = b} {c = c} {bytes = bytes} e g) =
    let h = quoted_is g in
    record {
      size = suc (suc h.size);
      is = quoted_taken b c bytes e ∙ ap (option_map (λ n. suc (suc n))) h.is;
      place = omega (arith, h.place);
      rest = h.rest;
    }
quoted_is (other {b = b} {bytes = bytes} u v g) =
    let h = quoted_is g in
    record { size = suc h.size; is = quoted_other b bytes u v ∙ ap (option_map suc) h.is; place = omega (arith, h.place); rest = h.rest }

-- ---- tests on a byte of a Text

-- what a byte of a Text is: a quote, a backslash or another byte
pub data Sign (b : ℕ) : Type 0 where
  quote : b ≡ 34 → Sign b
  backslash : b ≡ 92 → Sign b
  plain : b ≢ 34 → b ≢ 92 → Sign b

sign_by : (b : ℕ) (s t : Bool) → eqb b 34 ≡ s → eqb b 92 ≡ t → Sign b
sign_by b true true e f = quote (grind (arith, nat_tests))
sign_by b true false e f = quote (grind (arith, nat_tests))
sign_by b false true e f = backslash (grind (arith, nat_tests))
sign_by b false false e f = plain (grind (arith, nat_tests)) (grind (arith, nat_tests))

pub sign_of : (b : ℕ) → Sign b
sign_of b = sign_by b (eqb b 34) (eqb b 92) refl refl

-- ---- a Text that is closed

pub map_some : (f : ℕ → ℕ) (o : Option ℕ) (n : ℕ) → option_map f o ≡ Some n → (m : ℕ) × (o ≡ Some m) × (f m ≡ n)
map_some f None n e = absurd cc
map_some f (Some m) n e = (m, refl, cc)

pub map_none : (f : ℕ → ℕ) (o : Option ℕ) → option_map f o ≡ None → o ≡ None
map_none f None e = refl
map_none f (Some m) e = absurd cc

quoted_at : {p q r : ℕ} {a b c : List ℕ} → IsQuoted p a q b → q ≡ r → b ≡ c → IsQuoted p a r c
quoted_at {p} {q} {r} {a} {b} {c} g place rest = subst (λ (left : List ℕ). IsQuoted p a r left) rest (subst (λ (after : ℕ). IsQuoted p a after b) place g)

here_closing : (p b : ℕ) (bytes : List ℕ) (n : ℕ) → b ≡ 34 → quoted_length (b ∷ bytes) ≡ Some n → IsQuoted p (b ∷ bytes) (p + n) (drop n (b ∷ bytes))
here_closing p b bytes n u e =
    let long : n ≡ 1 = let both : Some n ≡ Some 1 = sym e ∙ quoted_closing b bytes u in cc in
    let rest : bytes ≡ drop n (b ∷ bytes) = ap (λ (m : ℕ). drop m (b ∷ bytes)) (sym long) in
    quoted_at (closing u) (omega arith) rest

here_other : (p b : ℕ) (bytes : List ℕ) (n : ℕ) → b ≢ 34 → b ≢ 92 → quoted_length (b ∷ bytes) ≡ Some n
    → ((m : ℕ) → quoted_length bytes ≡ Some m → IsQuoted (suc p) bytes (suc p + m) (drop m bytes)) → IsQuoted p (b ∷ bytes) (p + n) (drop n (b ∷ bytes))
here_other p b bytes n u v e later =
    let m = map_some suc (quoted_length bytes) n (sym (quoted_other b bytes u v) ∙ e) in
    let rest : drop m.0 bytes ≡ drop n (b ∷ bytes) = ap (λ (k : ℕ). drop k (b ∷ bytes)) m.2 in
    quoted_at (other u v (later m.0 m.1)) (omega (arith, m.2)) rest

here_last : (p b n : ℕ) → Sign b → quoted_length (b ∷ []) ≡ Some n → IsQuoted p (b ∷ []) (p + n) (drop n (b ∷ []))
here_last p b n (quote u) e = here_closing p b [] n u e
here_last p b n (backslash u) e = let none_is : quoted_length (b ∷ []) ≡ None = quoted_last b (omega arith) in absurd cc
here_last p b n (plain u v) e = let none_is : quoted_length (b ∷ []) ≡ None = quoted_last b u in absurd cc

here_more : (p b c : ℕ) (bytes : List ℕ) (n : ℕ) → Sign b → quoted_length (b ∷ c ∷ bytes) ≡ Some n
    → ((m : ℕ) → quoted_length bytes ≡ Some m → IsQuoted (suc (suc p)) bytes (suc (suc p) + m) (drop m bytes))
    → ((m : ℕ) → quoted_length (c ∷ bytes) ≡ Some m → IsQuoted (suc p) (c ∷ bytes) (suc p + m) (drop m (c ∷ bytes)))
    → IsQuoted p (b ∷ c ∷ bytes) (p + n) (drop n (b ∷ c ∷ bytes))
here_more p b c bytes n (quote u) e following later = here_closing p b (c ∷ bytes) n u e
here_more p b c bytes n (backslash u) e following later =
    let m = map_some (λ k. suc (suc k)) (quoted_length bytes) n (sym (quoted_taken b c bytes u) ∙ e) in
    let rest : drop m.0 bytes ≡ drop n (b ∷ c ∷ bytes) = ap (λ (k : ℕ). drop k (b ∷ c ∷ bytes)) m.2 in
    quoted_at (taken u (following m.0 m.1)) (omega (arith, m.2)) rest
here_more p b c bytes n (plain u v) e following later = here_other p b (c ∷ bytes) n u v e later

-- the Text that was computed is one by the grammar
pub quoted_here : (p : ℕ) (bytes : List ℕ) (n : ℕ) → quoted_length bytes ≡ Some n → IsQuoted p bytes (p + n) (drop n bytes)
quoted_here p [] n e = let nothing_is = quoted_nothing in absurd cc
quoted_here p (b ∷ []) n e = here_last p b n (sign_of b) e
quoted_here p (b ∷ c ∷ bytes) n e = here_more p b c bytes n (sign_of b) e (λ m h. quoted_here (suc (suc p)) bytes m h) (λ m h. quoted_here (suc p) (c ∷ bytes) m h)

quoted_long : {p q : ℕ} {a b : List ℕ} → IsQuoted p a q b → q + length b ≡ p + length a
quoted_long (closing e) = omega arith
quoted_long (taken e g) = omega (arith, quoted_long g)
quoted_long (other u v g) = omega (arith, quoted_long g)

within_long : (n : ℕ) (bytes : List ℕ) → n + length (drop n bytes) ≡ length bytes → n ≤ length bytes
within_long n bytes e = omega arith

pub quoted_within : (bytes : List ℕ) (n : ℕ) → quoted_length bytes ≡ Some n → n ≤ length bytes
quoted_within bytes n e = within_long n bytes (omega (arith, quoted_long (quoted_here 0 bytes n e)))

-- ---- a Text that is not closed

-- some bytes that close the Text when they are added at its end
pub record Ending (bytes : List ℕ) : Type 0 where
  pub tail : List ℕ
  pub text : (p : ℕ) (c : List ℕ) → IsQuoted p (bytes ++ (tail ++ c)) (p + length (bytes ++ tail)) c

ending_last : (b : ℕ) → Sign b → quoted_length (b ∷ []) ≡ None → Ending (b ∷ [])
ending_last b (quote u) e = let some_is = quoted_closing b [] u in absurd cc
ending_last b (backslash u) e = record { tail = 97 ∷ 34 ∷ []; text = λ p c. quoted_at (taken u (closing refl)) (omega arith) refl }
ending_last b (plain u v) e = record { tail = 34 ∷ []; text = λ p c. quoted_at (other u v (closing refl)) (omega arith) refl }

ending_more : (b c : ℕ) (bytes : List ℕ) → Sign b → quoted_length (b ∷ c ∷ bytes) ≡ None → (quoted_length bytes ≡ None → Ending bytes)
    → (quoted_length (c ∷ bytes) ≡ None → Ending (c ∷ bytes)) → Ending (b ∷ c ∷ bytes)
ending_more b c bytes (quote u) e following later = let some_is = quoted_closing b (c ∷ bytes) u in absurd cc
ending_more b c bytes (backslash u) e following later =
    let h = following (map_none (λ k. suc (suc k)) (quoted_length bytes) (sym (quoted_taken b c bytes u) ∙ e)) in
    record { tail = h.tail; text = λ p rest. quoted_at (taken u (h.text (suc (suc p)) rest)) (omega arith) refl }
ending_more b c bytes (plain u v) e following later =
    let h = later (map_none suc (quoted_length (c ∷ bytes)) (sym (quoted_other b (c ∷ bytes) u v) ∙ e)) in
    record { tail = h.tail; text = λ p rest. quoted_at (other u v (h.text (suc p) rest)) (omega arith) refl }

pub ending : (bytes : List ℕ) → quoted_length bytes ≡ None → Ending bytes
ending [] e = record { tail = 34 ∷ []; text = λ p c. quoted_at (closing refl) (omega arith) refl }
ending (b ∷ []) e = ending_last b (sign_of b) e
ending (b ∷ c ∷ bytes) e = ending_more b c bytes (sign_of b) e (λ h. ending bytes h) (λ h. ending (c ∷ bytes) h)

-- ---- what a search finds

pub stretch_first : (test : ℕ → Bool) (bytes : List ℕ) (n : ℕ) → n < length bytes → ((k : ℕ) → k < n → test (get_or bytes k 0) ≡ true) → test (get_or bytes n 0) ≡ false
    → stretch test bytes ≡ n
stretch_first test [] n lt all e = absurd (omega arith)
stretch_first test (b ∷ bytes) zero lt all e = stretch_none test (b ∷ bytes) e
stretch_first test (b ∷ bytes) (suc n) lt all e =
    stretch_more test b bytes (all 0 (omega arith)) ∙ ap suc (stretch_first test bytes n (omega arith) (λ k low. all (suc k) (omega arith)) e)

pub stretch_whole : (test : ℕ → Bool) (bytes : List ℕ) → ((k : ℕ) → k < length bytes → test (get_or bytes k 0) ≡ true) → stretch test bytes ≡ length bytes
unfolding stretch
stretch_whole test [] all = refl
stretch_whole test (b ∷ bytes) all =
    stretch_more test b bytes (all 0 (omega arith)) ∙ ap suc (stretch_whole test bytes (λ k low. all (suc k) (omega arith)))

no_line_end : (b : ℕ) (t : Bool) → eqb b 10 ≡ t → ¬ (eqb b 10 ≡ true) → is_in_comment b ≡ true
no_line_end b true e u = absurd (u e)
no_line_end b false e u = ap not e

-- a comment goes up to the first line end, or to the end of the bytes
pub comment_found : (bytes : List ℕ) (n : ℕ) → NoneBefore (Passes (is_byte 10) bytes) 0 (length bytes) n → Passes (is_byte 10) bytes n → stretch is_in_comment bytes ≡ n
comment_found bytes n found here =
    stretch_first is_in_comment bytes n found.high (λ k low. no_line_end (get_or bytes k 0) (eqb (get_or bytes k 0) 10) refl (found.before k (omega arith) low)) (ap not here)

pub comment_open : (bytes : List ℕ) → Nowhere (Passes (is_byte 10) bytes) 0 (length bytes) → stretch is_in_comment bytes ≡ length bytes
comment_open bytes nowhere =
    stretch_whole is_in_comment bytes (λ k low. no_line_end (get_or bytes k 0) (eqb (get_or bytes k 0) 10) refl (nowhere k (omega arith) low))

-- a length, if there is one, with so many bytes more
unfoldable pub add_length : ℕ → Option ℕ → Option ℕ
add_length n o = option_map (λ m. n + m) o

pub add_some : (n m : ℕ) (o : Option ℕ) → o ≡ Some m → add_length n o ≡ Some (n + m)
unfolding add_length
add_some n m o e = ap (option_map (λ k. n + k)) e

pub add_zero : (o : Option ℕ) → add_length 0 o ≡ o
unfolding add_length
add_zero None = refl
add_zero (Some m) = ap Some (omega arith)

pub add_twice : (n m k : ℕ) (o : Option ℕ) → n + m ≡ k → add_length n (add_length m o) ≡ add_length k o
unfolding add_length
add_twice n m k None e = refl
add_twice n m k (Some i) e = ap Some (omega arith)

pub add_one_length : (o : Option ℕ) → option_map suc o ≡ add_length 1 o
unfolding add_length
add_one_length None = refl
add_one_length (Some m) = ap Some (omega arith)

pub add_two_length : (o : Option ℕ) → option_map (λ n. suc (suc n)) o ≡ add_length 2 o
unfolding add_length
add_two_length None = refl
add_two_length (Some m) = ap Some (omega arith)

-- a Text goes on over bytes that are no quotes and no backslashes
quoted_after : (bytes following : List ℕ) (n : ℕ) → n ≤ length bytes → ((k : ℕ) → k < n → (get_or bytes k 0 ≢ 34) × (get_or bytes k 0 ≢ 92))
    → quoted_length (bytes ++ following) ≡ add_length n (quoted_length (drop n bytes ++ following))
quoted_after [] following zero le all = sym (add_zero (quoted_length following))
quoted_after [] following (suc n) le all = absurd (omega arith)
quoted_after (b ∷ bytes) following zero le all = sym (add_zero (quoted_length (b ∷ (bytes ++ following))))
quoted_after (b ∷ bytes) following (suc n) le all =
    let here = all 0 (omega arith) in
    quoted_other b (bytes ++ following) here.0 here.1
    ∙ (ap (option_map suc) (quoted_after bytes following n (omega arith) (λ k low. all (suc k) (omega arith)))
    ∙ (add_one_length (add_length n (quoted_length (drop n bytes ++ following))) ∙ add_twice 1 n (suc n) (quoted_length (drop n bytes ++ following)) (omega arith)))

no_sign : (b : ℕ) → Sign b → ¬ (is_byte2 34 92 b ≡ true) → (b ≢ 34) × (b ≢ 92)
no_sign b (quote e) u = absurd (u (let one : eqb b 34 ≡ true = grind (arith, nat_tests) in ap (λ (t : Bool). t || eqb b 92) one))
no_sign b (backslash e) u = absurd (u (grind (arith, nat_tests)))
no_sign b (plain v w) u = (v, w)

-- a Text goes on up to its first quote or backslash
quoted_up : (bytes following : List ℕ) (n : ℕ) → NoneBefore (Passes (is_byte2 34 92) bytes) 0 (length bytes) n
    → quoted_length (bytes ++ following) ≡ add_length n (quoted_length (get_or bytes n 0 ∷ (drop (n + 1) bytes ++ following)))
quoted_up bytes following n found =
    quoted_after bytes following n (omega (arith, found.high)) (λ k low. no_sign (get_or bytes k 0) (sign_of (get_or bytes k 0)) (found.before k (omega arith) low))
    ∙ ap (λ (left : List ℕ). add_length n (quoted_length (left ++ following))) (drop_here bytes n found.high)

pub quote_found : (bytes following : List ℕ) (n : ℕ) → NoneBefore (Passes (is_byte2 34 92) bytes) 0 (length bytes) n → get_or bytes n 0 ≡ 34 → quoted_length (bytes ++ following) ≡ Some (n + 1)
quote_found bytes following n found e = quoted_up bytes following n found ∙ add_some n 1 _ (quoted_closing (get_or bytes n 0) (drop (n + 1) bytes ++ following) e)

-- a backslash that is the last of the bytes escapes the first byte after them
pub backslash_last : (bytes following : List ℕ) (n : ℕ) → NoneBefore (Passes (is_byte2 34 92) bytes) 0 (length bytes) n → n + 1 ≡ length bytes
    → quoted_length (bytes ++ following) ≡ add_length n (quoted_length (get_or bytes n 0 ∷ following))
backslash_last bytes following n found last =
    let nothing : drop (n + 1) bytes ≡ [] = drop_of_length-le bytes (omega arith) in
    quoted_up bytes following n found ∙ ap (λ (left : List ℕ). add_length n (quoted_length (get_or bytes n 0 ∷ (left ++ following)))) nothing

pub backslash_found : (bytes following : List ℕ) (n : ℕ) → NoneBefore (Passes (is_byte2 34 92) bytes) 0 (length bytes) n → get_or bytes n 0 ≡ 92 → n + 1 < length bytes
    → quoted_length (bytes ++ following) ≡ add_length (n + 2) (quoted_length (drop (n + 2) bytes ++ following))
backslash_found bytes following n found e more_left =
    let place : n + 1 + 1 ≡ n + 2 = omega arith in
    let left : drop (n + 1) bytes ≡ get_or bytes (n + 1) 0 ∷ drop (n + 2) bytes =
    drop_here bytes (n + 1) more_left ∙ ap (λ (k : ℕ). get_or bytes (n + 1) 0 ∷ drop k bytes) place in
    quoted_up bytes following n found
    ∙ ap (add_length n) (ap (λ (xs : List ℕ). quoted_length (get_or bytes n 0 ∷ (xs ++ following))) left
    ∙ (quoted_taken (get_or bytes n 0) (get_or bytes (n + 1) 0) (drop (n + 2) bytes ++ following) e ∙ add_two_length (quoted_length (drop (n + 2) bytes ++ following))))
    ∙ add_twice n 2 (n + 2) (quoted_length (drop (n + 2) bytes ++ following)) refl

pub sign_nowhere : (bytes following : List ℕ) → Nowhere (Passes (is_byte2 34 92) bytes) 0 (length bytes) → quoted_length (bytes ++ following) ≡ add_length (length bytes) (quoted_length following)
sign_nowhere bytes following nowhere =
    let nothing : drop (length bytes) bytes ≡ [] = drop_of_length-le bytes (omega arith) in
    quoted_after bytes following (length bytes) (omega arith) (λ k low. no_sign (get_or bytes k 0) (sign_of (get_or bytes k 0)) (nowhere k (omega arith) low))
    ∙ ap (λ (left : List ℕ). add_length (length bytes) (quoted_length (left ++ following))) nothing
