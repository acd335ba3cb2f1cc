-- A string of EDN is one Text, and a word or a number one Atom.
use Rattle.std.proofs.Common.{◌≡◌, ◌≢◌, ℕ, suc, ◌+◌, ◌/◌, ◌%◌, ◌<◌, ◌||◌, Bool, true, false, cond, eqb, ltb, List, [], ◌∷◌, ◌++◌, codes, decimal, flat_map, map, encode_utf8, encode_utf8_all, append_assoc, append-nil, refl, sym, ap, ap₂, subst, arith, eqb-true, false-eqb}
use Rattle.std.proofs.lemmas.Bool.{and_parts}
use Rattle.std.proofs.lemmas.Bool.Decides.{nat_tests}
use Rattle.std.proofs.lemmas.Str.{encodes-append, encode_ascii}
use Rattle.std.specs.List.{list_all}
use lib.Utf8.{encode}
use Rattle.bstr.specs.Utf8.{lossy_chars}
use Rattle.edn_reader.specs.declared.bytes.ByteClass.TheVariants.{Plain, Quote}
use Rattle.edn_reader.specs.declared.element.ElementKind.TheVariants as kinds
use Rattle.edn_reader.specs.Bytes.{class_of, is_run, is_run_class}
use Rattle.edn_reader.specs.Grammar.{IsQuoted, closing, leaf, other, taken, text}
use Rattle.tower_file.proofs.Spelled.{Stands, all_run, atom, following}
use Rattle.phrases.specs.Names.{place_text, printed_char}
use Rattle.records.specs.Edn.{edn_char, string_text}
use Rattle.records.specs.Grammar.{is_record_word, is_word_byte}
use Rattle.records.proofs.Words.{all_of, whole_number}

-- words

plain_byte : (b : ℕ) → is_word_byte b ≡ true → class_of b ≡ Plain
unfolding class_of
plain_byte b is = grind (arith, nat_tests)

runs_on : (bytes : List ℕ) → list_all is_word_byte bytes ≡ true → all_run bytes ≡ true
runs_on [] all = refl
runs_on (b ∷ bytes) all =
    let parts = and_parts _ _ all in
    let plain : is_run b ≡ true = ap is_run_class (plain_byte b parts.0) in
    rw plain (runs_on bytes parts.1)

colon : class_of 58 ≡ Plain
unfolding class_of
colon = refl

-- an Atom of a word or a number
pub word_present : (depth : ℕ) (bytes : List ℕ) → is_record_word bytes ≡ true → Stands depth (record { kind = kinds.Atom; text = bytes })
word_present depth [] is = absurd cc
word_present depth (b ∷ bytes) is = let parts = and_parts _ _ is in atom depth b bytes (plain_byte b parts.0) (runs_on bytes parts.1)

-- an Atom of a word after a colon
pub keyword_present : (depth : ℕ) (name : List ℕ) → is_record_word name ≡ true → Stands depth (record { kind = kinds.Atom; text = 58 ∷ name })
keyword_present depth name is = atom depth 58 name colon (runs_on name (all_of name is))

-- the inside of a string

pub following-append : (place : ℕ) (xs ys : List ℕ) → following place (xs ++ ys) ≡ following (following place xs) ys
following-append place [] ys = refl
following-append place (x ∷ xs) ys = following-append (suc place) xs ys

-- these bytes may stand in a Text that goes on after them
abbrev Inside : List ℕ → Type 0
Inside xs = (place after : ℕ) (tail rest : List ℕ) → IsQuoted (following place xs) tail after rest → IsQuoted place (xs ++ tail) after rest

inside_none : Inside []
inside_none place after tail rest is = is

inside_cons : (b : ℕ) (xs : List ℕ) → b ≢ 34 → b ≢ 92 → Inside xs → Inside (b ∷ xs)
inside_cons b xs quote slash more place after tail rest is = other quote slash (more (suc place) after tail rest is)

inside_append : (xs ys : List ℕ) → Inside xs → Inside ys → Inside (xs ++ ys)
inside_append xs ys one more place after tail rest is =
    subst (λ (bytes : List ℕ). IsQuoted place bytes after rest) (sym (append_assoc xs ys tail))
    (one place after (ys ++ tail) rest (more (following place xs) after tail rest (subst (λ (n : ℕ). IsQuoted n tail after rest) (following-append place xs ys) is)))

inside_escaped : (c : ℕ) → Inside (92 ∷ c ∷ [])
inside_escaped c place after tail rest is = taken refl is

inside_by : (c : ℕ) (t u v : Bool) → ltb c 128 ≡ t → c ≢ 34 → c ≢ 92
    → Inside (cond t (c ∷ []) (cond u ((192 + c / 64) ∷ (128 + c % 64) ∷ []) (cond v ((224 + c / 4096) ∷ (128 + c / 64 % 64) ∷ (128 + c % 64) ∷ []) ((240 + c / 262144) ∷ (128 + c / 4096 % 64) ∷ (128 + c / 64 % 64) ∷ (128 + c % 64) ∷ []))))
inside_by c true u v is quote slash = inside_cons c [] quote slash inside_none
inside_by c false true v is quote slash =
    inside_cons (192 + c / 64) ((128 + c % 64) ∷ []) (λ e. omega arith) (λ e. omega arith)
    (inside_cons (128 + c % 64) [] (λ e. omega arith) (λ e. omega arith) inside_none)
inside_by c false false true is quote slash =
    inside_cons (224 + c / 4096) ((128 + c / 64 % 64) ∷ (128 + c % 64) ∷ []) (λ e. omega arith) (λ e. omega arith)
    (inside_cons (128 + c / 64 % 64) ((128 + c % 64) ∷ []) (λ e. omega arith) (λ e. omega arith)
    (inside_cons (128 + c % 64) [] (λ e. omega arith) (λ e. omega arith) inside_none))
inside_by c false false false is quote slash =
    inside_cons (240 + c / 262144) ((128 + c / 4096 % 64) ∷ (128 + c / 64 % 64) ∷ (128 + c % 64) ∷ []) (λ e. omega arith) (λ e. omega arith)
    (inside_cons (128 + c / 4096 % 64) ((128 + c / 64 % 64) ∷ (128 + c % 64) ∷ []) (λ e. omega arith) (λ e. omega arith)
    (inside_cons (128 + c / 64 % 64) ((128 + c % 64) ∷ []) (λ e. omega arith) (λ e. omega arith)
    (inside_cons (128 + c % 64) [] (λ e. omega arith) (λ e. omega arith) inside_none)))

inside_encoded : (c : ℕ) → c ≢ 34 → c ≢ 92 → Inside (encode_utf8 c)
unfolding encode
inside_encoded c quote slash = inside_by c (ltb c 128) (ltb c 2048) (ltb c 65536) refl quote slash

escaped_text : (c : ℕ) → c < 128 → Inside (encode_utf8_all (92 ∷ c ∷ []))
escaped_text c small =
    let same : encode_utf8_all (92 ∷ c ∷ []) ≡ 92 ∷ c ∷ [] = ap₂ (λ (xs ys : List ℕ). xs ++ (ys ++ [])) (encode_ascii 92 (omega arith)) (encode_ascii c small) in
    subst Inside (sym same) (inside_escaped c)

plain_text : (c : ℕ) → c ≢ 34 → c ≢ 92 → Inside (encode_utf8_all (c ∷ []))
plain_text c quote slash = subst Inside (sym (append-nil (encode_utf8 c))) (inside_encoded c quote slash)

char_by : (c : ℕ) (t u : Bool) → eqb c 34 ≡ t → eqb c 92 ≡ u → Inside (encode_utf8_all (cond (t || u) (92 ∷ c ∷ []) (c ∷ [])))
char_by c true u quote slash = escaped_text c (omega (arith, eqb-true c 34 quote))
char_by c false true quote slash = escaped_text c (omega (arith, eqb-true c 92 slash))
char_by c false false quote slash = plain_text c (false-eqb c 34 (sym quote)) (false-eqb c 92 (sym slash))

chars_inside : (cs : List ℕ) → Inside (encode_utf8_all (flat_map edn_char cs))
chars_inside [] = inside_none
chars_inside (c ∷ cs) =
    subst Inside (sym (encodes-append (edn_char c) (flat_map edn_char cs)))
    (inside_append (encode_utf8_all (edn_char c)) (encode_utf8_all (flat_map edn_char cs)) (char_by c (eqb c 34) (eqb c 92) refl refl) (chars_inside cs))

quiet_byte : (b : ℕ) → is_word_byte b ≡ true → (b ≢ 34) × (b ≢ 92)
quiet_byte b is = (λ e. grind (arith, nat_tests), λ e. grind (arith, nat_tests))

word_inside : (bytes : List ℕ) → list_all is_word_byte bytes ≡ true → Inside bytes
word_inside [] all = inside_none
word_inside (b ∷ bytes) all =
    let parts = and_parts _ _ all in
    let quiet = quiet_byte b parts.0 in
    inside_cons b bytes quiet.0 quiet.1 (word_inside bytes parts.1)

number_inside : (n : ℕ) → Inside (decimal n)
number_inside n = word_inside (decimal n) (all_of (decimal n) (whole_number n))

place_inside : (feeder event : ℕ) → Inside (place_text feeder event)
place_inside feeder event =
    inside_append (decimal feeder ++ 58 ∷ []) (decimal event)
    (inside_append (decimal feeder) (58 ∷ []) (number_inside feeder) (inside_cons 58 [] (λ e. omega arith) (λ e. omega arith) inside_none)) (number_inside event)

-- strings

quote : class_of 34 ≡ Quote
unfolding class_of
quote = refl

quoted_present : (depth : ℕ) (inner : List ℕ) → Inside inner → Stands depth (record { kind = kinds.Text; text = 34 ∷ (inner ++ 34 ∷ []) })
quoted_present depth inner inside room place rest e =
    let ends = closing {place = following (suc place) inner} {rest = rest} refl in
    let whole = inside (suc place) (suc (following (suc place) inner)) (34 ∷ rest) rest ends in
    let there = subst (λ (bytes : List ℕ). IsQuoted (suc place) bytes (suc (following (suc place) inner)) rest) (sym (append_assoc inner (34 ∷ []) rest)) whole in
    leaf (text quote (subst (λ (n : ℕ). IsQuoted (suc place) ((inner ++ 34 ∷ []) ++ rest) n rest) (sym (following-append (suc place) inner (34 ∷ []))) there))

pub string_present : (depth : ℕ) (bytes : List ℕ) → Stands depth (record { kind = kinds.Text; text = string_text bytes })
string_present depth bytes = quoted_present depth (encode_utf8_all (flat_map edn_char (map printed_char (lossy_chars bytes)))) (chars_inside (map printed_char (lossy_chars bytes)))

pub place_present : (depth feeder event : ℕ) → Stands depth (record { kind = kinds.Text; text = codes "\"" ++ place_text feeder event ++ codes "\"" })
place_present depth feeder event = quoted_present depth (place_text feeder event) (place_inside feeder event)
