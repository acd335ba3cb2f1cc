-- The words and the numbers of records are words by the grammar.
use Rattle.std.proofs.Common.{◌≡◌, ℕ, zero, suc, ◌/◌, ◌%◌, ◌<◌, Bool, true, false, cond, eqb, List, [], ◌∷◌, ℤ, pos, negsuc, decimal, refl, arith, mod-lt}
use Rattle.std.proofs.lemmas.Bool.Decides.{nat_tests}
use Rattle.std.specs.Fmt.{digit_glyph, digits, digits_onto, signed_decimal}
use Rattle.std.specs.List.{list_all}
use Rattle.intervals.specs.declared.claim.Kind.{Kind}
use Rattle.intervals.specs.declared.claim.Kind.TheVariants.{Safe, Regular, Atomic}
use Rattle.intervals.specs.Code.{refusal_code}
use Rattle.intervals.specs.declared.refusal.Refusal.{Refusal}
use Rattle.jepsen_form.specs.Code.{form_fault_code}
use Rattle.jepsen_form.specs.declared.fault.FormFault.{FormFault}
use Rattle.pairing.specs.Code.{pair_fault_code}
use Rattle.pairing.specs.declared.fault.PairFault.{PairFault}
use Rattle.logs.specs.Code.{break_code_of, refused_code}
use Rattle.logs.specs.declared.log.BreakCode.{BreakCode}
use Rattle.logs.specs.declared.log.Code.{Code}
use Rattle.logs.specs.declared.log.Code.TheVariants.{Form, Pair, Register}
use Rattle.phrases.specs.Names.{kind_word}
use Rattle.records.specs.Grammar.{is_record_word, is_word_byte}
use Rattle.records.specs.Operation.{act_word}

-- numbers

glyph_is : (d : ℕ) → d < 10 → is_word_byte (digit_glyph false d) ≡ true
glyph_is d small = grind (arith, nat_tests)

digit_is : (n : ℕ) → is_word_byte (digit_glyph false (n % 10)) ≡ true
digit_is n = glyph_is (n % 10) (mod-lt n (omega arith))

-- a digit before bytes that all may be in a word
pub begun : (b : ℕ) (bytes : List ℕ) → is_word_byte b ≡ true → list_all is_word_byte bytes ≡ true → is_record_word (b ∷ bytes) ≡ true
begun b bytes is all = rw is all

pub all_of : (bytes : List ℕ) → is_record_word bytes ≡ true → list_all is_word_byte bytes ≡ true
all_of [] is = refl
all_of (b ∷ bytes) is = is

either : (t : Bool) (xs ys : List ℕ) → is_record_word xs ≡ true → is_record_word ys ≡ true → is_record_word (cond t xs ys) ≡ true
either true xs ys left right = left
either false xs ys left right = right

onto_is : (k n : ℕ) (acc : List ℕ) → is_record_word acc ≡ true → is_record_word (digits_onto k 10 false n acc) ≡ true
onto_is zero n acc is = is
onto_is (suc k) n acc is =
    let more = begun (digit_glyph false (n % 10)) acc (digit_is n) (all_of acc is) in
    either (eqb (n / 10) 0) _ _ more (onto_is k (n / 10) (digit_glyph false (n % 10) ∷ acc) more)

first_onto : (k n : ℕ) → is_record_word (digits_onto (suc k) 10 false n []) ≡ true
first_onto k n =
    let one = begun (digit_glyph false (n % 10)) [] (digit_is n) refl in
    either (eqb (n / 10) 0) _ _ one (onto_is k (n / 10) (digit_glyph false (n % 10) ∷ []) one)

pub whole_number : (n : ℕ) → is_record_word (decimal n) ≡ true
unfolding digits
whole_number n = first_onto 63 n

pub whole_integer : (i : ℤ) → is_record_word (signed_decimal i) ≡ true
whole_integer (pos n) = whole_number n
whole_integer (negsuc n) = begun 45 (decimal (suc n)) refl (all_of (decimal (suc n)) (whole_number (suc n)))

-- words

pub whole_kind : (kind : Kind) → is_record_word (kind_word kind) ≡ true
whole_kind Safe = refl
whole_kind Regular = refl
whole_kind Atomic = refl

pub whole_act : (writes : Bool) → is_record_word (act_word writes) ≡ true
whole_act true = refl
whole_act false = refl

pub whole_break : (code : BreakCode) → is_record_word (break_code_of code) ≡ true
whole_break code = grind arith

whole_refusal : (refusal : Refusal) → is_record_word (refusal_code refusal) ≡ true
whole_refusal refusal = grind arith

whole_form : (fault : FormFault) → is_record_word (form_fault_code fault) ≡ true
whole_form fault = grind arith

whole_pair : (fault : PairFault) → is_record_word (pair_fault_code fault) ≡ true
whole_pair fault = grind arith

pub whole_code : (code : Code) → is_record_word (refused_code code) ≡ true
whole_code (Form fault) = whole_form fault
whole_code (Pair fault) = whole_pair fault
whole_code (Register refusal) = whole_refusal refusal
