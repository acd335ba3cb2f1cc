-- What `clap`'s getters give of an argument, by the rows of its matches, and what a text says of shards.
use Rattle.std.proofs.Common.{◌≡◌, ◌≤◌, ◌<◌, ◌-◌, ◌&&◌, ◌^◌, ℕ, ℤ, pos, negsuc, Bool, true, false, List, [], ◌∷◌, length, Option, Some, None, Err, ◌∙◌, refl, sym, ap, arith, nat_lt, lt-ltb, ltb-true}
use Rattle.std.specs.Prelude.{FitsSigned, codes, nat_le, option_map}
use Rattle.std.specs.Int.{w64}
use Rattle.std.specs.Str.{bytes_eq}
use mir.Facts.{to_z-of_z}
use mir.Val.{of_z, to_z}
use Rattle.std.specs.List.{list_all}
use Rattle.std.specs.Char.{digit_value}
use Rattle.std.specs.Str.Parse.{AllDigits, IsNumeral, ParsesSigned, ParsesUnsigned, digits_value, signed_digits_value, without_leading_plus, without_leading_sign}
use Rattle.std.proofs.lemmas.Bool.Decides.{nat_tests}
use Rattle.clap.specs.Words.{Text, all_of, first_of, first_value, found_of, matched_of, raw_values, rows_of}
use Rattle.clap.specs.ValueTests.{fits_i64, is_numeral, is_unsigned_in}
use Rattle.clap.specs.declared.ArgMatches.{ArgMatches}
use Rattle.clap.proofs.WalkLemmas.{both, first_value-rows, raw_values-rows}
use Rattle.intervals.specs.declared.claim.Initial.TheVariants.{Known}
use Rattle.intervals.specs.declared.claim.Kind.{Kind}
use Rattle.intervals.specs.declared.operation.Value.TheVariants.{Int}
use Rattle.words.specs.Words.{count_in, initial_named, is_integer, shards_in, status_in}

-- the value that a getter gives is that among the rows
pub value_in : (found : ArgMatches) (id : Text) (value : Option Text) → value ≡ first_value (found_of found) id → first_of id (rows_of (found_of found)) ≡ value
value_in found id value is = sym (first_value-rows (found_of found) id) ∙ sym is

-- the values that a getter gives are those among the rows
pub values_in : (found : ArgMatches) (id : Text) (values : Option (List Text)) → values ≡ option_map raw_values (matched_of (found_of found) id) → all_of id (rows_of (found_of found)) ≡ values
values_in found id values is = sym (raw_values-rows (found_of found) id) ∙ sym is

digits_pass : (digits : Text) → AllDigits 10 digits → list_all (λ digit. nat_lt (digit_value digit) 10) digits ≡ true
digits_pass [] all = refl
digits_pass (digit ∷ digits) all = rw (lt-ltb (digit_value digit) 10 all.0) (digits_pass digits all.1)

digits_from : (digits : Text) → list_all (λ digit. nat_lt (digit_value digit) 10) digits ≡ true → AllDigits 10 digits
digits_from [] passes = tt
digits_from (digit ∷ digits) passes =
    let parts = both _ _ passes in
    (ltb-true _ _ parts.0, digits_from digits parts.1)

numeral_passes : (digits : Text) → IsNumeral 10 digits → is_numeral digits ≡ true
numeral_passes digits is = rw (lt-ltb 0 (length digits) is.0, digits_pass digits is.1) refl

numeral_from : (digits : Text) → is_numeral digits ≡ true → IsNumeral 10 digits
numeral_from digits passes =
    let parts = both _ _ passes in
    (ltb-true _ _ parts.0, digits_from digits parts.1)

in_bounds : (n : ℕ) → 1 ≤ n → n ≤ 64 → (nat_lt n (2 ^ 64) && (nat_le 1 n && nat_le n 64)) ≡ true
in_bounds n low high = grind (arith, nat_tests)

from_bounds : (n : ℕ) → (nat_lt n (2 ^ 64) && (nat_le 1 n && nat_le n 64)) ≡ true → n ≤ 64
from_bounds n passes = grind (arith, nat_tests)

pub some_shards : (text : Text) (n : ℕ) → IsNumeral 10 (without_leading_plus text) → n ≡ digits_value 10 (without_leading_plus text) → 1 ≤ n → n ≤ 64 → Some n ≡ shards_in text
some_shards text n numeral is low high =
    let digits = without_leading_plus text in
    let passes = in_bounds (digits_value 10 digits) (rw (← is) low) (rw (← is) high) in
    rw (numeral_passes digits numeral, passes) (ap Some is)

pub no_shards : {E : Type 0} (text : Text) (error : E) → ParsesUnsigned 32 10 text (Err error) → None ≡ shards_in text
no_shards text error fails = go (is_unsigned_in 1 64 text) refl
  where
    go : (passes : Bool) → is_unsigned_in 1 64 text ≡ passes → None ≡ shards_in text
    go false is = rw is refl
    go true is =
        let parts = both _ _ is in
        let small = from_bounds (digits_value 10 (without_leading_plus text)) parts.1 in
        absurd (fails (numeral_from (without_leading_plus text) parts.0, omega arith))

within_64_bits : (n : ℕ) → n < 2 ^ 64 → (nat_lt n (2 ^ 64) && (nat_le 0 n && nat_le n (2 ^ 64 - 1))) ≡ true
within_64_bits n below = grind (arith, nat_tests)

from_64_bits : (n : ℕ) → (nat_lt n (2 ^ 64) && (nat_le 0 n && nat_le n (2 ^ 64 - 1))) ≡ true → n < 2 ^ 64
from_64_bits n passes = grind (arith, nat_tests)

pub some_count : (text : Text) (n : ℕ) → IsNumeral 10 (without_leading_plus text) → n ≡ digits_value 10 (without_leading_plus text) → n < 2 ^ 64 → Some n ≡ count_in text
some_count text n numeral is below =
    let digits = without_leading_plus text in
    let passes = within_64_bits (digits_value 10 digits) (rw (← is) below) in
    rw (numeral_passes digits numeral, passes) (ap Some is)

pub no_count : {E : Type 0} (text : Text) (error : E) → ParsesUnsigned 64 10 text (Err error) → None ≡ count_in text
no_count text error fails = go (is_unsigned_in 0 (2 ^ 64 - 1) text) refl
  where
    go : (passes : Bool) → is_unsigned_in 0 (2 ^ 64 - 1) text ≡ passes → None ≡ count_in text
    go false is = rw is refl
    go true is =
        let parts = both _ _ is in
        let small = from_64_bits (digits_value 10 (without_leading_plus text)) parts.1 in
        absurd (fails (numeral_from (without_leading_plus text) parts.0, omega arith))

within_8_bits : (n : ℕ) → n < 2 ^ 8 → (nat_lt n (2 ^ 64) && (nat_le 0 n && nat_le n 255)) ≡ true
within_8_bits n below = grind (arith, nat_tests)

from_8_bits : (n : ℕ) → (nat_lt n (2 ^ 64) && (nat_le 0 n && nat_le n 255)) ≡ true → n < 2 ^ 8
from_8_bits n passes = grind (arith, nat_tests)

pub some_status : (text : Text) (n : ℕ) → IsNumeral 10 (without_leading_plus text) → n ≡ digits_value 10 (without_leading_plus text) → n < 2 ^ 8 → Some n ≡ status_in text
some_status text n numeral is below =
    let digits = without_leading_plus text in
    let passes = within_8_bits (digits_value 10 digits) (rw (← is) below) in
    rw (numeral_passes digits numeral, passes) (ap Some is)

pub no_status : {E : Type 0} (text : Text) (error : E) → ParsesUnsigned 8 10 text (Err error) → None ≡ status_in text
no_status text error fails = go (is_unsigned_in 0 255 text) refl
  where
    go : (passes : Bool) → is_unsigned_in 0 255 text ≡ passes → None ≡ status_in text
    go false is = rw is refl
    go true is =
        let parts = both _ _ is in
        let small = from_8_bits (digits_value 10 (without_leading_plus text)) parts.1 in
        absurd (fails (numeral_from (without_leading_plus text) parts.0, omega arith))

fits_64_bits : (z : ℤ) → FitsSigned w64 z → fits_i64 z ≡ true
fits_64_bits (pos n) fits = lt-ltb _ _ fits.sfits
fits_64_bits (negsuc n) fits = lt-ltb _ _ fits.sfits

from_fits : (z : ℤ) → fits_i64 z ≡ true → FitsSigned w64 z
from_fits (pos n) passes = record { sfits = ltb-true _ _ passes }
from_fits (negsuc n) passes = record { sfits = ltb-true _ _ passes }

-- an initial value that is an integer
pub some_integer : (kind : Kind) (text : Text) (n : ℤ) → bytes_eq text (codes "nil") ≡ false → bytes_eq text (codes "unknown") ≡ false → IsNumeral 10 (without_leading_sign text)
    → FitsSigned w64 (signed_digits_value 10 text) → n ≡ signed_digits_value 10 text → Some (Known (Int (to_z w64 (of_z w64 n)))) ≡ initial_named kind text
some_integer kind text n no_nil no_unknown numeral fits is =
    let whole : is_integer text ≡ true = rw (numeral_passes (without_leading_sign text) numeral, fits_64_bits (signed_digits_value 10 text) fits) refl in
    let same : to_z w64 (of_z w64 n) ≡ signed_digits_value 10 text = rw is (to_z-of_z fits) in
    rw (no_nil, no_unknown, whole, same) refl

-- an initial value that is none of the words and no integer
pub no_integer : {E : Type 0} (kind : Kind) (text : Text) (error : E) → bytes_eq text (codes "nil") ≡ false → bytes_eq text (codes "unknown") ≡ false → ParsesSigned w64 10 text (Err error)
    → None ≡ initial_named kind text
no_integer kind text error no_nil no_unknown fails = go (is_integer text) refl
  where
    go : (passes : Bool) → is_integer text ≡ passes → None ≡ initial_named kind text
    go false is = rw (no_nil, no_unknown, is) refl
    go true is =
        let parts = both _ _ is in
        absurd (fails (numeral_from (without_leading_sign text) parts.0, from_fits (signed_digits_value 10 text) parts.1))
