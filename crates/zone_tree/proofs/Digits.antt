-- A number is less than 2^d, d the number of its binary digits, and at least 2^(d - 1) where it is not zero. So the
-- digits of greater numbers are no fewer.
use Rattle.std.proofs.Common.{◌⊎◌, inl, inr, ℕ, ◌-◌, ◌^◌, ◌<◌, ◌≤◌, length, subst, arith}
use Rattle.std.specs.Int.Digits.{digits_of}
use Rattle.std.proofs.Math.Pow.{pow_mono}
use Rattle.std.proofs.lemmas.Bool.{cases_lt}
use Rattle.std.proofs.lemmas.Int.Digits.{number_lt, number_digits_of, all_below_base_digits_of, length-digits_of-le, length-digits_of_step}
use Rattle.zone_tree.specs.Digits.{binary_digits}

below_digits : (n : ℕ) → n < 2 ^ length (digits_of 2 n)
below_digits n = subst (λ k. k < 2 ^ length (digits_of 2 n)) (number_digits_of 2 n (omega arith)) (number_lt 2 (digits_of 2 n) (all_below_base_digits_of 2 n (omega arith)))

pub digits_above : (n : ℕ) → n < 2 ^ binary_digits n
digits_above n =
    let more : 2 ^ length (digits_of 2 n) ≤ 2 ^ binary_digits n = pow_mono (omega arith) in
    omega (arith, below_digits n, more)

digits_least_by : (n : ℕ) → 1 ≤ n → (n < 2 ^ (binary_digits n - 1)) ⊎ (2 ^ (binary_digits n - 1) ≤ n) → 2 ^ (binary_digits n - 1) ≤ n
digits_least_by n some (inr h) = h
digits_least_by n some (inl h) =
    absurd (omega (arith, length-digits_of-le 2 (binary_digits n - 1) n (omega arith) h, length-digits_of_step 2 n (omega arith) some))

pub digits_least : (n : ℕ) → 1 ≤ n → 2 ^ (binary_digits n - 1) ≤ n
digits_least n some = digits_least_by n some (cases_lt n (2 ^ (binary_digits n - 1)))

digits_rise_by : (m n : ℕ) → 1 ≤ m → m ≤ n → (binary_digits m - 1 < binary_digits n) ⊎ (binary_digits n ≤ binary_digits m - 1) → binary_digits m ≤ binary_digits n
digits_rise_by m n some le (inl less) = omega (arith, less)
digits_rise_by m n some le (inr more) =
    let high : 2 ^ binary_digits n ≤ 2 ^ (binary_digits m - 1) = pow_mono more in
    absurd (omega (arith, high, digits_least m some, le, digits_above n))

-- a greater number has no fewer digits
pub digits_rise : (m n : ℕ) → 1 ≤ m → m ≤ n → binary_digits m ≤ binary_digits n
digits_rise m n some le = digits_rise_by m n some le (cases_lt (binary_digits m - 1) (binary_digits n))
