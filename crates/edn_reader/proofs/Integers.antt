-- Digits from left to right, and that more of them make a number no less.
use Rattle.std.proofs.Common.{◌≡◌, ℕ, ◌+◌, ◌-◌, ◌*◌, ◌<◌, ◌≤◌, Bool, true, false, cond, List, [], ◌∷◌, length, drop, get_or, Option, Some, None, refl, sym, ap, ◌∙◌, arith}
use Rattle.std.proofs.Math.ListN.{drop_of_length-le}
use Rattle.edn_reader.specs.Integer.{is_digit, is_suffix, digits_after}
use Rattle.edn_reader.proofs.Stretches.{drop_here}

pub digits_go : (xs : List ℕ) (i value : ℕ) → i < length xs → is_digit (get_or xs i 0) ≡ true → digits_after value (drop i xs) ≡ digits_after (10 * value + (get_or xs i 0 - 48)) (drop (i + 1) xs)
unfolding digits_after
digits_go xs i value lt e = rw (drop_here xs i lt, e) refl

digits_ended : (value : ℕ) (bytes : List ℕ) → (0 < length bytes → is_digit (get_or bytes 0 0) ≡ false) → digits_after value bytes ≡ cond (is_suffix bytes) (Some value) None
unfolding digits_after
digits_ended value [] h = refl
digits_ended value (b ∷ bytes) h = let e : is_digit b ≡ false = h (omega arith) in rw e refl

pub digits_stop : (xs : List ℕ) (i value : ℕ) → i < length xs → is_digit (get_or xs i 0) ≡ false → digits_after value (drop i xs) ≡ cond (is_suffix (drop i xs)) (Some value) None
digits_stop xs i value lt e =
    let whole = drop_here xs i lt in
    digits_ended value (drop i xs) (λ h. ap (λ (ys : List ℕ). is_digit (get_or ys 0 0)) whole ∙ e)

pub digits_past : (xs : List ℕ) (i value : ℕ) → length xs ≤ i → digits_after value (drop i xs) ≡ cond (is_suffix (drop i xs)) (Some value) None
digits_past xs i value le =
    let whole : drop i xs ≡ [] = drop_of_length-le xs le in
    digits_ended value (drop i xs) (λ h. absurd (omega (arith, ap length whole)))

-- more digits make a number no less
digits_grow_by : (t s : Bool) (value more n : ℕ) (r : Option ℕ) → (r ≡ Some n → more ≤ n) → value ≤ more → cond t r (cond s (Some value) None) ≡ Some n → value ≤ n
digits_grow_by true s value more n r h le e = omega (arith, h e)
digits_grow_by false true value more n r h le e = let same : value ≡ n = cc in omega (arith, same)
digits_grow_by false false value more n r h le e = absurd cc

pub digits_grow : (bytes : List ℕ) (value n : ℕ) → digits_after value bytes ≡ Some n → value ≤ n
unfolding digits_after
digits_grow [] value n e = let same : value ≡ n = cc in omega (arith, same)
digits_grow (b ∷ bytes) value n e =
    digits_grow_by (is_digit b) (is_suffix (b ∷ bytes)) value (10 * value + (b - 48)) n (digits_after (10 * value + (b - 48)) bytes) (digits_grow bytes (10 * value + (b - 48)) n) (omega arith) e

pub digits_done : (xs : List ℕ) (i value : ℕ) (suffix : Bool) → suffix ≡ is_suffix (drop i xs) → suffix ≡ true → digits_after value (drop i xs) ≡ cond (is_suffix (drop i xs)) (Some value) None → digits_after value (drop i xs) ≡ Some value
digits_done xs i value suffix s t e = e ∙ ap (λ (b : Bool). cond b (Some value) None) (sym s ∙ t)
