-- Binary digits.
use Rattle.std.specs.Prelude.{ℕ, max, length}
use Rattle.std.specs.Int.Digits.{digits_of}

-- how many binary digits a number has; zero has one
abbrev pub binary_digits : ℕ → ℕ
binary_digits n = max 1 (length (digits_of 2 n))
