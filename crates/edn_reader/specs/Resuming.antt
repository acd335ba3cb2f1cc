-- A token that goes on: the part of it that the bytes so far hold, and what that makes of the bytes that follow.
use Rattle.std.specs.Prelude.{◌≡◌, ◌≤◌, ◌+◌, ◌-◌, ℕ, List, [], ◌∷◌, ◌++◌, length}
use Rattle.edn_reader.specs.declared.element.ElementKind.TheVariants as kinds
use Rattle.edn_reader.specs.declared.token.Token.{Token}
use Rattle.edn_reader.specs.declared.token.Token.TheVariants.{Gap, Leaf, Unfinished}
use Rattle.edn_reader.specs.declared.resume.Part.{Part}
use Rattle.edn_reader.specs.declared.resume.Part.TheVariants.{Nothing, Comment, Run, Text, Escape, Hash, Backslash}
use Rattle.edn_reader.specs.declared.resume.Ahead.{Ahead}
use Rattle.edn_reader.specs.declared.resume.Ahead.TheVariants.{Whole, Within}
use Rattle.edn_reader.specs.Bytes.{is_run, is_in_comment, stretch}
use Rattle.edn_reader.specs.Token.{quoted_token, after_hash, lexed}

-- the token, longer by so many bytes before it
abbrev pub longer : ℕ → Token × ℕ → Token × ℕ
longer n x = (x.0, n + x.1)

-- the token, shorter by its first byte
abbrev pub less_one : Token × ℕ → Token × ℕ
less_one x = (x.0, x.1 - 1)

-- the token that a part makes with the bytes that follow it, and how many of them it takes; of `Nothing`, the token
-- that they begin with
abbrev pub resumed : Part → List ℕ → Token × ℕ
resumed Nothing bytes = lexed bytes
resumed Comment bytes = (Gap, stretch is_in_comment bytes)
resumed (Run token) bytes = (token, stretch is_run bytes)
resumed Text bytes = quoted_token 0 bytes
resumed Escape [] = (Unfinished, 0)
resumed Escape (b ∷ bytes) = quoted_token 1 bytes
resumed Hash bytes = less_one (after_hash bytes)
resumed Backslash [] = (Unfinished, 0)
resumed Backslash (b ∷ bytes) = (Leaf kinds.Char, 1 + stretch is_run bytes)

-- the token that a part is where no byte follows it
abbrev pub last : Part → Token
last Nothing = Unfinished
last Comment = Gap
last (Run token) = token
last Text = Unfinished
last Escape = Unfinished
last Hash = Unfinished
last Backslash = Unfinished

-- what a part makes of the bytes from a place on, whatever follows them: a token that ends within them, or the part of
-- one that they end within
unfoldable pub LooksAhead : Part → ℕ → List ℕ → Ahead → Type 0
LooksAhead part at bytes (Whole found) =
    (at ≤ found.end) × (found.end ≤ at + length bytes) × ((more : List ℕ) → resumed part (bytes ++ more) ≡ (found.token, found.end - at))
LooksAhead part at bytes (Within later) = (more : List ℕ) → resumed part (bytes ++ more) ≡ longer (length bytes) (resumed later more)
