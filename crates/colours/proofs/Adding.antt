-- What is shown of a text, after more of it was added.
use Rattle.std.proofs.Common.{◌≡◌, ◌∙◌, ◌≤◌, ◌-◌, ◌≢◌, ℕ, List, [], ◌++◌, take, drop, sym, subst, ap, arith}
use Rattle.std.proofs.Math.Seq.{take-add}
use Rattle.std.proofs.lemmas.List.{append_assoc, take-append-drop}
use Rattle.std.proofs.lemmas.List.Elements.{All-drop, All-take}
use Rattle.colours.specs.declared.escapes.TextColour.{TextColour}
use Rattle.colours.specs.Painted.{Adds, IsInOneLine, IsPainted, nothing, plain, coloured, escape, reset}

-- bytes that were added as they are
pub plainly : (bytes old new : List ℕ) → new ≡ old ++ bytes → Adds bytes old new
plainly bytes old new is text so_far = subst (λ (shown : List ℕ). IsPainted (text ++ bytes) shown) (sym is) (plain so_far bytes)

-- a part of a line that was added in a colour
pub in_colour : (colour : TextColour) (bytes old begun first new : List ℕ) → IsInOneLine bytes → begun ≡ old ++ escape colour → first ≡ begun ++ bytes
    → new ≡ first ++ reset → Adds bytes old new
in_colour colour bytes old begun first new line begins goes ends text so_far =
    subst (λ (shown : List ℕ). IsPainted (text ++ bytes) shown) (sym whole) (coloured so_far colour bytes line)
  where
    whole : new ≡ old ++ (escape colour ++ (bytes ++ reset))
    whole = ends ∙ ap (λ (shown : List ℕ). shown ++ reset) (goes ∙ ap (λ (shown : List ℕ). shown ++ bytes) begins)
        ∙ append_assoc (old ++ escape colour) bytes reset ∙ append_assoc old (escape colour) (bytes ++ reset)

-- bytes that were added one after the other
joined : (one two old between new : List ℕ) → Adds one old between → Adds two between new → Adds (one ++ two) old new
joined one two old between new first second text so_far =
    subst (λ (bytes : List ℕ). IsPainted bytes new) (append_assoc text one two) (second (text ++ one) (first text so_far))

-- bytes that were added in two parts
in_two : (at : ℕ) (bytes old between new : List ℕ) → Adds (take at bytes) old between → Adds (drop at bytes) between new → Adds bytes old new
in_two at bytes old between new first second =
    subst (λ (whole : List ℕ). Adds whole old new) (take-append-drop at bytes) (joined (take at bytes) (drop at bytes) old between new first second)

-- a line that was added in three parts
pub in_three : (head blanks : ℕ) (line old first second new : List ℕ) → Adds (take head line) old first
    → Adds (take blanks (drop head line)) first second → Adds (drop blanks (drop head line)) second new → Adds line old new
in_three head blanks line old first second new one two three =
    in_two head line old first new one (in_two blanks (drop head line) first second new two three)

-- a part of a line is in one line
pub front_of_line : (n : ℕ) (bytes : List ℕ) → IsInOneLine bytes → IsInOneLine (take n bytes)
front_of_line n bytes line = All-take (λ byte. byte ≢ 10) n bytes line

pub rest_of_line : (n : ℕ) (bytes : List ℕ) → IsInOneLine bytes → IsInOneLine (drop n bytes)
rest_of_line n bytes line = All-drop (λ byte. byte ≢ 10) n bytes line

-- the text up to here is shown, and its next bytes were added
pub going_on : (text : List ℕ) (at end : ℕ) (old new : List ℕ) → at ≤ end → IsPainted (take at text) old
    → Adds (take (end - at) (drop at text)) old new → IsPainted (take end text) new
going_on text at end old new order so_far adds =
    subst (λ (bytes : List ℕ). IsPainted bytes new) (sym (take-add at (end - at) text) ∙ ap (λ (n : ℕ). take n text) (omega (arith, order)))
    (adds (take at text) so_far)

-- nothing of the text is shown yet
pub at_first : (shown : List ℕ) → shown ≡ [] → IsPainted [] shown
at_first shown is = subst (λ (bytes : List ℕ). IsPainted [] bytes) (sym is) nothing
