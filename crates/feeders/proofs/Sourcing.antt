-- What a source has given is a prefix of what its reader had.
use Rattle.std.proofs.Common.{◌≡◌, ℕ, ◌<◌, ◌≤◌, ◌+◌, Bool, true, false, List, ◌++◌, length, take, drop, Option, Some, None, sym, ap, subst, ◌∙◌, arith, append_assoc, length-append, length-drop, take-append-drop, take-take}
use Rattle.std.proofs.Math.Seq.{take-append-add}
use Rattle.std.proofs.lemmas.Option.{none-some, same_Some}
use Rattle.std.proofs.lemmas.List.{length-take-le, take-append-le}
use Rattle.std.specs.Io.KnownBytes.{Keeps, Consumes}
use Rattle.feeders.specs.Source.{AreBytesOf}

-- the prefix of what a read gave, of a reader that kept its bytes until then
pub front_given : (first before until after : Option (List ℕ)) (bytes read following : List ℕ) (room count : ℕ) → AreBytesOf first bytes before false → Keeps before until → Consumes until after (take count read)
    → room < count → count ≤ length read → AreBytesOf first (bytes ++ take room (read ++ following)) after true
front_given None before until after bytes read following room count given kept more some there = tt
front_given (Some all) None until after bytes read following room count given kept more some there = absurd (none-some given.0 given.1)
front_given (Some all) (Some left) None after bytes read following room count given kept more some there = absurd kept
front_given (Some all) (Some left) (Some still) None bytes read following room count given kept more some there = absurd more
front_given (Some all) (Some left) (Some still) (Some rest) bytes read following room count given kept more some there =
    let front = take room (read ++ following) in
    let others = drop room (take count read) in
    let same : take room (take count read) ≡ front = take-take room count read (omega (arith, some)) ∙ sym (take-append-le room read following (omega (arith, some, there))) in
    let parted : take count read ≡ front ++ others = sym (take-append-drop room (take count read)) ∙ ap (λ (l : List ℕ). l ++ others) same in
    let had : given.0 ≡ front ++ (others ++ rest) = sym (same_Some left given.0 given.1) ∙ sym kept ∙ more ∙ ap (λ (l : List ℕ). l ++ rest) parted ∙ append_assoc front others rest in
    let whole : all ≡ (bytes ++ front) ++ (others ++ rest) = given.2 ∙ ap (λ (l : List ℕ). bytes ++ l) had ∙ sym (append_assoc bytes front (others ++ rest)) in
    (others ++ rest, whole, omega (arith, some, length-append others rest, length-drop room (take count read), length-take-le count read there))

-- the bytes that were given are a prefix of what the reader had
pub given_front : (all bytes : List ℕ) (left : Option (List ℕ)) (past : Bool) → AreBytesOf (Some all) bytes left past → (rest : List ℕ) × (all ≡ bytes ++ rest)
given_front all bytes left false given = (given.0, given.2)
given_front all bytes left true given = (given.0, given.1)

-- the used bytes, and so many of those that were read
pub read_after_used : (used count : ℕ) (old read rest : List ℕ) → used ≤ length old → count ≤ length read → take (used + count) (take used old ++ (read ++ rest)) ≡ take used old ++ take count read
read_after_used used count old read rest within few =
    subst (λ (n : ℕ). take (n + count) (take used old ++ (read ++ rest)) ≡ take used old ++ take count (read ++ rest)) (length-take-le used old within) (take-append-add (take used old) (read ++ rest) count)
    ∙ ap (λ (l : List ℕ). take used old ++ l) (take-append-le count read rest few)
