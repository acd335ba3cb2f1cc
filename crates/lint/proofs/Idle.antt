-- The unused ones of the first registers, and whether the next one is.
use Rattle.std.proofs.Common.{◌≡◌, ◌+◌, ℕ, Bool, List, [], ◌∷◌, ◌++◌, arith}
use Rattle.std.proofs.lemmas.List.FromFn.{map-range_with_len_more}
use Rattle.shards.specs.Closing.{ClosedShard, book_of}
use Rattle.lint.specs.Idle.{is_unused, unused_among}

pub unused_more : (closed : List ClosedShard) (many : ℕ) (unused : List Bool) (next : Bool) → unused ≡ unused_among closed many → next ≡ is_unused (book_of closed many)
    → unused ++ next ∷ [] ≡ unused_among closed (many + 1)
unused_more closed many unused next so_far is =
    rw (map-range_with_len_more (λ (register : ℕ). is_unused (book_of closed register)) 0 many many (omega arith), so_far, is)
