-- What the buffer of last bytes holds after one chunk more.
use Rattle.std.proofs.Common.{◌≡◌, ℕ, zero, suc, ◌+◌, ◌-◌, ◌≤◌, List, [], ◌∷◌, ◌++◌, length, drop, Result, Ok, Err, IsOk, is_ok, if◌then◌else◌, refl, sym, ap, ◌∙◌, arith, append_assoc, length-append, length-drop}
use Rattle.std.proofs.Math.Seq.{drop-append-add}
use Rattle.std.specs.Prelude.{replicate}
use Rattle.std.proofs.lemmas.List.{drop-append-le, length-replicate}
use Rattle.std.specs.declared.alloc.AllocError.{AllocError}
use Rattle.feeders.specs.declared.tail_buffer.TailBuffer.{TailBuffer}
use Rattle.feeders.specs.TailBuffer.{AreLastBytes}

drop_none : (n : ℕ) → drop {A = ℕ} n [] ≡ []
drop_none zero = refl
drop_none (suc n) = refl

pub drop_twice : (n m : ℕ) (xs : List ℕ) → drop n (drop m xs) ≡ drop (m + n) xs
drop_twice n zero xs = let same : n ≡ 0 + n = omega arith in ap (λ (k : ℕ). drop k xs) same
drop_twice n (suc m) [] = ap (drop n) (drop_none (suc m)) ∙ drop_none n ∙ sym (drop_none (suc m + n))
drop_twice n (suc m) (x ∷ xs) = let same : suc (m + n) ≡ suc m + n = omega arith in drop_twice n m xs ∙ ap (λ (k : ℕ). drop k (x ∷ xs)) same

-- the bytes from a place in the chunk on
pub in_piece : (taken piece : List ℕ) (end start : ℕ) → length taken ≡ end → end ≤ start → drop (start - end) piece ≡ drop start (taken ++ piece)
in_piece taken piece end start long le =
    sym (ap (λ (n : ℕ). drop n (taken ++ piece)) (omega (arith, long, le)) ∙ drop-append-add taken piece (start - end))

-- the bytes from a kept place on
pub with_piece : (taken piece kept : List ℕ) (from start : ℕ) → from ≤ length taken → from ≤ start → kept ≡ drop from taken → drop (start - from) (kept ++ piece) ≡ drop start (taken ++ piece)
with_piece taken piece kept from start within low last =
    ap (λ (xs : List ℕ). drop (start - from) (xs ++ piece)) last
    ∙ ap (drop (start - from)) (sym (drop-append-le from taken piece within))
    ∙ drop_twice (start - from) from (taken ++ piece)
    ∙ ap (λ (n : ℕ). drop n (taken ++ piece)) (omega (arith, low))

-- a chunk more after what is kept
pub holds_more : (taken piece : List ℕ) (old new : TailBuffer) → new.from ≡ old.from → new.bytes.items ≡ old.bytes.items ++ piece → AreLastBytes taken old → AreLastBytes (taken ++ piece) new
holds_more taken piece old new from items holds = record {
  long = omega (arith, from, ap length items, length-append old.bytes.items piece, holds.long, length-append taken piece);
  last = items ∙ ap (λ (xs : List ℕ). xs ++ piece) holds.last
      ∙ sym (drop-append-le old.from taken piece (omega (arith, holds.long)))
      ∙ ap (λ (n : ℕ). drop n (taken ++ piece)) (sym from);
}

-- the last bytes of the chunk alone
pub holds_anew : (taken piece : List ℕ) (end passed : ℕ) (new : TailBuffer) → length taken ≡ end → passed ≤ length piece → new.from ≡ end + passed → new.bytes.items ≡ drop passed piece → AreLastBytes (taken ++ piece) new
holds_anew taken piece end passed new long within from items = record {
  long = omega (arith, from, ap length items, length-drop passed piece, within, long, length-append taken piece);
  last = items ∙ ap (λ (n : ℕ). drop n piece) (omega (arith, from)) ∙ in_piece taken piece end new.from long (omega (arith, from));
}

pub taken_anew : (piece cleared more : List ℕ) (old : TailBuffer) (end passed : ℕ) (new : TailBuffer) (result : Result (Unit {0}) AllocError) → IsOk result → end ≡ old.from + length old.bytes.items → passed ≤ length piece
    → new.from ≡ end + passed → new.bytes.items ≡ (if is_ok result then cleared ++ more else cleared) → cleared ≡ [] → more ≡ drop passed piece
    → (taken : List ℕ) → AreLastBytes taken old → AreLastBytes (taken ++ piece) new
taken_anew piece cleared more old end passed new (Err fault) ok is within from items none rest taken holds = absurd cc
taken_anew piece cleared more old end passed new (Ok done) ok is within from items none rest taken holds =
    holds_anew taken piece end passed new (omega (arith, is, holds.long)) within from (items ∙ ap (λ (xs : List ℕ). xs ++ more) none ∙ rest)

-- a chunk more, for which there was room
pub taken_more : (piece : List ℕ) (old new : TailBuffer) (result : Result (Unit {0}) AllocError) → IsOk result → new.from ≡ old.from
    → new.bytes.items ≡ (if is_ok result then old.bytes.items ++ piece else old.bytes.items) → (taken : List ℕ) → AreLastBytes taken old → AreLastBytes (taken ++ piece) new
taken_more piece old new (Err fault) ok from items taken holds = absurd cc
taken_more piece old new (Ok done) ok from items taken holds = holds_more taken piece old new from items holds

-- the kept bytes from a place on
pub from_kept : (taken : List ℕ) (kept : TailBuffer) (start : ℕ) → kept.from ≤ start → AreLastBytes taken kept → drop (start - kept.from) kept.bytes.items ≡ drop start taken
from_kept taken kept start low holds =
    ap (drop (start - kept.from)) holds.last ∙ drop_twice (start - kept.from) kept.from taken ∙ ap (λ (n : ℕ). drop n taken) (omega (arith, low))

-- with a chunk more the buffer still begins no later than `keep`
pub kept_on : (old new : TailBuffer) (piece : List ℕ) (keep : ℕ) → ((taken : List ℕ) → AreLastBytes taken old → AreLastBytes (taken ++ piece) new) → old.from ≤ keep → new.from ≤ keep
    → (drop (keep - new.from) new.bytes.items ≡ drop (keep - old.from) (old.bytes.items ++ piece)) × (new.from + length new.bytes.items ≡ old.from + length old.bytes.items + length piece)
kept_on old new piece keep holds low new_low =
    let before : List ℕ = replicate old.from 0 in
    let some : List ℕ = before ++ old.bytes.items in
    let many : length before ≡ old.from = length-replicate old.from 0 in
    let first : AreLastBytes some old = record {
      long = omega (arith, many, length-append before old.bytes.items);
      last = sym (ap (λ (n : ℕ). drop n some) (sym many ∙ sym (omega arith)) ∙ drop-append-add before old.bytes.items 0);
    } in
    let both = holds some first in (
      from_kept (some ++ piece) new keep new_low both
          ∙ ap (drop keep) (append_assoc before old.bytes.items piece)
          ∙ ap (λ (n : ℕ). drop n (before ++ (old.bytes.items ++ piece))) (omega (arith, many, low))
          ∙ drop-append-add before (old.bytes.items ++ piece) (keep - old.from),
      omega (arith, both.long, length-append some piece, length-append before old.bytes.items, many),
    )
