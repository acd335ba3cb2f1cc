-- What is kept of texts, while readers give them.
use Rattle.std.proofs.Common.{◌≡◌, ◌⊎◌, inl, inr, ℕ, zero, suc, ◌+◌, Bool, true, false, List, [], ◌∷◌, ◌++◌, length, take, refl, sym, ap, subst, ◌∙◌, Option, Some, None, IfSome, length-append}
use Rattle.std.specs.List.{slice_get}
use Rattle.std.specs.Io.KnownBytes.{Consumes, IsAtEnd, Keeps}
use Rattle.std.proofs.lemmas.List.{append_assoc}
use Rattle.std.proofs.Math.Seq.{take-append_seam}
use Rattle.places.specs.declared.copying.Kept.{Kept}
use Rattle.places.specs.Copied.{AreCopiesOf, IsCopyOf, IsGiving, IsNextIn}

-- of a text of which nothing was kept
pub nothing_kept : (texts : List (Option (List ℕ))) (number : ℕ) (bytes : List ℕ) → bytes ≡ [] → IsCopyOf texts number bytes false
nothing_kept texts number bytes none text known = record {
  rest = text;
  parts = ap (λ (front : List ℕ). front ++ text) (sym none);
  end = λ (e : false ≡ true). absurd cc;
}

-- two prefixes of one length are one
same_front : (text xs ys before after : List ℕ) → text ≡ xs ++ ys → text ≡ before ++ after → length xs ≡ length before → xs ≡ before
same_front text xs ys before after one other many =
    sym (take-append_seam xs ys) ∙ ap (take (length xs)) (sym one ∙ other) ∙ ap (λ (n : ℕ). take n (before ++ after)) many ∙ take-append_seam before after

-- the next bytes are kept, too
pub more_kept : (texts : List (Option (List ℕ))) (number given : ℕ) (old bytes new : List ℕ) (before ended : Bool) → IsCopyOf texts number old before → length old ≡ given → IsNextIn texts number given bytes ended
    → new ≡ old ++ bytes → IsCopyOf texts number new ended
more_kept texts number given old bytes new before ended kept many next is text known =
    let was = kept text known in
    let now = next text known in
    let same : old ≡ now.before = same_front text old was.rest now.before (bytes ++ now.after) was.parts now.parts (many ∙ sym now.many) in
    record {
      rest = now.after;
      parts = now.parts ∙ ap (λ (front : List ℕ). front ++ (bytes ++ now.after)) (sym same) ∙ sym (append_assoc old bytes now.after) ∙ ap (λ (front : List ℕ). front ++ now.after) (sym is);
      end = now.end;
    }

-- what was read is what comes next
pub comes_next : (texts : List (Option (List ℕ))) (number given : ℕ) (bytes : List ℕ) (ended : Bool) (old new : Option (List ℕ)) → IsGiving texts number (Some given) old → Consumes old new bytes
    → (ended ≡ true → IsAtEnd new) → IsNextIn texts number given bytes ended
comes_next texts number given bytes ended None new giving read at_end text known = let part = giving text known in let none : None ≡ Some part.after = part.left_is in absurd cc
comes_next texts number given bytes ended (Some left) None giving read at_end text known = absurd read
comes_next texts number given bytes ended (Some left) (Some after) giving read at_end text known =
    let part = giving text known in
    let is : left ≡ part.after = cc in
    record {
      before = part.before;
      after = after;
      parts = part.parts ∙ ap (λ (rest : List ℕ). part.before ++ rest) (sym is ∙ read);
      many = part.many;
      end = at_end;
    }

-- a reader that read
pub has_read : (texts : List (Option (List ℕ))) (number : ℕ) (given many : Option ℕ) (bytes : List ℕ) (old new : Option (List ℕ)) → IsGiving texts number given old → Consumes old new bytes
    → ((before : List ℕ) → IfSome given (λ given. length before ≡ given) → IfSome many (λ many. length (before ++ bytes) ≡ many)) → IsGiving texts number many new
has_read texts number given many bytes None new giving read counted text known = let part = giving text known in let none : None ≡ Some part.after = part.left_is in absurd cc
has_read texts number given many bytes (Some left) None giving read counted text known = absurd read
has_read texts number given many bytes (Some left) (Some after) giving read counted text known =
    let part = giving text known in
    let is : left ≡ part.after = cc in
    record {
      before = part.before ++ bytes;
      after = after;
      parts = part.parts ∙ ap (λ (rest : List ℕ). part.before ++ rest) (sym is ∙ read) ∙ sym (append_assoc part.before bytes after);
      left_is = refl;
      many = counted part.before part.many;
    }

-- so many bytes more are known to be given
pub counted_on : (given : ℕ) (many : Option ℕ) (bytes : List ℕ) → IfSome many (λ many. many ≡ given + length bytes)
    → (before : List ℕ) → length before ≡ given → IfSome many (λ many. length (before ++ bytes) ≡ many)
counted_on given None bytes is before was = is
counted_on given (Some many) bytes is before was = length-append before bytes ∙ ap (λ (n : ℕ). n + length bytes) was ∙ sym is

-- nothing is said of a number that is not known
pub uncounted : (given : Option ℕ) (Says : ℕ → Type 0) → ((n : ℕ) → given ≡ Some n → ⊥) → IfSome given Says
uncounted None Says unknown = tt
uncounted (Some n) Says unknown = absurd (unknown n refl)

-- a reader that read nothing
pub has_kept : (texts : List (Option (List ℕ))) (number : ℕ) (given : Option ℕ) (old new : Option (List ℕ)) → IsGiving texts number given old → Keeps old new → IsGiving texts number given new
has_kept texts number given None new giving stays text known = let part = giving text known in let none : None ≡ Some part.after = part.left_is in absurd cc
has_kept texts number given (Some left) None giving stays text known = absurd stays
has_kept texts number given (Some left) (Some after) giving stays text known =
    let part = giving text known in
    record {
      before = part.before;
      after = part.after;
      parts = part.parts;
      left_is = ap Some stays ∙ part.left_is;
      many = part.many;
    }

-- the element after others
one_after : {X : Type 0} (before : List X) (x : X) (after : List X) → slice_get (before ++ x ∷ after) (length before) ≡ Some x
one_after [] x after = refl
one_after (y ∷ before) x after = one_after before x after

-- a reader that gave nothing yet
pub gives_all : (texts before after : List (Option (List ℕ))) (left : Option (List ℕ)) (number : ℕ) → texts ≡ before ++ left ∷ after → number ≡ length before → IsGiving texts number (Some 0) left
gives_all texts before after left number parts many text known =
    let is : left ≡ Some text = let found : Some left ≡ Some (Some text) = sym (one_after before left after) ∙ sym (ap (slice_get (before ++ left ∷ after)) many) ∙ sym (ap (λ (all : List (Option (List ℕ))). slice_get all number) parts) ∙ known in cc in
    record {
      before = [];
      after = text;
      parts = refl;
      left_is = is;
      many = refl;
    }

-- an element of a list to which one was pushed
pub pushed : {X : Type 0} (xs : List X) (x : X) (n : ℕ) (y : X) → slice_get (xs ++ x ∷ []) n ≡ Some y → (slice_get xs n ≡ Some y) ⊎ ((n ≡ length xs) × (y ≡ x))
pushed [] x zero y e = inr (refl, cc)
pushed [] x (suc n) y e = absurd cc
pushed (z ∷ xs) x zero y e = inl e
pushed (z ∷ xs) x (suc n) y e = next (pushed xs x n y e)
  where
    next : (slice_get xs n ≡ Some y) ⊎ ((n ≡ length xs) × (y ≡ x)) → (slice_get xs n ≡ Some y) ⊎ ((suc n ≡ suc (length xs)) × (y ≡ x))
    next (inl within) = inl within
    next (inr last) = inr (ap suc last.0, last.1)

-- one more copy
pub one_more : (texts : List (Option (List ℕ))) (kept : List Kept) (one : Kept) (all : List Kept) → AreCopiesOf texts kept → IsCopyOf texts (length kept) one.bytes.items one.ended → all ≡ kept ++ one ∷ [] → AreCopiesOf texts all
one_more texts kept one all copies copy is number other there = by (pushed kept one number other (ap (λ (all : List Kept). slice_get all number) (sym is) ∙ there))
  where
    by : (slice_get kept number ≡ Some other) ⊎ ((number ≡ length kept) × (other ≡ one)) → IsCopyOf texts number other.bytes.items other.ended
    by (inl within) = copies number other within
    by (inr last) = subst (λ (n : ℕ). IsCopyOf texts n other.bytes.items other.ended) (sym last.0) (subst (λ (it : Kept). IsCopyOf texts (length kept) it.bytes.items it.ended) (sym last.1) copy)
