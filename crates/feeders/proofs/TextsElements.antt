-- The elements of an input are slices of it.
use Rattle.std.proofs.Common.{◌≡◌, inl, inr, ℕ, List, [], ◌++◌, length, take, drop, Option, Some, None, refl, sym, ap, subst, append-nil, ◌∙◌, append_assoc, arith, length-append}
use Rattle.std.specs.List.{AllByRecursion}
use Rattle.std.proofs.Math.Seq.{drop-append_seam, take-append_seam}
use Rattle.edn_reader.specs.Grammar.{ElementModel, IsElements, none, next}
use Rattle.edn_reader.specs.Text.{IsFront}
use Rattle.edn_reader.proofs.Places.{moved_gap, moved_element}
use Rattle.logs.specs.declared.log.Broken.{Broken}
use Rattle.logs.specs.Broken.{AreElements}
use Rattle.feeders.specs.Texts.{IsSlice}

-- an element after a prefix of the input
slice_after : (input front left : List ℕ) (piece : ElementModel) (beyond : List ℕ) → input ≡ front ++ left → piece.start ≡ length front → left ≡ piece.text ++ beyond → IsSlice input piece
slice_after input front left piece beyond is at whole =
    ap (λ (bytes : List ℕ). take (length piece.text) bytes)
    (ap (drop piece.start) is ∙ ap (λ (n : ℕ). drop n (front ++ left)) at ∙ drop-append_seam front left ∙ whole)
    ∙ take-append_seam piece.text beyond

slices : {room place after : ℕ} {bytes rest : List ℕ} {pieces : List ElementModel} → IsElements room place bytes pieces after rest
    → (input front : List ℕ) → input ≡ front ++ bytes → place ≡ length front → AllByRecursion (IsSlice input) pieces
slices none input front is at = tt
slices {bytes = bytes} (next {left = left} {beyond = beyond} {piece = piece} gap element whole els) input front is at =
    let g = (moved_gap gap left (λ h. h, λ h. h, λ h. h)).2 in
    let e = (moved_element element beyond (λ h. h)).place in
    let before : input ≡ (front ++ g.front) ++ left = is ∙ ap (λ (s : List ℕ). front ++ s) g.here ∙ sym (append_assoc front g.front left) in
    let start : piece.start ≡ length (front ++ g.front) = omega (arith, g.place, at, length-append front g.front) in
    let following : input ≡ ((front ++ g.front) ++ e.front) ++ beyond = before ∙ ap (λ (s : List ℕ). (front ++ g.front) ++ s) e.here ∙ sym (append_assoc (front ++ g.front) e.front beyond) in (
      slice_after input (front ++ g.front) left piece beyond before start whole,
      slices els input ((front ++ g.front) ++ e.front) following (omega (arith, e.place, start, length-append (front ++ g.front) e.front)),
    )

-- the elements that have ended, whatever follows them
slices_so_far : (input : List ℕ) (pieces : List ElementModel) (at : ℕ) → IsFront (input ++ []) pieces at → AllByRecursion (IsSlice input) pieces
slices_so_far input pieces at front = slices (subst (λ (bytes : List ℕ). IsFront bytes pieces at) (append-nil input) front) input [] refl refl

pub slices_of : (input : List ℕ) (broken : Option Broken) (pieces : List ElementModel) → AreElements input broken pieces → AllByRecursion (IsSlice input) pieces
slices_of input None pieces (at, after, front, gap) = slices front input [] refl refl
slices_of input (Some broken) pieces (inl (fault, is, before, code)) = slices before.1 input [] refl refl
slices_of input (Some broken) pieces (inr (reading, place, viable, so_far)) = slices_so_far input pieces so_far.0.0 (so_far.0.2 [])
