-- An element that is known before it is taken: between elements, taking it says what taking its bytes would say.
use Rattle.std.proofs.Common.{◌≡◌, ℕ, ◌+◌, ◌-◌, ◌≤◌, List, [], ◌∷◌, ◌++◌, length, take, drop, Ok, Some, sym, ap, subst, ◌∙◌, arith}
use Rattle.std.proofs.lemmas.List.{take_at}
use Rattle.edn_reader.specs.declared.nesting.Open.{Open}
use Rattle.edn_reader.specs.declared.resume.Part.TheVariants.{Nothing}
use Rattle.edn_reader.specs.declared.step.Span.{Span}
use Rattle.edn_reader.specs.declared.tokens.Reached.TheVariants.{Ended}
use Rattle.edn_reader.specs.Flat.{BeginsWithElement}
use Rattle.edn_reader.specs.Grammar.{ElementModel, IsGap, IsElementAt, IsElements, none, next}
use Rattle.edn_reader.specs.Splitting.{SplitterModel, IsBetweenElements, TakesOn}
use Rattle.edn_reader.specs.Taking.{piece_in, span_of}
use Rattle.edn_reader.specs.Text.{StandsOpen, outermost, opened}
use Rattle.edn_reader.specs.Within.{OneMore, ReadsPiece, kept}
use Rattle.edn_reader.proofs.Ended.{elements_left, present_left}
use Rattle.edn_reader.proofs.Keeping.{token_high}
use Rattle.edn_reader.proofs.Places.{core_within}
use Rattle.edn_reader.proofs.Reading.{elements_within}
use Rattle.edn_reader.proofs.Splitting.{takes_element}
use Rattle.edn_reader.proofs.Steps.{gap_then, elements_more}

record FirstElement (base : ℕ) (bytes : List ℕ) (piece : ElementModel) (end : ℕ) (rest : List ℕ) : Type 0 where
  left : List ℕ
  gap : IsGap 64 base bytes piece.start left
  element : IsElementAt 64 piece.kind piece.core piece.start left end rest
  whole : left ≡ piece.text ++ rest

first_element : {base end : ℕ} {bytes rest : List ℕ} {piece : ElementModel} → IsElements 64 base bytes (piece ∷ []) end rest → FirstElement base bytes piece end rest
first_element (next {left = left} gap element whole none) = record { left = left; gap = gap; element = element; whole = whole }

one_more : {base : ℕ} {input bytes rest : List ℕ} {pieces : List ElementModel} {opens : List Open} (found : ElementModel) → StandsOpen input pieces opens base bytes → opens ≡ []
    → FirstElement base bytes found (found.start + length found.text) rest → OneMore input pieces (span_of found)
one_more {input = input} {pieces = pieces} found (outermost els gap) empty first =
    let end = found.start + length found.text in
    let before = gap_then gap first.gap in
    let begins : StandsOpen input pieces [] found.start first.left = outermost els before in
    let all = elements_more found els before first.element first.whole in
    let text : take (end - found.start) (drop found.start input) ≡ found.text =
    ap (take (end - found.start)) (sym (present_left begins) ∙ first.whole) ∙ take_at found.text _ (end - found.start) (omega arith) in
    let same : found ≡ piece_in input (span_of found) =
    ap (λ (xs : List ℕ). record { kind = found.kind; start = found.start; text = xs; core = found.core }) (sym text) in
    let core = core_within first.element in (
      core.0,
      core.1,
      elements_within all,
      subst (λ (piece : ElementModel). IsElements 64 0 input (pieces ++ piece ∷ []) end (drop end input)) same
          (subst (λ (xs : List ℕ). IsElements 64 0 input (pieces ++ found ∷ []) end xs) (elements_left all) all),
    )
one_more found (opened present token room inside) empty first = absurd cc

reads_known : (piece : List ℕ) (old : SplitterModel) (found : ElementModel) → IsBetweenElements old → BeginsWithElement piece old.taken found → ReadsPiece piece old.taken old.begun old.opens (Ok (Ended (span_of found))) old.opens
reads_known piece old found (empty, here) first input following pieces is present =
    let open_here : StandsOpen input pieces old.opens old.taken (drop old.taken input) = subst (λ (n : ℕ). StandsOpen input pieces old.opens n (drop n input)) here present.present in
    let open_piece : StandsOpen input pieces old.opens old.taken (piece ++ following) = subst (λ (xs : List ℕ). StandsOpen input pieces old.opens old.taken xs) is.1 open_here in
    let none_open : kept old.opens old.begun old.taken ≡ kept [] old.begun old.taken = ap (λ (opens : List Open). kept opens old.begun old.taken) empty in
    let low : kept [] old.begun old.taken ≤ old.taken = token_high _ old.begun.start old.taken (omega (arith, here)) in
    (one_more found open_piece empty (first_element (first.3 following)), omega (arith, none_open, low, first.0))

pub takes_known : (piece : List ℕ) (old : SplitterModel) (found : ElementModel) (span : Span) → span ≡ span_of found → IsBetweenElements old → BeginsWithElement piece old.taken found
    → TakesOn piece old (Ok (record { used = span.end - old.taken; whole = Some (span.start, span.end) }))
    (record { taken = span.end; begun = record { start = span.end; part = Nothing }; opens = old.opens; fault = old.fault; ended = span })
takes_known piece old found span same between first =
    subst (λ (s : Span). TakesOn piece old (Ok (record { used = s.end - old.taken; whole = Some (s.start, s.end) }))
    (record { taken = s.end; begun = record { start = s.end; part = Nothing }; opens = old.opens; fault = old.fault; ended = s })) (sym same)
    (takes_element piece old (span_of found) old.opens (reads_known piece old found between first) (between.0, omega (arith, first.0), first.1))
