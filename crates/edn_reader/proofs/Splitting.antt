-- What a splitter says of the inputs that go on from the bytes that it has taken.
use Rattle.std.proofs.Common.{◌≡◌, inr, ℕ, ◌+◌, ◌-◌, ◌<◌, ◌≤◌, true, List, [], ◌∷◌, ◌++◌, length, take, drop, reverse, Option, Some, None, Result, Ok, Err, refl, sym, ap, subst, ◌∙◌, arith, append_assoc, length-append, length-drop, ◌≢◌, ◌⊎◌, false, append-nil, inl, drop_of_length-le}
use Rattle.std.proofs.Math.Seq.{drop-append_seam, take-length}
use Rattle.std.proofs.lemmas.Bool.{cases_lt}
use Rattle.std.proofs.lemmas.List.{take-append-drop, take-append-le, length-take-le}
use Rattle.std.proofs.lemmas.Grind.{reverse_onto}
use Rattle.std.specs.List.{slice_get}
use Rattle.std.specs.Option.{option_to_list, MatchOption}
use Rattle.edn_reader.specs.declared.bytes.Bracket.{Bracket}
use Rattle.edn_reader.specs.declared.fault.EdnFault.{EdnFault}
use Rattle.edn_reader.specs.declared.fault.EdnFault.TheVariants as faults
use Rattle.edn_reader.specs.declared.nesting.Open.{Open}
use Rattle.edn_reader.specs.declared.resume.Part.{Part}
use Rattle.edn_reader.specs.declared.resume.Part.TheVariants as parts
use Rattle.edn_reader.specs.declared.splitter.Taken.{Taken}
use Rattle.edn_reader.specs.declared.step.Span.{Span}
use Rattle.edn_reader.specs.declared.token.Token.{Token}
use Rattle.edn_reader.specs.declared.token.Token.TheVariants as tokens
use Rattle.edn_reader.specs.declared.token.Opener.{Opener}
use Rattle.edn_reader.specs.declared.tokens.Begun.{Begun}
use Rattle.edn_reader.specs.declared.tokens.Reached.{Reached}
use Rattle.edn_reader.specs.declared.tokens.Reached.TheVariants.{Ended, Within}
use Rattle.edn_reader.specs.Bytes.{class_of, is_run, stretch}
use Rattle.edn_reader.specs.Grammar.{ElementModel, IsToken, close, nothing, skipped, leaf, none, waits}
use Rattle.edn_reader.specs.Text.{IsFront, IsText, IsViable, StandsOpen, outermost}
use Rattle.edn_reader.specs.Token.{lexed}
use Rattle.edn_reader.specs.Resuming.{longer, resumed, last}
use Rattle.edn_reader.specs.Taking.{IsPieceAt, piece_in}
use Rattle.edn_reader.specs.Fault.{FaultOf, wanted_at, CanWantMemory, AreElementsBefore}
use Rattle.edn_reader.specs.Within.{StandsWithin, FaultBehind, outer, kept_token, Reaches, ReadsPiece, WantsInPiece, EndsBetween, Concludes, ReadsEnd, EndsAt}
use Rattle.edn_reader.specs.Splitting.{SplitterModel, keep, IsAfter, StandsAfter, KeepsFault, WantsMemory, Takes, TakesOn, EndsOn, IsFull}
use Rattle.edn_reader.proofs.Stretches.{drop_before}
use Rattle.edn_reader.proofs.Lexing.{token_lexed, finishing}
use Rattle.edn_reader.proofs.Resuming.{resumed_last}
use Rattle.edn_reader.proofs.Steps.{present_gap, present_opened}
use Rattle.edn_reader.proofs.Runs.{span_at}
use Rattle.edn_reader.proofs.Ended.{present_end, present_left, present_room}
use Rattle.edn_reader.proofs.Viable.{viable, present_after, viable_finished}
use Rattle.edn_reader.proofs.Reading.{StandsAt, full_fails}
use Rattle.edn_reader.proofs.Keeping.{rising_present, rising_up, outer_up, outer_low, token_low, token_high}
use Rattle.edn_reader.proofs.Within.{no_memory, nothing_makes, token_of}

-- ---- places of joined bytes

-- the bytes of the chunk, in an input that goes on from it
regroup : (bytes piece next more input : List ℕ) → input ≡ bytes ++ ((piece ++ next) ++ more) → input ≡ bytes ++ (piece ++ (next ++ more))
regroup bytes piece next more input e = e ∙ ap (λ (xs : List ℕ). bytes ++ xs) (append_assoc piece next more)

piece_at : (bytes piece next more input : List ℕ) → input ≡ bytes ++ ((piece ++ next) ++ more) → IsPieceAt input (length bytes) piece (next ++ more)
piece_at bytes piece next more input e =
    let f = regroup bytes piece next more input e in
    (omega (arith, ap length f, length-append bytes (piece ++ (next ++ more))), ap (drop (length bytes)) f ∙ drop-append_seam bytes (piece ++ (next ++ more)))

-- after the whole chunk
following_all : (bytes piece next more input : List ℕ) → input ≡ (bytes ++ piece) ++ (next ++ more) → input ≡ bytes ++ ((piece ++ next) ++ more)
following_all bytes piece next more input e = e ∙ append_assoc bytes piece (next ++ more) ∙ ap (λ (xs : List ℕ). bytes ++ xs) (sym (append_assoc piece next more))

-- after so many bytes of the chunk
after_used : (bytes piece next more input : List ℕ) (used : ℕ) → input ≡ (bytes ++ take used piece) ++ ((drop used piece ++ next) ++ more) → input ≡ bytes ++ ((piece ++ next) ++ more)
after_used bytes piece next more input used e =
    e ∙ append_assoc bytes (take used piece) ((drop used piece ++ next) ++ more)
    ∙ ap (λ (xs : List ℕ). bytes ++ xs)
    (ap (λ (xs : List ℕ). take used piece ++ xs) (append_assoc (drop used piece) next more) ∙ sym (append_assoc (take used piece) (drop used piece) (next ++ more))
    ∙ ap (λ (xs : List ℕ). xs ++ (next ++ more)) (take-append-drop used piece) ∙ sym (append_assoc piece next more))

-- an element within the first bytes
piece_front : (xs ys : List ℕ) (span : Span) → span.start ≤ span.end → span.end ≤ length xs → piece_in (xs ++ ys) span ≡ piece_in xs span
piece_front xs ys span low high =
    let text : take (span.end - span.start) (drop span.start (xs ++ ys)) ≡ take (span.end - span.start) (drop span.start xs) =
    ap (take (span.end - span.start)) (drop_before span.start xs ys (omega (arith, low, high)))
    ∙ take-append-le (span.end - span.start) (drop span.start xs) ys (omega (arith, low, high, length-drop span.start xs)) in
    ap (λ (bytes : List ℕ). record { kind = span.kind; start = span.start; text = bytes; core = span.core }) text

-- ---- where nothing has begun

present_anew : (input : List ℕ) (at end : ℕ) (pieces : List ElementModel) (opens : List Open) → at ≡ end → StandsAt input pieces opens at → StandsWithin input end pieces opens (record { start = at; part = parts.Nothing })
present_anew input at end pieces opens same s =
    record { low = omega (arith, same); present = s; makes = λ more. nothing_makes (end - at) (drop at input) more (omega (arith, same)) }

none_open : {input : List ℕ} {at : ℕ} {pieces : List ElementModel} (opens : List Open) → opens ≡ [] → StandsAt input pieces [] at → StandsAt input pieces opens at
none_open {input} {at} {pieces} opens empty s = subst (λ (o : List Open). StandsAt input pieces o at) (sym empty) s

none_full : (opens : List Open) (at : ℕ) → IsFull false (record { start = at; part = parts.Nothing }) opens
none_full opens at opener e = absurd cc

pub after_nothing : (next : List ℕ) (ended : Span) → StandsAfter [] next [] (record { taken = 0; begun = record { start = 0; part = parts.Nothing }; opens = []; fault = None; ended = ended })
after_nothing next ended input more e = record { no_fault = refl; taken = refl; present = present_anew input 0 0 [] [] refl (outermost none nothing); not_full = none_full [] 0 }

-- ---- what is kept

-- the place that is kept is no later than where something has begun, and no later than what was taken
keep_low : {bytes input : List ℕ} {pieces : List ElementModel} (old : SplitterModel) → IsAfter bytes input pieces old → keep old ≤ kept_token (last old.begun.part) old.begun.start old.taken
keep_low old s =
    let from = kept_token (last old.begun.part) old.begun.start old.taken in
    outer_low old.opens from (rising_up old.opens old.begun.start from (token_low (last old.begun.part) old.begun.start old.taken (omega (arith, s.present.low, s.taken))) (rising_present s.present.present))

keep_high : {bytes input : List ℕ} {pieces : List ElementModel} (old : SplitterModel) → IsAfter bytes input pieces old → keep old ≤ old.taken
keep_high old s = omega (arith, keep_low old s, token_high (last old.begun.part) old.begun.start old.taken (omega (arith, s.present.low, s.taken)))

keeps_more : (keep place : ℕ) (after : List Open) → keep ≤ place → keep ≤ outer after keep → keep ≤ outer after place
keeps_more keep place after le is = omega (arith, outer_up after keep place le, is)

-- ---- a fault

fault_met : (input : List ℕ) (pieces : List ElementModel) (fault : EdnFault) → wanted_at fault ≡ None → FaultBehind input pieces fault → FaultOf input fault × AreElementsBefore input pieces
fault_met input pieces (faults.Memory place) e f = absurd cc
fault_met input pieces (faults.Truncated place) e f = no_memory f.0 (λ h. h)
fault_met input pieces (faults.StrayClose place) e f = no_memory f.0 (λ h. h)
fault_met input pieces (faults.WrongClose place) e f = no_memory f.0 (λ h. h)
fault_met input pieces (faults.TooDeep place) e f = no_memory f.0 (λ h. h)
fault_met input pieces (faults.OddMap place) e f = no_memory f.0 (λ h. h)
fault_met input pieces (faults.TagWithoutElement place) e f = no_memory f.0 (λ h. h)

pub is_wanted : (fault : EdnFault) (place : ℕ) → wanted_at fault ≡ Some place → fault ≡ faults.Memory place
is_wanted (faults.Memory at) place e = let same : at ≡ place = cc in ap faults.Memory same
is_wanted (faults.Truncated at) place e = absurd cc
is_wanted (faults.StrayClose at) place e = absurd cc
is_wanted (faults.WrongClose at) place e = absurd cc
is_wanted (faults.TooDeep at) place e = absurd cc
is_wanted (faults.OddMap at) place e = absurd cc
is_wanted (faults.TagWithoutElement at) place e = absurd cc

-- ---- a chunk

-- what reading a chunk says of an input that goes on from it
read_at : (piece : List ℕ) (old : SplitterModel) (result : Result Reached EdnFault) (after : List Open) → ReadsPiece piece old.taken old.begun old.opens result after
    → (bytes next : List ℕ) (pieces : List ElementModel) → StandsAfter bytes (piece ++ next) pieces old → (input more : List ℕ) → input ≡ bytes ++ ((piece ++ next) ++ more)
    → Reaches input (old.taken + length piece) pieces (keep old) result after
read_at piece old result after reads bytes next pieces present input more e =
    let s = present input more e in
    reads input (next ++ more) pieces (subst (λ (n : ℕ). IsPieceAt input n piece (next ++ more)) (sym s.taken) (piece_at bytes piece next more input e))
    (subst (λ (n : ℕ). StandsWithin input n pieces old.opens old.begun) (sym s.taken) s.present)

-- one input that goes on so
abbrev some_input : List ℕ → List ℕ → List ℕ → List ℕ
some_input bytes piece next = bytes ++ ((piece ++ next) ++ [])

pub takes_within : (piece : List ℕ) (old : SplitterModel) (later : Begun) (after : List Open) → IsFull false later after → ReadsPiece piece old.taken old.begun old.opens (Ok (Within later)) after
    → TakesOn piece old (Ok (record { used = length piece; whole = None })) (record { taken = old.taken + length piece; begun = later; opens = after; fault = old.fault; ended = old.ended })
takes_within piece old later after few reads bytes next pieces present =
    let known = read_at piece old (Ok (Within later)) after reads bytes next pieces present in (
      refl,
      (λ input more e.
          let f = following_all bytes piece next more input e in
          let s = present input more f in
          let long : old.taken + length piece ≡ length (bytes ++ piece) = omega (arith, s.taken, length-append bytes piece) in
          record { no_fault = s.no_fault; taken = long; present = subst (λ (n : ℕ). StandsWithin input n pieces after later) long (known input more f).0; not_full = few }),
      (known (some_input bytes piece next) [] refl).1,
    )

-- a fault of the input is kept
pub takes_fault : (piece : List ℕ) (old : SplitterModel) (fault : EdnFault) (after : List Open) → wanted_at fault ≡ None → ReadsPiece piece old.taken old.begun old.opens (Err fault) after
    → TakesOn piece old (Err fault) (record { taken = old.taken; begun = old.begun; opens = after; fault = Some fault; ended = old.ended })
takes_fault piece old fault after met reads bytes next pieces present =
    let new : SplitterModel = record { taken = old.taken; begun = old.begun; opens = after; fault = Some fault; ended = old.ended } in
    let known = read_at piece old (Err fault) after reads bytes next pieces present in
    let first = present (some_input bytes piece next) [] refl in (
      keeps_more (keep old) (kept_token (last old.begun.part) old.begun.start old.taken) after (keep_low old first) (known (some_input bytes piece next) [] refl).2,
      subst (λ (o : Option ℕ). MatchOption o (KeepsFault bytes (piece ++ next) pieces fault new) (λ place. WantsMemory bytes piece next pieces place new)) (sym met)
          (refl, λ input more e. fault_met input pieces fault met (known input more e).0),
    )

-- memory was refused for what began before the chunk: all is as it was
pub takes_before : (piece : List ℕ) (old : SplitterModel) (place : ℕ) (after : List Open) → place < old.taken → WantsInPiece old.taken (length piece) old.begun.start old.opens (faults.Memory place) after
    → ReadsPiece piece old.taken old.begun old.opens (Err (faults.Memory place)) after
    → TakesOn piece old (Err (faults.Memory old.taken)) (record { taken = old.taken; begun = old.begun; opens = after; fault = old.fault; ended = old.ended })
takes_before piece old place after lt (some, before) reads bytes next pieces present =
    let known = read_at piece old (Err (faults.Memory place)) after reads bytes next pieces present in
    let first = present (some_input bytes piece next) [] refl in
    let used = old.taken - length bytes in
    let size : used ≤ length piece = omega (arith, first.taken) in
    subst (λ (opens : List Open). Takes bytes piece next pieces old (Err (faults.Memory old.taken)) (record { taken = old.taken; begun = old.begun; opens = opens; fault = old.fault; ended = old.ended })) (sym (before lt).1) (
      omega arith,
      (
        omega (arith, first.taken),
        omega (arith, first.taken, some),
        refl,
        (λ input more e.
            let s = present input more (after_used bytes piece next more input used e) in
            let long : old.taken ≡ length (bytes ++ take used piece) = omega (arith, s.taken, length-append bytes (take used piece), length-take-le used piece size) in
            record { no_fault = s.no_fault; taken = long; present = subst (λ (n : ℕ). StandsWithin input n pieces old.opens old.begun) (sym s.taken ∙ long) s.present; not_full = s.not_full }),
        (λ input more e. subst (CanWantMemory input pieces) (before lt).0 (known input more e).0.1),
      ),
    )

-- memory was refused at a byte of the chunk: nothing has begun there then
pub takes_there : (piece : List ℕ) (old : SplitterModel) (place : ℕ) (after : List Open) → old.taken ≤ place → ReadsPiece piece old.taken old.begun old.opens (Err (faults.Memory place)) after
    → TakesOn piece old (Err (faults.Memory place)) (record { taken = place; begun = record { start = place; part = parts.Nothing }; opens = after; fault = old.fault; ended = old.ended })
takes_there piece old place after le reads bytes next pieces present =
    let known = read_at piece old (Err (faults.Memory place)) after reads bytes next pieces present in
    let one = known (some_input bytes piece next) [] refl in
    let first = present (some_input bytes piece next) [] refl in
    let used = place - length bytes in
    let size : used ≤ length piece = omega (arith, first.taken, one.1.0) in (
      keeps_more (keep old) place after (omega (arith, keep_high old first, le)) one.2,
      (
        omega (arith, first.taken, le),
        omega (arith, first.taken, one.1.0),
        refl,
        (λ input more e.
            let f = after_used bytes piece next more input used e in
            let s = present input more f in
            let long : place ≡ length (bytes ++ take used piece) = omega (arith, s.taken, le, length-append bytes (take used piece), length-take-le used piece size) in
            record { no_fault = s.no_fault; taken = long; present = present_anew input place (length (bytes ++ take used piece)) pieces after long (known input more f).1.1; not_full = none_full after place }),
        (λ input more e. (known input more e).0.1),
      ),
    )

opens_stays : (part : Part) (opener : Opener) (rest : List ℕ) → last part ≡ tokens.Opens opener → (resumed part rest).0 ≡ tokens.Opens opener
opens_stays parts.Nothing opener rest e = absurd cc
opens_stays parts.Comment opener rest e = absurd cc
opens_stays (parts.Run token) opener rest e = e
opens_stays parts.Text opener rest e = absurd cc
opens_stays parts.Escape opener rest e = absurd cc
opens_stays parts.Hash opener rest e = absurd cc
opens_stays parts.Backslash opener rest e = absurd cc

full_after : (input : List ℕ) (end : ℕ) (pieces : List ElementModel) (later : Begun) (after : List Open) → IsFull true later after → StandsWithin input end pieces after later
    → FaultOf input (faults.TooDeep later.start) × AreElementsBefore input pieces
full_after input end pieces later after full w =
    let is = ap (λ (x : _ × ℕ). x.0) (token_of w) ∙ opens_stays later.part full.0.0 (drop end input) full.0.1 in
    full_fails input pieces later.start full.0.0 after w.present is full.1

pub takes_full : (piece : List ℕ) (old : SplitterModel) (later : Begun) (after : List Open) → IsFull true later after → ReadsPiece piece old.taken old.begun old.opens (Ok (Within later)) after
    → TakesOn piece old (Err (faults.TooDeep later.start))
    (record { taken = old.taken + length piece; begun = later; opens = after; fault = Some (faults.TooDeep later.start); ended = old.ended })
takes_full piece old later after full reads bytes next pieces present =
    let known = read_at piece old (Ok (Within later)) after reads bytes next pieces present in
    ((known (some_input bytes piece next) [] refl).1, (refl, λ input more e. full_after input (old.taken + length piece) pieces later after full (known input more e).0))

pub takes_element : (piece : List ℕ) (old : SplitterModel) (span : Span) (after : List Open) → ReadsPiece piece old.taken old.begun old.opens (Ok (Ended span)) after
    → EndsBetween old.taken (old.taken + length piece) (Ended span) after
    → TakesOn piece old (Ok (record { used = span.end - old.taken; whole = Some (span.start, span.end) }))
    (record { taken = span.end; begun = record { start = span.end; part = parts.Nothing }; opens = after; fault = old.fault; ended = span })
takes_element piece old span after reads (empty, low, high) bytes next pieces present =
    let known = read_at piece old (Ok (Ended span)) after reads bytes next pieces present in
    let one = known (some_input bytes piece next) [] refl in
    let first = present (some_input bytes piece next) [] refl in
    let used = span.end - old.taken in
    let size : used ≤ length piece = omega (arith, low, high) in
    let place : span.end ≡ length bytes + used = omega (arith, low, first.taken) in
    let begins : span.start < span.end = omega (arith, one.0.0, one.0.1) in
    let within : span.end ≤ length (bytes ++ piece) = omega (arith, length-append bytes piece, place, size) in
    let front : (input more : List ℕ) → input ≡ bytes ++ ((piece ++ next) ++ more) → IsFront input (pieces ++ piece_in (bytes ++ piece) span ∷ []) span.end = λ input more e.
    let whole : input ≡ (bytes ++ piece) ++ (next ++ more) = regroup bytes piece next more input e ∙ sym (append_assoc bytes piece (next ++ more)) in
    let same : piece_in input span ≡ piece_in (bytes ++ piece) span = ap (λ (xs : List ℕ). piece_in xs span) whole ∙ piece_front (bytes ++ piece) (next ++ more) span (omega (arith, begins)) within in
    subst (λ (x : ElementModel). IsFront input (pieces ++ x ∷ []) span.end) same (known input more e).0.3 in
    let ends : keep (record { taken = span.end; begun = record { start = span.end; part = parts.Nothing }; opens = after; fault = old.fault; ended = span }) ≡ span.end =
    ap (λ (o : List Open). outer o span.end) empty in (
      size,
      place,
      one.1,
      ends,
      (
        piece_in (bytes ++ piece) span,
        (refl, begins, refl),
        (λ input more e.
            let f = after_used bytes piece next more input used e in
            let s = present input more f in
            let long : span.end ≡ length (bytes ++ take used piece) = omega (arith, place, length-append bytes (take used piece), length-take-le used piece size) in
            record { no_fault = s.no_fault; taken = long; present = present_anew input span.end (length (bytes ++ take used piece)) (pieces ++ piece_in (bytes ++ piece) span ∷ []) after long (none_open after empty (outermost (front input more f) nothing)); not_full = none_full after span.end }),
        front,
        (refl, refl, refl),
      ),
    )

-- ---- the end of the input

-- what the end says of the input
end_at : (old : SplitterModel) (result : Result (Option Span) EdnFault) (after : List Open) → ReadsEnd old.taken old.begun old.opens result after → (input : List ℕ) (pieces : List ElementModel)
    → IsAfter input input pieces old → Concludes input pieces (keep old) result after
end_at old result after reads input pieces s =
    reads input pieces (sym s.taken) (subst (λ (n : ℕ). StandsWithin input n pieces old.opens old.begun) (sym s.taken) s.present)

pub ends_element : (old : SplitterModel) (span : Span) (after : List Open) → ReadsEnd old.taken old.begun old.opens (Ok (Some span)) after → EndsAt old.begun.start old.taken (Some span) after
    → EndsOn old (Ok (Some (span.start, span.end))) (record { taken = old.taken; begun = record { start = old.taken; part = parts.Nothing }; opens = after; fault = old.fault; ended = span })
ends_element old span after reads (empty, some, place) input pieces s =
    let known = end_at old (Ok (Some span)) after reads input pieces s in
    let front = subst (IsFront input (pieces ++ piece_in input span ∷ [])) place known.0.3 in (
      place ∙ s.taken,
      known.2,
      ap (λ (o : List Open). outer o old.taken) empty ∙ sym place,
      (
        piece_in input span,
        (refl, omega (arith, known.0.0, known.0.1), refl),
        known.1,
        record { no_fault = s.no_fault; taken = s.taken; present = present_anew input old.taken (length input) (pieces ++ piece_in input span ∷ []) after s.taken (none_open after empty (outermost front nothing)); not_full = none_full after old.taken },
        (refl, refl, refl),
      ),
    )

-- a text ends with nothing open
text_present : (input : List ℕ) (pieces : List ElementModel) (at : ℕ) → at ≡ length input → IsText input pieces → StandsAt input pieces [] at
text_present input pieces at same (begins, after, front, gap) =
    let here : StandsOpen input pieces [] after [] = outermost front gap in
    let place : after ≡ at = omega (arith, present_end here, same) in
    subst (StandsAt input pieces []) place (subst (λ (rest : List ℕ). StandsOpen input pieces [] after rest) (present_left here) here)

pub ends_text : (old : SplitterModel) (after : List Open) → ReadsEnd old.taken old.begun old.opens (Ok None) after → after ≡ []
    → EndsOn old (Ok None) (record { taken = old.taken; begun = record { start = old.taken; part = parts.Nothing }; opens = after; fault = old.fault; ended = old.ended })
ends_text old after reads empty input pieces s =
    let text = end_at old (Ok None) after reads input pieces s in (
      text,
      record { no_fault = s.no_fault; taken = s.taken; present = present_anew input old.taken (length input) pieces after s.taken (none_open after empty (text_present input pieces old.taken s.taken text)); not_full = none_full after old.taken },
      omega (arith, keep_high old s, ap (λ (o : List Open). outer o old.taken) empty),
    )

pub ends_fault : (old : SplitterModel) (fault : EdnFault) (after : List Open) → wanted_at fault ≡ None → ReadsEnd old.taken old.begun old.opens (Err fault) after
    → EndsOn old (Err fault) (record { taken = old.taken; begun = old.begun; opens = after; fault = Some fault; ended = old.ended })
ends_fault old fault after met reads input pieces s =
    let new : SplitterModel = record { taken = old.taken; begun = old.begun; opens = after; fault = Some fault; ended = old.ended } in
    let known = end_at old (Err fault) after reads input pieces s in (
      keeps_more (keep old) (kept_token (last old.begun.part) old.begun.start old.taken) after (keep_low old s) known.1,
      subst
          (λ (o : Option ℕ).
          MatchOption o ((new.fault ≡ Some fault) × FaultOf input fault × AreElementsBefore input pieces)
          (λ place. (new ≡ old) × (place ≡ old.begun.start) × CanWantMemory input pieces place))
          (sym met) (let f = fault_met input pieces fault met known.0 in (refl, f.0, f.1)),
    )

-- ---- after a fault

-- `StandsAfter` holds of no splitter that met a fault
pub takes_never : (piece : List ℕ) (old new : SplitterModel) (result : Result Taken EdnFault) (fault : EdnFault) → old.fault ≡ Some fault → TakesOn piece old result new
takes_never piece old new result fault e bytes next pieces present =
    let s = present (some_input bytes piece next) [] refl in
    let both : Some fault ≡ None = sym e ∙ s.no_fault in absurd cc

-- ---- what can go on

whole_viable : {input rest : List ℕ} {pieces : List ElementModel} {opens : List Open} (at : ℕ) → at ≡ length input → StandsOpen input pieces opens at rest → IsViable input
whole_viable {input} at e s =
    let whole : take at input ≡ input = ap (λ (n : ℕ). take n input) e ∙ take-length input in
    subst IsViable whole (viable s)

-- after its last token the input can go on to be a text, unless that is a closing bracket or opens one thing too many
token_viable : (token : Token) (input : List ℕ) (pieces : List ElementModel) (opens : List Open) (start : ℕ) → StandsAt input pieces opens start → start < length input → (lexed (drop start input)).0 ≡ token
    → start + (lexed (drop start input)).1 ≡ length input → ((opener : Opener) → token ≡ tokens.Opens opener → length opens ≢ 64) → ((bracket : Bracket) → token ≡ tokens.Closes bracket → ⊥) → IsViable input
token_viable tokens.Gap input pieces opens start s lt is long few never =
    let a = drop start input in
    whole_viable (start + (lexed a).1) long (present_gap s (λ room fit. skipped (token_lexed start a tokens.Gap is (λ h. cc)) nothing))
token_viable (tokens.Leaf kind) input pieces opens start s lt is long few never =
    let a = drop start input in
    let span = span_at kind (record { kind = kind; start = start }) start (start + (lexed a).1) in
    whole_viable (start + (lexed a).1) long (present_after opens span s (λ room fit. leaf (token_lexed start a (tokens.Leaf kind) is (λ h. cc)))).1
token_viable (tokens.Opens opener) input pieces opens start s lt is long few never =
    let a = drop start input in
    let most = present_room opens s in
    whole_viable (start + (lexed a).1) long (present_opened opener (waits opener) refl s (token_lexed start a (tokens.Opens opener) is (λ h. cc)) (omega (arith, most, few opener refl)))
token_viable (tokens.Closes bracket) input pieces opens start s lt is long few never = absurd (never bracket refl)
token_viable tokens.Unfinished input pieces opens start s lt is long few never =
    let some : 0 < length (drop start input) = omega (arith, length-drop start input, lt) in
    viable_finished s some (finishing (drop start input) some is)

closes_place : {bracket : Bracket} {p q : ℕ} {a b : List ℕ} → IsToken (tokens.Closes bracket) p a q b → q ≡ p + 1
closes_place (close e) = omega arith

-- a closing bracket is one byte, so no later byte goes on with it
closes_size : (a : List ℕ) (bracket : Bracket) → (lexed a).0 ≡ tokens.Closes bracket → (lexed a).1 ≡ 1
closes_size a bracket is = omega (arith, closes_place (token_lexed 0 a (tokens.Closes bracket) is (λ h. cc)))

closes_run : (part : Part) (bracket : Bracket) (rest : List ℕ) → last part ≡ tokens.Closes bracket → resumed part rest ≡ (tokens.Closes bracket, stretch is_run rest)
closes_run parts.Nothing bracket rest e = absurd cc
closes_run parts.Comment bracket rest e = absurd cc
closes_run (parts.Run token) bracket rest e = ap (λ (t : Token). (t, stretch is_run rest)) e
closes_run parts.Text bracket rest e = absurd cc
closes_run parts.Escape bracket rest e = absurd cc
closes_run parts.Hash bracket rest e = absurd cc
closes_run parts.Backslash bracket rest e = absurd cc

-- the length that a closing bracket would have, with these bytes after it
closes_long : (input : List ℕ) (end : ℕ) (pieces : List ElementModel) (opens : List Open) (begun : Begun) (bracket : Bracket) (rest : List ℕ) → StandsWithin input end pieces opens begun
    → last begun.part ≡ tokens.Closes bracket → drop end input ≡ rest → end - begun.start + stretch is_run rest ≡ 1
closes_long input end pieces opens begun bracket rest w e left =
    let made : lexed (drop begun.start input) ≡ (tokens.Closes bracket, end - begun.start + stretch is_run rest) =
    token_of w ∙ ap (λ (xs : List ℕ). longer (end - begun.start) (resumed begun.part xs)) left ∙ ap (longer (end - begun.start)) (closes_run begun.part bracket rest e) in
    sym (ap (λ (x : Token × ℕ). x.1) made) ∙ closes_size (drop begun.start input) bracket (ap (λ (x : Token × ℕ). x.0) made)

letter_run : stretch is_run (97 ∷ []) ≡ 1
unfolding stretch class_of
letter_run = refl

no_letter : stretch is_run [] ≡ 0
unfolding stretch
no_letter = refl

never_closes : (bytes : List ℕ) (pieces : List ElementModel) (splitting : SplitterModel) → StandsAfter bytes [] pieces splitting → (bracket : Bracket) → last splitting.begun.part ≡ tokens.Closes bracket → ⊥
never_closes bytes pieces splitting present bracket e =
    let one = closes_long bytes (length bytes) pieces splitting.opens splitting.begun bracket [] (present bytes [] (sym (append-nil bytes))).present e (drop_of_length-le bytes (omega arith)) in
    let two = closes_long (bytes ++ 97 ∷ []) (length bytes) pieces splitting.opens splitting.begun bracket (97 ∷ []) (present (bytes ++ 97 ∷ []) (97 ∷ []) refl).present e
    (drop-append_seam bytes (97 ∷ [])) in
    omega (arith, one, two, letter_run, no_letter)

pub viable_so_far : (bytes : List ℕ) (pieces : List ElementModel) (splitting : SplitterModel) → StandsAfter bytes [] pieces splitting → IsViable bytes
viable_so_far bytes pieces splitting present = viable_by (cases_lt splitting.begun.start (length bytes)) where
  after : IsAfter bytes bytes pieces splitting
  after = present bytes [] (sym (append-nil bytes))

  rest : drop (length bytes) bytes ≡ []
  rest = drop_of_length-le bytes (omega arith)

  made : lexed (drop splitting.begun.start bytes) ≡ (last splitting.begun.part, length bytes - splitting.begun.start + 0)
  made = token_of after.present ∙ ap (longer (length bytes - splitting.begun.start)) (ap (resumed splitting.begun.part) rest ∙ resumed_last splitting.begun.part)

  viable_by : (splitting.begun.start < length bytes) ⊎ (length bytes ≤ splitting.begun.start) → IsViable bytes
  viable_by (inl lt) =
      token_viable (last splitting.begun.part) bytes pieces splitting.opens splitting.begun.start after.present.present lt (ap (λ (x : Token × ℕ). x.0) made)
      (omega (arith, lt, ap (λ (x : Token × ℕ). x.1) made)) after.not_full (never_closes bytes pieces splitting present)
  viable_by (inr le) = whole_viable splitting.begun.start (omega (arith, le, after.present.low)) after.present.present

-- ---- the outermost thing open

pub outer_last : (opens : List Open) (item : Open) (place : ℕ) → outer (opens ++ item ∷ []) place ≡ item.place
outer_last [] item place = refl
outer_last (first ∷ opens) item place = outer_last opens item first.place

-- of a stack with the innermost apart, the lowest is the outermost
pub outer_first : (innermost : Option Open) (around : List Open) (first : Open) (place : ℕ) → Some first ≡ slice_get around 0 → (innermost ≡ None → around ≡ [])
    → first.place ≡ outer (option_to_list innermost ++ reverse around) place
outer_first innermost [] first place e h = absurd cc
outer_first None (x ∷ around) first place e h = let empty : x ∷ around ≡ [] = h refl in absurd cc
outer_first (Some item) (x ∷ around) first place e h =
    let same : first ≡ x = cc in
    ap (λ (o : Open). o.place) same ∙ sym (ap (λ (opens : List Open). outer opens item.place) (reverse_onto around x []) ∙ outer_last (reverse around) x item.place)
