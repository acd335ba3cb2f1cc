-- Reading a chunk: what each token says of each input that has the chunk.
use Rattle.std.proofs.Common.{◌≡◌, ◌⊎◌, inl, inr, ℕ, zero, suc, ◌+◌, ◌-◌, ◌<◌, ◌≤◌, true, false, List, [], ◌∷◌, ◌++◌, length, take, drop, Option, Some, None, Result, Ok, Err, refl, sym, ap, subst, ◌∙◌, append_assoc, arith, length-drop, append-nil}
use Rattle.std.proofs.Math.Seq.{take-append_seam, take-append-add}
use Rattle.std.proofs.lemmas.List.{drop-drop, length-take-le, take-append-drop}
use Rattle.std.proofs.Math.ListN.{drop_of_length-le}
use Rattle.std.proofs.lemmas.Bool.Decides.{nat_tests}
use Rattle.std.proofs.lemmas.Option.{IfSome_then}
use Rattle.std.specs.Bool.{◌==◌}
use Rattle.std.specs.Prelude.{IfOk, IfErr}
use Rattle.edn_reader.specs.declared.fault.EdnFault.{EdnFault}
use Rattle.edn_reader.specs.declared.fault.EdnFault.TheVariants as faults
use Rattle.edn_reader.specs.declared.nesting.Open.{Open}
use Rattle.edn_reader.specs.declared.resume.Part.{Part}
use Rattle.edn_reader.specs.declared.resume.Part.TheVariants.{Nothing}
use Rattle.edn_reader.specs.declared.resume.Ahead.TheVariants as aheads
use Rattle.edn_reader.specs.declared.step.Span.{Span}
use Rattle.edn_reader.specs.declared.token.Found.{Found}
use Rattle.edn_reader.specs.declared.token.Token.{Token}
use Rattle.edn_reader.specs.declared.token.Token.TheVariants as tokens
use Rattle.edn_reader.specs.declared.tokens.Begun.{Begun}
use Rattle.edn_reader.specs.declared.tokens.Reached.{Reached}
use Rattle.edn_reader.specs.declared.tokens.Reached.TheVariants.{Ended, Within}
use Rattle.edn_reader.specs.Grammar.{ElementModel}
use Rattle.edn_reader.specs.Text.{IsFront, outermost}
use Rattle.edn_reader.specs.Grammar.{nothing}
use Rattle.edn_reader.specs.Fault.{FaultOf, IsMemory, wanted_at, MemoryOnlyThere, AreElementsBefore}
use Rattle.edn_reader.specs.Token.{found_at, lexed}
use Rattle.edn_reader.specs.Resuming.{longer, resumed, last, LooksAhead}
use Rattle.edn_reader.specs.Taking.{on, ends, fails, taken, GrowthRefused, StaysOpen, IsPieceAt, LeadsOver, piece_in, Reads}
use Rattle.edn_reader.specs.Within.{StandsWithin, FaultBehind, StandsWhereWanted, outer, kept_token, kept, Reaches, ReadsOn, ReadsPiece, WantsInPiece, ReadsEnd, IsBetween, EndsAt}
use Rattle.edn_reader.proofs.Lexing.{found_is}
use Rattle.edn_reader.proofs.Resuming.{same_size, longer_twice, ahead_whole, ahead_within, resumed_last, piece_some}
use Rattle.edn_reader.proofs.Reading.{StandsAt, present_next, element_next, fault_next, memory_next, text_end, open_end}
use Rattle.edn_reader.proofs.Leading.{in_piece, in_input, present_led}
use Rattle.edn_reader.proofs.Keeping.{rising_present, outer_up, on_keeps, ends_keeps, led_keeps, gap_stays, part_on, part_ends, part_low, part_rises}

-- ---- the token that has begun

left_over : (at start : ℕ) (input : List ℕ) → start ≤ at → drop (at - start) (drop start input) ≡ drop at input
left_over at start input le = drop-drop (at - start) start input ∙ ap (λ (n : ℕ). drop n input) (omega (arith, le))

-- in this input the token is what its part makes of the bytes that are left
pub token_of : {input : List ℕ} {at : ℕ} {pieces : List ElementModel} {opens : List Open} {begun : Begun} → StandsWithin input at pieces opens begun
    → lexed (drop begun.start input) ≡ longer (at - begun.start) (resumed begun.part (drop at input))
token_of {input = input} {at = at} {begun = begun} w =
    let so_far = take (at - begun.start) (drop begun.start input) in
    ap lexed (sym (take-append-drop (at - begun.start) (drop begun.start input)) ∙ ap (λ (xs : List ℕ). so_far ++ xs) (left_over at begun.start input w.low)) ∙ w.makes (drop at input)

-- where nothing has begun, the token is what the bytes make
pub nothing_makes : (n : ℕ) (bytes more : List ℕ) → n ≡ 0 → lexed (take n bytes ++ more) ≡ longer n (lexed more)
nothing_makes zero bytes more e = let x = lexed more in same_size x.0 x.1 (0 + x.1) (omega arith)
nothing_makes (suc n) bytes more e = absurd (omega arith)

-- ---- tokens of a chunk

-- a token that ends within the chunk is the one that the input has there
here : (input piece following : List ℕ) (base at : ℕ) (found : Found) → IsPieceAt input base piece following → at < length piece → LooksAhead Nothing at (drop at piece) (aheads.Whole found)
    → ◌≡◌ {A = Found} (record { token = found.token; end = base + found.end }) (found_at (base + at) (lexed (drop (base + at) input)))
here input piece following base at found is lt ahead =
    let k = ahead_whole Nothing at (drop at piece) found ahead in
    found_is (base + at) (base + found.end) (lexed (drop (base + at) input)) found.token (found.end - at)
    (ap lexed (in_piece input piece following base at is (omega (arith, lt))) ∙ k.2 following) (omega (arith, k.0))

-- tokens lead from one index of the chunk to another, in each input that has the chunk
abbrev pub Led : List ℕ → ℕ → ℕ → List Open → ℕ → List Open → Type 0
Led piece base from opens at after =
    (input following : List ℕ) (pieces : List ElementModel) → IsPieceAt input base piece following → StandsAt input pieces opens (base + from)
    → StandsAt input pieces after (base + at) × (outer opens (base + from) ≤ outer after (base + at))

pub led_nowhere : (piece : List ℕ) (base from : ℕ) (opens : List Open) → Led piece base from opens from opens
led_nowhere piece base from opens input following pieces is s = (s, omega arith)

pub led_on : (piece : List ℕ) (base from at end : ℕ) (found : Found) (opens inner middle after : List Open) → Led piece base from opens at inner → at < length piece
    → LooksAhead Nothing at (drop at piece) (aheads.Whole found) → taken found.token (base + at) (base + found.end) inner ≡ on middle → LeadsOver piece found.end middle end after
    → Led piece base from opens end after
led_on piece base from at end found opens inner middle after led lt ahead t over input following pieces is s =
    let k = ahead_whole Nothing at (drop at piece) found ahead in
    let before = led input following pieces is s in
    let token : Found = record { token = found.token; end = base + found.end } in
    let e = here input piece following base at found is lt ahead in
    let next : StandsAt input pieces middle (base + found.end) = present_next input pieces (base + at) token inner middle (in_input input piece following base at is lt) before.0 e t in
    let leads = over input base following is in (
      present_led input pieces (base + found.end) (base + end) middle after next leads,
      omega (
        arith,
        before.1,
        on_keeps found.token (base + at) (base + found.end) inner middle (omega (arith, k.0)) (rising_present before.0) t,
        led_keeps input pieces (base + found.end) (base + end) middle after next leads,
      ),
    )

pub reads_element : (piece : List ℕ) (base from at : ℕ) (found : Found) (span : Span) (opens inner after : List Open) → Led piece base from opens at inner → at < length piece
    → LooksAhead Nothing at (drop at piece) (aheads.Whole found) → taken found.token (base + at) (base + found.end) inner ≡ ends span
    → ReadsOn piece base from opens (Ok (Ended span)) after
reads_element piece base from at found span opens inner after led lt ahead t input following pieces is s =
    let k = ahead_whole Nothing at (drop at piece) found ahead in
    let before = led input following pieces is s in
    let token : Found = record { token = found.token; end = base + found.end } in
    let e = here input piece following base at found is lt ahead in (
      element_next input pieces (base + at) token span inner (in_input input piece following base at is lt) before.0 e t,
      omega (arith, before.1, ends_keeps found.token (base + at) (base + found.end) inner span (omega (arith, k.0)) (rising_present before.0) t),
    )

-- a fault at a token, or memory that was refused there
fault_by : (input : List ℕ) (pieces : List ElementModel) (at : ℕ) (found : Found) (fault : EdnFault) (opens after : List Open) → at < length input → StandsAt input pieces opens at
    → found ≡ found_at at (lexed (drop at input)) → IsMemory fault ⊎ (taken found.token at found.end opens ≡ fails fault) → GrowthRefused found.token at opens fault after → FaultBehind input pieces fault
fault_by input pieces at found fault opens after lt s e (inl memory) refused = (inl memory, memory_next input pieces at found fault opens after s e refused)
fault_by input pieces at found fault opens after lt s e (inr t) refused = (inr (fault_next input pieces at found fault opens lt s e t), memory_next input pieces at found fault opens after s e refused)

-- what is open begins no earlier than a place, whatever follows
outer_any : (keep p : ℕ) (opens : List Open) → keep ≤ outer opens p → keep ≤ outer opens keep
outer_any keep p [] le = omega arith
outer_any keep p (item ∷ opens) le = le

stays_outer : (keep p : ℕ) (opens after : List Open) → StaysOpen opens after → keep ≤ outer opens p → keep ≤ outer after keep
stays_outer keep p opens after (inl same) le = subst (λ (o : List Open). keep ≤ outer o keep) (sym same) (outer_any keep p opens le)
stays_outer keep p opens after (inr (item, whole)) le = outer_any keep item.place after (subst (λ (o : List Open). keep ≤ outer o p) whole le)

-- where a growth was refused at a token, what was open before it still is
present_wanted : (input : List ℕ) (end : ℕ) (pieces : List ElementModel) (at : ℕ) (token : Token) (fault : EdnFault) (opens after : List Open) → at < end → StandsAt input pieces opens at
    → GrowthRefused token at opens fault after → StandsWhereWanted input end pieces after fault
present_wanted input end pieces at token fault opens after lt s refused =
    IfSome_then (wanted_at fault) refused (λ place is.
    (omega (arith, is.0, lt), subst (λ (n : ℕ). StandsAt input pieces after n) (sym is.0) (subst (λ (o : List Open). StandsAt input pieces o at) (sym is.1) s)))

pub reads_fault : (piece : List ℕ) (base from at : ℕ) (found : Found) (fault : EdnFault) (opens inner after : List Open) → Led piece base from opens at inner → at < length piece
    → LooksAhead Nothing at (drop at piece) (aheads.Whole found) → IsMemory fault ⊎ (taken found.token (base + at) (base + found.end) inner ≡ fails fault)
    → GrowthRefused found.token (base + at) inner fault after → StaysOpen inner after → ReadsOn piece base from opens (Err fault) after
reads_fault piece base from at found fault opens inner after led lt ahead t refused stays input following pieces is s =
    let before = led input following pieces is s in
    let token : Found = record { token = found.token; end = base + found.end } in (
      fault_by input pieces (base + at) token fault inner after (in_input input piece following base at is lt) before.0 (here input piece following base at found is lt ahead) t refused,
      present_wanted input (base + length piece) pieces (base + at) found.token fault inner after (omega (arith, lt)) before.0 refused,
      stays_outer (outer opens (base + from)) (base + at) inner after stays before.1,
    )

pub reads_within : (piece : List ℕ) (base from at : ℕ) (part : Part) (opens inner : List Open) → Led piece base from opens at inner → at < length piece
    → LooksAhead Nothing at (drop at piece) (aheads.Within part) → ReadsOn piece base from opens (Ok (Within (record { start = base + at; part = part }))) inner
reads_within piece base from at part opens inner led lt ahead input following pieces is s =
    let before = led input following pieces is s in
    let k = ahead_within Nothing at (drop at piece) part ahead in
    let size : length (drop at piece) ≡ base + length piece - (base + at) = omega (arith, length-drop at piece, lt) in
    let begun_is : take (base + length piece - (base + at)) (drop (base + at) input) ≡ drop at piece =
    ap (λ (n : ℕ). take n (drop (base + at) input)) (sym size) ∙ ap (take (length (drop at piece))) (in_piece input piece following base at is (omega (arith, lt))) ∙ take-append_seam (drop at piece) following in (
      record {
        low = omega (arith, lt);
        present = before.0;
        makes = λ more. ap (λ (xs : List ℕ). lexed (xs ++ more)) begun_is ∙ k more ∙ ap (λ (n : ℕ). longer n (resumed part more)) size;
      },
      omega (arith, before.1, part_low inner part (base + at) (base + length piece) (omega (arith, lt))),
    )

pub reads_all : (piece : List ℕ) (base from at : ℕ) (opens inner : List Open) → Led piece base from opens at inner → at ≡ length piece
    → ReadsOn piece base from opens (Ok (Within (record { start = base + at; part = Nothing }))) inner
reads_all piece base from at opens inner led e input following pieces is s =
    let before = led input following pieces is s in (
      record {
        low = omega (arith, e);
        present = before.0;
        makes = λ more. nothing_makes (base + length piece - (base + at)) (drop (base + at) input) more (omega (arith, e));
      },
      before.1,
    )

-- ---- what has begun before a chunk

reaches_low : (input : List ℕ) (end : ℕ) (pieces : List ElementModel) (low keep : ℕ) (result : Result Reached EdnFault) (after : List Open) → low ≤ keep → Reaches input end pieces keep result after
    → Reaches input end pieces low result after
reaches_low input end pieces low keep (Ok (Ended span)) after le r = (r.0, omega (arith, le, r.1))
reaches_low input end pieces low keep (Ok (Within begun)) after le r = (r.0, omega (arith, le, r.1))
reaches_low input end pieces low keep (Err fault) after le r = (r.0, r.1, outer_any low keep after (omega (arith, le, r.2)))

token_at : (token : Token) (start at : ℕ) → start ≡ at → kept_token token start at ≤ start
token_at tokens.Gap start at e = omega (arith, e)
token_at (tokens.Leaf kind) start at e = omega arith
token_at (tokens.Opens opener) start at e = omega arith
token_at (tokens.Closes bracket) start at e = omega arith
token_at tokens.Unfinished start at e = omega arith

-- where nothing has begun
pub piece_anew : (piece : List ℕ) (base : ℕ) (begun : Begun) (opens after : List Open) (result : Result Reached EdnFault) → begun.start ≡ base → ReadsOn piece base 0 opens result after
    → ReadsPiece piece base begun opens result after
piece_anew piece base begun opens after result e reads input following pieces is w =
    let place : begun.start ≡ base + 0 = omega (arith, e) in
    reaches_low input (base + length piece) pieces (kept opens begun base) (outer opens (base + 0)) result after
    (outer_up opens (kept_token (last begun.part) begun.start base) (base + 0) (omega (arith, token_at (last begun.part) begun.start base e, place)))
    (reads input following pieces is (subst (StandsAt input pieces opens) place w.present))

-- the token that has begun, where it ends within the chunk
begun_here : (input piece following : List ℕ) (pieces : List ElementModel) (base : ℕ) (begun : Begun) (opens : List Open) (found : Found) → IsPieceAt input base piece following
    → StandsWithin input base pieces opens begun → LooksAhead begun.part 0 (drop 0 piece) (aheads.Whole found)
    → ◌≡◌ {A = Found} (record { token = found.token; end = base + found.end }) (found_at begun.start (lexed (drop begun.start input)))
begun_here input piece following pieces base begun opens found is w ahead =
    let k = ahead_whole begun.part 0 (drop 0 piece) found ahead in
    found_is begun.start (base + found.end) (lexed (drop begun.start input)) found.token (base - begun.start + (found.end - 0))
    (token_of w ∙ ap (longer (base - begun.start)) (ap (resumed begun.part) is.1 ∙ k.2 following)) (omega (arith, w.low))

begun_low : (input piece following : List ℕ) (base : ℕ) (begun : Begun) → IsPieceAt input base piece following → (begun.start ≡ base → ⊥) → begun.start ≤ base → begun.start < length input
begun_low input piece following base begun is other low = omega (arith, is.0, other, low)

-- what the part makes of this input
made : (piece following : List ℕ) (part : Part) (found : Found) → LooksAhead part 0 (drop 0 piece) (aheads.Whole found) → (resumed part (drop 0 piece ++ following)).0 ≡ found.token
made piece following part found ahead = ap (λ (x : Token × ℕ). x.0) ((ahead_whole part 0 (drop 0 piece) found ahead).2 following)

pub piece_element : (piece : List ℕ) (base : ℕ) (begun : Begun) (found : Found) (span : Span) (opens after : List Open) → (begun.start ≡ base → ⊥)
    → LooksAhead begun.part 0 (drop 0 piece) (aheads.Whole found) → taken found.token begun.start (base + found.end) opens ≡ ends span
    → ReadsPiece piece base begun opens (Ok (Ended span)) after
piece_element piece base begun found span opens after other ahead t input following pieces is w =
    let token : Found = record { token = found.token; end = base + found.end } in
    let e = begun_here input piece following pieces base begun opens found is w ahead in (
      element_next input pieces begun.start token span opens (begun_low input piece following base begun is other w.low) w.present e t,
      part_ends begun.part begun.start base (base + found.end) (drop 0 piece ++ following) found.token opens span (made piece following begun.part found ahead) (omega (arith, w.low))
          (rising_present w.present) t,
    )

pub piece_fault : (piece : List ℕ) (base : ℕ) (begun : Begun) (found : Found) (fault : EdnFault) (opens after : List Open) → (begun.start ≡ base → ⊥)
    → LooksAhead begun.part 0 (drop 0 piece) (aheads.Whole found) → IsMemory fault ⊎ (taken found.token begun.start (base + found.end) opens ≡ fails fault)
    → GrowthRefused found.token begun.start opens fault after → StaysOpen opens after → ReadsPiece piece base begun opens (Err fault) after
piece_fault piece base begun found fault opens after other ahead t refused stays input following pieces is w =
    let token : Found = record { token = found.token; end = base + found.end } in (
      fault_by input pieces begun.start token fault opens after (begun_low input piece following base begun is other w.low) w.present (begun_here input piece following pieces base begun opens found is w ahead) t refused,
      present_wanted input (base + length piece) pieces begun.start found.token fault opens after (omega (arith, other, w.low)) w.present refused,
      stays_outer (kept opens begun base) (kept_token (last begun.part) begun.start base) opens after stays (omega arith),
    )

-- where memory was refused, after what has begun
pub wants_begun : (piece : List ℕ) (base : ℕ) (begun : Begun) (found : Found) (fault : EdnFault) (opens after : List Open) → LooksAhead begun.part 0 (drop 0 piece) (aheads.Whole found)
    → GrowthRefused found.token begun.start opens fault after → WantsInPiece base (length piece) begun.start opens fault after
wants_begun piece base begun found fault opens after ahead refused =
    let some = piece_some piece begun.part found ahead in IfSome_then (wanted_at fault) refused (λ place is. (some, λ lt. (is.0, is.1)))

pub piece_on : (piece : List ℕ) (base : ℕ) (begun : Begun) (found : Found) (opens middle after : List Open) (result : Result Reached EdnFault) → (begun.start ≡ base → ⊥)
    → LooksAhead begun.part 0 (drop 0 piece) (aheads.Whole found) → taken found.token begun.start (base + found.end) opens ≡ on middle → ReadsOn piece base found.end middle result after
    → ReadsPiece piece base begun opens result after
piece_on piece base begun found opens middle after result other ahead t reads input following pieces is w =
    let token : Found = record { token = found.token; end = base + found.end } in
    let e = begun_here input piece following pieces base begun opens found is w ahead in
    let next = present_next input pieces begun.start token opens middle (begun_low input piece following base begun is other w.low) w.present e t in
    reaches_low input (base + length piece) pieces (kept opens begun base) (outer middle (base + found.end)) result after
    (part_on begun.part begun.start base (base + found.end) (drop 0 piece ++ following) found.token opens middle (made piece following begun.part found ahead) w.low (omega arith) (rising_present w.present) t)
    (reads input following pieces is next)

-- a gap that has begun goes on as a gap
gap_later : (piece : List ℕ) (part later : Part) → LooksAhead part 0 (drop 0 piece) (aheads.Within later) → last part ≡ tokens.Gap → last later ≡ tokens.Gap
gap_later piece part later ahead e =
    ap (λ (x : Token × ℕ). x.0) (sym (resumed_last later)) ∙ ap (λ (x : Token × ℕ). x.0) (sym (ahead_within part 0 (drop 0 piece) later ahead [])) ∙ gap_stays part (drop 0 piece ++ []) e

pub piece_within : (piece : List ℕ) (base : ℕ) (begun : Begun) (later : Part) (opens : List Open) → LooksAhead begun.part 0 (drop 0 piece) (aheads.Within later)
    → ReadsPiece piece base begun opens (Ok (Within (record { start = begun.start; part = later }))) opens
piece_within piece base begun later opens ahead input following pieces is w =
    let k = ahead_within begun.part 0 (drop 0 piece) later ahead in
    let so_far = take (base - begun.start) (drop begun.start input) in
    let long : length so_far ≡ base - begun.start = length-take-le (base - begun.start) (drop begun.start input) (omega (arith, length-drop begun.start input, is.0, w.low)) in
    let whole : drop begun.start input ≡ so_far ++ (piece ++ following) =
    sym (take-append-drop (base - begun.start) (drop begun.start input)) ∙ ap (λ (xs : List ℕ). so_far ++ xs) (left_over base begun.start input w.low ∙ is.1) in
    let begun_is : take (base + length piece - begun.start) (drop begun.start input) ≡ so_far ++ piece =
    ap (λ (n : ℕ). take n (drop begun.start input)) (omega (arith, long, w.low)) ∙ ap (take (length so_far + length piece)) whole ∙ take-append-add so_far (piece ++ following) (length piece)
    ∙ ap (λ (xs : List ℕ). so_far ++ xs) (take-append_seam piece following) in (
      record {
        low = omega (arith, w.low);
        present = w.present;
        makes = λ more. ap (λ (xs : List ℕ). lexed (xs ++ more)) begun_is ∙ ap lexed (append_assoc so_far piece more) ∙ w.makes (piece ++ more) ∙ ap (longer (base - begun.start)) (k more)
            ∙ longer_twice (base - begun.start) (length (drop 0 piece)) (base + length piece - begun.start) (resumed later more) (omega (arith, w.low));
      },
      part_rises opens begun.part later begun.start base (base + length piece) (gap_later piece begun.part later ahead) w.low (omega arith),
    )

-- ---- the end of the input

-- what is open at the end, in each input that ends there; it begins no earlier than the place that was kept
abbrev pub EndStands : ℕ → Begun → List Open → List Open → Type 0
EndStands end begun opens after =
    (input : List ℕ) (pieces : List ElementModel) → length input ≡ end → StandsWithin input end pieces opens begun → StandsAt input pieces after end × (kept opens begun end ≤ outer after end)

end_here : (input : List ℕ) (pieces : List ElementModel) (end : ℕ) (begun : Begun) (opens : List Open) → length input ≡ end → StandsWithin input end pieces opens begun
    → ◌≡◌ {A = Found} (record { token = last begun.part; end = end }) (found_at begun.start (lexed (drop begun.start input)))
end_here input pieces end begun opens long w =
    let rest : drop end input ≡ [] = drop_of_length-le input (omega (arith, long)) in
    found_is begun.start end (lexed (drop begun.start input)) (last begun.part) (end - begun.start + 0)
    (token_of w ∙ ap (longer (end - begun.start)) (ap (resumed begun.part) rest ∙ resumed_last begun.part)) (omega (arith, w.low))

pub end_same : (end : ℕ) (begun : Begun) (opens : List Open) → end ≤ begun.start → EndStands end begun opens opens
end_same end begun opens past input pieces long w =
    let place : begun.start ≡ end = omega (arith, w.low, past) in
    (subst (StandsAt input pieces opens) place w.present, outer_up opens (kept_token (last begun.part) begun.start end) end (omega (arith, token_at (last begun.part) begun.start end place, w.low)))

pub end_on : (end : ℕ) (begun : Begun) (opens after : List Open) → begun.start < end → taken (last begun.part) begun.start end opens ≡ on after → EndStands end begun opens after
end_on end begun opens after lt t input pieces long w =
    let token : Found = record { token = last begun.part; end = end } in (
      present_next input pieces begun.start token opens after (omega (arith, lt, long)) w.present (end_here input pieces end begun opens long w) t,
      part_on begun.part begun.start end end [] (last begun.part) opens after (ap (λ (x : Token × ℕ). x.0) (resumed_last begun.part)) w.low (omega arith) (rising_present w.present) t,
    )

pub end_element : (end : ℕ) (begun : Begun) (span : Span) (opens after : List Open) → begun.start < end → taken (last begun.part) begun.start end opens ≡ ends span → span.end ≡ end
    → ReadsEnd end begun opens (Ok (Some span)) after
end_element end begun span opens after lt t place input pieces long w =
    let token : Found = record { token = last begun.part; end = end } in
    let e = end_here input pieces end begun opens long w in
    let one = element_next input pieces begun.start token span opens (omega (arith, lt, long)) w.present e t in (
      one,
      text_end input (pieces ++ piece_in input span ∷ []) span.end (omega (arith, place, long)) (outermost one.3 nothing),
      part_ends begun.part begun.start end end [] (last begun.part) opens span (ap (λ (x : Token × ℕ). x.0) (resumed_last begun.part)) w.low (rising_present w.present) t,
    )

pub end_fault : (end : ℕ) (begun : Begun) (fault : EdnFault) (opens after : List Open) → begun.start < end → IsMemory fault ⊎ (taken (last begun.part) begun.start end opens ≡ fails fault)
    → GrowthRefused (last begun.part) begun.start opens fault after → StaysOpen opens after → ReadsEnd end begun opens (Err fault) after
end_fault end begun fault opens after lt t refused stays input pieces long w =
    let token : Found = record { token = last begun.part; end = end } in (
      fault_by input pieces begun.start token fault opens after (omega (arith, lt, long)) w.present (end_here input pieces end begun opens long w) t refused,
      stays_outer (kept opens begun end) (kept_token (last begun.part) begun.start end) opens after stays (omega arith),
    )

pub end_text : (end : ℕ) (begun : Begun) (opens after : List Open) → EndStands end begun opens after → (length after == 0) ≡ true → ReadsEnd end begun opens (Ok None) after
end_text end begun opens [] present e input pieces long w = text_end input pieces end (omega (arith, long)) (present input pieces long w).0
end_text end begun opens (item ∷ after) present e input pieces long w = let none_is : suc (length after) ≡ 0 = grind (arith, nat_tests) in absurd (omega arith)

pub end_open : (end : ℕ) (begun : Begun) (opens after : List Open) → EndStands end begun opens after → (length after == 0) ≡ false → ReadsEnd end begun opens (Err (faults.Truncated end)) after
end_open end begun opens [] present e input pieces long w = absurd cc
end_open end begun opens (item ∷ after) present e input pieces long w =
    let s = present input pieces long w in
    ((inr (open_end input pieces end item after (omega (arith, long)) s.0), tt), outer_any (kept opens begun end) end (item ∷ after) s.1)

-- ---- a whole input

whole_piece : (input : List ℕ) → IsPieceAt input 0 input []
whole_piece input = (omega arith, sym (append-nil input))

present_whole : (input : List ℕ) (from : ℕ) (pieces : List ElementModel) (opens : List Open) → opens ≡ [] → IsFront input pieces from → StandsAt input pieces opens (0 + from)
present_whole input from pieces opens e front =
    let place : from ≡ 0 + from = omega arith in
    subst (λ (n : ℕ). StandsAt input pieces opens n) place (subst (λ (o : List Open). StandsAt input pieces o from) (sym e) (outermost front nothing))

at_end : (input : List ℕ) → 0 + length input ≡ length input
at_end input = omega arith

pub whole_element : (input : List ℕ) (from : ℕ) (opens after : List Open) (span : Span) → opens ≡ [] → ReadsOn input 0 from opens (Ok (Ended span)) after → IsBetween (0 + from) (0 + length input) (Ended span) after
    → Reads input from (Ok (Some span)) after
whole_element input from opens after span e reads between =
    (between.0, omega (arith, between.1), λ pieces front. (reads input [] pieces (whole_piece input) (present_whole input from pieces opens e front)).0)

pub no_memory : {X Y : Type 0} → X ⊎ Y → (X → ⊥) → Y
no_memory (inl x) h = absurd (h x)
no_memory (inr y) h = y

-- a fault is E7 or not, whatever elements come before it: what is said for each list of them can be said of it once
met_by : (input : List ℕ) (from : ℕ) (fault : EdnFault) → ((pieces : List ElementModel) → IsFront input pieces from → IsMemory fault ⊎ (FaultOf input fault × AreElementsBefore input pieces))
    → IsMemory fault ⊎ ((pieces : List ElementModel) → IsFront input pieces from → FaultOf input fault × AreElementsBefore input pieces)
met_by input from (faults.Memory place) f = inl tt
met_by input from (faults.Truncated place) f = inr (λ pieces front. no_memory (f pieces front) (λ h. h))
met_by input from (faults.StrayClose place) f = inr (λ pieces front. no_memory (f pieces front) (λ h. h))
met_by input from (faults.WrongClose place) f = inr (λ pieces front. no_memory (f pieces front) (λ h. h))
met_by input from (faults.TooDeep place) f = inr (λ pieces front. no_memory (f pieces front) (λ h. h))
met_by input from (faults.OddMap place) f = inr (λ pieces front. no_memory (f pieces front) (λ h. h))
met_by input from (faults.TagWithoutElement place) f = inr (λ pieces front. no_memory (f pieces front) (λ h. h))

pub whole_fault : (input : List ℕ) (from : ℕ) (opens after : List Open) (fault : EdnFault) → opens ≡ [] → ReadsOn input 0 from opens (Err fault) after → Reads input from (Err fault) after
whole_fault input from opens after fault e reads = met_by input from fault (λ pieces front. (reads input [] pieces (whole_piece input) (present_whole input from pieces opens e front)).0.0)

pub whole_memory : (input : List ℕ) (from : ℕ) (opens after : List Open) (fault : EdnFault) → opens ≡ [] → ReadsOn input 0 from opens (Err fault) after
    → (pieces : List ElementModel) → IsFront input pieces from → MemoryOnlyThere input pieces fault
whole_memory input from opens after fault e reads pieces front = (reads input [] pieces (whole_piece input) (present_whole input from pieces opens e front)).0.1

-- what has begun at the end of the input
within_whole : (input : List ℕ) (from : ℕ) (opens inner : List Open) (begun : Begun) → opens ≡ [] → ReadsOn input 0 from opens (Ok (Within begun)) inner
    → (pieces : List ElementModel) → IsFront input pieces from → StandsWithin input (length input) pieces inner begun
within_whole input from opens inner begun e reads pieces front =
    subst (λ (n : ℕ). StandsWithin input n pieces inner begun) (at_end input) (reads input [] pieces (whole_piece input) (present_whole input from pieces opens e front)).0

pub whole_end : (input : List ℕ) (from : ℕ) (opens inner after : List Open) (begun : Begun) (result : Result (Option Span) EdnFault) → opens ≡ [] → ReadsOn input 0 from opens (Ok (Within begun)) inner
    → IsBetween (0 + from) (0 + length input) (Within begun) inner → ReadsEnd (length input) begun inner result after → IfOk result (λ span. EndsAt begun.start (length input) span after) → Reads input from result after
whole_end input from opens inner after begun (Ok (Some span)) e reads between end place =
    (place.0, omega (arith, between.0, place.1, place.2), λ pieces front. (end input pieces refl (within_whole input from opens inner begun e reads pieces front)).0)
whole_end input from opens inner after begun (Ok None) e reads between end place = (place, λ pieces front. end input pieces refl (within_whole input from opens inner begun e reads pieces front))
whole_end input from opens inner after begun (Err fault) e reads between end place =
    met_by input from fault (λ pieces front. (end input pieces refl (within_whole input from opens inner begun e reads pieces front)).0.0)

pub whole_end_memory : (input : List ℕ) (from : ℕ) (opens inner after : List Open) (begun : Begun) (result : Result (Option Span) EdnFault) → opens ≡ [] → ReadsOn input 0 from opens (Ok (Within begun)) inner
    → ReadsEnd (length input) begun inner result after → IfErr result (λ fault. (pieces : List ElementModel) → IsFront input pieces from → MemoryOnlyThere input pieces fault)
whole_end_memory input from opens inner after begun (Ok span) e reads end = tt
whole_end_memory input from opens inner after begun (Err fault) e reads end = λ pieces front. (end input pieces refl (within_whole input from opens inner begun e reads pieces front)).0.1
