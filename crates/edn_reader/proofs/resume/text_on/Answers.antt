use Rattle.std.proofs.Common.{◌≡◌, ◌≢◌, ℕ, ◌+◌, ◌-◌, ◌<◌, List, ◌∷◌, ◌++◌, length, drop, get_or, Some, sym, ap, subst, ◌∙◌, arith, length-drop}
use Rattle.std.proofs.lemmas.List.{get_or-drop, drop-drop}
use Rattle.std.proofs.lemmas.Bool.Decides.{nat_tests}
use Rattle.memchr.specs.Find.{NoneBefore, Nowhere, Passes, is_byte2}
use Rattle.edn_reader.specs.Token.{quoted_length}
use Rattle.edn_reader.proofs.Stretches.{from_index, add_length, quote_found, backslash_last, backslash_found, sign_nowhere}
use Rattle.edn_reader.proofs.Resuming.{same_text_begin, text_ended, text_escaped, text_open, same_text_on}
use Rattle.edn_reader.proofs.resume.text_on.Goals as goal

abbrev Found : List ℕ → ℕ → Type 0
Found bytes n = NoneBefore (Passes (is_byte2 34 92) bytes) 0 (length bytes) n × Passes (is_byte2 34 92) bytes n

-- a byte that was found and is no quote is a backslash
is_backslash : (bytes : List ℕ) (n : ℕ) → Passes (is_byte2 34 92) bytes n → get_or bytes n 0 ≢ 34 → get_or bytes n 0 ≡ 92
is_backslash bytes n found u = grind (arith, nat_tests)

pub loop-ahead-init : goal.loop-ahead-init
loop-ahead-init c = record { low = omega arith; within = omega arith; same = same_text_begin c.args.bytes.now c.args.from }

pub returns-then-bytes-place-eq34 : goal.returns-then-bytes-place-eq34
returns-then-bytes-place-eq34 c =
    let xs = c.args.bytes.now in
    let at = c.loop-ahead.at in
    let n = c.in-Some.ahead in
    let bytes = drop at xs in
    let found = subst (λ (ys : List ℕ). Found ys n) (from_index xs at) c.in-Some.ensures in
    let here : get_or bytes n 0 ≡ 34 = get_or-drop at xs n 0 ∙ c.if-bytes-place-eq34.true in
    let long = length-drop at xs in
    let size : n + 1 ≡ at + n + 1 - at = omega arith in
    text_ended xs c.args.from at (at + n + 1) c.loop-ahead.invariant.low (omega arith) (omega (arith, found.0.high, long))
    (λ following. quote_found bytes following n found.0 here ∙ ap Some size) c.loop-ahead.invariant.same

pub returns-then-place-bytes : goal.returns-then-place-bytes
returns-then-place-bytes c =
    let xs = c.args.bytes.now in
    let at = c.loop-ahead.at in
    let n = c.in-Some.ahead in
    let bytes = drop at xs in
    let found = subst (λ (ys : List ℕ). Found ys n) (from_index xs at) c.in-Some.ensures in
    let there = get_or-drop at xs n 0 in
    let slash : get_or bytes n 0 ≡ 92 = is_backslash bytes n found.1 (λ h. c.if-bytes-place-eq34.false (sym there ∙ h)) in
    let long = length-drop at xs in
    let size : n ≡ at + n - at = omega arith in
    text_escaped xs c.args.from at (at + n) c.loop-ahead.invariant.low (omega arith) (omega arith) (sym there ∙ slash)
    (λ following.
    backslash_last bytes following n found.0 (omega (arith, long))
    ∙ ap (λ (k : ℕ). add_length k (quoted_length (get_or bytes n 0 ∷ following))) size
    ∙ ap (λ (b : ℕ). add_length (at + n - at) (quoted_length (b ∷ following))) there)
    c.loop-ahead.invariant.same

pub loop-ahead-preserved : goal.loop-ahead-preserved
loop-ahead-preserved c =
    let xs = c.args.bytes.now in
    let at = c.loop-ahead.at in
    let n = c.in-Some.ahead in
    let bytes = drop at xs in
    let found = subst (λ (ys : List ℕ). Found ys n) (from_index xs at) c.in-Some.ensures in
    let there = get_or-drop at xs n 0 in
    let slash : get_or bytes n 0 ≡ 92 = is_backslash bytes n found.1 (λ h. c.if-bytes-place-eq34.false (sym there ∙ h)) in
    let long = length-drop at xs in
    let more : n + 1 < length bytes = omega (arith, found.0.high, long, c.if-place-bytes.false) in
    let size : n + 2 ≡ at + n + 2 - at = omega arith in
    let place : at + (n + 2) ≡ at + n + 2 = omega arith in
    let left : drop (n + 2) bytes ≡ drop (at + n + 2) xs = drop-drop (n + 2) at xs ∙ ap (λ (k : ℕ). drop k xs) place in
    record {
      low = omega arith;
      within = omega (arith, more, long);
      same = same_text_on xs c.args.from at (at + n + 2) c.loop-ahead.invariant.low (omega arith)
          (λ following.
          backslash_found bytes following n found.0 slash more
          ∙ ap (λ (k : ℕ). add_length k (quoted_length (drop (n + 2) bytes ++ following))) size
          ∙ ap (λ (ys : List ℕ). add_length (at + n + 2 - at) (quoted_length (ys ++ following))) left)
          c.loop-ahead.invariant.same;
    }

pub returns : goal.returns
returns c =
    let xs = c.args.bytes.now in
    let at = c.loop-ahead.at in
    let nowhere = subst (λ (ys : List ℕ). Nowhere (Passes (is_byte2 34 92) ys) 0 (length ys)) (from_index xs at) c.in_default.ensures in
    text_open xs c.args.from at c.loop-ahead.invariant.low c.loop-ahead.invariant.within (λ following. sign_nowhere (drop at xs) following nowhere) c.loop-ahead.invariant.same
