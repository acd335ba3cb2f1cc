-- The text of a summary is that of its two parts.
use Rattle.std.proofs.Common.{◌≡◌, ◌∙◌, ◌++◌, ℕ, List, ap, append_assoc}
use Rattle.std.specs.Prelude.{OnOk, Result, Ok, Err}
use Rattle.logs.specs.declared.log.Log.{Log}

-- two texts that are added in turn are added together
pub two_parts : {T E : Type 0} (result : Result T E) (old middle new first second : List ℕ) → middle ≡ old ++ first → OnOk result (new ≡ middle ++ second) → OnOk result (new ≡ old ++ (first ++ second))
two_parts (Ok x) old middle new first second one two = two ∙ ap (λ (text : List ℕ). text ++ second) one ∙ append_assoc old first second
two_parts (Err e) old middle new first second one two = tt

-- four texts that are added in turn are added together
pub four_parts : (old a b c d : List ℕ) → old ++ a ++ b ++ c ++ d ≡ old ++ (a ++ b ++ c ++ d)
four_parts old a b c d =
    ap (λ (text : List ℕ). text ++ d) (ap (λ (text : List ℕ). text ++ c) (append_assoc old a b) ∙ append_assoc old (a ++ b) c)
    ∙ append_assoc old (a ++ b ++ c) d

-- two texts of logs, and one more, that are added in turn are added together
pub three_parts : {T E : Type 0} (result : Result T E) (f g : List Log → List ℕ) (logs one other : List Log) (old first second new last : List ℕ) → one ≡ logs → other ≡ logs
    → first ≡ old ++ f one → second ≡ first ++ g other → OnOk result (new ≡ second ++ last) → OnOk result (new ≡ old ++ (f logs ++ g logs ++ last))
three_parts result f g logs one other old first second new last is is_too added more =
    two_parts result old second new (f logs ++ g logs) last
    (more ∙ (λ k. added k ++ g (is_too k)) ∙ (λ k. old ++ f (is k) ++ g logs) ∙ append_assoc old (f logs) (g logs))
