-- Each refusal is counted under the one code that it has.
use Rattle.std.proofs.Common.{◌≡◌, ◌∙◌, ℕ, ◌+◌, List, [], ◌∷◌, refl, sym, ap, arith}
use Rattle.std.proofs.lemmas.List.Sums.{sum_by-cons}
use Rattle.std.specs.Prelude.{cond, count_by, sum_by}
use Rattle.std.specs.Str.{bytes_eq}
use Rattle.intervals.specs.declared.refusal.Refusal.{Refusal}
use Rattle.jepsen_form.specs.declared.fault.FormFault.{FormFault}
use Rattle.pairing.specs.declared.fault.PairFault.{PairFault}
use Rattle.logs.specs.Code.{refused_code}
use Rattle.logs.specs.declared.log.Code.{Code}
use Rattle.logs.specs.declared.log.Code.TheVariants.{Form, Pair, Register}
use Rattle.logs.specs.declared.log.Line.{Line}
use Rattle.logs.specs.declared.log.Log.{Log}
use Rattle.logs.specs.declared.log.What.{What}
use Rattle.logs.specs.declared.log.What.TheVariants.{Refused, Answered}
use Rattle.report.specs.Refused.{is_refusal, is_refusal_by, is_refused_by, is_refused_line, refused, refused_by}
use Rattle.texts.specs.Codes.{refusal_codes}

both : {X : Type 0} (f g : X → ℕ) (xs : List X) → sum_by (λ x. f x + g x) xs ≡ sum_by f xs + sum_by g xs
both f g [] = refl
both f g (x ∷ xs) = omega (arith, sum_by-cons (λ y. f y + g y) x xs, sum_by-cons f x xs, sum_by-cons g x xs, both f g xs)

one_form : (fault : FormFault) → sum_by (λ known. cond (bytes_eq (refused_code (Form fault)) known) 1 0) refusal_codes ≡ 1
one_form fault = grind arith

one_pair : (fault : PairFault) → sum_by (λ known. cond (bytes_eq (refused_code (Pair fault)) known) 1 0) refusal_codes ≡ 1
one_pair fault = grind arith

one_refusal : (refusal : Refusal) → sum_by (λ known. cond (bytes_eq (refused_code (Register refusal)) known) 1 0) refusal_codes ≡ 1
one_refusal refusal = grind arith

one_code : (code : Code) → sum_by (λ known. cond (bytes_eq (refused_code code) known) 1 0) refusal_codes ≡ 1
one_code (Form fault) = one_form fault
one_code (Pair fault) = one_pair fault
one_code (Register refusal) = one_refusal refusal

one_line : (what : What) → sum_by (λ known. cond (is_refusal_by known what) 1 0) refusal_codes ≡ cond (is_refusal what) 1 0
one_line (Refused left_out) = one_code left_out.code
one_line (Answered register answer) = refl

in_lines : (lines : List Line) → sum_by (λ known. count_by (is_refused_by known) lines) refusal_codes ≡ count_by is_refused_line lines
in_lines [] = refl
in_lines (line ∷ lines) =
    ap (λ (f : List ℕ → ℕ). sum_by f refusal_codes) (λ i known. sum_by-cons (λ x. cond (is_refused_by known x) 1 0) line lines i)
    ∙ both (λ known. cond (is_refused_by known line) 1 0) (λ known. count_by (is_refused_by known) lines) refusal_codes
    ∙ (λ i. one_line line.what i + in_lines lines i)
    ∙ sym (sum_by-cons (λ x. cond (is_refused_line x) 1 0) line lines)

pub by_code : (logs : List Log) → sum_by (λ known. refused_by known logs) refusal_codes ≡ refused logs
by_code [] = refl
by_code (log ∷ logs) =
    ap (λ (f : List ℕ → ℕ). sum_by f refusal_codes) (λ i known. sum_by-cons (λ x. count_by (is_refused_by known) x.lines.items) log logs i)
    ∙ both (λ known. count_by (is_refused_by known) log.lines.items) (λ known. refused_by known logs) refusal_codes
    ∙ (λ i. in_lines log.lines.items i + by_code logs i)
    ∙ sym (sum_by-cons (λ x. count_by is_refused_line x.lines.items) log logs)
