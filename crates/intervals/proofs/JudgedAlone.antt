-- The verdict on reads and the refusals of writes depend on judged operations alone; of one read, on writes alone.
use Rattle.std.proofs.Common.{◌≡◌, ℕ, Bool, true, false, not, ◌&&◌, ◌||◌, List, [], ◌∷◌, Option, Some, None, refl, sym, ap, ◌∙◌, cond}
use Rattle.std.specs.Prelude.{is_some, filter, find}
use Rattle.std.specs.List.{list_any}
use Rattle.intervals.specs.declared.operation.Op.{Op}
use Rattle.intervals.specs.declared.operation.Moment.{Moment}
use Rattle.intervals.specs.declared.operation.Value.{Value}
use Rattle.intervals.specs.declared.claim.Kind.{Kind}
use Rattle.intervals.specs.declared.claim.Kind.TheVariants.{Safe, Regular, Atomic}
use Rattle.intervals.specs.Terms.{ClaimModel}
use Rattle.intervals.specs.Operation.{is_write, overlaps, is_judged_read, same_id, same_value, value_of, judged, writes}
use Rattle.intervals.specs.Least.{less_of, least_from, least_by}
use Rattle.intervals.specs.Refusal.{is_overlapped, overlap_refusal, is_holder, value_refusal, write_refusal, kind_refusal}
use Rattle.intervals.specs.Judging.{later_begin, last_from, is_returned_at, returns_of, returns_last, is_write_over, is_safe_read, is_returned_over, is_regular_read, is_right_read, is_wrong_read, end_number, first_wrong}

-- whether the operation is one that a verdict is about: a write, or a read that has an end
abbrev pub is_judged : Op → Bool
is_judged op = is_write op || is_some op.end

not_write : (op : Op) → is_judged op ≡ false → is_write op ≡ false
not_write op e = by_cases (is_write op) (is_some op.end) e
  where
    by_cases : (w s : Bool) → (w || s) ≡ false → w ≡ false
    by_cases true s e = e
    by_cases false s e = refl

not_ended : (op : Op) → is_judged op ≡ false → is_some op.end ≡ false
not_ended op e = by_cases (is_write op) (is_some op.end) e
  where
    by_cases : (w s : Bool) → (w || s) ≡ false → s ≡ false
    by_cases true true e = e
    by_cases true false e = refl
    by_cases false s e = e

-- only operations that are kept pass the test
abbrev KeptOnly : (Op → Bool) → (Op → Bool) → Type 0
KeptOnly keep test = (op : Op) → keep op ≡ false → test op ≡ false

-- two tests that agree find the same operation
least_same : (key : Op → ℕ) (p q : Op → Bool) → ((op : Op) → p op ≡ q op) → (found : Option Op) (ops : List Op) → least_from key p found ops ≡ least_from key q found ops
least_same key p q same found [] = refl
least_same key p q same found (op ∷ ops) = least_same key p q same (less_of key p found op) ops ∙ ap (λ (f : Option Op). least_from key q f ops) (rw (same op) refl)

-- where each write is kept
module _ (keep : Op → Bool) (writes_kept : (op : Op) → keep op ≡ false → is_write op ≡ false) where
  any_kept : (test : Op → Bool) → KeptOnly keep test → (ops : List Op) → list_any test (filter keep ops) ≡ list_any test ops
  any_kept test only [] = refl
  any_kept test only (op ∷ ops) = by_cases (any_kept test only ops) (keep op) refl
    where
      by_cases : list_any test (filter keep ops) ≡ list_any test ops → (b : Bool) → keep op ≡ b → list_any test (cond b (op ∷ filter keep ops) (filter keep ops)) ≡ (test op || list_any test ops)
      by_cases rest true e = ap (λ (r : Bool). test op || r) rest
      by_cases rest false e = rest ∙ sym (ap (λ (t : Bool). t || list_any test ops) (only op e))

  least_kept : (key : Op → ℕ) (test : Op → Bool) → KeptOnly keep test → (found : Option Op) (ops : List Op) → least_from key test found (filter keep ops) ≡ least_from key test found ops
  least_kept key test only found [] = refl
  least_kept key test only found (op ∷ ops) = by_cases (λ f. least_kept key test only f ops) (keep op) refl
    where
      by_cases : ((f : Option Op) → least_from key test f (filter keep ops) ≡ least_from key test f ops) → (b : Bool) → keep op ≡ b → least_from key test found (cond b (op ∷ filter keep ops) (filter keep ops)) ≡ least_from key test (less_of key test found op) ops
      by_cases rest true e = rest (less_of key test found op)
      by_cases rest false e = rest found ∙ sym (ap (λ (f : Option Op). least_from key test f ops) (rw (only op e) refl))

  find_kept : (test : Op → Bool) → KeptOnly keep test → (ops : List Op) → find test (filter keep ops) ≡ find test ops
  find_kept test only [] = refl
  find_kept test only (op ∷ ops) = by_cases (find_kept test only ops) (keep op) refl
    where
      by_cases : find test (filter keep ops) ≡ find test ops → (b : Bool) → keep op ≡ b → find test (cond b (op ∷ filter keep ops) (filter keep ops)) ≡ cond (test op) (Some op) (find test ops)
      by_cases rest true e = ap (λ (f : Option Op). cond (test op) (Some op) f) rest
      by_cases rest false e = rest ∙ sym (ap (λ (t : Bool). cond t (Some op) (find test ops)) (only op e))

  last_kept : (r : Op) (found : Option Moment) (ops : List Op) → last_from r found (filter keep ops) ≡ last_from r found ops
  last_kept r found [] = refl
  last_kept r found (op ∷ ops) = by_cases (λ f. last_kept r f ops) (keep op) refl
    where
      by_cases : ((f : Option Moment) → last_from r f (filter keep ops) ≡ last_from r f ops) → (b : Bool) → keep op ≡ b → last_from r found (cond b (op ∷ filter keep ops) (filter keep ops)) ≡ last_from r (later_begin r found op) ops
      by_cases rest true e = rest (later_begin r found op)
      by_cases rest false e = rest found ∙ sym (ap (λ (f : Option Moment). last_from r f ops) (rw (writes_kept op e) refl))

  returns_kept : (initial : Value) (ops : List Op) (r : Op) → returns_last initial (filter keep ops) r ≡ returns_last initial ops r
  returns_kept initial ops r = ap (returns_of initial (filter keep ops) r) (last_kept r None ops) ∙ by_found (last_from r None ops)
    where
      by_found : (found : Option Moment) → returns_of initial (filter keep ops) r found ≡ returns_of initial ops r found
      by_found None = refl
      by_found (Some begin) = any_kept (is_returned_at r begin) (λ op e. rw (writes_kept op e) refl) ops

  safe_kept : (claim : ClaimModel) (ops : List Op) (r : Op) → is_safe_read claim (filter keep ops) r ≡ is_safe_read claim ops r
  safe_kept claim ops r =
      rw (any_kept (is_write_over r) (λ op e. rw (writes_kept op e) refl) ops, returns_kept claim.initial ops r) refl

  regular_kept : (claim : ClaimModel) (ops : List Op) (r : Op) → is_regular_read claim (filter keep ops) r ≡ is_regular_read claim ops r
  regular_kept claim ops r =
      rw (any_kept (is_returned_over r) (λ op e. rw (writes_kept op e) refl) ops, returns_kept claim.initial ops r) refl

  right_kept : (kind : Kind) (claim : ClaimModel) (ops : List Op) (r : Op) → is_right_read kind claim (filter keep ops) r ≡ is_right_read kind claim ops r
  right_kept Safe claim ops r = safe_kept claim ops r
  right_kept Regular claim ops r = regular_kept claim ops r
  right_kept Atomic claim ops r = refl

  wrong_kept : (claim : ClaimModel) (ops : List Op) (r : Op) → is_wrong_read claim (filter keep ops) r ≡ is_wrong_read claim ops r
  wrong_kept claim ops r = ap (λ (b : Bool). is_judged_read r && not b) (right_kept claim.kind claim ops r)

  overlap_kept : (ops : List Op) (op : Op) → overlap_refusal (filter keep ops) op ≡ overlap_refusal ops op
  overlap_kept ops op = rw (least_kept (λ other. other.begin.0) (is_overlapped op) (λ other e. by_cases (same_id other.id op.id) other e) None ops) refl
    where
      by_cases : (b : Bool) (other : Op) → keep other ≡ false → (not b && is_write other && overlaps other op) ≡ false
      by_cases true other e = refl
      by_cases false other e = rw (writes_kept other e) refl

  value_kept : (claim : ClaimModel) (ops : List Op) (op : Op) → value_refusal claim (filter keep ops) op ≡ value_refusal claim ops op
  value_kept claim ops op = rw (find_kept (is_holder op) (λ other e. by_cases (same_id other.id op.id) other e) ops) refl
    where
      by_cases : (b : Bool) (other : Op) → keep other ≡ false → (not b && is_write other && same_value (value_of other.act) (value_of op.act)) ≡ false
      by_cases true other e = refl
      by_cases false other e = rw (writes_kept other e) refl

  kind_kept : (kind : Kind) (claim : ClaimModel) (ops : List Op) (op : Op) → kind_refusal kind claim (filter keep ops) op ≡ kind_refusal kind claim ops op
  kind_kept Safe claim ops op = overlap_kept ops op
  kind_kept Regular claim ops op = overlap_kept ops op
  kind_kept Atomic claim ops op = value_kept claim ops op

  write_refusal_kept : (claim : ClaimModel) (ops : List Op) (op : Op) → write_refusal claim (filter keep ops) op ≡ write_refusal claim ops op
  write_refusal_kept claim ops op = rw (kind_kept claim.kind claim ops op) refl

wrong_only_judged : (claim : ClaimModel) (ops : List Op) → KeptOnly is_judged (is_wrong_read claim ops)
wrong_only_judged claim ops op e = rw (not_write op e, not_ended op e) refl

pub first_wrong-judged : (claim : ClaimModel) (ops : List Op) → first_wrong claim (judged ops) ≡ first_wrong claim ops
first_wrong-judged claim ops =
    least_same end_number (is_wrong_read claim (judged ops)) (is_wrong_read claim ops) (wrong_kept is_judged not_write claim ops) None (judged ops)
    ∙ least_kept is_judged not_write end_number (is_wrong_read claim ops) (wrong_only_judged claim ops) None ops

pub write_refusal-judged : (claim : ClaimModel) (ops : List Op) (op : Op) → write_refusal claim (judged ops) op ≡ write_refusal claim ops op
write_refusal-judged = write_refusal_kept is_judged not_write

pub is_wrong_read-writes : (claim : ClaimModel) (ops : List Op) (r : Op) → is_wrong_read claim (writes ops) r ≡ is_wrong_read claim ops r
is_wrong_read-writes = wrong_kept is_write (λ op e. e)

pub first_wrong-writes : (claim : ClaimModel) (ops : List Op) → least_by end_number (is_wrong_read claim (writes ops)) ops ≡ first_wrong claim ops
first_wrong-writes claim ops =
    least_same end_number (is_wrong_read claim (writes ops)) (is_wrong_read claim ops) (is_wrong_read-writes claim ops) None ops

pub write_refusal-writes : (claim : ClaimModel) (ops : List Op) (op : Op) → write_refusal claim (writes ops) op ≡ write_refusal claim ops op
write_refusal-writes = write_refusal_kept is_write (λ op e. e)
