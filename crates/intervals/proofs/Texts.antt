-- The texts that operations lend decide no reply, and no verdict on reads.
use Rattle.std.proofs.Common.{◌≡◌, ◌↔◌, ℕ, Bool, true, false, not, ◌&&◌, ◌||◌, List, [], ◌∷◌, ◌++◌, map, Option, Some, None, refl, sym, ap, ◌∙◌, cond}
use Rattle.std.specs.Prelude.{is_some, filter, find, option_map}
use Rattle.std.specs.List.{list_any}
use Rattle.std.proofs.lemmas.List.{map-append}
use Rattle.intervals.specs.declared.operation.Op.{Op}
use Rattle.intervals.specs.declared.operation.OpId.{OpId}
use Rattle.intervals.specs.declared.operation.Moment.{Moment}
use Rattle.intervals.specs.declared.operation.Value.{Value}
use Rattle.intervals.specs.declared.edit.Change.{Change}
use Rattle.intervals.specs.declared.edit.Edit.{Edit}
use Rattle.intervals.specs.declared.edit.Edit.TheVariants.{Append, Amend, Withdraw, Claim}
use Rattle.intervals.specs.declared.claim.Kind.{Kind}
use Rattle.intervals.specs.declared.claim.Kind.TheVariants.{Safe, Regular, Atomic}
use Rattle.intervals.specs.declared.claim.Holder.{Holder}
use Rattle.intervals.specs.declared.claim.Holder.TheVariants as holders
use Rattle.intervals.specs.declared.refusal.Refusal.{Refusal}
use Rattle.intervals.specs.declared.refusal.Refusal.TheVariants.{UnknownOp, OpTaken, MomentTaken, WritesOverlap, ValueTaken, ClaimFixed}
use Rattle.intervals.specs.Terms.{ClaimModel, RegisterState}
use Rattle.intervals.specs.Operation.{is_write, is_judged_read, same_id, value_of}
use Rattle.intervals.specs.Edit.{op_of, amended, changed, edited, claim_after}
use Rattle.intervals.specs.Bare.{bare, bare_change, bare_edit, bare_held}
use Rattle.intervals.specs.Least.{is_less, less_of, least_from}
use Rattle.intervals.specs.Refusal.{begin_number, first_overlap, first_repeat, first_there, holder_of, is_initial, id_with, ids_with, overlap_of, overlaps_another, refused_if, repeat_claimed, repeat_of, to_kind_refusal, first_present, is_moment_of, find_other_with, moment_taken, moments_refusal, amendment_refusal, is_overlapped, overlap_refusal, as_holder, is_holder, value_refusal, kind_refusal, write_refusal, new_write_refusal, reply_to, carried_out, after_edit, standing}
use Rattle.intervals.specs.Judging.{later_begin, last_from, is_returned_at, returns_of, returns_last, is_write_over, is_returned_over, is_right_read, is_wrong_read, end_number, first_wrong}
use Rattle.intervals.specs.Kind.{IsSafe, IsRegular}
use Rattle.intervals.proofs.Found.{not_mapped}
use Rattle.intervals.proofs.Verdicts.{first_wrong-safe, first_wrong-regular}

-- what does not depend on texts keeps its value without them, for an optional operation
mapped_bare : {X : Type 0} (f : Op → X) → ((op : Op) → f (bare op) ≡ f op) → (found : Option Op) → option_map f (option_map bare found) ≡ option_map f found
mapped_bare f same None = refl
mapped_bare f same (Some op) = ap Some (same op)

some_bare : (found : Option Op) → is_some (option_map bare found) ≡ is_some found
some_bare None = refl
some_bare (Some op) = refl

-- searches, where a test of the operation without its texts is a test of the operation
module _ (p q : Op → Bool) (same : (op : Op) → p (bare op) ≡ q op) where
  any_bare : (ops : List Op) → list_any p (map bare ops) ≡ list_any q ops
  any_bare [] = refl
  any_bare (op ∷ ops) = let rest = any_bare ops in λ i. same op i || rest i

  find_bare : (ops : List Op) → find p (map bare ops) ≡ option_map bare (find q ops)
  find_bare [] = refl
  find_bare (op ∷ ops) = let rest = find_bare ops in (λ i. cond (same op i) (Some (bare op)) (rest i)) ∙ by_cases (q op)
    where
      by_cases : (b : Bool) → cond b (Some (bare op)) (option_map bare (find q ops)) ≡ option_map bare (cond b (Some op) (find q ops))
      by_cases true = refl
      by_cases false = refl

  pub filter_bare : (ops : List Op) → filter p (map bare ops) ≡ map bare (filter q ops)
  filter_bare [] = refl
  filter_bare (op ∷ ops) = let rest = filter_bare ops in (λ i. cond (same op i) (bare op ∷ rest i) (rest i)) ∙ by_cases (q op)
    where
      by_cases : (b : Bool) → cond b (bare op ∷ map bare (filter q ops)) (map bare (filter q ops)) ≡ map bare (cond b (op ∷ filter q ops) (filter q ops))
      by_cases true = refl
      by_cases false = refl

  module _ (key : Op → ℕ) (same_key : (op : Op) → key (bare op) ≡ key op) where
    is_less_bare : (op : Op) (found : Option Op) → is_less key (bare op) (option_map bare found) ≡ is_less key op found
    is_less_bare op None = refl
    is_less_bare op (Some found) = rw (same_key op, same_key found) refl

    less_bare : (found : Option Op) (op : Op) → less_of key p (option_map bare found) (bare op) ≡ option_map bare (less_of key q found op)
    less_bare found op = (λ i. cond (same op i && is_less_bare op found i) (Some (bare op)) (option_map bare found)) ∙ by_cases (q op && is_less key op found)
      where
        by_cases : (b : Bool) → cond b (Some (bare op)) (option_map bare found) ≡ option_map bare (cond b (Some op) found)
        by_cases true = refl
        by_cases false = refl

    least_bare : (found : Option Op) (ops : List Op) → least_from key p (option_map bare found) (map bare ops) ≡ option_map bare (least_from key q found ops)
    least_bare found [] = refl
    least_bare found (op ∷ ops) = ap (λ (f : Option Op). least_from key p f (map bare ops)) (less_bare found op) ∙ least_bare (less_of key q found op) ops

-- verdicts on reads

later_bare : (r : Op) (found : Option Moment) (w : Op) → later_begin (bare r) found (bare w) ≡ later_begin r found w
later_bare r None w = refl
later_bare r (Some found) w = refl

last_bare : (r : Op) (found : Option Moment) (ops : List Op) → last_from (bare r) found (map bare ops) ≡ last_from r found ops
last_bare r found [] = refl
last_bare r found (w ∷ ops) = ap (λ (f : Option Moment). last_from (bare r) f (map bare ops)) (later_bare r found w) ∙ last_bare r (later_begin r found w) ops

returns_bare : (initial : Value) (ops : List Op) (r : Op) → returns_last initial (map bare ops) (bare r) ≡ returns_last initial ops r
returns_bare initial ops r = ap (returns_of initial (map bare ops) (bare r)) (last_bare r None ops) ∙ by_found (last_from r None ops)
  where
    by_found : (found : Option Moment) → returns_of initial (map bare ops) (bare r) found ≡ returns_of initial ops r found
    by_found None = refl
    by_found (Some begin) = any_bare (is_returned_at (bare r) begin) (is_returned_at r begin) (λ w. refl) ops

right_bare : (kind : Kind) (claim : ClaimModel) (ops : List Op) (r : Op) → is_right_read kind claim (map bare ops) (bare r) ≡ is_right_read kind claim ops r
right_bare Safe claim ops r = rw (any_bare (is_write_over (bare r)) (is_write_over r) (λ w. refl) ops, returns_bare claim.initial ops r) refl
right_bare Regular claim ops r = rw (any_bare (is_returned_over (bare r)) (is_returned_over r) (λ w. refl) ops, returns_bare claim.initial ops r) refl
right_bare Atomic claim ops r = refl

wrong_bare : (claim : ClaimModel) (ops : List Op) (r : Op) → is_wrong_read claim (map bare ops) (bare r) ≡ is_wrong_read claim ops r
wrong_bare claim ops r = ap (λ (b : Bool). is_judged_read r && not b) (right_bare claim.kind claim ops r)

first_wrong-bare : (claim : ClaimModel) (ops : List Op) → first_wrong claim (map bare ops) ≡ option_map bare (first_wrong claim ops)
first_wrong-bare claim ops = least_bare (is_wrong_read claim (map bare ops)) (is_wrong_read claim ops) (wrong_bare claim ops) end_number (λ op. refl) None ops

-- where two searches find the same but for texts, both find nothing in the same cases
both_none : (P Q : Type 0) (a b : Option Op) → a ≡ option_map bare b → (a ≡ None) ↔ P → (b ≡ None) ↔ Q → P ↔ Q
both_none P Q a b e p q = (λ x. q.0 (not_mapped bare b (sym e ∙ p.1 x)), λ y. p.0 (e ∙ ap (option_map bare) (q.1 y)))

pub IsSafe-bare : (claim : ClaimModel) (ops : List Op) → IsSafe claim (map bare ops) ↔ IsSafe claim ops
IsSafe-bare claim ops =
    let safe : ClaimModel = record claim { kind = Safe } in
    both_none (IsSafe claim (map bare ops)) (IsSafe claim ops) _ _ (first_wrong-bare safe ops) (first_wrong-safe safe (map bare ops) refl) (first_wrong-safe safe ops refl)

pub IsRegular-bare : (claim : ClaimModel) (ops : List Op) → IsRegular claim (map bare ops) ↔ IsRegular claim ops
IsRegular-bare claim ops =
    let regular : ClaimModel = record claim { kind = Regular } in
    both_none (IsRegular claim (map bare ops)) (IsRegular claim ops) _ _ (first_wrong-bare regular ops) (first_wrong-regular regular (map bare ops) refl) (first_wrong-regular regular ops refl)

-- replies

op_of-bare : (ops : List Op) (id : OpId) → op_of (map bare ops) id ≡ option_map bare (op_of ops id)
op_of-bare ops id = find_bare (λ op. same_id op.id id) (λ op. same_id op.id id) (λ op. refl) ops

known_bare : (ops : List Op) (id : OpId) → is_some (op_of (map bare ops) id) ≡ is_some (op_of ops id)
known_bare ops id = ap is_some (op_of-bare ops id) ∙ some_bare (op_of ops id)

moment_bare : (ops : List Op) (id : OpId) (moment : Option Moment) → moment_taken (map bare ops) id moment ≡ moment_taken ops id moment
moment_bare ops id None = refl
moment_bare ops id (Some moment) =
    let test : Op → Bool = λ op. not (same_id op.id id) && is_moment_of op moment in
    ap (option_map (λ (other : Op). MomentTaken moment other.id)) (find_bare test test (λ op. refl) ops)
    ∙ mapped_bare (λ other. MomentTaken moment other.id) (λ op. refl) (find_other_with ops id moment)

moments_bare : (ops : List Op) (op : Op) → moments_refusal (map bare ops) op ≡ moments_refusal ops op
moments_bare ops op = rw (moment_bare ops op.id (Some op.begin), moment_bare ops op.id op.end) refl

overlap_bare : (ops : List Op) (op : Op) → overlap_refusal (map bare ops) op ≡ overlap_refusal ops op
overlap_bare ops op =
    ap (option_map (λ (other : Op). WritesOverlap other.id)) (least_bare (is_overlapped op) (is_overlapped op) (λ other. refl) (λ other. other.begin.0) (λ other. refl) None ops)
    ∙ mapped_bare (λ other. WritesOverlap other.id) (λ other. refl) (least_from (λ other. other.begin.0) (is_overlapped op) None ops)

value_bare : (claim : ClaimModel) (ops : List Op) (op : Op) → value_refusal claim (map bare ops) op ≡ value_refusal claim ops op
value_bare claim ops op =
    let found = ap (option_map as_holder) (find_bare (is_holder op) (is_holder op) (λ other. refl) ops)
    ∙ mapped_bare as_holder (λ other. refl) (find (is_holder op) ops) in
    ap (λ (h : Option Holder). option_map ValueTaken (cond (is_initial claim (value_of op.act)) (Some holders.Initial) h)) found

kind_bare : (kind : Kind) (claim : ClaimModel) (ops : List Op) (op : Op) → kind_refusal kind claim (map bare ops) op ≡ kind_refusal kind claim ops op
kind_bare Safe claim ops op = overlap_bare ops op
kind_bare Regular claim ops op = overlap_bare ops op
kind_bare Atomic claim ops op = value_bare claim ops op

write_bare : (claim : ClaimModel) (ops : List Op) (op : Op) → write_refusal claim (map bare ops) op ≡ write_refusal claim ops op
write_bare claim ops op = rw (kind_bare claim.kind claim ops op) refl

same_kind : (kind : Kind) (claim : ClaimModel) (ops : List Op) (op : Op) → kind_refusal kind claim ops (bare op) ≡ kind_refusal kind claim ops op
same_kind Safe claim ops op = refl
same_kind Regular claim ops op = refl
same_kind Atomic claim ops op = refl

same_write : (claim : ClaimModel) (ops : List Op) (op : Op) → write_refusal claim ops (bare op) ≡ write_refusal claim ops op
same_write claim ops op = rw (same_kind claim.kind claim ops op) refl

-- the refusal that a new operation meets by its moments, or as a write
abbrev new_refusal : ClaimModel → List Op → Op → Option Refusal
new_refusal claim ops op = first_present (moments_refusal ops op ∷ write_refusal claim ops op ∷ None ∷ [])

same_new : (claim : ClaimModel) (ops : List Op) (op : Op) → new_refusal claim ops (bare op) ≡ new_refusal claim ops op
same_new claim ops op = λ i. first_present (moments_refusal ops op ∷ same_write claim ops op i ∷ None ∷ [])

new_bare : (claim : ClaimModel) (ops : List Op) (op : Op) → new_refusal claim (map bare ops) op ≡ new_refusal claim ops op
new_bare claim ops op = λ i. first_present (moments_bare ops op i ∷ write_bare claim ops op i ∷ None ∷ [])

-- claims

another_bare : (ops : List Op) (w : Op) → overlaps_another (map bare ops) (bare w) ≡ overlaps_another ops w
another_bare ops w = ap (λ (b : Bool). is_write w && b) (any_bare (is_overlapped (bare w)) (is_overlapped w) (λ other. refl) ops)

first_overlap-bare : (ops : List Op) → first_overlap (map bare ops) ≡ first_overlap ops
first_overlap-bare ops =
    ap (overlap_of (map bare ops)) (least_bare (overlaps_another (map bare ops)) (overlaps_another ops) (another_bare ops) begin_number (λ op. refl) None ops)
    ∙ by_found (least_from begin_number (overlaps_another ops) None ops)
  where
    by_found : (found : Option Op) → overlap_of (map bare ops) (option_map bare found) ≡ overlap_of ops found
    by_found None = refl
    by_found (Some w) =
        ap (option_map (ids_with w)) (least_bare (is_overlapped (bare w)) (is_overlapped w) (λ other. refl) begin_number (λ op. refl) None ops)
        ∙ mapped_bare (ids_with w) (λ other. refl) (least_from begin_number (is_overlapped w) None ops)

holder_bare : (claim : ClaimModel) (before : List Op) (op : Op) → holder_of claim (map bare before) (bare op) ≡ holder_of claim before op
holder_bare claim before op =
    ap (λ (h : Option Holder). cond (is_initial claim (value_of op.act)) (Some holders.Initial) h)
    (ap (option_map as_holder) (find_bare (is_holder (bare op)) (is_holder op) (λ other. refl) before)
    ∙ mapped_bare as_holder (λ other. refl) (find (is_holder op) before))

repeat_bare : (claim : ClaimModel) (before : List Op) (op : Op) → repeat_of claim (map bare before) (bare op) ≡ repeat_of claim before op
repeat_bare claim before op = ap (λ (h : Option Holder). cond (is_write op) (option_map (id_with op) h) None) (holder_bare claim before op)

first_repeat-bare : (claim : ClaimModel) (before ops : List Op) → first_repeat claim (map bare before) (map bare ops) ≡ first_repeat claim before ops
first_repeat-bare claim before [] = refl
first_repeat-bare claim before (op ∷ ops) =
    let rest = ap (λ (b : List Op). first_repeat claim b (map bare ops)) (sym (map-append bare before (op ∷ []))) ∙ first_repeat-bare claim (before ++ op ∷ []) ops in
    λ i. first_there (repeat_bare claim before op i) (rest i)

to_kind-bare : (kind : Kind) (claim : ClaimModel) (ops : List Op) → to_kind_refusal kind claim (map bare ops) ≡ to_kind_refusal kind claim ops
to_kind-bare Safe claim ops = rw (first_overlap-bare ops) refl
to_kind-bare Regular claim ops = rw (first_overlap-bare ops) refl
to_kind-bare Atomic claim ops = ap (option_map repeat_claimed) (first_repeat-bare claim [] ops)

pub reply_to-bare : (held : RegisterState) (edit : Edit) → reply_to (bare_held held) (bare_edit edit) ≡ reply_to held edit
reply_to-bare held (Append op) =
    λ i. first_present (cond (known_bare held.ops op.id i) (Some OpTaken) (moments_bare held.ops op i) ∷ (same_write held.claim (map bare held.ops) op ∙ write_bare held.claim held.ops op) i ∷ None ∷ [])
reply_to-bare held (Amend id change) = ap reply_of (op_of-bare held.ops id) ∙ by_found (op_of held.ops id)
  where
    reply_of : Option Op → Option Refusal
    reply_of found =
        let new = option_map (λ op. changed op (bare_change change)) found in
        first_present (amendment_refusal (map bare held.ops) new ∷ new_write_refusal held.claim (map bare held.ops) new ∷ None ∷ [])

    by_found : (found : Option Op) → reply_of (option_map bare found) ≡ (let new = option_map (λ op. changed op change) found in first_present (amendment_refusal held.ops new ∷ new_write_refusal held.claim held.ops new ∷ None ∷ []))
    by_found None = refl
    by_found (Some op) =
        sym (same_new held.claim (map bare held.ops) (changed (bare op) (bare_change change)))
        ∙ same_new held.claim (map bare held.ops) (changed op change)
        ∙ new_bare held.claim held.ops (changed op change)
reply_to-bare held (Withdraw id) = λ i. first_present (cond (known_bare held.ops id i) None (Some UnknownOp) ∷ None ∷ None ∷ [])
reply_to-bare held (Claim kind) = λ i. first_present (first_present (refused_if held.claim.fixed ClaimFixed ∷ to_kind-bare kind held.claim held.ops i ∷ []) ∷ [])

-- what stands

twice_bare : (ops : List Op) → map bare (map bare ops) ≡ map bare ops
twice_bare [] = refl
twice_bare (op ∷ ops) = ap (λ (rest : List Op). bare op ∷ rest) (twice_bare ops)

bare_edit-twice : (edit : Edit) → bare_edit (bare_edit edit) ≡ bare_edit edit
bare_edit-twice (Append op) = refl
bare_edit-twice (Amend id change) = refl
bare_edit-twice (Withdraw id) = refl
bare_edit-twice (Claim kind) = refl

amended_bare : (id : OpId) (change : Change) (ops : List Op) → map bare (map (amended id (bare_change change)) (map bare ops)) ≡ map bare (map (amended id change) ops)
amended_bare id change [] = refl
amended_bare id change (op ∷ ops) = let rest = amended_bare id change ops in λ i. by_cases (same_id op.id id) i ∷ rest i
  where
    by_cases : (b : Bool) → bare (cond b (changed (bare op) (bare_change change)) (bare op)) ≡ bare (cond b (changed op change) op)
    by_cases true = refl
    by_cases false = refl

edited_bare : (ops : List Op) (edit : Edit) → map bare (edited (map bare ops) (bare_edit edit)) ≡ map bare (edited ops edit)
edited_bare ops (Append op) =
    map-append bare (map bare ops) (bare op ∷ []) ∙ ap (λ (front : List Op). front ++ bare op ∷ []) (twice_bare ops) ∙ sym (map-append bare ops (op ∷ []))
edited_bare ops (Amend id change) = amended_bare id change ops
edited_bare ops (Withdraw id) =
    let test : Op → Bool = λ op. not (same_id op.id id) in
    ap (map bare) (filter_bare test test (λ op. refl) ops) ∙ twice_bare (filter test ops)
edited_bare ops (Claim kind) = twice_bare ops

claim_bare : (claim : ClaimModel) (edit : Edit) → claim_after claim (bare_edit edit) ≡ claim_after claim edit
claim_bare claim (Append op) = refl
claim_bare claim (Amend id change) = refl
claim_bare claim (Withdraw id) = refl
claim_bare claim (Claim kind) = refl

after_bare : (held : RegisterState) (edit : Edit) → bare_held (after_edit (bare_held held) (bare_edit edit)) ≡ bare_held (after_edit held edit)
after_bare held edit = ap after (reply_to-bare held edit) ∙ by_cases (is_some (reply_to held edit))
  where
    after : Option Refusal → RegisterState
    after reply = bare_held (cond (is_some reply) (bare_held held) (carried_out (bare_held held) (bare_edit edit)))

    by_cases : (b : Bool) → bare_held (cond b (bare_held held) (carried_out (bare_held held) (bare_edit edit))) ≡ bare_held (cond b held (carried_out held edit))
    by_cases true = λ i. record { claim = held.claim; ops = twice_bare held.ops i }
    by_cases false = λ i. record { claim = claim_bare held.claim edit i; ops = edited_bare held.ops edit i }

-- two states that differ in texts alone do so after one edit
after_alike : (one other : RegisterState) (edit : Edit) → bare_held one ≡ bare_held other → bare_held (after_edit one (bare_edit edit)) ≡ bare_held (after_edit other edit)
after_alike one other edit e =
    sym (after_bare one (bare_edit edit))
    ∙ (λ i. bare_held (after_edit (e i) (bare_edit-twice edit i)))
    ∙ after_bare other edit

pub standing_alike : (one other : RegisterState) (edits : List Edit) → bare_held one ≡ bare_held other → bare_held (standing one (map bare_edit edits)) ≡ bare_held (standing other edits)
standing_alike one other [] e = e
standing_alike one other (edit ∷ edits) e =
    standing_alike (after_edit one (bare_edit edit)) (after_edit other edit) edits (after_alike one other edit e)
