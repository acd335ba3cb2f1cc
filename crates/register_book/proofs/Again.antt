-- A judge of another kind accepts the operations of the old one again, slot by slot, and then holds all of them.
use Rattle.std.proofs.Common.{◌≡◌, ◌≤◌, ◌+◌, ◌*◌, length-append, ℕ, suc, List, [], ◌∷◌, ◌++◌, length, Option, Some, None, sym, ap, subst, ◌∙◌, arith}
use Rattle.std.proofs.lemmas.List.Elements.{filter-append}
use Rattle.intervals.specs.declared.operation.Op.{Op}
use Rattle.intervals.specs.declared.edit.Edit.TheVariants.{Append}
use Rattle.intervals.specs.Refusal.{reply_to}
use Rattle.intervals.specs.Standing.{StandApart}
use Rattle.intervals.specs.Table.{ops_in_slots, slot_at}
use Rattle.intervals.specs.Terms.{ClaimModel, RegisterState, state_of}
use Rattle.intervals.proofs.Appended.{accepted_again}
use Rattle.intervals.proofs.Fronts.{all_in_front, all_of, front_of, front_none, front_some, rest_of, rest_some}
use Rattle.intervals.specs.Operation.{is_write, writes}
use Rattle.zone_tree.proofs.Digits.{digits_rise}
use Rattle.register_book.specs.BookModel.{BookModel, claimed_of, most_steps}

more : (k : ℕ) → suc k ≡ k + 1
more k = omega arith

-- a list has no more writes than one that goes on from it
writes_in_front : (ops more : List Op) → length (writes ops) ≤ length (writes (ops ++ more))
writes_in_front ops more = omega (arith, ap length (filter-append is_write ops more), length-append (writes ops) (writes more))

fewer_steps : (ops more : List Op) → most_steps ops ≤ most_steps (ops ++ more)
fewer_steps ops more = let fewer = digits_rise (length (writes ops) + 1) (length (writes (ops ++ more)) + 1) (omega arith) (omega (arith, writes_in_front ops more)) in omega (arith, fewer)

-- the steps of one operation more, each of at most so many
one_more : (count most steps after by : ℕ) → steps ≤ count * most → after ≤ steps + by → by ≤ most → after ≤ (count + 1) * most
one_more count most steps after by so_far rises few = subst (λ (n : ℕ). after ≤ n * most) (more count) (omega (arith, so_far, rises, few))

module _ (claim : ClaimModel) (slots : List (Option Op)) where
  -- the operations in the slots before k are held under the claim
  abbrev pub HeldAgain : ℕ → BookModel → Type 0
  HeldAgain k held = claimed_of held ≡ record { claim = claim; ops = front_of slots k }

  pub accepted_next : (k : ℕ) (op : Op) (held : BookModel) → StandApart (state_of claim (ops_in_slots slots)) → slot_at slots k ≡ Some op → HeldAgain k held → reply_to (claimed_of held) (Append op) ≡ None
  accepted_next k op held apart at is =
      let parted : ops_in_slots slots ≡ front_of slots k ++ op ∷ rest_of slots (suc k) = all_of slots k ∙ ap (λ (rest : List Op). front_of slots k ++ rest) (rest_some slots k op at) in
      subst (λ (c : RegisterState). reply_to c (Append op) ≡ None) (sym is)
      (accepted_again claim (front_of slots k) op (rest_of slots (suc k)) (subst (λ (l : List Op). StandApart (state_of claim l)) parted apart))

  pub held_on : (k : ℕ) (op : Op) (before after : BookModel) → HeldAgain k before → slot_at slots k ≡ Some op → after ≡ record before { ops = before.ops ++ op ∷ []; steps = after.steps } → HeldAgain (k + 1) after
  held_on k op before after is at e =
      subst (λ (n : ℕ). HeldAgain n after) (more k)
      (ap claimed_of e
      ∙ ap (λ (c : RegisterState). record { claim = c.claim; ops = c.ops ++ op ∷ [] }) is
      ∙ ap (λ (ops : List Op). record { claim = claim; ops = ops }) (sym (front_some slots k op at)))

  pub held_over : (k : ℕ) (held : BookModel) → HeldAgain k held → slot_at slots k ≡ None → HeldAgain (k + 1) held
  held_over k held is at = subst (λ (n : ℕ). HeldAgain n held) (more k) (is ∙ ap (λ (ops : List Op). record { claim = claim; ops = ops }) (sym (front_none slots k at)))

  pub held_all : (k : ℕ) (held : BookModel) → length slots ≤ k → HeldAgain k held → claimed_of held ≡ record { claim = claim; ops = ops_in_slots slots }
  held_all k held le is = is ∙ ap (λ (ops : List Op). record { claim = claim; ops = ops }) (all_in_front slots k le)

  pub steps_on : (k : ℕ) (ops : List Op) (before after : BookModel) (op : Op) → HeldAgain k before → ops_in_slots slots ≡ ops → after ≡ record before { ops = before.ops ++ op ∷ []; steps = after.steps }
      → before.steps ≤ length before.ops * most_steps ops → after.steps ≤ before.steps + most_steps before.ops → after.steps ≤ length after.ops * most_steps ops
  steps_on k ops before after op is present e so_far rises =
      let front : before.ops ≡ front_of slots k = ap (λ (c : RegisterState). c.ops) is in
      let parted : ops ≡ before.ops ++ rest_of slots k = sym present ∙ all_of slots k ∙ ap (λ (first : List Op). first ++ rest_of slots k) (sym front) in
      let few : most_steps before.ops ≤ most_steps ops = subst (λ (all : List Op). most_steps before.ops ≤ most_steps all) (sym parted) (fewer_steps before.ops (rest_of slots k)) in
      let long : length after.ops ≡ length before.ops + 1 = ap (λ (held : BookModel). length held.ops) e ∙ length-append before.ops (op ∷ []) in
      subst (λ (n : ℕ). after.steps ≤ n * most_steps ops) (sym long) (one_more (length before.ops) (most_steps ops) before.steps after.steps (most_steps before.ops) so_far rises few)
