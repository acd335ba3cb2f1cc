use Rattle.std.proofs.Common.{◌≡◌, ℕ, ◌+◌, ◌∷◌, ◌++◌, List, Option, Some, None, ◌∙◌, sym, ap, subst, suc, rules}
use Rattle.intervals.specs.declared.operation.Op.{Op}
use Rattle.intervals.specs.Table.{slot_at, ops_in_slots}
use Rattle.intervals.specs.Terms.{terms_of}
use Rattle.intervals.proofs.Fronts.{all_in_front, all_of, front_of, front_on, front_over, rest_of, rest_some}
use Rattle.read_tree.specs.Items.{ReadContents}
use Rattle.safe_regular.specs.RowItems.{AreLaid}
use Rattle.safe_regular.proofs.Laying.{laid_all}
use Rattle.safe_regular.proofs.row_items.lay.Goals.{in-Some, in_default}
use Rattle.safe_regular.proofs.row_items.lay.Goals as goal

-- the operations are those before the slot, the one in it, and the rest
parted : (slots : List (Option Op)) (ops : List Op) (k : ℕ) (op : Op) → slot_at slots k ≡ Some op → ops_in_slots slots ≡ ops → ops ≡ front_of slots k ++ op ∷ rest_of slots (suc k)
parted slots ops k op at is = sym is ∙ all_of slots k ∙ ap (λ (rest : List Op). front_of slots k ++ rest) (rest_some slots k op at)

pub lay_one-requires-clause-next : goal.lay_one-requires-clause-next
lay_one-requires-clause-next c =
    let slots = c.slots-slots.result.now in
    let k = c.loop-slot.slot-index in
    (c.args.line.now.free, c.requires.room, (front_of slots k, rest_of slots (suc k), parted slots c.args.table.now.ops k c.in-Some.op c.in-Some.is c.slots-slots.ensures, c.loop-slot.invariant))

pub loop-slot-preserved : goal.loop-slot-preserved
loop-slot-preserved c =
    let claim = terms_of c.args.claim.now in
    let ops = c.args.table.now.ops in
    let slots = c.slots-slots.result.now in
    let k = c.loop-slot.slot-index in
    let places = c.args.line.now.free in
    elim c.match-slot.branch [
      | in-Some w ↦
          let op = w.in-Some.op in
          let at : slot_at slots k ≡ Some op = w.in-Some.is in
          subst (λ (line : ReadContents). AreLaid claim ops (front_of slots (k + 1)) places line) (sym w.line-is)
          (front_on (λ (front : List Op). AreLaid claim ops front places w.lay_one.new.line) slots k op at
          (w.lay_one.ensures.laid places (front_of slots k) (rest_of slots (suc k)) c.requires.room (parted slots ops k op at c.slots-slots.ensures) c.loop-slot.invariant))
      | in_default w ↦
          let at : slot_at slots k ≡ None = search rules in
          subst (λ (line : ReadContents). AreLaid claim ops (front_of slots (k + 1)) places line) (sym w.line-is)
          (front_over (λ (front : List Op). AreLaid claim ops front places c.loop-slot.line) slots k at c.loop-slot.invariant)
    ]

pub returns-clause-laid : goal.returns-clause-laid
returns-clause-laid c =
    let claim = terms_of c.args.claim.now in
    let ops = c.args.table.now.ops in
    let slots = c.slots-slots.result.now in
    let all = all_in_front slots c.loop-slot.slot-index c.loop-slot-test.false ∙ c.slots-slots.ensures in
    laid_all claim ops c.requires.apart c.args.line.now.free c.loop-slot.line c.has_uncovered.ensures.order (subst (λ (front : List Op). AreLaid claim ops front c.args.line.now.free c.loop-slot.line) all c.loop-slot.invariant)
