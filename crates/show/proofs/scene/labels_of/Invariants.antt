-- the labels so far and those of the operations left are all
use Rattle.std.proofs.Common.{◌≡◌, ◌++◌, drop, map}
use Rattle.std.specs.Prelude.{string_bytes}
use Rattle.std.specs.HashMap.{get}
use Rattle.intervals.specs.declared.operation.Op.{Op}
use Rattle.intervals.specs.Operation.{same_id}
use Rattle.show.specs.Label.{label_by}
use Rattle.show.proofs.scene.labels_of.Given as goal

abbrev pub invariant-loop-op : goal.invariant-loop-op
invariant-loop-op l =
    map (λ label. string_bytes label) l.labels.items ++ map (λ (op : Op). label_by l.letters (get same_id l.places op.id) op) (drop l.op-index l.ops)
    ≡ map (λ (op : Op). label_by l.letters (get same_id l.places op.id) op) l.ops
