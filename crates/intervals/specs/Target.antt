-- Which operations an edit is about.
use Rattle.std.specs.Prelude.{◌≡◌, List}
use Rattle.intervals.specs.declared.operation.Op.{Op}
use Rattle.intervals.specs.declared.edit.Edit.{Edit}
use Rattle.intervals.specs.declared.target.Target.{Target}
use Rattle.intervals.specs.Edit.{edit_id, found_by, new_op}

-- the target has the operation of the edit's id that stands and the one that the edit makes (`new_op`), each optional
pub record IsTargetOf (ops : List Op) (edit : Edit) (target : Target) : Type 0 where
  pub old : target.old ≡ found_by ops (edit_id edit)
  pub new : target.new ≡ new_op ops edit
