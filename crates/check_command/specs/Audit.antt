-- What is said of the trace of one safe register; for private clauses alone.
use Rattle.std.specs.Prelude.{ℕ, List, Option, Result}
use Rattle.jepsen_form.specs.declared.gist.RefusedForm.{RefusedForm}
use Rattle.jepsen_form.specs.declared.item.Item.{Item}
use Rattle.jepsen_form.specs.declared.item.MomentField.TheVariants.{Index}
use Rattle.tower_file.specs.Alone.{alone_tower}
use Rattle.feeders.specs.Readers.{IsReadOf}
use Rattle.logs.specs.Steps.{AreItemsOfTrace}
use Rattle.check_command.specs.declared.one_register.Audit.{Audit}
use Rattle.check_command.specs.Verdict.{IsVerdict}

-- the audit is the verdict on the elements of a trace, up to its end or to where it broke
abbrev pub IsAuditOf : List ℕ → Audit → Type 0
IsAuditOf trace audit = (items : List (Result Item RefusedForm)) × AreItemsOfTrace alone_tower Index trace audit.broken items × IsVerdict items audit.kind audit.holds audit.refused audit.operations

-- the audit is that of the bytes that were read of a reader with these bytes left
abbrev pub IsAudit : Option (List ℕ) → Audit → Type 0
IsAudit left audit = (read : List ℕ) × IsReadOf left audit.broken read × IsAuditOf read audit
