-- The text of a report.
use Rattle.std.specs.Prelude.{◌≡◌, ℕ, List, [], ◌∷◌, ◌++◌, flat_map, length, Option, codes}
use Rattle.intervals.specs.declared.operation.OpId.{OpId}
use Rattle.intervals.specs.declared.operation.RegId.{RegId}
use Rattle.tower_file.specs.Contents.{TowerModel, Register}
use Rattle.shards.specs.Closing.{ClosedShard}
use Rattle.logs.specs.declared.log.Log.{Log}
use Rattle.report.specs.declared.finding.Finding.{Finding}
use Rattle.phrases.specs.Names.{printed, register_name}
use Rattle.report.specs.Finding.{AreFindings}
use Rattle.report.specs.Culprit.{culprits_of}
use Rattle.report.specs.Section.{sections_text}
use Rattle.report.specs.Notes.{logs_text}
use Rattle.report.specs.Order.{IsAsked, order_line}

-- the line that names a culprit
abbrev pub culprit_line : List Register → RegId → List ℕ
culprit_line registers culprit = codes "culprit " ++ printed (register_name registers culprit) ++ 10 ∷ []

-- the text of a report: the lines of the registers, the culprits, the traces, and the order that is asked for
abbrev pub report_text : TowerModel → List Finding → List Log → Option (RegId × Option (List OpId)) → List ℕ
report_text tower findings logs asked =
    sections_text tower.registers findings
    ++ flat_map (culprit_line tower.registers) (culprits_of tower findings)
    ++ logs_text tower.registers 0 logs
    ++ order_line tower.registers asked

-- the text is the report of what is found of each register, of these logs, and of the order that is asked for, if any
pub record IsReport (tower : TowerModel) (closed : List ClosedShard) (logs : List Log) (order : Option RegId) (text : List ℕ) : Type 0 where
  pub findings : List Finding
  pub many : length findings ≡ length tower.registers
  pub found : AreFindings closed 0 findings
  pub asked : Option (RegId × Option (List OpId))
  pub is_asked : IsAsked closed order asked
  pub text_is : text ≡ report_text tower findings logs asked
