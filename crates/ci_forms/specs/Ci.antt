-- What a CI server reads of a run.
use Rattle.std.specs.Prelude.{◌≡◌, ℕ, List, IsTrue, length}
use Rattle.std.specs.List.{list_any}
use Rattle.tower_file.specs.Contents.{TowerModel}
use Rattle.shards.specs.Closing.{ClosedShard}
use Rattle.logs.specs.declared.log.Log.{Log}
use Rattle.places.specs.Spots.{HasSpots, PlacesModel}
use Rattle.report.specs.declared.doubt.Doubt.{Doubt}
use Rattle.report.specs.declared.few.Least.{Least}
use Rattle.report.specs.declared.finding.Finding.{Finding}
use Rattle.report.specs.Doubt.{AreDoubts}
use Rattle.report.specs.Finding.{AreFindings}
use Rattle.report.specs.Summary.{is_failing}
use Rattle.ci_forms.specs.declared.told.CiServer.{CiServer}
use Rattle.ci_forms.specs.declared.told.CiServer.TheVariants.{GitHub, Junit}
use Rattle.ci_forms.specs.Facts.{CiFacts}
use Rattle.ci_forms.specs.GitHub.{github_text}
use Rattle.ci_forms.specs.Junit.{junit_text}

-- these are the texts, and the spots of their elements wherever a register fails
pub record AreFailurePlaces (texts : List (List ℕ)) (findings : List Finding) (places : PlacesModel) : Type 0 where
  pub of_texts : places.texts ≡ texts
  pub spots : IsTrue (list_any is_failing findings) → HasSpots places

-- what this server reads of a run: GitHub commands, another the XML of JUnit
abbrev pub ci_text : CiServer → CiFacts → List ℕ
ci_text GitHub facts = github_text facts
ci_text Junit facts = junit_text facts

-- the text is what this server reads of what is found of each register, and of these logs, with the lines of elements in
-- these texts, where the traces have these names, and at least so many operations have to stand
pub record IsTextForCi (server : CiServer) (names : List (List ℕ)) (least : Least) (tower : TowerModel) (closed : List ClosedShard) (logs : List Log) (texts : List (List ℕ)) (text : List ℕ) : Type 0 where
  pub findings : List Finding
  pub many : length findings ≡ length tower.registers
  pub found : AreFindings closed 0 findings
  pub doubts : List Doubt
  pub doubted : AreDoubts findings logs doubts
  pub places : PlacesModel
  pub are_places : AreFailurePlaces texts findings places
  pub text_is : text ≡ ci_text server (record { places = places; traces = names; tower = tower; findings = findings; doubts = doubts; logs = logs; least = least })
