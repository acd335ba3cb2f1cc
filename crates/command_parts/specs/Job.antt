-- A run over readers.
use Rattle.std.specs.Prelude.{ℕ, List, Option}
use Rattle.jepsen_form.specs.declared.item.MomentField.{MomentField}
use Rattle.tower_file.specs.Contents.{TowerModel}
use Rattle.shards.specs.Closing.{ClosedShard}
use Rattle.logs.specs.declared.log.Log.{Log}
use Rattle.feeders.specs.Readers.{AreReadOf}
use Rattle.logs.specs.Run.{IsRun}

-- a run of a tower over what was read of readers with these bytes left, with moments under this key and so many shards
abbrev pub IsRunOver : TowerModel → MomentField → ℕ → List (Option (List ℕ)) → List ClosedShard → List Log → Type 0
IsRunOver tower moments shards left closed logs =
    (read : List (List ℕ)) × AreReadOf left logs read × IsRun tower moments shards read closed logs
