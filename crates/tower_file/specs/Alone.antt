-- A tower file of one register, as an example of what a text says.
use Rattle.std.specs.Prelude.{ℕ, true, false, pos, List, [], ◌∷◌, Some, None, codes}
use Rattle.intervals.specs.Terms.{ClaimModel}
use Rattle.intervals.specs.declared.operation.Value.TheVariants.{Int}
use Rattle.intervals.specs.declared.claim.Kind.TheVariants.{Safe}
use Rattle.tower_file.specs.Contents.{TowerModel, alone}

-- the text of the example: a tower file with the one register `r`, on the one level `top`
abbrev pub alone_text : List ℕ
alone_text = codes "{:levels [{:name top :registers [{:name r :kind :safe :writers [0] :initial 0}]}]}"

-- what `r` in the example claims: it is safe, process 0 writes it, and it holds 0 before any write
abbrev pub alone_claim : ClaimModel
alone_claim = record { kind = Safe; writers = Some (pos 0 ∷ []); initial = Int (pos 0); known = true; domain = None; fixed = false }

-- the tower that the text of the example says: the level `top` with the register `r`, made of no others
abbrev pub alone_tower : TowerModel
alone_tower = alone (codes "top") (codes "r") alone_claim
