use Rattle.std.proofs.Common.{◌≡◌, ◌⊎◌, ℕ, List, Result, Ok, Err, inl, inr, sym, subst}
use Rattle.tower_file.specs.declared.fault.TowerFault.{TowerFault}
use Rattle.tower_file.specs.declared.fault.TowerFault.TheVariants.{Memory}
use Rattle.tower_file.specs.Alone.{alone_tower}
use Rattle.tower_file.specs.Contents.{TowerModel}
use Rattle.tower_file.specs.Tower.{IsTowerOf}
use Rattle.command_parts.proofs.tower.the_tower.Goals as goal

only_tower : (tower : TowerModel) (result : Result TowerModel TowerFault) → result ≡ Ok tower → (result ≡ Ok alone_tower) ⊎ (result ≡ Err Memory) → tower ≡ alone_tower
only_tower tower result is (inl e) = cc
only_tower tower result is (inr e) = cc

pub returns-in-Ok : goal.returns-in-Ok
returns-in-Ok c =
    only_tower c.in-Ok.tower c.read.result c.in-Ok.is
    (c.read.ensures.reads alone_tower (subst (λ (bytes : List ℕ). IsTowerOf bytes alone_tower) (sym c.one_register.ensures) c.text_of_one_register.ensures))
