-- The registers of a level, with one register more or a fault.
use Rattle.std.proofs.Common.{◌≡◌, ◌++◌, ◌∷◌, [], ℕ, List, Option, Ok, Err, refl}
use Rattle.tower_file.specs.declared.fault.TowerFault.{TowerFault}
use Rattle.tower_file.specs.Form.{RegisterForm}
use Rattle.tower_file.specs.Contents.{Register}
use Rattle.tower_file.specs.Reading.{register_read, with_register}

pub one_more : (level first : ℕ) (registers : List Register) (form : Option RegisterForm) (register : Register) → register_read level first registers form ≡ Ok register
    → with_register level first registers form ≡ Ok (registers ++ register ∷ [])
one_more level first registers form register e = rw e refl

pub no_more : (level first : ℕ) (registers : List Register) (form : Option RegisterForm) (fault : TowerFault) → register_read level first registers form ≡ Err fault
    → with_register level first registers form ≡ Err fault
no_more level first registers form fault e = rw e refl
