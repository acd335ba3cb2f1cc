-- Judged reads and writes among the operations that a verdict speaks of.
use Rattle.std.proofs.Common.{◌≡◌, Bool, true, false, not, ◌&&◌, ◌||◌, refl}
use Rattle.std.specs.Prelude.{is_some}
use Rattle.intervals.specs.declared.operation.Op.{Op}
use Rattle.intervals.specs.Operation.{IsWrite, IsJudgedRead, is_write}

-- the operation is judged
abbrev pub is_judged : Op → Bool
is_judged a = is_write a || is_some a.end

read_is_judged : (w s : Bool) → (not w && s) ≡ true → ((w || s) ≡ true) × (w ≡ false)
read_is_judged true s e = absurd (cc)
read_is_judged false s e = (e, refl)

pub judged_read : (r : Op) → IsJudgedRead r → (is_judged r ≡ true) × (is_write r ≡ false)
judged_read r h = read_is_judged (is_write r) (is_some r.end) h

write_is_judged : (w s : Bool) → w ≡ true → (w || s) ≡ true
write_is_judged true s e = refl
write_is_judged false s e = absurd (cc)

pub judged_write : (w : Op) → IsWrite w → is_judged w ≡ true
judged_write w h = write_is_judged (is_write w) (is_some w.end) h

pub is_judged_by_end : (w s : Bool) → (w || s) ≡ true → w ≡ false → (not w && s) ≡ true
is_judged_by_end true s e f = absurd (cc)
is_judged_by_end false s e f = e
