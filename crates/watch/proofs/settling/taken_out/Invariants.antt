-- none so far is of the register
use Rattle.std.proofs.Common.{◌≡◌, [], take}
use Rattle.watch.specs.Settling.{notices_of}
use Rattle.watch.specs.Due.{held_notices}
use Rattle.watch.proofs.settling.taken_out.Given as goal

abbrev pub invariant-loop-at : goal.invariant-loop-at
invariant-loop-at l = (l.held ≡ l.fn.held) × (notices_of l.register.0 (held_notices (take l.at l.held.items)) ≡ [])
