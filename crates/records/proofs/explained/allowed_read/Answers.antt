use Rattle.std.proofs.Common.{Vec}
use Rattle.std.specs.Prelude.{IfOk, Result, Ok, Err}
use Rattle.std.specs.declared.alloc.Global.{Global}
use Rattle.records.specs.declared.allowed.Allowed.{Allowed}
use Rattle.records.proofs.explained.allowed_read.Goals as goal

weaker : {E : Type 0} (r : Result (Vec Allowed Global) E) (P Q : Vec Allowed Global → Type 0) → ((x : Vec Allowed Global) → P x → Q x) → IfOk r P → IfOk r Q
weaker (Ok x) P Q f p = f x p
weaker (Err e) P Q f p = tt

pub returns : goal.returns
returns c = weaker c.allowed_after.result _ _ (λ allowed is. (c.in_ok-around.around, c.in_ok-around.ensures, is)) c.allowed_after.ensures
