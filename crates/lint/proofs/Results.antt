-- What holds of what a call returned.
use Rattle.std.proofs.Common.{Result, Ok, Err, IfOk}

pub weaker : {V E : Type 0} {P Q : V → Type 0} (result : Result V E) → ((value : V) → P value → Q value) → IfOk result P → IfOk result Q
weaker (Ok value) follows holds = follows value holds
weaker (Err fault) follows holds = tt
