-- The codes that users see of a register's refusals.
use Rattle.std.specs.Prelude.{ℕ, List, codes}
use Rattle.intervals.specs.declared.refusal.Refusal.{Refusal}
use Rattle.intervals.specs.declared.refusal.Refusal.TheVariants.{UnknownOp, OpTaken, EndNotAfterBegin, MomentTaken, MomentTooLarge, NotAWriter, WritesOverlap, ValueTaken, OutOfDomain, ClaimFixed, ClaimWriters, ClaimOverlap, ClaimRepeats, ClaimInitial}

-- the code of the refusal, as users see it: X1 to X14
abbrev pub refusal_code : Refusal → List ℕ
refusal_code UnknownOp = codes "X1"
refusal_code OpTaken = codes "X2"
refusal_code EndNotAfterBegin = codes "X3"
refusal_code (MomentTaken moment id) = codes "X4"
refusal_code MomentTooLarge = codes "X5"
refusal_code NotAWriter = codes "X6"
refusal_code (WritesOverlap id) = codes "X7"
refusal_code (ValueTaken holder) = codes "X8"
refusal_code OutOfDomain = codes "X9"
refusal_code ClaimFixed = codes "X10"
refusal_code ClaimWriters = codes "X11"
refusal_code (ClaimOverlap id other) = codes "X12"
refusal_code (ClaimRepeats id holder) = codes "X13"
refusal_code ClaimInitial = codes "X14"
