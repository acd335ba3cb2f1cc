-- Why a feeder stops: a refusal of its shard. The first of several faults is one of them.
use Rattle.std.proofs.Common.{◌≡◌, ◌<◌, ℕ, List, [], ◌∷◌, ◌++◌, length, map, All, IfErr, Result, Ok, Err, refl, sym, subst, inl, arith}
use Rattle.std.specs.Prelude.{OnErr, OnOk}
use Rattle.shards.specs.declared.fault.ShardFault.{ShardFault}
use Rattle.shards.specs.declared.fault.ShardFault.TheVariants as shards
use Rattle.shards.specs.Plan.{Plan}
use Rattle.shards.specs.Pass.{IsPassOf, PassModel}
use Rattle.shards.specs.Steps.{IsRefusal}
use Rattle.logs.specs.declared.log.Line.{Line}
use Rattle.logs.specs.declared.log.Log.{Log}
use Rattle.logs.specs.Steps.{StepResult}
use Rattle.feeders.specs.declared.fault.RunFault.{RunFault}
use Rattle.feeders.specs.declared.fault.RunFault.TheVariants.{Memory, Shard}
use Rattle.feeders.specs.declared.outcome.FeederOutcome.{FeederOutcome}
use Rattle.feeders.specs.Access.{AccessModel}
use Rattle.feeders.specs.Ending.{IsEndedBy, MayEnd, MayStop, ended_by}
use Rattle.feeders.specs.Progress.{GoesOn, HasDone, HasSameLines, IsFirstFault}
use Rattle.feeders.proofs.Split.{all_but_first}

-- a pass of the plan and a register of the plan are not why a shard refuses
refusal_stops : (plan : Plan) (pass : PassModel) (register : ℕ) (fault : ShardFault) → IsPassOf plan pass → register < length plan.claims → IsRefusal plan pass register fault → MayStop plan pass (ended_by fault)
refusal_stops plan pass register shards.UnknownRegister of known is = absurd (omega (arith, known, is.1))
refusal_stops plan pass register shards.Memory of known is = tt
refusal_stops plan pass register (shards.JournalBehind shard seen found) of known is = (register, is)
refusal_stops plan pass register (shards.PassMissing feeder) of known is = absurd is
refusal_stops plan pass register (shards.Stranger shard feeder number) of known is = absurd is
refusal_stops plan pass register shards.ForeignPass of known is = absurd (is of)

-- a feeder stops where the register of its step refuses the call, and its pass is as it was
pub may_stop : (plan : Plan) (old new : AccessModel) (log log' : Log) (register : ℕ) (result : Result (Unit {0}) RunFault) → IfErr result (IsEndedBy plan old.pass register) → OnErr result ((log' ≡ log) × (new ≡ old))
    → IfErr result (λ fault. IsPassOf plan old.pass → register < length plan.claims → MayStop plan new.pass fault)
may_stop plan old new log log' register (Ok done) is kept = tt
may_stop plan old new log log' register (Err fault) is kept =
    λ of known. subst (λ (access : AccessModel). MayStop plan access.pass fault) (sym kept.1) (subst (MayStop plan old.pass) (sym is.2) (refusal_stops plan old.pass register is.0 of known is.1))

-- what stops a feeder ends its run
pub stop_ends : (plan : Plan) (pass : PassModel) (fault : RunFault) → MayStop plan pass fault → MayEnd plan fault
stop_ends plan pass Memory is = tt
stop_ends plan pass (Shard shards.UnknownRegister) is = is
stop_ends plan pass (Shard shards.Memory) is = is
stop_ends plan pass (Shard (shards.JournalBehind shard seen found)) is = inl (pass, is)
stop_ends plan pass (Shard (shards.PassMissing feeder)) is = is
stop_ends plan pass (Shard (shards.Stranger shard feeder number)) is = absurd is
stop_ends plan pass (Shard shards.ForeignPass) is = is

-- room in a log changes none of its lines
pub goes_with_room : (plan : Plan) (pass pass' : PassModel) (log roomed log' : Log) (place : ℕ) (step : StepResult) (result : Result (Unit {0}) RunFault) → roomed.lines.items ≡ log.lines.items
    → OnOk result (GoesOn plan pass roomed pass' log' place step) → OnOk result (GoesOn plan pass log pass' log' place step)
goes_with_room plan pass pass' log roomed log' place step (Ok done) same goes =
    λ start steps at has. goes start steps at (subst (λ (lines : List Line). HasDone plan start pass lines steps) (sym same) has)
goes_with_room plan pass pass' log roomed log' place step (Err fault) same goes = tt

pub kept_with_room : (access access' : AccessModel) (log roomed log' : Log) (result : Result (Unit {0}) RunFault) → roomed.lines.items ≡ log.lines.items → roomed.broken ≡ log.broken
    → OnErr result ((log' ≡ roomed) × (access' ≡ access)) → OnErr result (HasSameLines log log' × (access' ≡ access))
kept_with_room access access' log roomed log' (Ok done) same broken kept = tt
kept_with_room access access' log roomed log' (Err fault) same broken kept =
    (subst (HasSameLines log) (sym kept.0) (record { lines = same; broken = broken }), kept.1)

at_fault : (P : RunFault → Type 0) (before : List FeederOutcome) (fault : RunFault) (rest : List (Result FeederOutcome RunFault)) → All (λ one. IfErr one P) (map Ok before ++ Err fault ∷ rest) → P fault
at_fault P [] fault rest all = all 0 (Err fault) (omega arith)
at_fault P (one ∷ before) fault rest all = at_fault P before fault rest (all_but_first (λ one. IfErr one P) _ (map Ok before ++ Err fault ∷ rest) (Ok one) all refl)

-- what holds of each fault of several feeders holds of the first
pub first_is : {V : Type 0} (P : RunFault → Type 0) (ended : List (Result FeederOutcome RunFault)) (result : Result V RunFault) → IfErr result (IsFirstFault ended) → All (λ one. IfErr one P) ended → IfErr result P
first_is P ended (Ok outcomes) first all = tt
first_is P ended (Err fault) first all = at_fault P first.0 fault first.1 (subst (All (λ one. IfErr one P)) first.2 all)
