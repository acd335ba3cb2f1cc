-- What an edit and a question come to, while the lock of the register's shard is held.
use Rattle.std.specs.Prelude.{◌≡◌, ◌≢◌, ◌<◌, ◌%◌, ◌++◌, ◌∷◌, [], ℕ, length, Result, Ok, Err, IfOk, IfErr, OnOk, OnErr}
use Rattle.std.proofs.Common.{◌∙◌, inr}
use Rattle.intervals.specs.declared.operation.RegId.{RegId}
use Rattle.intervals.specs.declared.edit.Edit.{Edit}
use Rattle.shards.specs.declared.entry.Answer.{Answer}
use Rattle.shards.specs.declared.entry.Receipt.{Receipt}
use Rattle.shards.specs.declared.fault.ShardFault.{ShardFault}
use Rattle.shards.specs.declared.fault.ShardFault.TheVariants.{UnknownRegister, Memory, JournalBehind, PassMissing, Stranger, ForeignPass}
use Rattle.shards.specs.Plan.{Plan}
use Rattle.shards.specs.Journal.{IsJournalOf}
use Rattle.shards.specs.VerdictChange.{IsChangeIfAny}
use Rattle.shards.specs.Pass.{PassModel, IsPassOf, IsInKeeping, with_seen}
use Rattle.shards.specs.Closing.{ShardModel}
use Rattle.shards.specs.Steps.{IsLive, IsQuestionRefusal, IsRefusal, IsStanding, IsStateRefusal, IsSubmitted, entry_of, last_entry}

-- an edit that a shard entered is submitted
pub submitted : (plan : Plan) (pass : PassModel) (register : RegId) (edit : Edit) (answered : Result Receipt ShardFault) (old new : ShardModel)
    → IsPassOf plan pass
    → register.0 < length plan.claims
    → old.at ≡ register.0 % plan.shards
    → IfOk answered (λ receipt. new ≡ record { at = old.at; journal = old.journal ++ entry_of pass.feeder register edit receipt.reply ∷ [] })
    → IsJournalOf plan new.at new.journal
    → IfOk answered (λ receipt. (receipt.shard ≡ old.at) × (receipt.number ≡ length old.journal))
    → IfOk answered (λ receipt. IsChangeIfAny plan old.journal (entry_of pass.feeder register edit receipt.reply) receipt.change)
    → OnOk answered (IsInKeeping old.at pass old.journal)
    → IfOk answered (IsSubmitted plan pass register edit)
submitted plan pass register edit (Ok receipt) old new of_plan known here journal of_shard receipt_is change keeping = record {
  of_plan = of_plan;
  known = known;
  shard = receipt_is.0 ∙ here;
  before = old.journal;
  of_shard = rw (receipt_is.0) (rw journal at of_shard);
  number = receipt_is.1;
  change = change;
  keeping = rw (receipt_is.0) keeping;
}
submitted plan pass register edit (Err fault) old new of_plan known here journal of_shard receipt_is change keeping = tt

-- a question that a shard answered is live
pub live : (plan : Plan) (pass pass' : PassModel) (register : ℕ) (answered : Result Answer ShardFault) (held : ShardModel)
    → IsPassOf plan pass
    → held.at ≡ register % plan.shards
    → IfOk answered (IsStanding plan register held.journal)
    → IsJournalOf plan held.at held.journal
    → OnOk answered (pass' ≡ with_seen pass held.at (last_entry held.journal))
    → OnOk answered (IsInKeeping held.at pass held.journal)
    → IfOk answered (IsLive plan pass pass' register)
live plan pass pass' register (Ok answer) held of_plan here standing of_shard seen keeping = record {
  of_plan = of_plan;
  journal = held.journal;
  of_shard = rw here at of_shard;
  keeping = rw here at keeping;
  standing = standing;
  seen = rw here at seen;
}
live plan pass pass' register (Err fault) held of_plan here standing of_shard seen keeping = tt

-- what a shard refuses, the auditor refuses
refusal : (plan : Plan) (pass : PassModel) (register : ℕ) (held : ShardModel) → IsPassOf plan pass → register < length plan.claims → held.at ≡ register % plan.shards
    → IsJournalOf plan held.at held.journal
    → (fault : ShardFault) → IsStateRefusal held.at pass held.journal fault → IsRefusal plan pass register fault
refusal plan pass register held of_plan known here of_shard (JournalBehind shard seen found) (at_is, found_is, following) =
    (of_plan, known, at_is ∙ here, inr (held.journal, rw at_is of_shard, found_is, rw at_is following))
refusal plan pass register held of_plan known here of_shard Memory keeping = (of_plan, known, (held.journal, rw here at of_shard, rw here at keeping))
refusal plan pass register held of_plan known here of_shard UnknownRegister h = absurd h
refusal plan pass register held of_plan known here of_shard ForeignPass h = absurd h
refusal plan pass register held of_plan known here of_shard (PassMissing feeder) h = absurd h
refusal plan pass register held of_plan known here of_shard (Stranger at feeder number) h = absurd h

of_question : (at : ℕ) (pass : PassModel) (held : ShardModel) (fault : ShardFault) → IsQuestionRefusal at pass held.journal fault
    → IsStateRefusal at pass held.journal fault × (fault ≢ Memory)
of_question at pass held (JournalBehind shard seen found) h = (h, λ e. cc)
of_question at pass held Memory h = absurd h
of_question at pass held UnknownRegister h = absurd h
of_question at pass held ForeignPass h = absurd h
of_question at pass held (PassMissing feeder) h = absurd h
of_question at pass held (Stranger shard feeder number) h = absurd h

-- the auditor refuses an edit that the shard refuses
pub refused : (plan : Plan) (pass pass' : PassModel) (register : ℕ) (answered : Result Receipt ShardFault) (old new : ShardModel)
    → IsPassOf plan pass
    → register < length plan.claims
    → old.at ≡ register % plan.shards
    → IsJournalOf plan new.at new.journal
    → IfErr answered (IsStateRefusal old.at pass old.journal)
    → OnErr answered ((new ≡ old) × (pass' ≡ pass))
    → IfErr answered (IsRefusal plan pass register)
refused plan pass pass' register (Ok receipt) old new of_plan known here of_shard refusal_is same = tt
refused plan pass pass' register (Err fault) old new of_plan known here of_shard refusal_is same =
    refusal plan pass register old of_plan known here (rw (same.0) at of_shard) fault refusal_is

-- the auditor refuses a question that the shard refuses
pub unanswered : (plan : Plan) (pass : PassModel) (register : ℕ) (answered : Result Answer ShardFault) (held : ShardModel)
    → IsPassOf plan pass
    → register < length plan.claims
    → held.at ≡ register % plan.shards
    → IsJournalOf plan held.at held.journal
    → IfErr answered (IsQuestionRefusal held.at pass held.journal)
    → IfErr answered (λ fault. IsRefusal plan pass register fault × (fault ≢ Memory))
unanswered plan pass register (Ok answer) held of_plan known here of_shard refusal_is = tt
unanswered plan pass register (Err fault) held of_plan known here of_shard refusal_is =
    let asked = of_question held.at pass held fault refusal_is in
    (refusal plan pass register held of_plan known here of_shard fault asked.0, asked.1)
