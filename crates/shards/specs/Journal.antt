-- The journal of a shard: the edits that were answered with a receipt, with their replies, in order.
use Rattle.std.specs.Prelude.{◌≡◌, ◌<◌, ◌%◌, ◌==◌, ◌&&◌, ℕ, Bool, true, false, List, [], ◌∷◌, ◌++◌, map, filter, length, Some, All, IsSomeAnd}
use Rattle.std.specs.List.{slice_get}
use Rattle.intervals.specs.declared.operation.Op.{Op}
use Rattle.intervals.specs.declared.operation.RegId.{RegId}
use Rattle.intervals.specs.declared.edit.Edit.{Edit}
use Rattle.intervals.specs.Terms.{ClaimModel, RegisterState}
use Rattle.intervals.specs.Edit.{edited, claim_after}
use Rattle.intervals.specs.Kind.{Holds}
use Rattle.register_book.specs.declared.reply.Reply.{Reply}
use Rattle.register_book.specs.declared.reply.Reply.TheVariants.{Accepted, Refused}
use Rattle.register_book.specs.Reply.{IsReply}
use Rattle.shards.specs.declared.entry.Entry.{Entry}
use Rattle.shards.specs.Plan.{Plan}

-- the test that a reply says that the edit was carried out
abbrev pub is_accepted : Reply → Bool
is_accepted (Accepted holds) = true
is_accepted (Refused refusal) = false

-- the test that an entry is an accepted edit of this register
abbrev pub is_accepted_of : ℕ → Entry → Bool
is_accepted_of register entry = (entry.register.0 == register) && is_accepted entry.reply

-- the accepted edits of a register in a journal, in order
abbrev pub accepted_edits : ℕ → List Entry → List Edit
accepted_edits register journal = map (λ entry. entry.edit) (filter (is_accepted_of register) journal)

-- the test that an entry is an edit of this register, accepted or refused
abbrev pub is_of : ℕ → Entry → Bool
is_of register entry = entry.register.0 == register

-- the edits of a register in a journal, accepted or refused, in order
abbrev pub edits_of : ℕ → List Entry → List Edit
edits_of register journal = map (λ entry. entry.edit) (filter (is_of register) journal)

-- an entry without its reply: the feeder, the register and the edit
abbrev pub asked_in : Entry → ℕ × RegId × Edit
asked_in entry = (entry.feeder, entry.register, entry.edit)

-- the operations that stand after accepted edits of a list of operations, in order
abbrev pub stand : List Op → List Edit → List Op
stand ops [] = ops
stand ops (edit ∷ edits) = stand (edited ops edit) edits

-- the operations of a register that stand after a journal
abbrev pub standing_of : ℕ → List Entry → List Op
standing_of register journal = stand [] (accepted_edits register journal)

-- a claim after accepted edits: its kind is that of the last edit that claims one
abbrev pub claim_by : ClaimModel → List Edit → ClaimModel
claim_by claim [] = claim
claim_by claim (edit ∷ edits) = claim_by (claim_after claim edit) edits

-- a register as a journal leaves it, from its claim at first: the claim after its accepted edits, and the operations
-- that stand
abbrev pub left_by : List Entry → ℕ → ClaimModel → RegisterState
left_by journal register claim = record { claim = claim_by claim (accepted_edits register journal); ops = standing_of register journal }

-- a register of the plan holds after a journal: as the journal leaves it, it keeps its claim
abbrev pub HoldsAfter : Plan → ℕ → List Entry → Type 0
HoldsAfter plan register journal = IsSomeAnd (slice_get plan.claims register) (λ claim. Holds (left_by journal register claim))

-- the register of an entry is in this shard and in the plan, and the reply is that of the register as the entries
-- before leave it
pub record IsAnswered (plan : Plan) (at : ℕ) (before : List Entry) (entry : Entry) : Type 0 where
  pub here : entry.register.0 % plan.shards ≡ at
  pub claim : ClaimModel
  pub known : slice_get plan.claims entry.register.0 ≡ Some claim
  pub reply : IsReply (left_by before entry.register.0 claim) entry.edit entry.reply

-- each element of a list is in a relation to all before it: the elements of a first list, then those of its own
abbrev pub EachAfter : {X : Type 0} → (List X → X → Type 0) → List X → List X → Type 0
EachAfter R before [] = Unit {0}
EachAfter R before (x ∷ xs) = R before x × EachAfter R (before ++ x ∷ []) xs

-- each entry of a journal of this shard is answered by the register as the entries before it leave it (`IsAnswered`)
abbrev pub IsLegalJournal : Plan → ℕ → List Entry → Type 0
IsLegalJournal plan at journal = EachAfter (IsAnswered plan at) [] journal

-- a legal journal of this shard, each entry of which is by one of the plan's feeders
pub record IsJournalOf (plan : Plan) (at : ℕ) (journal : List Entry) : Type 0 where
  pub legal : IsLegalJournal plan at journal
  pub feeders : All (λ entry. entry.feeder < plan.feeders) journal

-- the test that an entry is by this feeder
abbrev pub is_by : ℕ → Entry → Bool
is_by feeder entry = entry.feeder == feeder

-- how many entries of a journal are by a feeder
abbrev pub count_by : ℕ → List Entry → ℕ
count_by feeder journal = length (filter (is_by feeder) journal)
