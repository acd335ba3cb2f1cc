-- What a journal is where there is one feeder.
use Rattle.std.proofs.Common.{◌≡◌, ◌<◌, ◌%◌, ℕ, Bool, List, [], ◌∷◌, ◌++◌, length, refl, sym, ap, subst, ◌∙◌, arith}
use Rattle.std.specs.Prelude.{All, filter, if◌then◌else◌}
use Rattle.std.specs.List.{AllByRecursion}
use Rattle.std.proofs.lemmas.Bool.{eq-eqb}
use Rattle.std.proofs.lemmas.List.{get_or_append_left, length-append}
use Rattle.std.proofs.lemmas.List.Elements.{recursion_from_All}
use Rattle.intervals.specs.declared.operation.RegId.{RegId}
use Rattle.intervals.specs.declared.edit.Edit.{Edit}
use Rattle.shards.specs.declared.entry.Answer.{Answer}
use Rattle.shards.specs.declared.entry.Entry.{Entry}
use Rattle.shards.specs.declared.entry.Receipt.{Receipt}
use Rattle.shards.specs.Plan.{Plan}
use Rattle.shards.specs.Journal.{IsAnswered, IsJournalOf, count_by, is_by}
use Rattle.shards.specs.Pass.{PassModel, IsInKeeping, IsPassOf, own_entries}
use Rattle.shards.specs.Steps.{IsLive, IsSubmitted, entry_of}
use Rattle.shards.proofs.Legal.{each_front}

kept_all : (journal : List Entry) → AllByRecursion (λ entry. entry.feeder < 1) journal → filter (is_by 0) journal ≡ journal
kept_all [] all = refl
kept_all (entry ∷ journal) all =
    let own : entry.feeder ≡ 0 = omega (arith, all.0) in
    ap (λ (by : Bool). if by then entry ∷ filter (is_by 0) journal else filter (is_by 0) journal) (eq-eqb entry.feeder 0 own)
    ∙ ap (λ (rest : List Entry). entry ∷ rest) (kept_all journal all.1)

-- each entry is by the one feeder
pub all_of_it : (plan : Plan) (at : ℕ) (journal : List Entry) → plan.feeders ≡ 1 → IsJournalOf plan at journal → filter (is_by 0) journal ≡ journal
all_of_it plan at journal one of_shard =
    kept_all journal (recursion_from_All (λ entry. entry.feeder < 1) journal
    (subst (λ (feeders : ℕ). All (λ entry. entry.feeder < feeders) journal) one of_shard.feeders))

-- the journal has as many entries as the feeder's pass submitted
pub as_many : (plan : Plan) (at : ℕ) (pass : PassModel) (journal : List Entry) → plan.feeders ≡ 1 → IsPassOf plan pass → IsJournalOf plan at journal → IsInKeeping at pass journal
    → length journal ≡ length (own_entries pass at)
as_many plan at pass journal one of_plan of_shard keeping =
    let feeder : pass.feeder ≡ 0 = omega (arith, of_plan.2, one) in
    sym (ap length (all_of_it plan at journal one of_shard))
    ∙ ap (λ (feeder : ℕ). count_by feeder journal) (sym feeder)
    ∙ keeping.count

-- a prefix of a journal of the plan is one
journal_front : (plan : Plan) (at : ℕ) (front rest : List Entry) → IsJournalOf plan at (front ++ rest) → IsJournalOf plan at front
journal_front plan at front rest of_shard = record {
  legal = each_front (IsAnswered plan at) [] front rest of_shard.legal;
  feeders = λ k d within. subst (λ (entry : Entry). entry.feeder < plan.feeders) (get_or_append_left front rest d k within)
      (of_shard.feeders k d (omega (arith, within, length-append front rest)));
}

pub its_number : (plan : Plan) (pass : PassModel) (register : RegId) (edit : Edit) (receipt : Receipt) → plan.feeders ≡ 1 → IsSubmitted plan pass register edit receipt
    → receipt.number ≡ length (own_entries pass receipt.shard)
its_number plan pass register edit receipt one is =
    is.number
    ∙ as_many plan receipt.shard pass is.before one is.of_plan (journal_front plan receipt.shard is.before (entry_of pass.feeder register edit receipt.reply ∷ []) is.of_shard) is.keeping

pub its_length : (plan : Plan) (pass pass' : PassModel) (register : ℕ) (answer : Answer) → plan.feeders ≡ 1 → IsLive plan pass pass' register answer
    → answer.number ≡ length (own_entries pass (register % plan.shards))
its_length plan pass pass' register answer one is =
    is.standing.number ∙ as_many plan (register % plan.shards) pass is.journal one is.of_plan is.of_shard is.keeping
