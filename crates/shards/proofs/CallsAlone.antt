-- What an edit and a question come to in shards without locks.
use Rattle.std.proofs.Common.{◌≡◌, ℕ, ◌%◌, ◌<◌, List, [], ◌∷◌, ◌++◌, set, length, get_or, Option, Some, None, refl, sym, ap, subst, ◌∙◌, inl, inr, arith}
use Rattle.std.specs.Prelude.{IfOk, OnErr, Result, Ok, Err, option_map, unwrap_or}
use Rattle.std.specs.List.{slice_get}
use Rattle.std.proofs.lemmas.Bool.{cases_eq}
use Rattle.std.proofs.lemmas.List.{length-map, length-set, map-set}
use Rattle.std.proofs.lemmas.Nat.{mod_below}
use Rattle.std.proofs.lemmas.Option.{same_Some, slice_get-get_or, slice_get-map, slice_get_within}
use Rattle.intervals.specs.declared.operation.RegId.{RegId}
use Rattle.intervals.specs.declared.edit.Edit.{Edit}
use Rattle.shards.specs.declared.entry.Answer.{Answer}
use Rattle.shards.specs.declared.entry.Entry.{Entry}
use Rattle.shards.specs.declared.entry.Receipt.{Receipt}
use Rattle.shards.specs.declared.fault.ShardFault.{ShardFault}
use Rattle.shards.specs.declared.shard.Shard.{Shard}
use Rattle.shards.specs.Plan.{Plan}
use Rattle.shards.specs.Journal.{IsAnswered, IsJournalOf, count_by}
use Rattle.shards.specs.declared.entry.NumberedEntry.{NumberedEntry}
use Rattle.shards.specs.Pass.{own_entries}
use Rattle.shards.specs.Merge.{entries_of}
use Rattle.shards.specs.VerdictChange.{IsChangeIfAny}
use Rattle.shards.specs.Closing.{ShardModel}
use Rattle.shards.specs.Steps.{IsStanding, entry_of}
use Rattle.shards.specs.Alone.{AreJournals, IsEnteredAlone, journal_in, pass_alone, with_entry}
use Rattle.shards.specs.Shard.{AreShardsAlone, IsShardOf, entries_of_each, held_of}
use Rattle.shards.proofs.PassAlone.{counted, own_is}
use Rattle.shards.proofs.Slots.{get_set_other, get_set_same, set_as_it_is, some_within}

-- the shard at a place: it has the number of the place, is one of the plan, and has the journal of the place
pub record IsShardAt (plan : Plan) (shards : List Shard) (place : ℕ) (shard : Shard) : Type 0 where
  pub there : slice_get shards place ≡ Some shard
  pub in_place : shard.at ≡ place
  pub of_plan : IsShardOf plan shard
  pub journal : slice_get (entries_of_each shards) place ≡ Some shard.entries

pub shard_at : (plan : Plan) (shards : List Shard) (place : ℕ) (shard : Shard) → AreShardsAlone plan shards → slice_get shards place ≡ Some shard → IsShardAt plan shards place shard
shard_at plan shards place shard alone there = record {
  there = there;
  in_place = (alone.each place shard there).0;
  of_plan = (alone.each place shard there).1;
  journal = slice_get-map (λ (one : Shard). one.entries) shards place ∙ ap (option_map (λ (one : Shard). one.entries)) there;
}

-- the place of a register is that of one of the shards
pub place_within : (plan : Plan) (shards : List Shard) (register : ℕ) → AreShardsAlone plan shards → register % length shards < length shards
place_within plan shards register alone = mod_below register (length shards) (omega (arith, alone.many, alone.some))

-- the shard that is at the place of a register
pub shard_got : (plan : Plan) (shards : List Shard) (register : ℕ) (d : Shard) → AreShardsAlone plan shards
    → IsShardAt plan shards (register % length shards) (get_or shards (register % length shards) d)
shard_got plan shards register d alone =
    shard_at plan shards (register % length shards) (get_or shards (register % length shards) d) alone
    (slice_get-get_or shards (register % length shards) d (place_within plan shards register alone))

pub shard_read : (plan : Plan) (shards : List Shard) (register : ℕ) (shard : Shard) → AreShardsAlone plan shards → shard ≡ get_or shards (register % length shards) shard
    → IsShardAt plan shards (register % length shards) shard
shard_read plan shards register shard alone is = subst (IsShardAt plan shards (register % length shards)) (sym is) (shard_got plan shards register shard alone)

-- the register is of that shard
pub register_here : (plan : Plan) (shards : List Shard) (register : ℕ) (shard : Shard) → AreShardsAlone plan shards → IsShardAt plan shards (register % length shards) shard → register % plan.shards ≡ shard.at
register_here plan shards register shard alone here = sym (here.in_place ∙ ap (λ (many : ℕ). register % many) alone.many)

-- the journal of a shard among those of all
journal_is : (plan : Plan) (shards : List Shard) (place at : ℕ) (shard : Shard) → IsShardAt plan shards place shard → at ≡ place → journal_in (entries_of_each shards) at ≡ shard.entries
journal_is plan shards place at shard here same = ap (journal_in (entries_of_each shards)) same ∙ ap (λ (journal : Option (List Entry)). unwrap_or journal []) here.journal

-- what a shard says of a feeder's edit
pub record IsSaidOf (plan : Plan) (feeder : ℕ) (register : RegId) (edit : Edit) (answered : Result Receipt ShardFault) (old new : Shard) : Type 0 where
  pub kept : IsShardOf plan new
  pub journal : IfOk answered (λ receipt. held_of new ≡ record { at = old.at; journal = old.entries ++ entry_of feeder register edit receipt.reply ∷ [] })
  pub replied : IfOk answered (λ receipt. IsAnswered plan old.at old.entries (entry_of feeder register edit receipt.reply))
  pub receipt : IfOk answered (λ receipt. (receipt.shard ≡ old.at) × (receipt.number ≡ length old.entries))
  pub change : IfOk answered (λ receipt. IsChangeIfAny plan old.entries (entry_of feeder register edit receipt.reply) receipt.change)
  pub err : OnErr answered (held_of new ≡ held_of old)

-- the shards with another one of the plan at one place
with_another : (plan : Plan) (shards : List Shard) (place : ℕ) (old new : Shard) → AreShardsAlone plan shards → IsShardAt plan shards place old → IsShardOf plan new → new.at ≡ old.at → AreShardsAlone plan (set shards place new)
with_another plan shards place old new alone here kept same = record {
  many = length-set shards place new ∙ alone.many;
  some = alone.some;
  few = alone.few;
  each = λ other shard is. elim (cases_eq other place) [
    | inl own ↦
        let within : place < length shards = slice_get_within shards place old here.there in
        let this : new ≡ shard = same_Some new shard (sym (get_set_same shards place new within) ∙ ap (slice_get (set shards place new)) (sym own) ∙ is) in
        subst (λ (one : Shard). (one.at ≡ other) × IsShardOf plan one) this (same ∙ here.in_place ∙ sym own, kept)
    | inr apart ↦ alone.each other shard (sym (get_set_other shards place other new apart) ∙ is)
  ];
}

pub alone_after : (plan : Plan) (shards : List Shard) (place feeder : ℕ) (register : RegId) (edit : Edit) (answered : Result Receipt ShardFault) (old new : Shard) → AreShardsAlone plan shards → IsShardAt plan shards place old
    → IsSaidOf plan feeder register edit answered old new → AreShardsAlone plan (set shards place new)
alone_after plan shards place feeder register edit (Ok receipt) old new alone here said = with_another plan shards place old new alone here said.kept (ap (λ (held : ShardModel). held.at) said.journal)
alone_after plan shards place feeder register edit (Err fault) old new alone here said = with_another plan shards place old new alone here said.kept (ap (λ (held : ShardModel). held.at) said.err)

pub entered_after : (plan : Plan) (shards : List Shard) (feeder : ℕ) (register : RegId) (edit : Edit) (answered : Result Receipt ShardFault) (old new : Shard) → feeder < plan.feeders → AreShardsAlone plan shards → IsShardAt plan shards (register.0 % length shards) old
    → IsSaidOf plan feeder register edit answered old new → IfOk answered (IsEnteredAlone plan (entries_of_each shards) feeder register edit)
entered_after plan shards feeder register edit (Err fault) old new known alone here said = tt
entered_after plan shards feeder register edit (Ok receipt) old new known alone here said =
    let entry : Entry = entry_of feeder register edit receipt.reply in
    let at : receipt.shard ≡ register.0 % length shards = said.receipt.0 ∙ here.in_place in
    let journal : old.entries ≡ journal_in (entries_of_each shards) receipt.shard = sym (journal_is plan shards (register.0 % length shards) receipt.shard old here at) in
    record {
      known = known;
      shard = at ∙ ap (λ (many : ℕ). register.0 % many) alone.many;
      number = said.receipt.1 ∙ ap length journal;
      answered = subst (λ (own : ℕ). IsAnswered plan own (journal_in (entries_of_each shards) receipt.shard) entry) (sym said.receipt.0)
          (subst (λ (entries : List Entry). IsAnswered plan old.at entries entry) journal said.replied);
      change = subst (λ (entries : List Entry). IsChangeIfAny plan entries entry receipt.change) journal said.change;
    }

pub journals_after : (plan : Plan) (shards : List Shard) (place feeder : ℕ) (register : RegId) (edit : Edit) (answered : Result Receipt ShardFault) (old new : Shard) → IsShardAt plan shards place old
    → IsSaidOf plan feeder register edit answered old new → IfOk answered (λ receipt. entries_of_each (set shards place new) ≡ with_entry (entries_of_each shards) feeder register edit receipt)
journals_after plan shards place feeder register edit (Err fault) old new here said = tt
journals_after plan shards place feeder register edit (Ok receipt) old new here said =
    let entry : Entry = entry_of feeder register edit receipt.reply in
    let journals : List (List Entry) = entries_of_each shards in
    let at : receipt.shard ≡ place = said.receipt.0 ∙ here.in_place in
    map-set (λ (one : Shard). one.entries) shards place new
    ∙ ap (set journals place) (ap (λ (held : ShardModel). held.journal) said.journal ∙ ap (λ (entries : List Entry). entries ++ entry ∷ []) (sym (journal_is plan shards place receipt.shard old here at)))
    ∙ ap (λ (own : ℕ). set journals own (journal_in journals receipt.shard ++ entry ∷ [])) (sym at)

pub journals_as_before : (plan : Plan) (shards : List Shard) (place feeder : ℕ) (register : RegId) (edit : Edit) (answered : Result Receipt ShardFault) (old new : Shard) → IsShardAt plan shards place old
    → IsSaidOf plan feeder register edit answered old new → OnErr answered (entries_of_each (set shards place new) ≡ entries_of_each shards)
journals_as_before plan shards place feeder register edit (Ok receipt) old new here said = tt
journals_as_before plan shards place feeder register edit (Err fault) old new here said =
    map-set (λ (one : Shard). one.entries) shards place new
    ∙ ap (set (entries_of_each shards) place) (ap (λ (held : ShardModel). held.journal) said.err)
    ∙ set_as_it_is (entries_of_each shards) place old.entries here.journal

-- an answer of the shard is of its journal among those of all
pub standing_in : (plan : Plan) (shards : List Shard) (register : ℕ) (shard : Shard) (answer : Answer) → AreShardsAlone plan shards → IsShardAt plan shards (register % length shards) shard
    → IsStanding plan register shard.entries answer → IsStanding plan register (journal_in (entries_of_each shards) (register % plan.shards)) answer
standing_in plan shards register shard answer alone here standing =
    subst (λ (journal : List Entry). IsStanding plan register journal answer)
    (sym (journal_is plan shards (register % length shards) (register % plan.shards) shard here (ap (λ (many : ℕ). register % many) (sym alone.many)))) standing

-- the journals of the shards are those of the plan
pub journals_of_shards : (plan : Plan) (shards : List Shard) → AreShardsAlone plan shards → AreJournals plan (entries_of_each shards)
journals_of_shards plan shards alone = record {
  many = length-map shards (λ (one : Shard). one.entries) ∙ alone.many;
  some = alone.some;
  each = λ at below.
      let found = some_within shards at (omega (arith, alone.many, below)) in
      let here = shard_at plan shards at found.0 alone found.1 in
      subst (IsJournalOf plan at) (sym (journal_is plan shards at at found.0 here refl))
      (subst (λ (own : ℕ). IsJournalOf plan own found.0.entries) here.in_place here.of_plan.of_shard);
}

pub found_at : (shards : List Shard) (at : ℕ) (shard : Shard) → at < length shards → shard ≡ get_or shards at shard → slice_get shards at ≡ Some shard
found_at shards at shard within is = slice_get-get_or shards at shard within ∙ ap Some (sym is)

-- a feeder has as many entries in a shard as it submitted there
pub count_alone : (plan : Plan) (shards : List Shard) (feeder at : ℕ) (shard : Shard) → slice_get shards at ≡ Some shard
    → count_by feeder shard.entries ≡ length (own_entries (pass_alone plan feeder (entries_of_each shards)) at)
count_alone plan shards feeder at shard there =
    sym (counted feeder shard.entries)
    ∙ sym (ap length (own_is plan feeder (entries_of_each shards) at shard.entries (slice_get-map (λ (one : Shard). one.entries) shards at ∙ ap (option_map (λ (one : Shard). one.entries)) there)))

-- and none where there is no such shard
pub count_of_none : (plan : Plan) (shards : List Shard) (feeder at : ℕ) → slice_get shards at ≡ None → 0 ≡ length (own_entries (pass_alone plan feeder (entries_of_each shards)) at)
count_of_none plan shards feeder at none =
    sym (ap (λ (own : Option (List NumberedEntry)). length (unwrap_or own []))
    (slice_get-map (entries_of feeder) (entries_of_each shards) at
    ∙ ap (option_map (entries_of feeder)) (slice_get-map (λ (one : Shard). one.entries) shards at ∙ ap (option_map (λ (one : Shard). one.entries)) none)))
