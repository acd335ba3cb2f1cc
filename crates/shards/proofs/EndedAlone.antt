-- What shards without locks leave at the end.
use Rattle.std.proofs.Common.{◌≡◌, ℕ, ◌<◌, List, [], ◌∷◌, map, Some, refl, sym, ap, subst, ◌∙◌, arith}
use Rattle.std.specs.Prelude.{All, option_map}
use Rattle.std.specs.List.{slice_get}
use Rattle.std.proofs.lemmas.List.{length-map}
use Rattle.std.proofs.lemmas.List.Elements.{All-weaker}
use Rattle.std.proofs.lemmas.Option.{get_or_from_slice_get, same_Some, slice_get-map, slice_get_within}
use Rattle.shards.specs.declared.entry.Entry.{Entry}
use Rattle.shards.specs.declared.shard.Shard.{Shard}
use Rattle.shards.specs.Plan.{Plan}
use Rattle.shards.specs.Journal.{IsJournalOf}
use Rattle.shards.specs.Closing.{ClosedShard, IsClosed, IsSettledJournal, ShardModel}
use Rattle.shards.specs.Alone.{passes_alone}
use Rattle.shards.specs.Shard.{AreShardsAlone, IsEndedShard, IsKeptShardOf, IsShardOf, ended_of, entries_of_each, held_of}
use Rattle.shards.proofs.Slots.{some_within}
use Rattle.shards.proofs.Ended.{closed}
use Rattle.shards.proofs.PassAlone.{passes_complete, passes_its, settled_alone}
use Rattle.shards.proofs.CallsAlone.{journals_of_shards, shard_at}

-- each shard is one of the plan
each_of_plan : (plan : Plan) (shards : List Shard) → AreShardsAlone plan shards → All (IsShardOf plan) shards
each_of_plan plan shards alone k d within =
    let found = some_within shards k within in
    subst (IsShardOf plan) (sym (get_or_from_slice_get shards k found.0 d found.1)) (alone.each k found.0 found.1).1

held_settled : (plan : Plan) (shards : List Shard) (place : ℕ) (held : ShardModel) → AreShardsAlone plan shards → slice_get (map held_of shards) place ≡ Some held
    → (held.at ≡ place) × IsSettledJournal plan (passes_alone plan (entries_of_each shards)) place held.journal
held_settled plan shards place held alone is =
    let found = some_within shards place (omega (arith, slice_get_within (map held_of shards) place held is, length-map shards held_of)) in
    let here = shard_at plan shards place found.0 alone found.1 in
    let same : held_of found.0 ≡ held = same_Some (held_of found.0) held (sym (slice_get-map held_of shards place ∙ ap (option_map held_of) found.1) ∙ is) in
    subst (λ (one : ShardModel). (one.at ≡ place) × IsSettledJournal plan (passes_alone plan (entries_of_each shards)) place one.journal) same (
      here.in_place,
      settled_alone plan (entries_of_each shards) place found.0.entries here.journal (subst (λ (at : ℕ). IsJournalOf plan at found.0.entries) here.in_place here.of_plan.of_shard),
    )

-- the shards are closed with the feeders' passes
pub closed_alone : (plan : Plan) (shards : List Shard) → AreShardsAlone plan shards → IsClosed plan (passes_alone plan (entries_of_each shards)) (map ended_of shards)
closed_alone plan shards alone =
    let journals : List (List Entry) = entries_of_each shards in
    closed plan (passes_alone plan journals) shards alone.many alone.some (each_of_plan plan shards alone) (
      passes_its plan journals (journals_of_shards plan shards alone),
      passes_complete plan journals,
    )
    (λ place held is. held_settled plan shards place held alone is)

-- the journals that are left are those of the shards
pub journals_left : (shards : List Shard) → map (λ (one : ClosedShard). one.journal) (map ended_of shards) ≡ entries_of_each shards
journals_left [] = refl
journals_left (shard ∷ shards) = ap (λ (rest : List (List Entry)). shard.entries ∷ rest) (journals_left shards)

-- what is known of the shards at the end
ended_of_plan : (plan : Plan) (shard : Shard) → IsShardOf plan shard → IsEndedShard shard
ended_of_plan plan shard is = record {
  many = is.many;
  kept = is.kept;
  by = is.by;
  alone = λ few. All-weaker (λ (entry : Entry). entry.feeder < plan.feeders) (λ (entry : Entry). entry.feeder ≡ 0) (λ entry below. omega (arith, below, few, is.counts.0)) shard.entries is.of_shard.feeders;
}

pub all_ended_alone : (plan : Plan) (shards : List Shard) → AreShardsAlone plan shards → All IsEndedShard shards
all_ended_alone plan shards alone = All-weaker (IsShardOf plan) IsEndedShard (ended_of_plan plan) shards (each_of_plan plan shards alone)

pub all_ended : (plan : Plan) (shards : List Shard) → All (IsKeptShardOf plan) shards → All IsEndedShard shards
all_ended plan shards kept = All-weaker (IsKeptShardOf plan) IsEndedShard (λ shard is. ended_of_plan plan shard is.of_plan) shards kept
