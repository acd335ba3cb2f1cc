-- Passes for the feeders without one: each has what a journal has of its feeder, and has seen nothing.
use Rattle.std.proofs.Common.{◌≡◌, ◌⊎◌, inl, inr, ◌<◌, ◌+◌, ℕ, zero, suc, List, [], ◌∷◌, ◌++◌, length, map, replicate, get_or, Option, Some, None, refl, sym, ap, subst, ◌∙◌, arith, below_more}
use Rattle.std.specs.Prelude.{All, IfOk, IfSome, OnOk, Ok, Err, Result, option_map, unwrap_or}
use Rattle.std.specs.List.{slice_get}
use Rattle.std.proofs.lemmas.Bool.{cases_eq}
use Rattle.std.proofs.Math.Seq.{get_or-append_seam}
use Rattle.std.proofs.lemmas.List.{append-nil, append_assoc, get_or_append_left, get_or_default, length-append, length-map, length-replicate}
use Rattle.std.proofs.lemmas.List.Elements.{All-append, All-nil, All-push}
use Rattle.std.proofs.lemmas.Option.{slice_get-map}
use Rattle.shards.specs.declared.entry.NumberedEntry.{NumberedEntry}
use Rattle.shards.specs.Plan.{Plan}
use Rattle.shards.specs.Plain.{plain_numbered}
use Rattle.shards.specs.Pass.{HasEntry, HasFarthest, IsPassOf, PassModel, farthest_in, own_entries, unseen}
use Rattle.shards.specs.Merge.{entries_of}
use Rattle.shards.specs.Closing.{AreComplete, AreItsPasses, ClosedShard, HasPassOf, ShardModel, IsClosed, IsClosedWithSome, IsSettledJournal}
use Rattle.shards.specs.Shard.{IsSettledFor}
use Rattle.shards.proofs.Passes.{its_push}

-- the pass of a feeder that submitted what the journals have of that feeder
abbrev made : Plan → List ShardModel → ℕ → PassModel
made plan shards feeder = record { feeder = feeder; own = map (λ shard. entries_of feeder shard.journal) shards; seen = unseen plan.name plan.shards }

its_made : (plan : Plan) (shards : List ShardModel) (feeder : ℕ) → length shards ≡ plan.shards → feeder < plan.feeders → IsPassOf plan (made plan shards feeder)
its_made plan shards feeder many below =
    ((refl, length-replicate plan.shards _), length-map shards (λ shard. entries_of feeder shard.journal) ∙ many, below)

told-made : (plan : Plan) (shards : List ShardModel) (feeder place : ℕ) (shard : ShardModel) → slice_get shards place ≡ Some shard → own_entries (made plan shards feeder) place ≡ entries_of feeder shard.journal
told-made plan shards feeder place shard is =
    ap (λ (own : Option (List NumberedEntry)). unwrap_or own []) (slice_get-map (λ (one : ShardModel). entries_of feeder one.journal) shards place ∙ ap (option_map (λ (one : ShardModel). entries_of feeder one.journal)) is)

none_at : (shards place : ℕ) → farthest_in (replicate shards None) place ≡ None
none_at zero place = refl
none_at (suc shards) zero = refl
none_at (suc shards) (suc place) = none_at shards place

has_or_not : (passes : List PassModel) (feeder : ℕ) → HasPassOf passes feeder ⊎ (¬ HasPassOf passes feeder)
has_or_not [] feeder = inr (λ has. omega (arith, has.2))
has_or_not (pass ∷ passes) feeder =
    elim (cases_eq pass.feeder feeder) [
      | inl is ↦ inl (0, pass, omega arith, refl, is)
      | inr other ↦ elim (has_or_not passes feeder) [
        | inl has ↦ inl (suc has.0, has.1, omega (arith, has.2), has.3, has.4)
        | inr none ↦ inr (has_later pass passes feeder other none)
      ]
    ]
  where
    has_later : (pass : PassModel) (passes : List PassModel) (feeder : ℕ) → (pass.feeder ≡ feeder → ⊥) → ¬ HasPassOf passes feeder → ¬ HasPassOf (pass ∷ passes) feeder
    has_later pass passes feeder other none (zero, one, within, is, of) = other (ap (λ (p : PassModel). p.feeder) is ∙ of)
    has_later pass passes feeder other none (suc k, one, within, is, of) = none (k, one, omega arith, is, of)

has_push : (passes : List PassModel) (pass : PassModel) (feeder : ℕ) → HasPassOf passes feeder → HasPassOf (passes ++ pass ∷ []) feeder
has_push passes pass feeder (k, one, within, is, of) =
    (k, one, omega (arith, length-append passes (pass ∷ []), within), get_or_append_left passes (pass ∷ []) one k within ∙ is, of)

has_last : (passes : List PassModel) (pass : PassModel) → HasPassOf (passes ++ pass ∷ []) pass.feeder
has_last passes pass =
    (length passes, pass, omega (arith, length-append passes (pass ∷ [])), get_or-append_seam passes pass [] pass, refl)

-- with these other passes each feeder below a number has a pass
record Filled (plan : Plan) (passes : List PassModel) (shards : List ShardModel) (upto : ℕ) : Type 0 where
  others : List PassModel
  its : AreItsPasses plan (passes ++ others)
  complete : AreComplete upto (passes ++ others)
  each : All (λ other. other ≡ made plan shards other.feeder) others

fill_one : (plan : Plan) (passes : List PassModel) (shards : List ShardModel) (upto : ℕ) → length shards ≡ plan.shards → upto < plan.feeders → Filled plan passes shards upto → Filled plan passes shards (upto + 1)
fill_one plan passes shards upto many below so_far =
    elim (has_or_not (passes ++ so_far.others) upto) [
      | inl has ↦ record {
        others = so_far.others;
        its = so_far.its;
        complete = below_more (HasPassOf (passes ++ so_far.others)) upto so_far.complete has;
        each = so_far.each;
      }
      | inr none ↦
          let one = made plan shards upto in
          let is : (passes ++ so_far.others) ++ one ∷ [] ≡ passes ++ (so_far.others ++ one ∷ []) = append_assoc passes so_far.others (one ∷ []) in
          record {
            others = so_far.others ++ one ∷ [];
            its = subst (AreItsPasses plan) is (its_push plan (passes ++ so_far.others) one so_far.its (its_made plan shards upto many below) none);
            complete = subst (AreComplete (upto + 1)) is
                (below_more (HasPassOf ((passes ++ so_far.others) ++ one ∷ [])) upto
                (λ feeder less. has_push (passes ++ so_far.others) one feeder (so_far.complete feeder less))
                (has_last (passes ++ so_far.others) one));
            each = All-push (λ other. other ≡ made plan shards other.feeder) so_far.others one so_far.each refl;
          }
    ]

fill : (plan : Plan) (passes : List PassModel) (shards : List ShardModel) (upto : ℕ) → length shards ≡ plan.shards → AreItsPasses plan passes → upto < plan.feeders + 1 → Filled plan passes shards upto
fill plan passes shards zero many its below = record {
  others = [];
  its = subst (AreItsPasses plan) (sym (append-nil passes)) its;
  complete = λ feeder less. absurd (omega (arith, less));
  each = All-nil (λ other. other ≡ made plan shards other.feeder);
}
fill plan passes shards (suc upto) many its below =
    subst (Filled plan passes shards) (omega arith) (fill_one plan passes shards upto many (omega (arith, below)) (fill plan passes shards upto many its (omega (arith, below))))

-- a journal that is settled for the given passes is settled for all
settled_with : (plan : Plan) (passes : List PassModel) (shards : List ShardModel) (filled : Filled plan passes shards plan.feeders) (place : ℕ) (shard : ShardModel) → slice_get shards place ≡ Some shard
    → IsSettledFor plan passes place shard.journal → IsSettledJournal plan (passes ++ filled.others) place shard.journal
settled_with plan passes shards filled place shard is settled = record {
  of_shard = settled.of_shard;
  merge = record {
    of_each = All-append (λ pass. map plain_numbered (entries_of pass.feeder shard.journal) ≡ map plain_numbered (own_entries pass place)) passes filled.others settled.of_each
        (λ k d within.
        let other = get_or filled.others k d in
        ap (map plain_numbered) (sym (ap (λ (pass : PassModel). own_entries pass place) (filled.each k d within) ∙ told-made plan shards other.feeder place shard is)));
    of_all = λ k d within. filled.complete (get_or shard.journal k d).feeder (settled.of_shard.feeders k d within);
  };
  farthest = All-append (λ pass. HasFarthest place pass shard.journal) passes filled.others settled.farthest
      (λ k d within.
      let other = get_or filled.others k d in
      subst (λ (pass : PassModel). HasFarthest place pass shard.journal) (sym (filled.each k d within))
      (subst (λ (known : Option NumberedEntry). IfSome known (HasEntry shard.journal)) (sym (none_at plan.shards place)) tt));
}

-- the given passes and others are those of all feeders, and the journals are settled for them
pub record AllPasses (plan : Plan) (passes : List PassModel) (shards : List ShardModel) : Type 0 where
  pub others : List PassModel
  pub its : AreItsPasses plan (passes ++ others)
  pub complete : AreComplete plan.feeders (passes ++ others)
  pub finished : (place : ℕ) (shard : ShardModel) → slice_get shards place ≡ Some shard → (shard.at ≡ place) × IsSettledJournal plan (passes ++ others) place shard.journal

pub all_passes : (plan : Plan) (passes : List PassModel) (shards : List ShardModel) → length shards ≡ plan.shards → AreItsPasses plan passes
    → ((place : ℕ) (shard : ShardModel) → slice_get shards place ≡ Some shard → (shard.at ≡ place) × IsSettledFor plan passes place shard.journal)
    → AllPasses plan passes shards
all_passes plan passes shards many its settled =
    let filled = fill plan passes shards plan.feeders many its (omega arith) in
    record {
      others = filled.others;
      its = filled.its;
      complete = filled.complete;
      finished = λ place shard is. ((settled place shard is).0, settled_with plan passes shards filled place shard is (settled place shard is).1);
    }

-- where each feeder has a pass there are no others
pub no_others : (plan : Plan) (passes : List PassModel) (shards : List ClosedShard) → AreComplete plan.feeders passes → IsClosedWithSome plan passes shards → IsClosed plan passes shards
no_others plan passes shards complete ([], closed) = subst (λ (all : List PassModel). IsClosed plan all shards) (append-nil passes) closed
no_others plan passes shards complete (other ∷ others, closed) =
    let all = passes ++ other ∷ others in
    let at : get_or all (length passes) other ≡ other = get_or-append_seam passes other others other in
    let within : length passes < length all = omega (arith, length-append passes (other ∷ others)) in
    let has = complete other.feeder (subst (IsPassOf plan) at (closed.of_plan.each (length passes) other within)).2 in
    absurd (closed.of_plan.apart has.0 (length passes) other has.2 within
    (ap (λ (pass : PassModel). pass.feeder) (get_or_append_left passes (other ∷ others) other has.0 has.2 ∙ get_or_default passes has.0 other has.1 has.2 ∙ has.3)
    ∙ has.4
    ∙ ap (λ (pass : PassModel). pass.feeder) (sym at)))

pub all_closed : {E : Type 0} (plan : Plan) (wanted : ℕ) (passes : List PassModel) (closed : Result (List ClosedShard) E) → wanted ≡ plan.feeders
    → IfOk closed (IsClosedWithSome plan passes) → OnOk closed (AreComplete wanted passes) → IfOk closed (IsClosed plan passes)
all_closed plan wanted passes (Ok shards) all some complete = no_others plan passes shards (subst (λ (feeders : ℕ). AreComplete feeders passes) all complete) some
all_closed plan wanted passes (Err unfinished) all some complete = tt
