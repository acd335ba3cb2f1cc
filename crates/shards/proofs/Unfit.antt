-- Shards that fit the passes, and those that do not.
use Rattle.std.proofs.Common.{◌≡◌, inr, ℕ, zero, suc, ◌+◌, ◌<◌, List, [], ◌∷◌, length, map, Option, Some, refl, sym, ap, ◌∙◌, subst, arith, below_more}
use Rattle.std.specs.Prelude.{All, Contains, slice_index_or, unwrap_or}
use Rattle.std.specs.List.{slice_get}
use Rattle.shards.specs.declared.entry.Entry.{Entry}
use Rattle.shards.specs.declared.shard.Shard.{Shard}
use Rattle.shards.specs.Pass.{PassModel, IsBehind, IsInKeeping, own_entries}
use Rattle.shards.specs.Closing.{ShardModel, Fits, IsUnfit}
use Rattle.shards.specs.Shard.{Rises, held_of}

-- the journal is in keeping with the pass, whose entries there have rising numbers
pub record Suits (place : ℕ) (journal : List Entry) (pass : PassModel) : Type 0 where
  pub keeping : IsInKeeping place pass journal
  pub rises : Rises (own_entries pass place)

pub unfit : (passes : List PassModel) (at place feeder seen : ℕ) (journal entries : List Entry) (pass : PassModel) → journal ≡ entries → at ≡ place
    → Contains passes pass → pass.feeder ≡ feeder → IsBehind place pass journal seen → All (λ other. other.feeder < feeder → Suits place journal other) passes
    → IsUnfit passes place (record { at = at; journal = entries }) seen (length journal)
unfit passes at place feeder seen journal entries pass is in_place here of following lesser =
    subst (λ (items : List Entry). IsUnfit passes place (record { at = at; journal = items }) seen (length journal)) is
    (inr (in_place, (pass, here, following, refl, λ k d within low. (lesser k d within (subst (λ (n : ℕ). (slice_index_or passes k d).feeder < n) of low)).keeping)))

pub fits : (passes : List PassModel) (at place : ℕ) (journal entries : List Entry) → journal ≡ entries → at ≡ place
    → All (Suits place journal) passes → Fits passes place (record { at = at; journal = entries })
fits passes at place journal entries is in_place all =
    subst (λ (items : List Entry). Fits passes place (record { at = at; journal = items })) is (record { in_place = in_place; keeping = λ k d within. (all k d within).keeping })

pub held_at : (shards : List Shard) (place : ℕ) (shard : Shard) → place < length shards → shard ≡ slice_index_or shards place shard → slice_get (map held_of shards) place ≡ Some (held_of shard)
held_at [] place shard within is = absurd (omega (arith, within))
held_at (first ∷ shards) zero shard within is = ap (λ (one : Shard). Some (held_of one)) (sym is)
held_at (first ∷ shards) (suc place) shard within is = held_at shards place shard (omega (arith, within)) is

-- all shards before a place fit, and the passes' own entries there have rising numbers
pub record FitBelow (passes : List PassModel) (shards : List ShardModel) (upto : ℕ) : Type 0 where
  pub fit : (place : ℕ) → place < upto → (shard : ShardModel) → slice_get shards place ≡ Some shard → Fits passes place shard
  pub rise : (place : ℕ) → place < upto → All (λ pass. Rises (own_entries pass place)) passes

pub some_same : (a b : ShardModel) → Some a ≡ Some b → a ≡ b
some_same a b is = ap (λ (found : Option ShardModel). unwrap_or found a) is

pub fit_more : (passes : List PassModel) (shards : List ShardModel) (place : ℕ) (shard : ShardModel) → slice_get shards place ≡ Some shard → Fits passes place shard
    → All (λ pass. Rises (own_entries pass place)) passes → FitBelow passes shards place → FitBelow passes shards (place + 1)
fit_more passes shards place shard is fits rises below = record {
  fit = below_more (λ n. (other : ShardModel) → slice_get shards n ≡ Some other → Fits passes n other) place below.fit
      (λ other at. subst (Fits passes place) (some_same shard other (sym is ∙ at)) fits);
  rise = below_more (λ n. All (λ pass. Rises (own_entries pass n)) passes) place below.rise rises;
}
