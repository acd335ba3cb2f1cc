-- Shards without locks before any edit.
use Rattle.std.proofs.Common.{◌≡◌, ℕ, suc, ◌<◌, ◌^◌, List, [], ◌∷◌, ◌++◌, length, replicate, Some, refl, sym, ap, subst, ◌∙◌, inl, inr, arith}
use Rattle.std.specs.List.{slice_get}
use Rattle.std.proofs.lemmas.Bool.{cases_lt}
use Rattle.std.proofs.lemmas.List.{length_push}
use Rattle.std.proofs.lemmas.Option.{same_Some, slice_get_within}
use Rattle.tower_file.specs.Contents.{TowerModel}
use Rattle.shards.specs.declared.entry.Entry.{Entry}
use Rattle.shards.specs.declared.shard.Shard.{Shard}
use Rattle.shards.specs.Plan.{plan_of}
use Rattle.shards.specs.Shard.{AreShardsAlone, IsShardOf, entries_of_each}
use Rattle.shards.proofs.Slots.{get_push_at, get_push_below}

-- the shard has the number of its place and no entries, and is one of the tower's
pub record IsOpenedAt (tower : TowerModel) (shards feeders place : ℕ) (shard : Shard) : Type 0 where
  pub in_place : shard.at ≡ place
  pub none : shard.entries ≡ []
  pub of_tower : (name : ℕ) → IsShardOf (plan_of name tower shards feeders) shard

-- each shard so far is opened
abbrev pub AreOpenedAlone : TowerModel → ℕ → ℕ → List Shard → Type 0
AreOpenedAlone tower shards feeders own = (place : ℕ) (shard : Shard) → slice_get own place ≡ Some shard → IsOpenedAt tower shards feeders place shard

pub one_opened_alone : (tower : TowerModel) (shards feeders : ℕ) (own : List Shard) (one : Shard) → AreOpenedAlone tower shards feeders own → IsOpenedAt tower shards feeders (length own) one → AreOpenedAlone tower shards feeders (own ++ one ∷ [])
one_opened_alone tower shards feeders own one opened this place shard is = elim (cases_lt place (length own)) [
  | inl below ↦ opened place shard (sym (get_push_below own one place below) ∙ is)
  | inr later ↦
      let last : place ≡ length own = omega (arith, later, slice_get_within (own ++ one ∷ []) place shard is, length_push own one) in
      let same : one ≡ shard = same_Some one shard (sym (get_push_at own one) ∙ ap (slice_get (own ++ one ∷ [])) (sym last) ∙ is) in
      subst (IsOpenedAt tower shards feeders place) same (subst (λ (at : ℕ). IsOpenedAt tower shards feeders at one) (sym last) this)
]

no_entries_of : (own : List Shard) → ((place : ℕ) (shard : Shard) → slice_get own place ≡ Some shard → shard.entries ≡ []) → entries_of_each own ≡ replicate (length own) []
no_entries_of [] none = refl
no_entries_of (one ∷ own) none =
    ap (λ (first : List Entry). first ∷ entries_of_each own) (none 0 one refl)
    ∙ ap (λ (rest : List (List Entry)). [] ∷ rest) (no_entries_of own (λ place shard is. none (suc place) shard is))

-- no shard has entries
pub all_fresh : (tower : TowerModel) (shards feeders : ℕ) (own : List Shard) → AreOpenedAlone tower shards feeders own → length own ≡ shards → entries_of_each own ≡ replicate shards []
all_fresh tower shards feeders own opened many = no_entries_of own (λ place shard is. (opened place shard is).none) ∙ ap (λ (n : ℕ). replicate {A = List Entry} n []) many

-- the shards are those of the tower's plans
pub all_opened_alone : (tower : TowerModel) (shards feeders : ℕ) (own : List Shard) → AreOpenedAlone tower shards feeders own → length own ≡ shards → 0 < shards → shards < 2 ^ 32 → (name : ℕ) → AreShardsAlone (plan_of name tower shards feeders) own
all_opened_alone tower shards feeders own opened many some few name = record {
  many = many;
  some = some;
  few = few;
  each = λ place shard is. ((opened place shard is).in_place, (opened place shard is).of_tower name);
}
