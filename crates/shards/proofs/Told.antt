-- The entries that a pass submitted, and the plan that it is of, after each thing that is done with it.
use Rattle.std.proofs.Common.{◌≡◌, ◌≢◌, ℕ, zero, suc, ◌<◌, List, [], ◌∷◌, ◌++◌, length, replicate, set, Option, Some, None, refl, sym, ◌∙◌}
use Rattle.std.specs.Prelude.{unwrap_or}
use Rattle.std.specs.List.{slice_get}
use Rattle.std.proofs.lemmas.List.{get_or-set_other, get_or-set_same, length-replicate, length-set}
use Rattle.std.proofs.lemmas.Option.{unwrap_or-slice_get}
use Rattle.shards.specs.declared.entry.NumberedEntry.{NumberedEntry}
use Rattle.shards.specs.Plan.{Plan}
use Rattle.shards.specs.Pass.{IsPassOf, PassModel, SeenModel, new_pass, learnt, own_entries, with_own, with_seen}
use Rattle.shards.proofs.Farther.{length-farther_each}

nothing_at : (shards at : ℕ) → unwrap_or (slice_get (replicate {A = List NumberedEntry} shards []) at) [] ≡ []
nothing_at zero at = refl
nothing_at (suc shards) zero = refl
nothing_at (suc shards) (suc at) = nothing_at shards at

pub told-fresh : (plan : Plan) (feeder at : ℕ) → own_entries (new_pass plan feeder) at ≡ []
told-fresh plan feeder at = nothing_at plan.shards at

pub told-with_own : (pass : PassModel) (at : ℕ) (known : NumberedEntry) → at < length pass.own → own_entries (with_own pass at known) at ≡ own_entries pass at ++ known ∷ []
told-with_own pass at known within =
    let entries = own_entries pass at ++ known ∷ [] in
    unwrap_or-slice_get (set pass.own at entries) at [] ∙ get_or-set_same pass.own at entries [] within

pub told-with_own_other : (pass : PassModel) (at other : ℕ) (known : NumberedEntry) → other ≢ at → own_entries (with_own pass at known) other ≡ own_entries pass other
told-with_own_other pass at other known apart =
    let entries = own_entries pass at ++ known ∷ [] in
    unwrap_or-slice_get (set pass.own at entries) other [] ∙ get_or-set_other pass.own at other entries [] apart ∙ sym (unwrap_or-slice_get pass.own other [])

pub told-with_seen : (pass : PassModel) (at other : ℕ) (known : Option NumberedEntry)
    → ((with_seen pass at known).own ≡ pass.own) × (own_entries (with_seen pass at known) other ≡ own_entries pass other)
told-with_seen pass at other None = (refl, refl)
told-with_seen pass at other (Some known) = (refl, refl)

pub IsPassOf-fresh : (plan : Plan) (feeder : ℕ) → feeder < plan.feeders → IsPassOf plan (new_pass plan feeder)
IsPassOf-fresh plan feeder below = ((refl, length-replicate plan.shards _), length-replicate plan.shards _, below)

pub IsPassOf-with_own : (plan : Plan) (pass : PassModel) (at : ℕ) (known : NumberedEntry) → IsPassOf plan pass → IsPassOf plan (with_own pass at known)
IsPassOf-with_own plan pass at known of = ((of.0.0, length-set pass.seen.farthest at (Some known) ∙ of.0.1), length-set pass.own at _ ∙ of.1, of.2)

pub IsPassOf-with_seen : (plan : Plan) (pass : PassModel) (at : ℕ) (known : Option NumberedEntry) → IsPassOf plan pass → IsPassOf plan (with_seen pass at known)
IsPassOf-with_seen plan pass at None of = of
IsPassOf-with_seen plan pass at (Some known) of = ((of.0.0, length-set pass.seen.farthest at (Some known) ∙ of.0.1), of.1, of.2)

pub IsPassOf-learnt : (plan : Plan) (pass : PassModel) (seen : SeenModel) → IsPassOf plan pass → IsPassOf plan (learnt pass seen)
IsPassOf-learnt plan pass seen of = ((of.0.0, length-farther_each pass.seen.farthest seen.farthest ∙ of.0.1), of.1, of.2)
