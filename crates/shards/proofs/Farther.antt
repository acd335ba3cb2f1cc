-- The later entries of two lists, shard by shard, are as many as those of the first list.
use Rattle.std.proofs.Common.{◌≡◌, List, [], ◌∷◌, Option, length, refl}
use Rattle.shards.specs.declared.entry.NumberedEntry.{NumberedEntry}
use Rattle.shards.specs.Pass.{farther_each}

pub length-farther_each : (mine others : List (Option NumberedEntry)) → length (farther_each mine others) ≡ length mine
length-farther_each [] others = refl
length-farther_each (a ∷ mine) [] = refl
length-farther_each (a ∷ mine) (b ∷ others) = rw (length-farther_each mine others)
