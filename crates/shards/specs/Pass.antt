-- What a feeder knows of the journals.
use Rattle.std.specs.Prelude.{◌≡◌, ◌≢◌, ◌⊎◌, ◌<◌, ◌-◌, ℕ, nat_lt, List, [], ◌∷◌, ◌++◌, length, replicate, Option, Some, None, option_map, unwrap_or, IfSome, slice_set, if◌then◌else◌}
use Rattle.std.specs.List.{slice_get}
use Rattle.shards.specs.declared.entry.Entry.{Entry}
use Rattle.shards.specs.declared.entry.NumberedEntry.{NumberedEntry}
use Rattle.shards.specs.Plan.{Plan}
use Rattle.shards.specs.Plain.{plain_entry}
use Rattle.shards.specs.Journal.{count_by}

-- the model of a `Seen`: an auditor's name, and for each of its shards the farthest entry known, which is the one of
-- greatest number, or none
pub record SeenModel : Type 0 where
  pub auditor : ℕ
  pub farthest : List (Option NumberedEntry)

-- the model of a `Pass`: the feeder, the entries that it submitted in each shard, with their numbers, in order, and
-- what it has seen
pub record PassModel : Type 0 where
  pub feeder : ℕ
  pub own : List (List NumberedEntry)
  pub seen : SeenModel

-- what was seen is of an auditor of this plan: of its name, in as many shards
abbrev pub IsSightOf : Plan → SeenModel → Type 0
IsSightOf plan seen = (seen.auditor ≡ plan.name) × (length seen.farthest ≡ plan.shards)

-- what two feeders have seen is of one auditor: of one name, in as many shards
abbrev pub AreOfOneAuditor : SeenModel → SeenModel → Type 0
AreOfOneAuditor a b = (a.auditor ≡ b.auditor) × (length a.farthest ≡ length b.farthest)

-- the pass is of an auditor of this plan: what it has seen is, it has a list of own entries for each shard, and its
-- feeder is one of the plan's
abbrev pub IsPassOf : Plan → PassModel → Type 0
IsPassOf plan pass = IsSightOf plan pass.seen × (length pass.own ≡ plan.shards) × (pass.feeder < plan.feeders)

-- nothing seen of an auditor of this name, in this many shards
abbrev pub unseen : ℕ → ℕ → SeenModel
unseen name shards = record { auditor = name; farthest = replicate shards None }

-- the pass of a feeder before anything is done with it: nothing submitted, nothing seen
abbrev pub new_pass : Plan → ℕ → PassModel
new_pass plan feeder = record { feeder = feeder; own = replicate plan.shards []; seen = unseen plan.name plan.shards }

-- the farthest entry known in this shard, or none
abbrev pub farthest_in : List (Option NumberedEntry) → ℕ → Option NumberedEntry
farthest_in farthest at = unwrap_or (slice_get farthest at) None

-- the farthest entry that a pass knows in this shard, or none
abbrev pub farthest_of : PassModel → ℕ → Option NumberedEntry
farthest_of pass at = farthest_in pass.seen.farthest at

-- the entries that a pass submitted in this shard, with their numbers, in order
abbrev pub own_entries : PassModel → ℕ → List NumberedEntry
own_entries pass at = unwrap_or (slice_get pass.own at) []

-- the last element of a list, or none
abbrev pub last_in : {X : Type 0} → List X → Option X
last_in xs = slice_get xs (length xs - 1)

-- the journal has at the entry's number one that reads as it does (`plain_entry`)
abbrev pub HasEntry : List Entry → NumberedEntry → Type 0
HasEntry journal known = option_map plain_entry (slice_get journal known.number) ≡ Some (plain_entry known.entry)

-- the journal of this shard has the farthest entry that the pass knows there, where it knows one
abbrev pub HasFarthest : ℕ → PassModel → List Entry → Type 0
HasFarthest at pass journal = IfSome (farthest_of pass at) (HasEntry journal)

-- the journal of this shard has the last entry that the pass submitted there, where it submitted one
abbrev pub HasLastOwn : ℕ → PassModel → List Entry → Type 0
HasLastOwn at pass journal = IfSome (last_in (own_entries pass at)) (HasEntry journal)

-- the journal of this shard has, each at its number, the farthest entry that the pass knows there and the last one
-- that it submitted there, and as many entries of its feeder as it submitted there
pub record IsInKeeping (at : ℕ) (pass : PassModel) (journal : List Entry) : Type 0 where
  pub farthest : HasFarthest at pass journal
  pub last : HasLastOwn at pass journal
  pub count : count_by pass.feeder journal ≡ length (own_entries pass at)

-- the journal of this shard is not in keeping with the pass (`IsInKeeping`); the number is that of the farthest entry
-- if that is missing, else of the pass's last own entry if that is, else how many it submitted there
abbrev pub IsBehind : ℕ → PassModel → List Entry → ℕ → Type 0
IsBehind at pass journal seen =
    ((known : NumberedEntry) × (farthest_of pass at ≡ Some known) × (¬ HasEntry journal known) × (seen ≡ known.number))
    ⊎ (HasFarthest at pass journal
    × (((known : NumberedEntry) × (last_in (own_entries pass at) ≡ Some known) × (¬ HasEntry journal known) × (seen ≡ known.number))
    ⊎ (HasLastOwn at pass journal × (count_by pass.feeder journal ≢ length (own_entries pass at)) × (seen ≡ length (own_entries pass at)))))

-- what was seen, with this entry as the farthest one in a shard
abbrev pub with_farthest : SeenModel → ℕ → NumberedEntry → SeenModel
with_farthest seen at known = record seen { farthest = slice_set seen.farthest at (Some known) }

-- a pass after it submitted this entry in a shard: the entry is its last own one and the farthest known there
abbrev pub with_own : PassModel → ℕ → NumberedEntry → PassModel
with_own pass at known = record pass {
  own = slice_set pass.own at (own_entries pass at ++ known ∷ []);
  seen = with_farthest pass.seen at known;
}

-- a pass after it saw a shard's journal, whose last entry is then the farthest known there; unchanged where there is
-- no entry
abbrev pub with_seen : PassModel → ℕ → Option NumberedEntry → PassModel
with_seen pass at None = pass
with_seen pass at (Some known) = record pass { seen = with_farthest pass.seen at known }

-- the later of two optional entries: that of greater number, the first at equal numbers, the only one where the other
-- is none
abbrev pub farther : Option NumberedEntry → Option NumberedEntry → Option NumberedEntry
farther a None = a
farther None (Some b) = Some b
farther (Some a) (Some b) = if nat_lt a.number b.number then Some b else Some a

-- for each shard the later of two optional entries (`farther`); those of the first list where the second one has
-- ended
abbrev pub farther_each : List (Option NumberedEntry) → List (Option NumberedEntry) → List (Option NumberedEntry)
farther_each (a ∷ mine) (b ∷ others) = farther a b ∷ farther_each mine others
farther_each mine others = mine

-- a pass after it learned what another has seen: in each shard the later entry is the farthest known, its own at
-- equal numbers
abbrev pub learnt : PassModel → SeenModel → PassModel
learnt pass seen = record pass { seen = record pass.seen { farthest = farther_each pass.seen.farthest seen.farthest } }
