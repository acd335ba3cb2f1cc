-- There is at most one closing fault.
use Rattle.std.proofs.Common.{◌≡◌, inl, inr, ℕ, zero, suc, ◌+◌, ◌<◌, List, [], ◌∷◌, length, Some, refl, sym, ap, ◌∙◌, subst, arith}
use Rattle.std.specs.Prelude.{All, Contains, slice_index_or}
use Rattle.std.specs.List.{slice_get}
use Rattle.std.proofs.lemmas.List.{get_or_default}
use Rattle.std.proofs.lemmas.List.Elements.{All-contains}
use Rattle.shards.specs.declared.entry.Entry.{Entry}
use Rattle.shards.specs.declared.entry.NumberedEntry.{NumberedEntry}
use Rattle.shards.specs.declared.fault.ShardFault.{ShardFault}
use Rattle.shards.specs.declared.fault.ShardFault.TheVariants.{UnknownRegister, Memory, JournalBehind, PassMissing, Stranger, ForeignPass}
use Rattle.shards.specs.Plan.{Plan}
use Rattle.shards.specs.Pass.{PassModel, IsBehind, IsInKeeping}
use Rattle.shards.specs.Merge.{IsStranger, numbered}
use Rattle.shards.specs.Closing.{ShardModel, AreComplete, AreFit, Fits, HasNoStranger, IsClosingFault, IsFirstMissing, IsFirstStranger, IsFirstUnfit, IsFirstWithStranger, IsUnfit}
use Rattle.shards.proofs.Knowing.{following_apart, after_once}
use Rattle.shards.proofs.Passes.{AreApart, one_pass}
use Rattle.shards.proofs.Unfit.{some_same}

-- two numbers of which neither is less are equal
least_one : (a b : ℕ) → ¬ (a < b) → ¬ (b < a) → a ≡ b
least_one a b not_low not_high = omega (arith, not_low, not_high)

unfit_not : (passes : List PassModel) (place : ℕ) (shard : ShardModel) (seen found : ℕ) → IsUnfit passes place shard seen found → ¬ Fits passes place shard
unfit_not passes place shard seen found (inl h) fits = h.0 fits.in_place
unfit_not passes place shard seen found (inr h) fits =
    following_apart place h.1.0 shard.journal seen h.1.2 (All-contains (λ pass. IsInKeeping place pass shard.journal) passes h.1.0 fits.keeping h.1.1)

-- a journal that is not in keeping with a pass, and is with those of lesser feeders
abbrev IsFirstBehind : List PassModel → ℕ → List Entry → PassModel → ℕ → ℕ → Type 0
IsFirstBehind passes place journal pass seen found =
    Contains passes pass × IsBehind place pass journal seen × (found ≡ length journal) × All (λ other. other.feeder < pass.feeder → IsInKeeping place other journal) passes

no_lesser : (passes : List PassModel) (place : ℕ) (journal : List Entry) (a b : PassModel) (seen found seen' found' : ℕ)
    → IsFirstBehind passes place journal a seen found → IsFirstBehind passes place journal b seen' found' → ¬ (a.feeder < b.feeder)
no_lesser passes place journal a b seen found seen' found' h k low =
    following_apart place a journal seen h.1 (All-contains (λ other. other.feeder < b.feeder → IsInKeeping place other journal) passes a k.3 h.0 low)

first_after_one : (passes : List PassModel) (place : ℕ) (journal : List Entry) (a b : PassModel) (seen found seen' found' : ℕ) → AreApart passes
    → IsFirstBehind passes place journal a seen found → IsFirstBehind passes place journal b seen' found' → (seen ≡ seen') × (found ≡ found')
first_after_one passes place journal a b seen found seen' found' apart h k =
    let same = one_pass passes a b apart h.0 k.0 (least_one a.feeder b.feeder (no_lesser passes place journal a b seen found seen' found' h k) (no_lesser passes place journal b a seen' found' seen found k h)) in
    (after_once place b journal seen seen' (subst (λ (pass : PassModel). IsBehind place pass journal seen) same h.1) k.1, h.2 ∙ sym k.2)

unfit_one : (passes : List PassModel) (place : ℕ) (shard : ShardModel) (seen found seen' found' : ℕ) → AreApart passes
    → IsUnfit passes place shard seen found → IsUnfit passes place shard seen' found' → (seen ≡ seen') × (found ≡ found')
unfit_one passes place shard seen found seen' found' apart (inl h) (inl k) = (h.1 ∙ sym k.1, h.2 ∙ sym k.2)
unfit_one passes place shard seen found seen' found' apart (inl h) (inr k) = absurd (h.0 k.0)
unfit_one passes place shard seen found seen' found' apart (inr h) (inl k) = absurd (k.0 h.0)
unfit_one passes place shard seen found seen' found' apart (inr h) (inr k) =
    first_after_one passes place shard.journal h.1.0 k.1.0 seen found seen' found' apart (h.1.1, h.1.2, h.1.3, h.1.4) (k.1.1, k.1.2, k.1.3, k.1.4)

-- a property holds of the shard at a place
abbrev IsAt : List ShardModel → ℕ → (ℕ → ShardModel → Type 0) → Type 0
IsAt shards at P = (shard : ShardModel) × (slice_get shards at ≡ Some shard) × P at shard

abbrev AreBelow : List ShardModel → ℕ → (ℕ → ShardModel → Type 0) → Type 0
AreBelow shards at P = (lesser : ℕ) (shard : ShardModel) → lesser < at → slice_get shards lesser ≡ Some shard → P lesser shard

not_below : (shards : List ShardModel) (a b : ℕ) (P Q : ℕ → ShardModel → Type 0) → ((n : ℕ) (shard : ShardModel) → P n shard → ¬ Q n shard) → IsAt shards a P → AreBelow shards b Q → ¬ (a < b)
not_below shards a b P Q apart here below low = apart a here.0 here.2 (below a here.0 low here.1)

moved : (shards : List ShardModel) (a b : ℕ) (P : ℕ → ShardModel → Type 0) → a ≡ b → (shard : ShardModel) → slice_get shards b ≡ Some shard → IsAt shards a P → P b shard
moved shards a b P is shard at here =
    subst (P b) (some_same here.0 shard (sym here.1 ∙ ap (slice_get shards) is ∙ at)) (subst (λ (n : ℕ). P n here.0) is here.2)

first_unfit_one : (passes : List PassModel) (shards : List ShardModel) (a b seen found seen' found' : ℕ) → AreApart passes
    → IsFirstUnfit passes shards a seen found → IsFirstUnfit passes shards b seen' found' → JournalBehind a seen found ≡ JournalBehind b seen' found'
first_unfit_one passes shards a b seen found seen' found' apart h k =
    let place : a ≡ b = least_one a b
    (not_below shards a b (λ n shard. IsUnfit passes n shard seen found) (Fits passes) (λ n shard. unfit_not passes n shard seen found) h.0 k.1)
    (not_below shards b a (λ n shard. IsUnfit passes n shard seen' found') (Fits passes) (λ n shard. unfit_not passes n shard seen' found') k.0 h.1) in
    let both = unfit_one passes b k.0.0 seen found seen' found' apart (moved shards a b (λ n shard. IsUnfit passes n shard seen found) place k.0.0 k.0.1 h.0) k.0.2 in
    let same_seen = both.0 in
    let same_found = both.1 in
    cc

numbered_at : (number : ℕ) (journal : List Entry) (k : ℕ) (d : NumberedEntry) → k < length (numbered number journal) → (slice_index_or (numbered number journal) k d).number ≡ number + k
numbered_at number [] k d within = absurd (omega (arith, within))
numbered_at number (entry ∷ entries) zero d within = omega arith
numbered_at number (entry ∷ entries) (suc k) d within = omega (arith, numbered_at (number + 1) entries k d (omega (arith, within)))

number_of : (journal : List Entry) (known : NumberedEntry) (here : Contains (numbered 0 journal) known) → here.0 ≡ known.number
number_of journal known here = omega (arith, numbered_at 0 journal here.0 known here.1, ap (λ (one : NumberedEntry). one.number) here.2)

-- a journal has one entry at a number
numbered_one : (journal : List Entry) (a b : NumberedEntry) → Contains (numbered 0 journal) a → Contains (numbered 0 journal) b → a.number ≡ b.number → a ≡ b
numbered_one journal a b in_a in_b same =
    sym in_a.2
    ∙ get_or_default (numbered 0 journal) in_a.0 a b in_a.1
    ∙ ap (λ (k : ℕ). slice_index_or (numbered 0 journal) k b) (number_of journal a in_a ∙ same ∙ sym (number_of journal b in_b))
    ∙ in_b.2

stranger_not : (passes : List PassModel) (place : ℕ) (journal : List Entry) (known : NumberedEntry) → IsFirstStranger passes place journal known → ¬ HasNoStranger passes place journal
stranger_not passes place journal known h none = All-contains (λ other. ¬ IsStranger passes place other) (numbered 0 journal) known none h.0 h.1

no_earlier : (passes : List PassModel) (place : ℕ) (journal : List Entry) (a b : NumberedEntry) → IsFirstStranger passes place journal a → IsFirstStranger passes place journal b → ¬ (a.number < b.number)
no_earlier passes place journal a b h k low =
    All-contains (λ other. other.number < b.number → ¬ IsStranger passes place other) (numbered 0 journal) a k.2 h.0 low h.1

stranger_one : (passes : List PassModel) (place : ℕ) (journal : List Entry) (a b : NumberedEntry) → IsFirstStranger passes place journal a → IsFirstStranger passes place journal b → a ≡ b
stranger_one passes place journal a b h k =
    numbered_one journal a b h.0 k.0 (least_one a.number b.number (no_earlier passes place journal a b h k) (no_earlier passes place journal b a k h))

first_with_stranger_one : (passes : List PassModel) (shards : List ShardModel) (a b : ℕ) (known other : NumberedEntry)
    → IsFirstWithStranger passes shards a known → IsFirstWithStranger passes shards b other → (a ≡ b) × (known ≡ other)
first_with_stranger_one passes shards a b known other h k =
    let place : a ≡ b = least_one a b
    (not_below shards a b (λ n shard. IsFirstStranger passes n shard.journal known) (λ n shard. HasNoStranger passes n shard.journal) (λ n shard. stranger_not passes n shard.journal known) h.0 k.1)
    (not_below shards b a (λ n shard. IsFirstStranger passes n shard.journal other) (λ n shard. HasNoStranger passes n shard.journal) (λ n shard. stranger_not passes n shard.journal other) k.0 h.1) in
    (place, stranger_one passes b k.0.0.journal known other (moved shards a b (λ n shard. IsFirstStranger passes n shard.journal known) place k.0.0 k.0.1 h.0) k.0.2)

strangers_same : (a b feeder feeder' number number' : ℕ) (known other : NumberedEntry) → a ≡ b → known ≡ other
    → known.entry.feeder ≡ feeder → other.entry.feeder ≡ feeder' → known.number ≡ number → other.number ≡ number' → Stranger a feeder number ≡ Stranger b feeder' number'
strangers_same a b feeder feeder' number number' known other place same of of' at at' = cc

first_missing_one : (feeders : ℕ) (passes : List PassModel) (a b : ℕ) → IsFirstMissing feeders passes a → IsFirstMissing feeders passes b → a ≡ b
first_missing_one feeders passes a b h k = least_one a b (λ low. h.1 (k.2 a low)) (λ high. k.1 (h.2 b high))

missing_not : (feeders : ℕ) (passes : List PassModel) (feeder : ℕ) → IsFirstMissing feeders passes feeder → ¬ AreComplete feeders passes
missing_not feeders passes feeder h complete = h.1 (complete feeder h.0)

first_unfit_not : (passes : List PassModel) (shards : List ShardModel) (at seen found : ℕ) → IsFirstUnfit passes shards at seen found → ¬ AreFit passes shards
first_unfit_not passes shards at seen found h fit = unfit_not passes at h.0.0 seen found h.0.2 (fit at h.0.0 h.0.1)

pub one_fault : (plan : Plan) (wanted : ℕ) (passes : List PassModel) (shards : List ShardModel) (a b : ShardFault) → IsClosingFault plan wanted passes shards a → IsClosingFault plan wanted passes shards b → a ≡ b
one_fault plan wanted passes shards UnknownRegister b h k = absurd h
one_fault plan wanted passes shards Memory b h k = absurd h
one_fault plan wanted passes shards a UnknownRegister h k = absurd k
one_fault plan wanted passes shards a Memory h k = absurd k
one_fault plan wanted passes shards ForeignPass ForeignPass h k = refl
one_fault plan wanted passes shards ForeignPass (PassMissing feeder) h k = absurd (h k.0)
one_fault plan wanted passes shards ForeignPass (JournalBehind at seen found) h k = absurd (h k.0)
one_fault plan wanted passes shards ForeignPass (Stranger at feeder number) h k = absurd (h k.0)
one_fault plan wanted passes shards (PassMissing feeder) ForeignPass h k = absurd (k h.0)
one_fault plan wanted passes shards (PassMissing feeder) (PassMissing feeder') h k = ap PassMissing (first_missing_one wanted passes feeder feeder' h.1 k.1)
one_fault plan wanted passes shards (PassMissing feeder) (JournalBehind at seen found) h k = absurd (missing_not wanted passes feeder h.1 k.1)
one_fault plan wanted passes shards (PassMissing feeder) (Stranger at feeder' number) h k = absurd (missing_not wanted passes feeder h.1 k.1)
one_fault plan wanted passes shards (JournalBehind at seen found) ForeignPass h k = absurd (k h.0)
one_fault plan wanted passes shards (JournalBehind at seen found) (PassMissing feeder) h k = absurd (missing_not wanted passes feeder k.1 h.1)
one_fault plan wanted passes shards (JournalBehind at seen found) (JournalBehind at' seen' found') h k = first_unfit_one passes shards at at' seen found seen' found' h.0.apart h.2 k.2
one_fault plan wanted passes shards (JournalBehind at seen found) (Stranger at' feeder number) h k = absurd (first_unfit_not passes shards at seen found h.2 k.2)
one_fault plan wanted passes shards (Stranger at feeder number) ForeignPass h k = absurd (k h.0)
one_fault plan wanted passes shards (Stranger at feeder number) (PassMissing feeder') h k = absurd (missing_not wanted passes feeder' k.1 h.1)
one_fault plan wanted passes shards (Stranger at feeder number) (JournalBehind at' seen found) h k = absurd (first_unfit_not passes shards at' seen found k.2 h.2)
one_fault plan wanted passes shards (Stranger at feeder number) (Stranger at' feeder' number') h k =
    let same = first_with_stranger_one passes shards at at' h.3.0 k.3.0 h.3.1 k.3.1 in
    strangers_same at at' feeder feeder' number number' h.3.0 k.3.0 same.0 same.1 h.3.2 k.3.2 h.3.3 k.3.3
