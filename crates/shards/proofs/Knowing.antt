-- A journal is behind a pass in one way at most, and a pass that learns knows no less.
use Rattle.std.proofs.Common.{◌≡◌, ◌≤◌, ℕ, Bool, true, false, List, [], ◌∷◌, suc, zero, length, inl, inr, refl, arith}
use Rattle.std.specs.Prelude.{Option, Some, None, IfSome, IsSomeAnd, nat_lt, if◌then◌else◌}
use Rattle.std.proofs.lemmas.Bool.{ltb-true, ltb-false}
use Rattle.shards.specs.declared.entry.Entry.{Entry}
use Rattle.shards.specs.declared.entry.NumberedEntry.{NumberedEntry}
use Rattle.shards.specs.Pass.{PassModel, SeenModel, IsBehind, IsInKeeping, farther, farther_each, farthest_in, farthest_of, learnt}

-- what holds of the value that is there
holds_of : {X : Type 0} (P : X → Type 0) (option : Option X) (x : X) → option ≡ Some x → IfSome option P → P x
holds_of P option x is holds = rw is at holds

-- a journal is not behind a pass that it is in keeping with
pub following_apart : (at : ℕ) (pass : PassModel) (journal : List Entry) (seen : ℕ) → IsBehind at pass journal seen → ¬ IsInKeeping at pass journal
following_apart at pass journal seen (inl (known, is, lacks, number)) keeping = lacks (holds_of _ _ known is keeping.farthest)
following_apart at pass journal seen (inr (farthest, inl (known, is, lacks, number))) keeping = lacks (holds_of _ _ known is keeping.last)
following_apart at pass journal seen (inr (farthest, inr (last, differs, number))) keeping = differs keeping.count

-- one number at most shows that a journal is behind a pass
pub after_once : (at : ℕ) (pass : PassModel) (journal : List Entry) (a b : ℕ) → IsBehind at pass journal a → IsBehind at pass journal b → a ≡ b
after_once at pass journal a b (inl (known, is, lacks, number)) (inl (other, is', lacks', number')) = cc
after_once at pass journal a b (inl (known, is, lacks, number)) (inr (farthest, rest)) = absurd (lacks (holds_of _ _ known is farthest))
after_once at pass journal a b (inr (farthest, rest)) (inl (known, is, lacks, number)) = absurd (lacks (holds_of _ _ known is farthest))
after_once at pass journal a b (inr (farthest, inl (known, is, lacks, number))) (inr (farthest', inl (other, is', lacks', number'))) = cc
after_once at pass journal a b (inr (farthest, inl (known, is, lacks, number))) (inr (farthest', inr (last, differs, number'))) = absurd (lacks (holds_of _ _ known is last))
after_once at pass journal a b (inr (farthest, inr (last, differs, number))) (inr (farthest', inl (known, is, lacks, number'))) = absurd (lacks (holds_of _ _ known is last))
after_once at pass journal a b (inr (farthest, inr (last, differs, number))) (inr (farthest', inr (last', differs', number'))) = cc

-- the later entry in a shard is the later of the two lists' ones there
pub farthest-farther_each : (mine others : List (Option NumberedEntry)) (at : ℕ) → length mine ≡ length others →
    farthest_in (farther_each mine others) at ≡ farther (farthest_in mine at) (farthest_in others at)
farthest-farther_each [] [] at many = refl
farthest-farther_each [] (b ∷ others) at many = absurd (omega arith)
farthest-farther_each (a ∷ mine) [] at many = absurd (omega arith)
farthest-farther_each (a ∷ mine) (b ∷ others) zero many = refl
farthest-farther_each (a ∷ mine) (b ∷ others) (suc at) many = farthest-farther_each mine others at (omega arith)

-- of two entries the later one has a number no less than each
as_far_own : (a b : NumberedEntry) (test : Bool) → nat_lt a.number b.number ≡ test →
    IsSomeAnd (if test then Some b else Some a) (λ after. a.number ≤ after.number)
as_far_own a b true is = let less = ltb-true a.number b.number is in omega arith
as_far_own a b false is = omega arith

as_far_other : (a b : NumberedEntry) (test : Bool) → nat_lt a.number b.number ≡ test →
    IsSomeAnd (if test then Some b else Some a) (λ after. b.number ≤ after.number)
as_far_other a b true is = omega arith
as_far_other a b false is = ltb-false a.number b.number is

own_no_less : (a b : Option NumberedEntry) → IfSome a (λ known. IsSomeAnd (farther a b) (λ after. known.number ≤ after.number))
own_no_less None b = tt
own_no_less (Some a) None = omega arith
own_no_less (Some a) (Some b) = as_far_own a b (nat_lt a.number b.number) refl

other_no_less : (a b : Option NumberedEntry) → IfSome b (λ known. IsSomeAnd (farther a b) (λ after. known.number ≤ after.number))
other_no_less a None = tt
other_no_less None (Some b) = omega arith
other_no_less (Some a) (Some b) = as_far_other a b (nat_lt a.number b.number) refl

-- a pass that has learned knows in each shard no less than it did before
pub learnt_own : (pass : PassModel) (seen : SeenModel) (at : ℕ) → length pass.seen.farthest ≡ length seen.farthest →
    IfSome (farthest_of pass at) (λ known. IsSomeAnd (farthest_of (learnt pass seen) at) (λ after. known.number ≤ after.number))
learnt_own pass seen at many =
    rw (farthest-farther_each pass.seen.farthest seen.farthest at many) (own_no_less (farthest_in pass.seen.farthest at) (farthest_in seen.farthest at))

-- a pass that has learned knows in each shard no less than what it learned
pub learnt_other : (pass : PassModel) (seen : SeenModel) (at : ℕ) → length pass.seen.farthest ≡ length seen.farthest →
    IfSome (farthest_in seen.farthest at) (λ known. IsSomeAnd (farthest_of (learnt pass seen) at) (λ after. known.number ≤ after.number))
learnt_other pass seen at many =
    rw (farthest-farther_each pass.seen.farthest seen.farthest at many) (other_no_less (farthest_in pass.seen.farthest at) (farthest_in seen.farthest at))
