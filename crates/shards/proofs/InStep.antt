-- What a pass has submitted stays in step with the farthest entries that it knows, whatever is done with it.
use Rattle.std.proofs.Common.{◌≡◌, ◌≢◌, inl, inr, ℕ, ◌<◌, ◌≤◌, Bool, true, false, List, [], ◌∷◌, ◌++◌, length, get_or, map, set, Option, Some, None, refl, sym, ap, ◌∙◌, arith}
use Rattle.std.specs.Prelude.{unwrap_or, IfSome, nat_lt, if◌then◌else◌}
use Rattle.std.specs.List.{slice_get}
use Rattle.std.proofs.lemmas.Bool.{cases_eq, ltb-true}
use Rattle.std.proofs.lemmas.List.{get_or-map, get_or-set_other, get_or-set_same, get_or_past, length-append, length-map, length-set, map-set, set-set}
use Rattle.std.proofs.lemmas.Option.{IfSome_then, unwrap_or-slice_get}
use Rattle.shards.specs.declared.entry.Entry.{Entry}
use Rattle.shards.specs.declared.entry.NumberedEntry.{NumberedEntry}
use Rattle.shards.specs.Pass.{HasEntry, PassModel, SeenModel, farther, farther_each, farthest_in, last_in, with_farthest, with_own}
use Rattle.shards.specs.Shard.{AreInStep, IsInStep, IsReached, Rises}
use Rattle.shards.proofs.Farther.{length-farther_each}
use Rattle.shards.proofs.Knowing.{farthest-farther_each}
use Rattle.shards.proofs.Rising.{rises_entered}

-- the entries of a pass in a shard
abbrev pub own_in : List (List NumberedEntry) → ℕ → List NumberedEntry
own_in own at = unwrap_or (slice_get own at) []

-- the entries in a shard are those that its place keeps
pub own_got : {X : Type 0} (f : X → List NumberedEntry) (own : List X) (at : ℕ) (x : X) → at < length own → x ≡ get_or own at x → own_in (map f own) at ≡ f x
own_got {X = X} f own at x within is = unwrap_or-slice_get (map f own) at [] ∙ get_or-map f own at x [] within ∙ ap f (sym is)

-- there are no entries where there is no such shard
pub own_past : {X : Type 0} (f : X → List NumberedEntry) (own : List X) (at : ℕ) → length own ≤ at → own_in (map f own) at ≡ []
own_past {X = X} f own at past = unwrap_or-slice_get (map f own) at [] ∙ get_or_past (map f own) at [] (let many = length-map own f in omega arith)

-- the entries of all shards, after one more in one of them
pub noted : {X : Type 0} (f : X → List NumberedEntry) (own : List X) (at : ℕ) (x y z w : X) (known : NumberedEntry) → at < length own → x ≡ get_or own at x → f y ≡ f x → z ≡ get_or (set own at y) at z → f w ≡ f z ++ known ∷ []
    → map f (set (set own at y) at w) ≡ set (map f own) at (own_in (map f own) at ++ known ∷ [])
noted {X = X} f own at x y z w known within is reserved is' pushed =
    ap (map f) (set-set own at y w)
    ∙ map-set f own at w
    ∙ ap (set (map f own) at) (pushed ∙ ap (λ (entries : List NumberedEntry). entries ++ known ∷ []) (ap f (is' ∙ get_or-set_same own at y z within) ∙ reserved ∙ sym (own_got f own at x within is)))

-- a pass by its fields
abbrev pub passed : ℕ → SeenModel → List (List NumberedEntry) → PassModel
passed feeder seen own = record { feeder = feeder; own = own; seen = seen }

pub entered_by : (feeder : ℕ) (own own' : List (List NumberedEntry)) (seen seen' : SeenModel) (at : ℕ) (known : NumberedEntry) → own' ≡ set own at (own_in own at ++ known ∷ []) → seen' ≡ with_farthest seen at known
    → passed feeder seen' own' ≡ with_own (passed feeder seen own) at known
entered_by feeder own own' seen seen' at known own_is seen_is = λ i. passed feeder (seen_is i) (own_is i)

last_push : (xs : List NumberedEntry) (x : NumberedEntry) → slice_get (xs ++ x ∷ []) (length xs) ≡ Some x
last_push [] x = refl
last_push (y ∷ ys) x = last_push ys x

last_is : (xs : List NumberedEntry) (x : NumberedEntry) → last_in (xs ++ x ∷ []) ≡ Some x
last_is xs x = ap (slice_get (xs ++ x ∷ [])) (let many = length-append xs (x ∷ []) in omega arith) ∙ last_push xs x

-- own entries whose last one is the farthest known are in step
with_entry : (own : List NumberedEntry) (known : NumberedEntry) → Rises (own ++ known ∷ []) → IsInStep (Some known) (own ++ known ∷ [])
with_entry own known rises = record { rises = rises; reached = rw (last_is own known) (inr refl) }

own_same : (own : List (List NumberedEntry)) (at : ℕ) (entries : List NumberedEntry) → at < length own → own_in (set own at entries) at ≡ entries
own_same own at entries within = unwrap_or-slice_get (set own at entries) at [] ∙ get_or-set_same own at entries [] within

own_other : (own : List (List NumberedEntry)) (at other : ℕ) (entries : List NumberedEntry) → other ≢ at → own_in (set own at entries) other ≡ own_in own other
own_other own at other entries apart =
    unwrap_or-slice_get (set own at entries) other [] ∙ get_or-set_other own at other entries [] apart ∙ sym (unwrap_or-slice_get own other [])

farthest_same : (farthest : List (Option NumberedEntry)) (at : ℕ) (known : Option NumberedEntry) → at < length farthest → farthest_in (set farthest at known) at ≡ known
farthest_same farthest at known within = unwrap_or-slice_get (set farthest at known) at None ∙ get_or-set_same farthest at known None within

farthest_other : (farthest : List (Option NumberedEntry)) (at other : ℕ) (known : Option NumberedEntry) → other ≢ at → farthest_in (set farthest at known) other ≡ farthest_in farthest other
farthest_other farthest at other known apart =
    unwrap_or-slice_get (set farthest at known) other None ∙ get_or-set_other farthest at other known None apart ∙ sym (unwrap_or-slice_get farthest other None)

-- after the next entry of a journal that has the last own one, the pass is in step
pub in_step_noted : (own : List (List NumberedEntry)) (farthest : List (Option NumberedEntry)) (at : ℕ) (known : NumberedEntry) (journal : List Entry) → AreInStep own farthest → at < length own
    → IfSome (last_in (own_in own at)) (HasEntry journal) → known.number ≡ length journal
    → AreInStep (set own at (own_in own at ++ known ∷ [])) (set farthest at (Some known))
in_step_noted own farthest at known journal step within last next = record {
  many = length-set own at _ ∙ step.many ∙ sym (length-set farthest at (Some known));
  each = λ other. elim (cases_eq other at) [
    | inl same ↦
        rw (same, own_same own at (own_in own at ++ known ∷ []) within, farthest_same farthest at (Some known) (let many = step.many in omega arith))
        (with_entry (own_in own at) known (rises_entered journal (own_in own at) known (step.each at).rises last next))
    | inr apart ↦
        rw (own_other own at other (own_in own at ++ known ∷ []) apart, farthest_other farthest at other (Some known) apart) (step.each other)
  ];
}

-- what the farthest entry reaches, a later one reaches too
reached_by_test : (a b own : NumberedEntry) (test : Bool) → nat_lt a.number b.number ≡ test → IsReached (Some a) own → IsReached (if test then Some b else Some a) own
reached_by_test a b own false is reached = reached
reached_by_test a b own true is (inl less) = inl (let far = ltb-true a.number b.number is in omega arith)
reached_by_test a b own true is (inr same) =
    inl (let far = ltb-true a.number b.number is in
    let number : own.number ≡ a.number = ap (λ p. p.0) same in
    omega arith)

reached_farther : (a b : Option NumberedEntry) (own : NumberedEntry) → IsReached a own → IsReached (farther a b) own
reached_farther a None own reached = reached
reached_farther None (Some b) own reached = absurd reached
reached_farther (Some a) (Some b) own reached = reached_by_test a b own (nat_lt a.number b.number) refl reached

-- after what another feeder has seen is learned, the pass is in step
pub in_step_learnt : (own : List (List NumberedEntry)) (farthest others : List (Option NumberedEntry)) → AreInStep own farthest → length farthest ≡ length others → AreInStep own (farther_each farthest others)
in_step_learnt own farthest others step many = record {
  many = step.many ∙ sym (length-farther_each farthest others);
  each = λ at. rw (farthest-farther_each farthest others at many)
      (record {
        rises = (step.each at).rises;
        reached = IfSome_then (last_in (own_in own at)) {P = IsReached (farthest_in farthest at)} {Q = IsReached (farther (farthest_in farthest at) (farthest_in others at))} (step.each at).reached
            (λ last is. reached_farther (farthest_in farthest at) (farthest_in others at) last is);
      });
}
