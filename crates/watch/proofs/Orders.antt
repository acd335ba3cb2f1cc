-- Arrangements of the operations before an edit, from one of those after it.
use Rattle.std.proofs.Common.{◌≡◌, ◌≢◌, ◌⊎◌, inl, inr, Bool, true, false, not, List, [], ◌∷◌, ◌++◌, map, Option, None, IsPermutation, refl, sym, cond, subst}
use Rattle.std.specs.Prelude.{All, filter}
use Rattle.std.specs.List.{AllByRecursion}
use Rattle.std.proofs.lemmas.List.Elements.{All-nil, All-cons, All-head, All-tail, All-weaker, All-filter, filter_passes, recursion_from_All}
use Rattle.std.proofs.lemmas.List.Sorted.{IsPermutation-trans, IsPermutation-append_left, IsPermutation-filter_both, All-permutation}
use Rattle.intervals.specs.declared.operation.Op.{Op}
use Rattle.intervals.specs.declared.operation.Moment.{Moment}
use Rattle.intervals.specs.declared.operation.Act.{Act}
use Rattle.intervals.specs.declared.operation.Act.TheVariants.{Read, Write}
use Rattle.intervals.specs.declared.operation.Value.{Value}
use Rattle.intervals.specs.Terms.{ClaimModel}
use Rattle.intervals.specs.Operation.{EndsBefore, Precedes, IsWrite, is_write, is_write_act, value_of, judged}
use Rattle.intervals.specs.Kind.{KeepsPrecedence, ReadsNearest, Finds, value_after, IsArranged}
use Rattle.watch.proofs.Shuffles.{IsPermutation-filter, permuted_before}

-- some order of the operations keeps precedence, and reads in it return the nearest value from this initial one
abbrev pub IsOrdered : Value → List Op → Type 0
IsOrdered initial xs = (order : List Op) × IsPermutation xs order × KeepsPrecedence order × ReadsNearest initial order

abbrev NonePrecedes : Op → List Op → Type 0
NonePrecedes a later = AllByRecursion (λ b. ¬ Precedes b a) later

-- a list of writes may follow any value
writes_read_nearest : (value : Value) (order : List Op) → All IsWrite order → ReadsNearest value order
writes_read_nearest value [] all = tt
writes_read_nearest value (a ∷ later) all =
    (by_act a.act (All-head IsWrite a later all), writes_read_nearest (value_after value a.act) later (All-tail IsWrite a later all))
  where
    by_act : (act : Act) → is_write_act act ≡ true → Finds value act
    by_act (Read v) t = absurd (cc)
    by_act (Write v) t = tt

after_read : (value : Value) (act : Act) → is_write_act act ≡ false → value_after value act ≡ value
after_read value (Read v) f = refl
after_read value (Write v) f = absurd (cc)

-- an order without some of its operations
module _ (keep : Op → Bool) where
  none_kept : (a : Op) (later : List Op) → NonePrecedes a later → NonePrecedes a (filter keep later)
  none_kept a [] h = tt
  none_kept a (b ∷ later) h = by_cases (keep b) (none_kept a later h.1)
    where
      by_cases : (t : Bool) → NonePrecedes a (filter keep later) → NonePrecedes a (cond t (b ∷ filter keep later) (filter keep later))
      by_cases true rest = (h.0, rest)
      by_cases false rest = rest

  keeps_without : (order : List Op) → KeepsPrecedence order → KeepsPrecedence (filter keep order)
  keeps_without [] h = tt
  keeps_without (a ∷ later) h = by_cases (keep a) (keeps_without later h.1)
    where
      by_cases : (t : Bool) → KeepsPrecedence (filter keep later) → KeepsPrecedence (cond t (a ∷ filter keep later) (filter keep later))
      by_cases true rest = (none_kept a later h.0, rest)
      by_cases false rest = rest

  -- the operation is kept, is a read, or is preceded by each read of the list
  abbrev pub MayGo : List Op → Op → Type 0
  MayGo order a = keep a ≡ false → (is_write a ≡ false) ⊎ All (λ b. IsWrite b ⊎ Precedes b a) order

  may_go_later : (x : Op) (order : List Op) (a : Op) → MayGo (x ∷ order) a → MayGo order a
  may_go_later x order a h f = by_cases (h f)
    where
      by_cases : (is_write a ≡ false) ⊎ All (λ b. IsWrite b ⊎ Precedes b a) (x ∷ order) → (is_write a ≡ false) ⊎ All (λ b. IsWrite b ⊎ Precedes b a) order
      by_cases (inl e) = inl e
      by_cases (inr all) = inr (All-tail (λ b. IsWrite b ⊎ Precedes b a) x order all)

  only_writes : (a : Op) (later : List Op) → NonePrecedes a later → All (λ b. IsWrite b ⊎ Precedes b a) later → All IsWrite later
  only_writes a [] none all = All-nil _
  only_writes a (b ∷ later) none all =
      All-cons IsWrite b later (by_cases (All-head (λ b. IsWrite b ⊎ Precedes b a) b later all))
      (only_writes a later none.1 (All-tail (λ b. IsWrite b ⊎ Precedes b a) b later all))
    where
      by_cases : IsWrite b ⊎ Precedes b a → IsWrite b
      by_cases (inl t) = t
      by_cases (inr p) = absurd (none.0 p)

  reads_without : (value : Value) (order : List Op) → All (MayGo order) order → KeepsPrecedence order → ReadsNearest value order → ReadsNearest value (filter keep order)
  reads_without value [] may keeps reads = tt
  reads_without value (a ∷ later) may keeps reads =
      by_cases (keep a) refl
      (λ v h. reads_without v later (All-weaker (MayGo (a ∷ later)) (MayGo later) (may_go_later a later) later (All-tail (MayGo (a ∷ later)) a later may)) keeps.1 h)
    where
      gone : ((v : Value) → ReadsNearest v later → ReadsNearest v (filter keep later)) → (is_write a ≡ false) ⊎ All (λ b. IsWrite b ⊎ Precedes b a) (a ∷ later) → ReadsNearest value (filter keep later)
      gone rest (inl f) = rest value (subst (λ (v : Value). ReadsNearest v later) (after_read value a.act f) reads.1)
      gone rest (inr all) =
          writes_read_nearest value (filter keep later)
          (All-filter keep IsWrite later (only_writes a later keeps.0 (All-tail (λ b. IsWrite b ⊎ Precedes b a) a later all)))

      by_cases : (t : Bool) → keep a ≡ t → ((v : Value) → ReadsNearest v later → ReadsNearest v (filter keep later)) → ReadsNearest value (cond t (a ∷ filter keep later) (filter keep later))
      by_cases true e rest = (reads.0, rest (value_after value a.act) reads.1)
      by_cases false e rest = gone rest (All-head (MayGo (a ∷ later)) a later may e)

  may_go_in : (xs order : List Op) (a : Op) → IsPermutation xs order → MayGo xs a → MayGo order a
  may_go_in xs order a moved h f = by_cases (h f)
    where
      by_cases : (is_write a ≡ false) ⊎ All (λ b. IsWrite b ⊎ Precedes b a) xs → (is_write a ≡ false) ⊎ All (λ b. IsWrite b ⊎ Precedes b a) order
      by_cases (inl e) = inl e
      by_cases (inr all) = inr (All-permutation (λ b. IsWrite b ⊎ Precedes b a) xs order moved all)

  -- where some operations may go, the others are ordered
  pub ordered_without : (initial : Value) (xs : List Op) → All (MayGo xs) xs → IsOrdered initial xs → IsOrdered initial (filter keep xs)
  ordered_without initial xs may (order, moved, keeps, reads) = (
    filter keep order,
    IsPermutation-filter keep xs order moved,
    keeps_without order keeps,
    reads_without initial order
        (All-permutation (MayGo order) xs order moved (All-weaker (MayGo xs) (MayGo order) (λ a. may_go_in xs order a moved) xs may))
        keeps reads,
  )

-- an order with unfinished writes after it
module _ (more : List Op) (writes : All IsWrite more) (unfinished : All (λ a. a.end ≡ None) more) where
  not_before : (a b : Op) → b.end ≡ None → ¬ Precedes b a
  not_before a b e p = subst (λ (end : Option Moment). EndsBefore end a.begin) e p

  none_more : (a : Op) (later : List Op) → NonePrecedes a later → NonePrecedes a (later ++ more)
  none_more a [] h = recursion_from_All (λ b. ¬ Precedes b a) more (All-weaker (λ b. b.end ≡ None) (λ b. ¬ Precedes b a) (not_before a) more unfinished)
  none_more a (b ∷ later) h = (h.0, none_more a later h.1)

  keeps_alone : (xs : List Op) → All (λ a. a.end ≡ None) xs → KeepsPrecedence xs
  keeps_alone [] all = tt
  keeps_alone (a ∷ later) all =
      let rest = All-tail (λ a. a.end ≡ None) a later all in
      (recursion_from_All (λ b. ¬ Precedes b a) later (All-weaker (λ b. b.end ≡ None) (λ b. ¬ Precedes b a) (not_before a) later rest), keeps_alone later rest)

  keeps_with : (order : List Op) → KeepsPrecedence order → KeepsPrecedence (order ++ more)
  keeps_with [] h = keeps_alone more unfinished
  keeps_with (a ∷ later) h = (none_more a later h.0, keeps_with later h.1)

  reads_with : (value : Value) (order : List Op) → ReadsNearest value order → ReadsNearest value (order ++ more)
  reads_with value [] h = writes_read_nearest value more writes
  reads_with value (a ∷ later) h = (h.0, reads_with (value_after value a.act) later h.1)

-- where the operations that are left out are unfinished writes, all are ordered
pub ordered_with : (keep : Op → Bool) (initial : Value) (xs : List Op) → All (λ a. keep a ≡ false → IsWrite a × (a.end ≡ None)) xs → IsOrdered initial (filter keep xs) → IsOrdered initial xs
ordered_with keep initial xs gone (order, moved, keeps, reads) = (
  order ++ more,
  IsPermutation-trans xs (filter keep xs ++ more) (order ++ more)
      (IsPermutation-filter_both keep (λ a. not (keep a)) (λ a. refl) xs)
      (IsPermutation-append_left more (filter keep xs) order moved),
  keeps_with more writes unfinished order keeps,
  reads_with more writes unfinished initial order reads,
)
  where
    more : List Op
    more = filter (λ a. not (keep a)) xs

    not_kept : (t : Bool) → not t ≡ true → t ≡ false
    not_kept true e = absurd (cc)
    not_kept false e = refl

    each : All (λ a. IsWrite a × (a.end ≡ None)) more
    each k d lt = All-filter (λ a. not (keep a)) (λ a. keep a ≡ false → IsWrite a × (a.end ≡ None)) xs gone k d lt
        (not_kept _ (filter_passes (λ a. not (keep a)) xs k d lt))

    writes : All IsWrite more
    writes k d lt = (each k d lt).0

    unfinished : All (λ a. a.end ≡ None) more
    unfinished k d lt = (each k d lt).1

-- an order in which some operations had no end yet
module _ (f : Op → Op) where
  -- the image has the act and the beginning of the operation, and its end, if it has one
  pub record IsEnded (a : Op) : Type 0 where
    pub act : (f a).act ≡ a.act
    pub begin : (f a).begin ≡ a.begin
    pub end : ((f a).end ≡ a.end) ⊎ (a.end ≡ None)

  precedes_after : (a b : Op) → IsEnded a → IsEnded b → Precedes b a → Precedes (f b) (f a)
  precedes_after a b of_a of_b p = by_end of_b.end
    where
      by_end : ((f b).end ≡ b.end) ⊎ (b.end ≡ None) → EndsBefore (f b).end (f a).begin
      by_end (inl e) = subst (λ (end : Option Moment). EndsBefore end (f a).begin) (sym e) (subst (λ (begin : Moment). EndsBefore b.end begin) (sym of_a.begin) p)
      by_end (inr e) = absurd (subst (λ (end : Option Moment). EndsBefore end a.begin) e p)

  none_before : (a : Op) (later : List Op) → IsEnded a → All IsEnded later → NonePrecedes (f a) (map f later) → NonePrecedes a later
  none_before a [] of_a all h = tt
  none_before a (b ∷ later) of_a all h =
      ((λ p. h.0 (precedes_after a b of_a (All-head IsEnded b later all) p)), none_before a later of_a (All-tail IsEnded b later all) h.1)

  keeps_before : (order : List Op) → All IsEnded order → KeepsPrecedence (map f order) → KeepsPrecedence order
  keeps_before [] all h = tt
  keeps_before (a ∷ later) all h =
      let rest = All-tail IsEnded a later all in
      (none_before a later (All-head IsEnded a later all) rest h.0, keeps_before later rest h.1)

  reads_before : (value : Value) (order : List Op) → All IsEnded order → ReadsNearest value (map f order) → ReadsNearest value order
  reads_before value [] all h = tt
  reads_before value (a ∷ later) all h =
      let same = (All-head IsEnded a later all).act in (
        subst (Finds value) same h.0,
        reads_before (value_after value a.act) later (All-tail IsEnded a later all) (subst (λ (act : Act). ReadsNearest (value_after value act) (map f later)) same h.1),
      )

  -- where some operations came to have ends, they were ordered before
  pub ordered_before : (initial : Value) (xs : List Op) → All IsEnded xs → IsOrdered initial (map f xs) → IsOrdered initial xs
  ordered_before initial xs ended (order, moved, keeps, reads) =
      let (zs, again, image) = permuted_before f xs order moved in
      let all : All IsEnded zs = All-permutation IsEnded xs zs again ended in
      (zs, again, keeps_before zs all (subst KeepsPrecedence (sym image) keeps), reads_before initial zs all (subst (ReadsNearest initial) (sym image) reads))

-- from a value that no read of the order returns, another value may be the initial one
from_another : (initial other : Value) (order : List Op) → All (λ a. IsWrite a ⊎ (value_of a.act ≢ initial)) order → ReadsNearest initial order → ReadsNearest other order
from_another initial other [] all reads = tt
from_another initial other (a ∷ later) all reads = by_act a.act (All-head (λ a. IsWrite a ⊎ (value_of a.act ≢ initial)) a later all) reads.0 reads.1
  where
    by_act : (act : Act) → (is_write_act act ≡ true) ⊎ (value_of act ≢ initial) → Finds initial act → ReadsNearest (value_after initial act) later → Finds other act × ReadsNearest (value_after other act) later
    by_act (Write v) h finds rest = (tt, rest)
    by_act (Read v) (inl t) finds rest = absurd (cc)
    by_act (Read v) (inr n) finds rest = absurd (n finds)

pub ordered_from_another : (initial other : Value) (xs : List Op) → All (λ a. IsWrite a ⊎ (value_of a.act ≢ initial)) xs → IsOrdered initial xs → IsOrdered other xs
ordered_from_another initial other xs all (order, moved, keeps, reads) =
    (order, moved, keeps, from_another initial other order (All-permutation (λ a. IsWrite a ⊎ (value_of a.act ≢ initial)) xs order moved all) reads)

-- an arrangement is an order of the judged operations
pub ordered_from : (claim : ClaimModel) (ops : List Op) → IsArranged claim ops → IsOrdered claim.initial (judged ops)
ordered_from claim ops (order, arranges) = (order, arranges.each_once, arranges.keeps, arranges.reads)

pub arranged_from : (claim : ClaimModel) (ops : List Op) → IsOrdered claim.initial (judged ops) → IsArranged claim ops
arranged_from claim ops (order, moved, keeps, reads) = (order, record { each_once = moved; keeps = keeps; reads = reads })
