-- The texts that operations lend decide no verdict.
use Rattle.std.proofs.Common.{◌≡◌, ◌≢◌, ◌↔◌, ℕ, Bool, true, false, ◌<◌, List, [], ◌∷◌, map, length, get_or, set, swap, IsPermutation, refl, sym, ap, subst, ◌∙◌, arith}
use Rattle.std.specs.List.{AllByRecursion}
use Rattle.std.proofs.lemmas.List.Elements.{All-nil, All-cons, All-head, All-tail}
use Rattle.std.proofs.lemmas.List.{map-set, get_or-map, length-map}
use Rattle.std.proofs.lemmas.List.Sorted.{IsPermutation-refl, IsPermutation-trans, IsPermutation-swap, IsPermutation-map, IsPermutation-keeps}
use Rattle.intervals.specs.declared.operation.Op.{Op}
use Rattle.intervals.specs.declared.operation.Value.{Value}
use Rattle.intervals.specs.declared.edit.Edit.{Edit}
use Rattle.intervals.specs.declared.claim.Kind.{Kind}
use Rattle.intervals.specs.declared.claim.Kind.TheVariants.{Safe, Regular, Atomic}
use Rattle.intervals.specs.Terms.{ClaimModel, RegisterState, unedited}
use Rattle.intervals.specs.Operation.{IsWrite, Precedes, judged, value_of}
use Rattle.intervals.specs.Bare.{bare, bare_edit, bare_held}
use Rattle.intervals.specs.Refusal.{standing}
use Rattle.intervals.specs.Kind.{KeepsPrecedence, ReadsNearest, value_after, HasNoWrite, IsArranged, IsAtomicWhere, Keeps, Holds}
use Rattle.intervals.proofs.JudgedAlone.{is_judged}
use Rattle.intervals.proofs.Texts.{filter_bare, IsSafe-bare, IsRegular-bare, standing_alike}

-- a permutation of the images is the image of a permutation
module _ {X Y : Type 0} (f : X → Y) where
  map_swap : (xs : List X) (i j : ℕ) → i < length xs → j < length xs → map f (swap xs i j) ≡ swap (map f xs) i j
  map_swap [] i j p q = refl
  map_swap (d ∷ ys) i j p q =
      let xs = d ∷ ys in
      map-set f (set xs i (get_or xs j d)) j (get_or xs i d)
      ∙ (λ t. set (map-set f xs i (get_or xs j d) t) j (f (get_or xs i d)))
      ∙ sym (λ t. set (set (map f xs) i (get_or-map f xs j d (f d) q t)) j (get_or-map f xs i d (f d) p t))

  abbrev IsImage : List X → List Y → Type 0
  IsImage xs l = (zs : List X) × IsPermutation xs zs × (map f zs ≡ l)

  swapped : (xs : List X) (l : List Y) (i j : ℕ) → i < length l → j < length l → IsImage xs l → IsImage xs (swap l i j)
  swapped xs l i j p q h =
      let zs = h.0 in
      let long : length l ≡ length zs = ap length (sym h.2) ∙ length-map zs f in
      let i_in : i < length zs = omega arith in
      let j_in : j < length zs = omega arith in (
        swap zs i j,
        IsPermutation-trans xs zs (swap zs i j) h.1 (IsPermutation-swap zs (swap zs i j) i j i_in j_in refl),
        map_swap zs i j i_in j_in ∙ ap (λ (k : List Y). swap k i j) h.2,
      )

  permuted_before : (xs : List X) (ys : List Y) → IsPermutation (map f xs) ys → IsImage xs ys
  permuted_before xs ys = IsPermutation-keeps (map f xs) (IsImage xs) (xs, IsPermutation-refl xs, refl) (swapped xs) ys

judged_bare : (ops : List Op) → judged (map bare ops) ≡ map bare (judged ops)
judged_bare = filter_bare is_judged is_judged (λ op. refl)

none_before : (a : Op) (later : List Op) → AllByRecursion (λ b. ¬ Precedes b a) later → AllByRecursion (λ b. ¬ Precedes b a) (map bare later)
none_before a [] h = tt
none_before a (b ∷ later) h = (h.0, none_before a later h.1)

none_before_back : (a : Op) (later : List Op) → AllByRecursion (λ b. ¬ Precedes b a) (map bare later) → AllByRecursion (λ b. ¬ Precedes b a) later
none_before_back a [] h = tt
none_before_back a (b ∷ later) h = (h.0, none_before_back a later h.1)

keeps_bare : (order : List Op) → KeepsPrecedence order → KeepsPrecedence (map bare order)
keeps_bare [] h = tt
keeps_bare (a ∷ later) h = (none_before a later h.0, keeps_bare later h.1)

keeps_back : (order : List Op) → KeepsPrecedence (map bare order) → KeepsPrecedence order
keeps_back [] h = tt
keeps_back (a ∷ later) h = (none_before_back a later h.0, keeps_back later h.1)

reads_bare : (value : Value) (order : List Op) → ReadsNearest value order → ReadsNearest value (map bare order)
reads_bare value [] h = tt
reads_bare value (a ∷ later) h = (h.0, reads_bare (value_after value a.act) later h.1)

reads_back : (value : Value) (order : List Op) → ReadsNearest value (map bare order) → ReadsNearest value order
reads_back value [] h = tt
reads_back value (a ∷ later) h = (h.0, reads_back (value_after value a.act) later h.1)

IsArranged-bare : (claim : ClaimModel) (ops : List Op) → IsArranged claim ops → IsArranged claim (map bare ops)
IsArranged-bare claim ops h = (
  map bare h.0,
  record {
    each_once = subst (λ (l : List Op). IsPermutation l (map bare h.0)) (sym (judged_bare ops)) (IsPermutation-map bare (judged ops) h.0 h.1.each_once);
    keeps = keeps_bare h.0 h.1.keeps;
    reads = reads_bare claim.initial h.0 h.1.reads;
  },
)

IsArranged-back : (claim : ClaimModel) (ops : List Op) → IsArranged claim (map bare ops) → IsArranged claim ops
IsArranged-back claim ops h =
    let image = permuted_before bare (judged ops) h.0 (subst (λ (l : List Op). IsPermutation l h.0) (judged_bare ops) h.1.each_once) in (
      image.0,
      record {
        each_once = image.1;
        keeps = keeps_back image.0 (subst KeepsPrecedence (sym image.2) h.1.keeps);
        reads = reads_back claim.initial image.0 (subst (ReadsNearest claim.initial) (sym image.2) h.1.reads);
      },
    )

no_write_bare : (ops : List Op) (value : Value) → HasNoWrite ops value → HasNoWrite (map bare ops) value
no_write_bare [] value none = All-nil _
no_write_bare (op ∷ ops) value none =
    All-cons (λ w. IsWrite w → value_of w.act ≢ value) (bare op) (map bare ops) (All-head (λ w. IsWrite w → value_of w.act ≢ value) op ops none)
    (no_write_bare ops value (All-tail (λ w. IsWrite w → value_of w.act ≢ value) op ops none))

no_write_back : (ops : List Op) (value : Value) → HasNoWrite (map bare ops) value → HasNoWrite ops value
no_write_back [] value none = All-nil _
no_write_back (op ∷ ops) value none =
    All-cons (λ w. IsWrite w → value_of w.act ≢ value) op ops (All-head (λ w. IsWrite w → value_of w.act ≢ value) (bare op) (map bare ops) none)
    (no_write_back ops value (All-tail (λ w. IsWrite w → value_of w.act ≢ value) (bare op) (map bare ops) none))

atomic_both : (known : Bool) (claim : ClaimModel) (ops : List Op) → IsAtomicWhere known claim (map bare ops) ↔ IsAtomicWhere known claim ops
atomic_both true claim ops = (IsArranged-back claim ops, IsArranged-bare claim ops)
atomic_both false claim ops = (
  (λ h. (h.0, no_write_back ops h.0 h.1, IsArranged-back (record claim { initial = h.0 }) ops h.2)),
  (λ h. (h.0, no_write_bare ops h.0 h.1, IsArranged-bare (record claim { initial = h.0 }) ops h.2)),
)

keeps_both : (kind : Kind) (claim : ClaimModel) (ops : List Op) → Keeps kind claim (map bare ops) ↔ Keeps kind claim ops
keeps_both Safe claim ops = IsSafe-bare claim ops
keeps_both Regular claim ops = IsRegular-bare claim ops
keeps_both Atomic claim ops = atomic_both claim.known claim ops

pub Holds-bare : (held : RegisterState) → Holds (bare_held held) ↔ Holds held
Holds-bare held = keeps_both held.claim.kind held.claim held.ops

pub standing_bare : (claim : ClaimModel) (edits : List Edit) → bare_held (standing (unedited claim) (map bare_edit edits)) ≡ bare_held (standing (unedited claim) edits)
standing_bare claim edits = standing_alike (unedited claim) (unedited claim) edits refl

-- of two states that differ in texts alone, where one register holds the other does
holds_alike : (one other : RegisterState) → bare_held one ≡ bare_held other → Holds one → Holds other
holds_alike one other e h = (Holds-bare other).0 (subst Holds e ((Holds-bare one).1 h))

length_alike : (xs ys : List Op) → map bare xs ≡ map bare ys → length xs ≡ length ys
length_alike xs ys e = sym (length-map xs bare) ∙ ap length e ∙ length-map ys bare

pub decided_alike : (claim : ClaimModel) (edits others : List Edit) → map bare_edit edits ≡ map bare_edit others
    → let one = standing (unedited claim) edits in let other = standing (unedited claim) others in
    (one.claim ≡ other.claim) × (Holds one ↔ Holds other) × (length one.ops ≡ length other.ops)
decided_alike claim edits others e =
    let one = standing (unedited claim) edits in
    let other = standing (unedited claim) others in
    let same : bare_held one ≡ bare_held other = sym (standing_bare claim edits) ∙ ap (λ (l : List Edit). bare_held (standing (unedited claim) l)) e ∙ standing_bare claim others in (
      ap (λ (held : RegisterState). held.claim) same,
      (holds_alike one other same, holds_alike other one (sym same)),
      length_alike one.ops other.ops (ap (λ (held : RegisterState). held.ops) same),
    )
