-- Ids stay distinct under edits that are accepted, and an operation that stands is found by its id.
use Rattle.std.proofs.Common.{◌≡◌, ◌==◌, ℕ, zero, suc, ◌<◌, Bool, true, false, not, List, [], ◌∷◌, ◌++◌, length, Option, Some, None, Decides, refl, sym, ap, ◌∙◌, cond, subst, arith}
use Rattle.std.specs.Prelude.{All, map, filter, Contains, is_some, slice_index_or}
use Rattle.std.proofs.lemmas.Bool.Decides.{Decides-and, Decides-eqb}
use Rattle.std.specs.List.{AllPairs}
use Rattle.std.proofs.lemmas.List.Elements.{All-cons, All-nil}
use Rattle.std.proofs.lemmas.List.Kept.{AllPairs-cons}
use Rattle.intervals.specs.declared.operation.Op.{Op}
use Rattle.intervals.specs.declared.operation.OpId.{OpId}
use Rattle.intervals.specs.declared.edit.Change.{Change}
use Rattle.intervals.specs.declared.edit.Edit.{Edit}
use Rattle.intervals.specs.declared.edit.Edit.TheVariants.{Append, Amend, Withdraw, Claim}
use Rattle.intervals.specs.declared.refusal.Refusal.{Refusal}
use Rattle.intervals.specs.declared.refusal.Refusal.TheVariants.{OpTaken}
use Rattle.intervals.specs.Operation.{same_id}
use Rattle.intervals.specs.Edit.{op_of, found_by, has_id, amended, changed, edited}
use Rattle.intervals.specs.Refusal.{first_refusal, moments_refusal}
use Rattle.intervals.specs.Standing.{HasDistinctIds}
use Rattle.intervals.proofs.Found.{find-Some}

abbrev id_of : ℕ → ℕ → OpId
id_of feeder event = record { feeder = feeder; event = event }

-- ids that agree in both numbers are equal
same_numbers : (f e g h : ℕ) → f ≡ g → e ≡ h → id_of f e ≡ id_of g h
same_numbers f e g h p q = rw (p, q) refl

Decides-same_id : (a b : OpId) → Decides (same_id a b) ((a.feeder ≡ b.feeder) × (a.event ≡ b.event))
Decides-same_id a b = Decides-and (a.feeder == b.feeder) (a.event == b.event) (Decides-eqb a.feeder b.feeder) (Decides-eqb a.event b.event)

-- the test for equal ids decides whether they are equal
pub Decides-same_id_is : (a b : OpId) → Decides (same_id a b) (a ≡ b)
Decides-same_id_is a b = (
  (λ t. let h = (Decides-same_id a b).0 t in same_numbers a.feeder a.event b.feeder b.event h.0 h.1),
  (λ e. (Decides-same_id a b).1 (ap (λ (i : OpId). i.feeder) e, ap (λ (i : OpId). i.event) e)),
)

pub same_id-refl : (a : OpId) → same_id a a ≡ true
same_id-refl a = (Decides-same_id a a).1 (refl, refl)

pub same_id-sym : (a b : OpId) → same_id a b ≡ true → same_id b a ≡ true
same_id-sym a b t = let h = (Decides-same_id a b).0 t in (Decides-same_id b a).1 (sym h.0, sym h.1)

pub same_id-trans : (a b c : OpId) → same_id a b ≡ true → same_id b c ≡ true → same_id a c ≡ true
same_id-trans a b c p q = let h = (Decides-same_id a b).0 p in let g = (Decides-same_id b c).0 q in (Decides-same_id a c).1 (h.0 ∙ g.0, h.1 ∙ g.1)

-- an id that differs from one of two equal ids differs from the other
pub not_same_id : (a b c : OpId) → same_id a b ≡ false → same_id c b ≡ true → same_id a c ≡ false
not_same_id a b c f s = by_cases (same_id a c) refl
  where
    by_cases : (t : Bool) → same_id a c ≡ t → t ≡ false
    by_cases false p = refl
    by_cases true p = absurd (let q = same_id-trans a c b p s in cc)

pub other_way : (a b : OpId) → same_id a b ≡ false → same_id b a ≡ false
other_way a b e = by_cases (same_id b a) refl
  where
    by_cases : (t : Bool) → same_id b a ≡ t → t ≡ false
    by_cases false p = refl
    by_cases true p = absurd (let q = same_id-sym b a p in cc)

pub found_alike : (ops : List Op) (a b : OpId) → same_id a b ≡ true → op_of ops a ≡ op_of ops b
found_alike ops a b t = let h = (Decides-same_id a b).0 t in ap (op_of ops) (same_numbers a.feeder a.event b.feeder b.event h.0 h.1)

-- where no operation of a list has an id, its first one has another
not_first : (a : Op) (ops : List Op) (id : OpId) → op_of (a ∷ ops) id ≡ None → same_id a.id id ≡ false
not_first a ops id = by_cases (same_id a.id id)
  where
    by_cases : (t : Bool) → cond t (Some a) (op_of ops id) ≡ None → t ≡ false
    by_cases false e = refl
    by_cases true e = absurd (cc)

not_later : (a : Op) (ops : List Op) (id : OpId) → op_of (a ∷ ops) id ≡ None → op_of ops id ≡ None
not_later a ops id = by_cases (same_id a.id id)
  where
    by_cases : (t : Bool) → cond t (Some a) (op_of ops id) ≡ None → op_of ops id ≡ None
    by_cases false e = e
    by_cases true e = absurd (cc)

pub not_found : (a : Op) (ops : List Op) (id : OpId) → same_id a.id id ≡ false → op_of ops id ≡ None → op_of (a ∷ ops) id ≡ None
not_found a ops id f e = rw f e

not_among_more : (ops : List Op) (op : Op) (id : OpId) → op_of ops id ≡ None → same_id op.id id ≡ false → op_of (ops ++ op ∷ []) id ≡ None
not_among_more [] op id e f = not_found op [] id f refl
not_among_more (a ∷ ops) op id e f = not_found a (ops ++ op ∷ []) id (not_first a ops id e) (not_among_more ops op id (not_later a ops id e) f)

-- where no operation is found by an id, each has another
pub none_of : (ops : List Op) (id : OpId) → op_of ops id ≡ None → All (λ op. same_id op.id id ≡ false) ops
none_of [] id e = All-nil _
none_of (a ∷ ops) id e = All-cons (λ op. same_id op.id id ≡ false) a ops (not_first a ops id e) (none_of ops id (not_later a ops id e))

-- where ids are distinct, those of each two operations are
pub distinct_pairs : (ops : List Op) → HasDistinctIds ops → AllPairs (λ a b. same_id a.id b.id ≡ false) ops
distinct_pairs [] d = λ i j a lt lt'. absurd (omega arith)
distinct_pairs (a ∷ ops) d =
    AllPairs-cons (λ a b. same_id a.id b.id ≡ false) a ops (λ k b lt. other_way _ a.id (none_of ops a.id d.0 k b lt)) (distinct_pairs ops d.1)

distinct_appended : (ops : List Op) (op : Op) → HasDistinctIds ops → op_of ops op.id ≡ None → HasDistinctIds (ops ++ op ∷ [])
distinct_appended [] op d e = (refl, tt)
distinct_appended (a ∷ ops) op d e =
    (not_among_more ops op a.id d.0 (other_way a.id op.id (not_first a ops op.id e)), distinct_appended ops op d.1 (not_later a ops op.id e))

amended_id : (id : OpId) (change : Change) (op : Op) → (amended id change op).id ≡ op.id
amended_id id change op = by_cases (same_id op.id id)
  where
    by_cases : (t : Bool) → (cond t (changed op change) op).id ≡ op.id
    by_cases true = refl
    by_cases false = refl

not_among_amended : (ops : List Op) (id : OpId) (change : Change) (x : OpId) → op_of ops x ≡ None → op_of (map (amended id change) ops) x ≡ None
not_among_amended [] id change x e = refl
not_among_amended (a ∷ ops) id change x e =
    not_found (amended id change a) (map (amended id change) ops) x
    (ap (λ (i : OpId). same_id i x) (amended_id id change a) ∙ not_first a ops x e)
    (not_among_amended ops id change x (not_later a ops x e))

distinct_amended : (ops : List Op) (id : OpId) (change : Change) → HasDistinctIds ops → HasDistinctIds (map (amended id change) ops)
distinct_amended [] id change d = tt
distinct_amended (a ∷ ops) id change d =
    (subst (λ (i : OpId). op_of (map (amended id change) ops) i ≡ None) (sym (amended_id id change a)) (not_among_amended ops id change a.id d.0), distinct_amended ops id change d.1)

not_among_some : (keep : Op → Bool) (ops : List Op) (x : OpId) → op_of ops x ≡ None → op_of (filter keep ops) x ≡ None
not_among_some keep [] x e = refl
not_among_some keep (a ∷ ops) x e = by_cases (keep a) (not_among_some keep ops x (not_later a ops x e))
  where
    by_cases : (k : Bool) → op_of (filter keep ops) x ≡ None → op_of (cond k (a ∷ filter keep ops) (filter keep ops)) x ≡ None
    by_cases true rest = not_found a (filter keep ops) x (not_first a ops x e) rest
    by_cases false rest = rest

distinct_some : (keep : Op → Bool) (ops : List Op) → HasDistinctIds ops → HasDistinctIds (filter keep ops)
distinct_some keep [] d = tt
distinct_some keep (a ∷ ops) d = by_cases (keep a) (distinct_some keep ops d.1)
  where
    by_cases : (k : Bool) → HasDistinctIds (filter keep ops) → HasDistinctIds (cond k (a ∷ filter keep ops) (filter keep ops))
    by_cases true rest = (not_among_some keep ops a.id d.0, rest)
    by_cases false rest = rest

-- an append that is accepted brings a new id
pub not_taken : (found : Option Op) (other : Option Refusal) → cond (is_some found) (Some OpTaken) other ≡ None → found ≡ None
not_taken None other e = refl
not_taken (Some op) other e = absurd (cc)

pub distinct_edited : (ops : List Op) (edit : Edit) → HasDistinctIds ops → first_refusal ops edit ≡ None → HasDistinctIds (edited ops edit)
distinct_edited ops (Append op) d e = distinct_appended ops op d (not_taken (op_of ops op.id) (moments_refusal ops op) e)
distinct_edited ops (Amend id change) d e = distinct_amended ops id change d
distinct_edited ops (Withdraw id) d e = distinct_some (λ op. not (same_id op.id id)) ops d
distinct_edited ops (Claim kind) d e = d

found_first : (a : Op) (ops : List Op) → op_of (a ∷ ops) a.id ≡ Some a
found_first a ops = rw (same_id-refl a.id) refl

found_later : (a : Op) (ops : List Op) (op : Op) → op_of ops a.id ≡ None → op_of ops op.id ≡ Some op → op_of (a ∷ ops) op.id ≡ Some op
found_later a ops op none some = by_cases (same_id a.id op.id) refl
  where
    by_cases : (t : Bool) → same_id a.id op.id ≡ t → cond t (Some a) (op_of ops op.id) ≡ Some op
    by_cases false p = some
    by_cases true p = absurd (let q = found_alike ops a.id op.id p in cc)

found_at : (ops : List Op) (op : Op) (k : ℕ) → HasDistinctIds ops → k < length ops → slice_index_or ops k op ≡ op → op_of ops op.id ≡ Some op
found_at [] op k d lt e = absurd (omega arith)
found_at (a ∷ ops) op zero d lt e = subst (λ (o : Op). op_of (a ∷ ops) o.id ≡ Some o) e (found_first a ops)
found_at (a ∷ ops) op (suc k) d lt e = found_later a ops op d.0 (found_at ops op k d.1 (omega arith) e)

pub found_by_id : (ops : List Op) (op : Op) → HasDistinctIds ops → Contains ops op → op_of ops op.id ≡ Some op
found_by_id ops op d h = found_at ops op h.0 d h.1 h.2

-- where ids are distinct, two operations of one id are equal
pub one_of_id : (ops : List Op) → HasDistinctIds ops → (a b : Op) → Contains ops a → Contains ops b → a.id ≡ b.id → a ≡ b
one_of_id ops distinct a b sa sb e = let p = found_by_id ops a distinct sa in let q = found_by_id ops b distinct sb in let r = ap (op_of ops) e in cc

-- an operation that is found by an optional id stands and has it
pub found_present : (ops : List Op) (id : Option OpId) (x : Op) → found_by ops id ≡ Some x → Contains ops x × (has_id id x ≡ true)
found_present ops None x e = absurd (cc)
found_present ops (Some id) x e = find-Some (λ op. same_id op.id id) ops x e

-- an operation that stands and has an optional id is found by it
pub found_again : (ops : List Op) (id : Option OpId) (x : Op) → HasDistinctIds ops → Contains ops x → has_id id x ≡ true → found_by ops id ≡ Some x
found_again ops None x distinct h t = absurd (cc)
found_again ops (Some id) x distinct h t = sym (found_alike ops x.id id t) ∙ found_by_id ops x distinct h
