-- What an accepted edit does to the judged operations.
use Rattle.std.proofs.Common.{◌≡◌, ◌≢◌, ◌⊎◌, inl, inr, Bool, true, false, not, ◌||◌, List, [], ◌∷◌, ◌++◌, Option, Some, None, refl, sym, ap, ◌∙◌, cond, subst}
use Rattle.std.specs.Prelude.{Contains, IfSome, IsTrue, is_some, map, option_map}
use Rattle.std.specs.List.{AllPairs}
use Rattle.std.proofs.lemmas.List.Elements.{All-contains, Contains-append_left, Contains-push, Contains-push_cases}
use Rattle.std.proofs.lemmas.Bool.{both_ways, not-true, not_from_false}
use Rattle.intervals.specs.declared.operation.Op.{Op}
use Rattle.intervals.specs.declared.operation.OpId.{OpId}
use Rattle.intervals.specs.declared.edit.Change.{Change}
use Rattle.intervals.specs.declared.edit.Edit.{Edit}
use Rattle.intervals.specs.declared.edit.Edit.TheVariants.{Append, Amend, Withdraw, Claim}
use Rattle.intervals.specs.declared.operation.Moment.{Moment}
use Rattle.intervals.specs.Operation.{IsWrite, is_write, same_id, judged, value_of}
use Rattle.intervals.specs.Edit.{op_of, found_by, has_id, amended, changed, edited, new_op, edit_id}
use Rattle.intervals.specs.Refusal.{first_refusal, moments_refusal, reply_to}
use Rattle.intervals.specs.Standing.{HasDistinctIds, ShareNoMoment}
use Rattle.intervals.specs.Terms.{ClaimModel, state_of}
use Rattle.intervals.specs.declared.claim.Kind.TheVariants.{Atomic}
use Rattle.intervals.proofs.Accepted.{edit_accepted}
use Rattle.intervals.proofs.Found.{find-Some}
use Rattle.intervals.proofs.Ids.{not_taken, none_of, found_alike, found_by_id, same_id-refl, found_present, found_again}
use Rattle.intervals.proofs.Claimed.{HaveOtherValues}
use Rattle.intervals.proofs.Standing.{nothing_apart, edited_apart}
use Rattle.zones.specs.Cluster.{edge_of_end}
use Rattle.zones.specs.Members.{HaveOwnPlaces, IsChange}
use Rattle.zones.specs.Zoned.{AreManyWriters, judged_part}
use Rattle.zones.proofs.Judged.{is_judged}
use Rattle.zones.proofs.Members.{in_none, contains_cases, kept, kept_present, mapped, here, there, pair_of}

-- an element of an image is the image of an element
pub from_map : {X Y : Type 0} (f : X → Y) (xs : List X) (y : Y) → Contains (map f xs) y → (x : X) × Contains xs x × (f x ≡ y)
from_map f [] y h = absurd (in_none y h)
from_map {X} {Y} f (a ∷ xs) y h = by_cases (contains_cases (f a) (map f xs) y h) (from_map f xs y)
  where
    by_cases : (f a ≡ y) ⊎ Contains (map f xs) y → (Contains (map f xs) y → (x : X) × Contains xs x × (f x ≡ y)) → (x : X) × Contains (a ∷ xs) x × (f x ≡ y)
    by_cases (inl e) rest = (a, here a xs, e)
    by_cases (inr k) rest = let (x, g, e) = rest k in (x, there a xs x g, e)

from_option : {X Y : Type 0} (f : X → Y) (o : Option X) (y : Y) → option_map f o ≡ Some y → (x : X) × (o ≡ Some x) × (f x ≡ y)
from_option f None y e = absurd (cc)
from_option f (Some x) y e = (x, refl, (cc))

if_some : {X : Type 0} (P : X → Type 0) (o : Option X) → ((x : X) → o ≡ Some x → P x) → IfSome o P
if_some P None each = tt
if_some P (Some x) each = each x refl

-- an amendment changes the operation of its id and no other
amended_cases : (id : OpId) (change : Change) (a : Op) → ((same_id a.id id ≡ true) × (amended id change a ≡ changed a change)) ⊎ ((same_id a.id id ≡ false) × (amended id change a ≡ a))
amended_cases id change a = by_cases (same_id a.id id)
  where
    by_cases : (t : Bool) → ((t ≡ true) × (cond t (changed a change) a ≡ changed a change)) ⊎ ((t ≡ false) × (cond t (changed a change) a ≡ a))
    by_cases true = inl (refl, refl)
    by_cases false = inr (refl, refl)

-- the operation is the new one of the edit, or one of another id
abbrev pub StandsAfter : List Op → Edit → Op → Type 0
StandsAfter ops edit x = (new_op ops edit ≡ Some x) ⊎ (Contains ops x × (has_id (edit_id edit) x ≡ false))

pub from_edited : (ops : List Op) (edit : Edit) (x : Op) → HasDistinctIds ops → first_refusal ops edit ≡ None → Contains (edited ops edit) x → StandsAfter ops edit x
from_edited ops (Append op) x d accepted h = by_cases (Contains-push_cases ops op x h)
  where
    by_cases : Contains ops x ⊎ (op ≡ x) → StandsAfter ops (Append op) x
    by_cases (inl k) = inr (k, All-contains (λ o. same_id o.id op.id ≡ false) ops x (none_of ops op.id (not_taken (op_of ops op.id) (moments_refusal ops op) accepted)) k)
    by_cases (inr e) = inl (ap Some e)
from_edited ops (Amend id change) x d accepted h = let (a, k, e) = from_map (amended id change) ops x h in by_cases a k e (amended_cases id change a)
  where
    by_cases : (a : Op) → Contains ops a → amended id change a ≡ x → ((same_id a.id id ≡ true) × (amended id change a ≡ changed a change)) ⊎ ((same_id a.id id ≡ false) × (amended id change a ≡ a)) → StandsAfter ops (Amend id change) x
    by_cases a k e (inl (s, f)) = inl (ap (option_map (λ op. changed op change)) (sym (found_alike ops a.id id s) ∙ found_by_id ops a d k) ∙ ap Some (sym f ∙ e))
    by_cases a k e (inr (s, f)) = inr (subst (λ (o : Op). Contains ops o × (same_id o.id id ≡ false)) (sym f ∙ e) (k, s))
from_edited ops (Withdraw id) x d accepted h = let (k, t) = kept_present (λ op. not (same_id op.id id)) ops x h in inr (k, not-true (same_id x.id id) t)
from_edited ops (Claim kind) x d accepted h = inr (h, refl)

pub in_edited : (ops : List Op) (edit : Edit) (x : Op) → StandsAfter ops edit x → Contains (edited ops edit) x
in_edited ops (Append op) x (inl e) = let same : op ≡ x = cc in subst (λ (o : Op). Contains (ops ++ op ∷ []) o) same (Contains-push ops op)
in_edited ops (Append op) x (inr (k, s)) = Contains-append_left ops (op ∷ []) x k
in_edited ops (Amend id change) x (inl e) = let (a, f, g) = from_option (λ op. changed op change) (op_of ops id) x e in by_cases a g (find-Some (λ op. same_id op.id id) ops a f) (amended_cases id change a)
  where
    by_cases : (a : Op) → changed a change ≡ x → Contains ops a × IsTrue (same_id a.id id) → ((same_id a.id id ≡ true) × (amended id change a ≡ changed a change)) ⊎ ((same_id a.id id ≡ false) × (amended id change a ≡ a)) → Contains (map (amended id change) ops) x
    by_cases a g (k, t) (inl (s, f)) = subst (λ (o : Op). Contains (map (amended id change) ops) o) (f ∙ g) (mapped (amended id change) ops a k)
    by_cases a g (k, t) (inr (s, f)) = absurd (both_ways (same_id a.id id) s t)
in_edited ops (Amend id change) x (inr (k, s)) = by_cases (amended_cases id change x)
  where
    by_cases : ((same_id x.id id ≡ true) × (amended id change x ≡ changed x change)) ⊎ ((same_id x.id id ≡ false) × (amended id change x ≡ x)) → Contains (map (amended id change) ops) x
    by_cases (inl (t, f)) = absurd (both_ways (same_id x.id id) s t)
    by_cases (inr (t, f)) = subst (λ (o : Op). Contains (map (amended id change) ops) o) f (mapped (amended id change) ops x k)
in_edited ops (Withdraw id) x (inl e) = absurd (cc)
in_edited ops (Withdraw id) x (inr (k, s)) = kept (λ op. not (same_id op.id id)) ops x k (not_from_false (same_id x.id id) s)
in_edited ops (Claim kind) x (inl e) = absurd (cc)
in_edited ops (Claim kind) x (inr (k, s)) = k

-- the judged part of an optional operation
part_is : (o : Option Op) (x : Op) → judged_part o ≡ Some x → (o ≡ Some x) × (is_judged x ≡ true)
part_is None x e = absurd (cc)
part_is (Some op) x e = by_cases (is_judged op) refl e
  where
    by_cases : (t : Bool) → is_judged op ≡ t → cond t (Some op) None ≡ Some x → (Some op ≡ Some x) × (is_judged x ≡ true)
    by_cases true t e = let same : op ≡ x = cc in (e, subst (λ (o : Op). is_judged o ≡ true) same t)
    by_cases false t e = absurd (cc)

part_of : (o : Option Op) (x : Op) → o ≡ Some x → is_judged x ≡ true → judged_part o ≡ Some x
part_of o x e t = ap judged_part e ∙ ap (λ (b : Bool). cond b (Some x) None) t

-- of operations with distinct ids two are one, or they are not
module _ (ops : List Op) (d : HasDistinctIds ops) where
  op_cases : (a b : Op) → Contains ops a → Contains ops b → (a ≡ b) ⊎ (a ≢ b)
  op_cases a b h k = by_cases (same_id a.id b.id) refl
    where
      by_cases : (t : Bool) → same_id a.id b.id ≡ t → (a ≡ b) ⊎ (a ≢ b)
      by_cases true t = inl (let p = found_by_id ops a d h in let q = found_by_id ops b d k in let r = found_alike ops a.id b.id t in cc)
      by_cases false t = inr (λ e. both_ways (same_id a.id b.id) t (subst (λ (o : Op). same_id a.id o.id ≡ true) e (same_id-refl a.id)))

  -- two operations between which a relation fails that holds of each two different ones are one
  pub one_by : (R : Op → Op → Type 0) → ((a b : Op) → R a b → R b a) → AllPairs R ops → (a b : Op) → Contains ops a → Contains ops b → ¬ R a b → a ≡ b
  one_by R symmetric pairs a b h k n = by_cases (op_cases a b h k)
    where
      by_cases : (a ≡ b) ⊎ (a ≢ b) → a ≡ b
      by_cases (inl e) = e
      by_cases (inr apart) = absurd (n (pair_of R symmetric ops pairs a b h k apart))

write_without_end : (w s : Bool) → (w || s) ≡ true → s ≡ false → w ≡ true
write_without_end true s e f = refl
write_without_end false s e f = absurd (both_ways s f e)

module _ (claim : ClaimModel) (ops : List Op) (apart : AreManyWriters claim ops) where
  present : (a : Op) → Contains (judged ops) a → Contains ops a
  present a h = (kept_present is_judged ops a h).0

  one_moment : (a b : Op) → Contains ops a → Contains ops b → ¬ ShareNoMoment a b → a ≡ b
  one_moment = one_by ops apart.kept.ids ShareNoMoment (λ a b none m p q. none m q p) apart.kept.moments

  pub one_value : (a b : Op) → Contains ops a → Contains ops b → IsWrite a → IsWrite b → value_of a.act ≡ value_of b.act → a ≡ b
  one_value a b h k write_a write_b e = one_by ops apart.kept.ids HaveOtherValues (λ v w other p q s. other q p (sym s)) (apart.kept.values apart.atomic).apart a b h k (λ other. other write_a write_b e)

  writes_without : (a : Op) → Contains (judged ops) a → a.end ≡ None → IsWrite a
  writes_without a h e = write_without_end (is_write a) (is_some a.end) (kept_present is_judged ops a h).1 (ap is_some e)

  pub own_places : HaveOwnPlaces ops
  own_places = record {
    by_end = λ a b h k same e. by_ends a b h k same a.end b.end refl refl e;
    by_begin = λ a b h k same e. one_moment a b (present a h) (present b k) (λ none. none b.begin (inl e) (inl refl));
    by_value = λ a b h k same write_a write_b. one_value a b (present a h) (present b k) write_a write_b same;
  }
    where
      by_ends : (a b : Op) → Contains (judged ops) a → Contains (judged ops) b → value_of a.act ≡ value_of b.act → (end other : Option Moment) → a.end ≡ end → b.end ≡ other → edge_of_end end ≡ edge_of_end other → a ≡ b
      by_ends a b h k same (Some m) (Some n) e f g = let moment : n ≡ m = cc in one_moment a b (present a h) (present b k) (λ none. none m (inr e) (inr (f ∙ ap Some moment)))
      by_ends a b h k same (Some m) None e f g = absurd (cc)
      by_ends a b h k same None (Some n) e f g = absurd (cc)
      by_ends a b h k same None None e f g = one_value a b (present a h) (present b k) (writes_without a h e) (writes_without b k f) same

pub apart_none : (claim : ClaimModel) → claim.kind ≡ Atomic → AreManyWriters claim []
apart_none claim atomic = record { atomic = atomic; kept = nothing_apart claim }

module _ (claim : ClaimModel) (ops : List Op) (edit : Edit) (apart : AreManyWriters claim ops) (accepted : reply_to (state_of claim ops) edit ≡ None) where
  pub apart_kept : AreManyWriters claim (edited ops edit)
  apart_kept = record { atomic = apart.atomic; kept = edited_apart (state_of claim ops) edit apart.kept accepted }

  abbrev old : Option Op
  old = judged_part (found_by ops (edit_id edit))

  abbrev new : Option Op
  new = judged_part (new_op ops edit)

  -- an operation that is judged after the edit is its new one, or it was judged before and has another id
  from_judged : (x : Op) → Contains (judged (edited ops edit)) x → (new ≡ Some x) ⊎ (Contains (judged ops) x × (has_id (edit_id edit) x ≡ false))
  from_judged x h = let (k, t) = kept_present is_judged (edited ops edit) x h in by_cases t (from_edited ops edit x apart.kept.ids (edit_accepted (state_of claim ops) edit accepted) k)
    where
      by_cases : is_judged x ≡ true → StandsAfter ops edit x → (new ≡ Some x) ⊎ (Contains (judged ops) x × (has_id (edit_id edit) x ≡ false))
      by_cases t (inl e) = inl (part_of (new_op ops edit) x e t)
      by_cases t (inr (k, s)) = inr (kept is_judged ops x k t, s)

  new_judged : (x : Op) → new ≡ Some x → Contains (judged (edited ops edit)) x
  new_judged x e = let (is, t) = part_is (new_op ops edit) x e in kept is_judged (edited ops edit) x (in_edited ops edit x (inl is)) t

  still_judged : (x : Op) → Contains (judged ops) x → has_id (edit_id edit) x ≡ false → Contains (judged (edited ops edit)) x
  still_judged x h s = let (k, t) = kept_present is_judged ops x h in kept is_judged (edited ops edit) x (in_edited ops edit x (inr (k, s))) t

  old_id : (x : Op) → old ≡ Some x → has_id (edit_id edit) x ≡ true
  old_id x e = (found_present ops (edit_id edit) x (part_is (found_by ops (edit_id edit)) x e).0).1

  pub change_of_edit : IsChange ops old new (edited ops edit)
  change_of_edit = record {
    goes = if_some (Contains (judged ops)) old (λ x e. let (is, t) = part_is (found_by ops (edit_id edit)) x e in kept is_judged ops x (found_present ops (edit_id edit) x is).0 t);
    comes = if_some (Contains (judged (edited ops edit))) new new_judged;
    stay = λ x h. by_id x h (has_id (edit_id edit) x) refl;
    stood = λ x h. by_cases x (from_judged x h);
    apart_before = own_places claim ops apart;
    apart_after = own_places claim (edited ops edit) apart_kept;
  }
    where
      by_id : (x : Op) → Contains (judged ops) x → (t : Bool) → has_id (edit_id edit) x ≡ t → (old ≡ Some x) ⊎ Contains (judged (edited ops edit)) x
      by_id x h true t = let (k, j) = kept_present is_judged ops x h in inl (part_of (found_by ops (edit_id edit)) x (found_again ops (edit_id edit) x apart.kept.ids k t) j)
      by_id x h false t = inr (still_judged x h t)

      by_cases : (x : Op) → (new ≡ Some x) ⊎ (Contains (judged ops) x × (has_id (edit_id edit) x ≡ false)) → (new ≡ Some x) ⊎ (Contains (judged ops) x × (old ≢ Some x))
      by_cases x (inl e) = inl e
      by_cases x (inr (k, s)) = inr (k, λ e. both_ways (has_id (edit_id edit) x) s (old_id x e))
