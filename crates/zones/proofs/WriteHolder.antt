-- Who has the value of a write already, where no two writes have one value.
use Rattle.std.proofs.Common.{◌≡◌, ◌≢◌, Bool, true, false, not, List, [], ◌∷◌, Option, Some, None, refl, sym, ap, ◌∙◌, cond}
use Rattle.std.specs.Prelude.{All, Contains, IsTrue, find, option_map}
use Rattle.std.proofs.lemmas.Bool.{both_ways}
use Rattle.std.proofs.lemmas.List.Elements.{All-contains}
use Rattle.intervals.specs.declared.operation.Op.{Op}
use Rattle.intervals.specs.declared.claim.Holder.{Holder}
use Rattle.intervals.specs.declared.claim.Holder.TheVariants as holders
use Rattle.intervals.specs.declared.claim.Kind.{Kind}
use Rattle.intervals.specs.declared.claim.Kind.TheVariants.{Atomic}
use Rattle.intervals.specs.declared.refusal.Refusal.{Refusal}
use Rattle.intervals.specs.declared.refusal.Refusal.TheVariants.{NotAWriter, ValueTaken, OutOfDomain}
use Rattle.intervals.specs.Operation.{IsWrite, is_write, same_id, value_of}
use Rattle.intervals.specs.Refusal.{first_present, refused_if, as_holder, holder_of, is_holder, is_in_domain, is_initial, kind_refusal, may_write, value_refusal, write_refusal}
use Rattle.intervals.specs.Terms.{ClaimModel}
use Rattle.intervals.proofs.Found.{find-None, find-none, find-Some}
use Rattle.intervals.proofs.Holders.{Decides-is_holder}
use Rattle.intervals.proofs.Ids.{Decides-same_id_is}
use Rattle.zones.specs.Members.{IsTheWriteAt}
use Rattle.zones.specs.Refused.{refusal_beside}
use Rattle.zones.specs.Zoned.{AreManyWriters}
use Rattle.zones.proofs.Edited.{one_value}
use Rattle.zones.proofs.Members.{all_from}

module _ (claim : ClaimModel) (ops : List Op) (op : Op) where
  pub none_holds : All (λ w. IsWrite w → value_of w.act ≢ value_of op.act) ops → find (is_holder op) ops ≡ None
  none_holds none = find-none (is_holder op) ops (all_from (λ x. ¬ IsTrue (is_holder op x)) ops (λ x h t.
      let (n, w, e) = (Decides-is_holder op x).0 t in All-contains (λ w. IsWrite w → value_of w.act ≢ value_of op.act) ops x none h w e))

  module _ (apart : AreManyWriters claim ops) (write : Op) (is : IsTheWriteAt ops (value_of op.act) write) where
    one_holder : (x : Op) → Contains ops x → IsTrue (is_holder op x) → (x ≡ write) × (x.id ≢ op.id)
    one_holder x h t = let (n, w, e) = (Decides-is_holder op x).0 t in (one_value claim ops apart x write h is.present w is.write (e ∙ sym is.same), n)

    pub itself_holds : same_id write.id op.id ≡ true → find (is_holder op) ops ≡ None
    itself_holds s = find-none (is_holder op) ops (all_from (λ x. ¬ IsTrue (is_holder op x)) ops (λ x h t.
        let (e, n) = one_holder x h t in n (ap (λ (o : Op). o.id) e ∙ (Decides-same_id_is write.id op.id).0 s)))

    pub other_holds : same_id write.id op.id ≡ false → find (is_holder op) ops ≡ Some write
    other_holds s = by_found (find (is_holder op) ops) refl
      where
        holds : is_holder op write ≡ true
        holds = (Decides-is_holder op write).1 ((λ e. both_ways (same_id write.id op.id) s ((Decides-same_id_is write.id op.id).1 e)), is.write, is.same)

        by_found : (found : Option Op) → find (is_holder op) ops ≡ found → found ≡ Some write
        by_found None e = absurd (both_ways (is_holder op write) (All-contains (λ x. is_holder op x ≡ false) ops write (find-None (is_holder op) ops e) is.present) holds)
        by_found (Some x) e = let (h, t) = find-Some (is_holder op) ops x e in ap Some (one_holder x h t).0

  -- the holder of a value that is not the initial one
  pub held_by : (found : Option Op) → is_initial claim (value_of op.act) ≡ false → found ≡ find (is_holder op) ops → holder_of claim ops op ≡ option_map as_holder found
  held_by found other is =
      ap (λ (t : Bool). cond t (Some holders.Initial) (option_map as_holder (find (is_holder op) ops))) other
      ∙ ap (option_map as_holder) (sym is)

  -- the refusal of a write by an atomic register is the one beside the holder of its value
  pub beside_is : (holder : Option Holder) → claim.kind ≡ Atomic → holder ≡ holder_of claim ops op → refusal_beside claim op holder ≡ write_refusal claim ops op
  beside_is holder atomic is =
      let kind : kind_refusal claim.kind claim ops op ≡ value_refusal claim ops op = ap (λ (k : Kind). kind_refusal k claim ops op) atomic in
      ap (λ (r : Option Refusal). cond (is_write op) (first_present (refused_if (not (may_write claim.writers op.process)) NotAWriter ∷ r ∷ refused_if (not (is_in_domain claim.domain (value_of op.act))) OutOfDomain ∷ [])) None)
      (sym (kind ∙ ap (option_map ValueTaken) (sym is)))
