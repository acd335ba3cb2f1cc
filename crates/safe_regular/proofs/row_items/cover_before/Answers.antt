use Rattle.std.proofs.Common.{◌≡◌, inl, Option, Some, rules, refl, subst}
use Rattle.intervals.specs.declared.operation.Op.{Op}
use Rattle.intervals.specs.Terms.{terms_of}
use Rattle.safe_regular.specs.RowItems.{IsInFront, IsOperationItem}
use Rattle.safe_regular.proofs.row_items.cover_before.Goals as goal

same_in : {X : Type 0} (a b : X) → Some a ≡ Some b → a ≡ b
same_in a b e = cc

own : (op : Option Op) (p o : Op) → op ≡ Some p → op ≡ Some o → p ≡ o
own op p o f e = cc

pub returns : goal.returns
returns c are ids =
    let claim = terms_of c.args.claim.now in
    let ops = c.args.table.now.ops in
    let found = c.cover_in_front.result in
    let own_op : c.args.op.now ≡ Some c.in-Some.op = search rules in
    let (found_is, front) = c.cover_in_front.ensures are ids in
    record {
      is = λ x e. subst (IsOperationItem claim ops) (same_in found x e) found_is;
      there = λ o e writes rows. inl (found, refl, subst (λ (p : Op). IsInFront claim ops p.begin.0 found) (own c.args.op.now c.in-Some.op o own_op e) front);
    }
