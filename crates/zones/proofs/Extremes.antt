-- What the members of a cluster that end first and begin last say of its zone; and the write of a value.
use Rattle.std.proofs.Common.{◌≡◌, ◌≢◌, ◌⊎◌, inl, inr, true, false, List, Option, Some, None, sym, ◌∙◌, subst}
use Rattle.std.specs.Prelude.{Contains, IsSomeAnd}
use Rattle.std.proofs.lemmas.Bool.{both_ways}
use Rattle.std.proofs.lemmas.List.Elements.{All-contains}
use Rattle.intervals.specs.declared.operation.Op.{Op}
use Rattle.intervals.specs.declared.operation.Value.{Value}
use Rattle.intervals.specs.Operation.{same_value}
use Rattle.zone_tree.specs.declared.edge.Edge.{Edge}
use Rattle.zone_tree.specs.declared.edge.Edge.TheVariants.{Before, At, Never}
use Rattle.zone_tree.specs.Edge.{ComesBefore}
use Rattle.zone_tree.specs.declared.zone.Zone.{Zone}
use Rattle.zones.specs.declared.crossing.Crossing.{Crossing}
use Rattle.zones.specs.Cluster.{cluster_of, greatest_begin_of}
use Rattle.zones.specs.Crossing.{AreExtremes, HasFirstConflictFrom, HasGreatestBegin, IsFirstCrossingFrom}
use Rattle.zones.specs.Members.{IsLastToBegin}
use Rattle.zones.specs.Zoned.{MayStart, is_that}
use Rattle.zones.proofs.Members.{Decides-same_value}
use Rattle.zones.proofs.EdgeOrder.{AtMost, at_most_both, before_all}
use Rattle.zones.proofs.Cluster.{member_of, greatest_at_least, greatest_of_one}

pub not_initial : (initial v : Value) → same_value initial v ≡ false → v ≢ initial
not_initial initial v other e = both_ways (same_value initial v) other ((Decides-same_value initial v).1 (sym e))

pub may_not_start : (initial : Option Value) (start v : Value) → MayStart initial start v → is_that initial v ≡ false → v ≢ start
may_not_start None start v may other = may
may_not_start (Some initial) start v may other = λ e. not_initial initial v other (e ∙ may)

pub may_start : (initial : Option Value) (start v : Value) → MayStart initial start v → is_that initial v ≡ true → v ≡ start
may_start None start v may is = absurd (cc)
may_start (Some initial) start v may is = sym (may ∙ (Decides-same_value initial v).0 is)

module _ (initial : Value) (ops : List Op) (v : Value) (op : Op) where
  pub last_has_greatest : IsLastToBegin ops v op → At op.begin ≡ greatest_begin_of initial ops v
  last_has_greatest is =
      at_most_both (At op.begin) (greatest_begin_of initial ops v)
      (greatest_at_least initial ops v op (member_of initial ops v op is.member))
      (by_cases (greatest_of_one initial ops v))
    where
      by_cases : (greatest_begin_of initial ops v ≡ Before) ⊎ ((o : Op) × Contains (cluster_of ops v) o × (At o.begin ≡ greatest_begin_of initial ops v)) → AtMost (greatest_begin_of initial ops v) (At op.begin)
      by_cases (inl e) = subst (λ (x : Edge). AtMost x (At op.begin)) (sym e) (before_all (At op.begin))
      by_cases (inr (o, h, e)) = subst (λ (x : Edge). AtMost x (At op.begin)) e (All-contains (λ other. ¬ ComesBefore (At op.begin) (At other.begin)) (cluster_of ops v) o is.last h)

pub greatest_found : (initial : Value) (ops : List Op) (v : Value) (op : Op) → IsLastToBegin ops v op → HasGreatestBegin initial ops v op
greatest_found initial ops v op is = (is.member, last_has_greatest initial ops v op is)

pub not_never : (a b : Edge) → ComesBefore a b → a ≢ Never
not_never a b p e = absurd (let q : ComesBefore Never b = subst (λ (x : Edge). ComesBefore x b) e p in cc)

-- the extremes of the first conflict are the first crossing
pub first_crossing : (initial : Option Value) (start : Value) (ops : List Op) (first second : Zone) (found : Option Crossing) → HasFirstConflictFrom initial ops first second
    → IsSomeAnd found (λ x. AreExtremes start ops first.value second.value x.a x.b x.c x.d)
    → IsSomeAnd found (λ x. IsFirstCrossingFrom initial start ops x.a x.b x.c x.d)
first_crossing initial start ops first second None h extremes = extremes
first_crossing initial start ops first second (Some x) h extremes = record { first = first; second = second; conflict = h; extremes = extremes }
