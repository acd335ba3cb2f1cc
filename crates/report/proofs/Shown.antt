-- What the failure rests on that a change of a verdict tells of: by the ids of its operations and their two values it is
-- what it is by the operations.
use Rattle.std.proofs.Common.{◌≡◌, ◌⊎◌, inl, inr, ◌||◌, zero, suc, Bool, true, false, List, [], ◌∷◌, cond, Option, Some, None, if◌then◌else◌, refl, sym, ap, ◌∙◌, arith}
use Rattle.std.specs.Prelude.{Contains, filter}
use Rattle.std.specs.List.{list_any}
use Rattle.intervals.specs.declared.operation.Op.{Op as AnOp}
use Rattle.intervals.specs.declared.operation.OpId.{OpId}
use Rattle.intervals.specs.declared.operation.Value.{Value}
use Rattle.intervals.specs.Operation.{value_of}
use Rattle.intervals.specs.Terms.{ClaimModel}
use Rattle.intervals.proofs.Agreement.{Decides-same_value}
use Rattle.intervals.proofs.Ids.{Decides-same_id_is}
use Rattle.pairing.specs.declared.about.About.{About}
use Rattle.zones.specs.AtFirst.{start_of}
use Rattle.zones.specs.Cluster.{cluster_of, has_value}
use Rattle.zones.specs.Crossing.{HasLeastEnd}
use Rattle.register_book.specs.declared.fault.InRole.{InRole}
use Rattle.register_book.specs.declared.fault.Role.{Role}
use Rattle.register_book.specs.declared.fault.Role.TheVariants as roles
use Rattle.register_book.specs.declared.fault.Side.{Side}
use Rattle.register_book.specs.declared.fault.Side.TheVariants.{Op, Initial}
use Rattle.register_book.specs.declared.fault.Witness.{Witness}
use Rattle.register_book.specs.declared.fault.Witness.TheVariants.{Wrong, Unwritten, Split, Early, Crossing}
use Rattle.register_book.specs.Fault.{IsWitness, id_held, ids_of, is_one, operations_in, ops_in_roles, roles_of, side_holder, side_in_role, side_op, value_at_side, values_shown}
use Rattle.shards.specs.declared.entry.VerdictChange.{VerdictChange}
use Rattle.report.specs.Doubt.{change_rests_on, is_of_operation, is_slot_of, is_unread, is_value_of, rests_on, touches, would_write}

-- ---- tests

both : (a b c d : Bool) → (a || b) || (c || d) ≡ (a || c) || (b || d)
both true b c d = refl
both false true true d = refl
both false true false d = refl
both false false c d = refl

first_of : (a b c : Bool) → (a || b) || c ≡ a || (b || c)
first_of true b c = refl
first_of false b c = refl

any_of_both : {A : Type 0} (f g : A → Bool) (list : List A) → list_any (λ a. f a || g a) list ≡ list_any f list || list_any g list
any_of_both f g [] = refl
any_of_both f g (a ∷ list) = ap (λ (b : Bool). (f a || g a) || b) (any_of_both f g list) ∙ both (f a) (g a) (list_any f list) (list_any g list)

once : (a b : Bool) → a || (a || b) ≡ a || b
once true b = refl
once false b = refl

-- four values of which the first is none or the fourth, and the third none or the second, are two
four_are_two : (a b c d : Bool) → (a ≡ false) ⊎ (a ≡ d) → (c ≡ false) ⊎ (c ≡ b) → a || (b || (c || (d || false))) ≡ b || (d || false)
four_are_two a b c d (inl none) (inl absent) = rw (none, absent) refl
four_are_two a true c d (inl none) (inr is) = rw (none) refl
four_are_two a false c d (inl none) (inr is) = rw (none, is) refl
four_are_two a true c true (inr is) other = rw (is) refl
four_are_two a true c false (inr is) other = rw (is) refl
four_are_two a false c true (inr is) other = rw (is) refl
four_are_two a false c false (inr is) (inl absent) = rw (is, absent) refl
four_are_two a false c false (inr is) (inr same) = rw (is, same) refl

three_are_two : (a b d : Bool) → (a ≡ false) ⊎ (a ≡ d) → a || (b || (d || false)) ≡ b || (d || false)
three_are_two a b d first = four_are_two a b false d first (inl refl)

-- ---- members of a cluster

passes : {A : Type 0} (test : A → Bool) (list : List A) (x : A) → Contains (filter test list) x → test x ≡ true
passes test [] x h = absurd (omega (arith, h.1))
passes test (a ∷ list) x h = by_cases (test a) refl h (passes test list x)
  where
    first : test a ≡ true → (k : Contains (a ∷ filter test list) x) → (Contains (filter test list) x → test x ≡ true) → test x ≡ true
    first t (zero, lt, e) rest = rw (← e) t
    first t (suc k, lt, e) rest = rest (k, omega arith, e)

    by_cases : (t : Bool) → test a ≡ t → Contains (cond t (a ∷ filter test list) (filter test list)) x → (Contains (filter test list) x → test x ≡ true) → test x ≡ true
    by_cases true t h rest = first t h rest
    by_cases false t h rest = rest h

value_in : (ops : List AnOp) (value : Value) (op : AnOp) → Contains (cluster_of ops value) op → value_of op.act ≡ value
value_in ops value op h = (Decides-same_value (value_of op.act) value).0 (passes (has_value value) _ op h)

module _ (about : About) where
  abbrev edits : AnOp → Bool
  edits op = is_of_operation op.id about.operation

  abbrev writes : AnOp → Bool
  writes op = would_write (value_of op.act) about.written

  abbrev slot_of : Side → Bool
  slot_of side = is_slot_of about.operation (id_held (side_holder side))

  abbrev written_at : Side → Bool
  written_at side = is_value_of about.written (value_at_side side)

  -- ---- one side of a crossing

  edits_side : (role : Role) (side : Side) (slots : List (Option InRole)) → list_any edits (ops_in_roles (side_in_role role side ∷ slots)) ≡ slot_of side || list_any edits (ops_in_roles slots)
  edits_side role (Op op) slots = refl
  edits_side role Initial slots = refl

  writes_side : (role : Role) (side : Side) (slots : List (Option InRole)) → list_any writes (ops_in_roles (side_in_role role side ∷ slots)) ≡ written_at side || list_any writes (ops_in_roles slots)
  writes_side role (Op op) slots = refl
  writes_side role Initial slots = refl

  one_slot : (b c : Side) → is_one b c ≡ true → slot_of c ≡ slot_of b
  one_slot (Op b) (Op c) one = ap (λ (id : OpId). is_of_operation id about.operation) (sym ((Decides-same_id_is b.id c.id).0 one))
  one_slot (Op b) Initial one = absurd (cc)
  one_slot Initial c one = absurd (cc)

  -- the first or the third side has no value of its own, or that of the other one of its cluster
  value_at_end : (start value : Value) (ops : List AnOp) (end : Side) (begin : AnOp) → HasLeastEnd start ops value (side_op end) → value_of begin.act ≡ value
      → (written_at end ≡ false) ⊎ (written_at end ≡ written_at (Op begin))
  value_at_end start value ops Initial begin least is = inl refl
  value_at_end start value ops (Op end) begin least is = inr (ap (λ (v : Value). would_write v about.written) (value_in ops value end least.0 ∙ sym is))

  -- ---- the operations by id

  edits_four : (a b c d : Side) (t : Bool) → is_one b c ≡ t
      → list_any edits (ops_in_roles (if t then side_in_role roles.A a ∷ side_in_role roles.Bc b ∷ None ∷ side_in_role roles.D d ∷ []
      else side_in_role roles.A a ∷ side_in_role roles.B b ∷ side_in_role roles.C c ∷ side_in_role roles.D d ∷ []))
      ≡ slot_of a || (slot_of b || (slot_of c || (slot_of d || false)))
  edits_four a b c d true one =
      edits_side roles.A a _ ∙ ap (λ (r : Bool). slot_of a || r)
      (edits_side roles.Bc b _ ∙ ap (λ (r : Bool). slot_of b || r) (edits_side roles.D d [])
      ∙ sym (ap (λ (r : Bool). slot_of b || (r || (slot_of d || false))) (one_slot b c one) ∙ once (slot_of b) (slot_of d || false)))
  edits_four a b c d false one =
      edits_side roles.A a _ ∙ ap (λ (r : Bool). slot_of a || r)
      (edits_side roles.B b _ ∙ ap (λ (r : Bool). slot_of b || r)
      (edits_side roles.C c _ ∙ ap (λ (r : Bool). slot_of c || r) (edits_side roles.D d [])))

  edits_any : (witness : Witness) → list_any edits (ops_in_roles (roles_of witness)) ≡ list_any (is_slot_of about.operation) (operations_in (ids_of witness))
  edits_any (Wrong read) = refl
  edits_any (Unwritten read) = refl
  edits_any (Split first second) = refl
  edits_any (Early read write) = refl
  edits_any (Crossing a b c d) = edits_four a b c d (is_one b c) refl

  -- ---- the operations by value

  writes_four : (a b c d : Side) (t : Bool) → (written_at a ≡ false) ⊎ (written_at a ≡ written_at d) → (written_at c ≡ false) ⊎ (written_at c ≡ written_at b)
      → list_any writes (ops_in_roles (if t then side_in_role roles.A a ∷ side_in_role roles.Bc b ∷ None ∷ side_in_role roles.D d ∷ []
      else side_in_role roles.A a ∷ side_in_role roles.B b ∷ side_in_role roles.C c ∷ side_in_role roles.D d ∷ []))
      ≡ written_at b || (written_at d || false)
  writes_four a b c d true first third =
      writes_side roles.A a _ ∙ ap (λ (r : Bool). written_at a || r)
      (writes_side roles.Bc b _ ∙ ap (λ (r : Bool). written_at b || r) (writes_side roles.D d []))
      ∙ three_are_two (written_at a) (written_at b) (written_at d) first
  writes_four a b c d false first third =
      writes_side roles.A a _ ∙ ap (λ (r : Bool). written_at a || r)
      (writes_side roles.B b _ ∙ ap (λ (r : Bool). written_at b || r)
      (writes_side roles.C c _ ∙ ap (λ (r : Bool). written_at c || r) (writes_side roles.D d [])))
      ∙ four_are_two (written_at a) (written_at b) (written_at c) (written_at d) first third

  writes_any : (claim : ClaimModel) (ops : List AnOp) (witness : Witness) → IsWitness claim ops witness
      → list_any writes (ops_in_roles (roles_of witness)) ≡ list_any (is_value_of about.written) (values_shown witness)
  writes_any claim ops (Wrong read) is = refl
  writes_any claim ops (Unwritten read) is = refl
  writes_any claim ops (Split first second) is = refl
  writes_any claim ops (Early read write) is = refl
  writes_any claim ops (Crossing a (Op b) c (Op d)) is =
      let extremes = is.4.extremes in
      writes_four a (Op b) c (Op d) (is_one (Op b) c)
      (value_at_end (start_of claim ops) is.4.first.value ops a d extremes.a_least (value_in ops is.4.first.value d extremes.d_greatest.0))
      (value_at_end (start_of claim ops) is.4.second.value ops c b extremes.c_least (value_in ops is.4.second.value b extremes.b_greatest.0))
  writes_any claim ops (Crossing a Initial c d) is = absurd is
  writes_any claim ops (Crossing a (Op b) c Initial) is = absurd is

  -- by its operations and by what a change tells of them a failure rests on the same elements
  touched : (x : Bool) (claim : ClaimModel) (ops : List AnOp) (witness : Witness) → IsWitness claim ops witness
      → (x || list_any (is_slot_of about.operation) (operations_in (ids_of witness))) || list_any (is_value_of about.written) (values_shown witness)
      ≡ x || list_any (touches about) (ops_in_roles (roles_of witness))
  touched x claim ops witness is =
      let found = ops_in_roles (roles_of witness) in
      first_of x (list_any (is_slot_of about.operation) (operations_in (ids_of witness))) (list_any (is_value_of about.written) (values_shown witness))
      ∙ ap (λ (b : Bool). x || b) (ap (λ (b : Bool). b || list_any (is_value_of about.written) (values_shown witness)) (sym (edits_any witness))
      ∙ ap (λ (b : Bool). list_any edits found || b) (sym (writes_any claim ops witness is))
      ∙ sym (any_of_both edits writes found))

pub rests_as_shown : (claim : ClaimModel) (ops : List AnOp) (witness : Witness) (change : VerdictChange) (about : About) → IsWitness claim ops witness
    → change.fault ≡ Some (ids_of witness) → change.values ≡ values_shown witness → change_rests_on change about ≡ rests_on (Some witness) about
rests_as_shown claim ops witness change about is fault values = rw (fault, values) (touched about (about.claims || is_unread about.written) claim ops witness is)
