-- The operations that show that a register breaks its claim.
use Rattle.std.specs.Prelude.{◌≡◌, ◌≢◌, Bool, true, false, Contains, List, [], ◌∷◌, ◌++◌, Option, Some, None, if◌then◌else◌}
use Rattle.intervals.specs.declared.operation.Op.{Op}
use Rattle.intervals.specs.declared.operation.OpId.{OpId}
use Rattle.intervals.specs.declared.operation.Value.{Value}
use Rattle.intervals.specs.Operation.{same_id, value_of}
use Rattle.intervals.specs.declared.claim.Holder.{Holder}
use Rattle.intervals.specs.declared.claim.Holder.TheVariants as holders
use Rattle.intervals.specs.declared.claim.Kind.TheVariants.{Atomic}
use Rattle.intervals.specs.Terms.{ClaimModel}
use Rattle.intervals.specs.Judging.{first_wrong}
use Rattle.zones.specs.AtFirst.{IsSplit, first_split, initial_of, start_of, unwritten_of}
use Rattle.zones.specs.Fault.{IsUnwritten, IsEarly, first_early}
use Rattle.zones.specs.Crossing.{IsCrossing, IsFirstCrossingFrom}
use Rattle.register_book.specs.declared.fault.Fault.{Fault}
use Rattle.register_book.specs.declared.fault.Fault.TheVariants as faults
use Rattle.register_book.specs.declared.fault.InRole.{InRole}
use Rattle.register_book.specs.declared.fault.Role.{Role}
use Rattle.register_book.specs.declared.fault.Role.TheVariants as roles
use Rattle.register_book.specs.declared.fault.Side.{Side}
use Rattle.register_book.specs.declared.fault.Side.TheVariants as sides
use Rattle.register_book.specs.declared.fault.Witness.{Witness}
use Rattle.register_book.specs.declared.fault.Witness.TheVariants.{Wrong, Unwritten, Split, Early, Crossing}

-- the operation of a side of a crossing, or none for the initial write
abbrev pub side_op : Side → Option Op
side_op (sides.Op op) = Some op
side_op sides.Initial = None

-- the operations of the witness show that the register fails. Safe or regular: the wrong read that ended first. Atomic,
-- the first of these that there is: the unwritten read that ended first, the first split, the early read that ended
-- first with its write, the crossing of the first conflict, with b and d operations
abbrev pub IsWitness : ClaimModel → List Op → Witness → Type 0
IsWitness claim ops (Wrong read) = (claim.kind ≢ Atomic) × (first_wrong claim ops ≡ Some read)
IsWitness claim ops (Unwritten read) = (claim.kind ≡ Atomic) × (unwritten_of claim ops ≡ Some read)
IsWitness claim ops (Split first second) = (claim.kind ≡ Atomic) × (first_split claim ops ≡ Some (first, second))
IsWitness claim ops (Early read write) = (claim.kind ≡ Atomic) × (unwritten_of claim ops ≡ None) × (first_split claim ops ≡ None) × (first_early ops ≡ Some (read, write))
IsWitness claim ops (Crossing a (sides.Op b) c (sides.Op d)) =
    (claim.kind ≡ Atomic) × (unwritten_of claim ops ≡ None) × (first_split claim ops ≡ None) × (first_early ops ≡ None)
    × IsFirstCrossingFrom (initial_of claim ops) (start_of claim ops) ops (side_op a) b (side_op c) d
IsWitness claim ops (Crossing a b c d) = ⊥

-- the witness alone excludes every arrangement: an unwritten read where the initial value is known, a split where it is
-- not, an early read with the write of its value, or a crossing
abbrev pub IsExcluding : ClaimModel → List Op → Witness → Type 0
IsExcluding claim ops (Wrong read) = ⊥
IsExcluding claim ops (Unwritten read) = (claim.known ≡ true) × Contains ops read × IsUnwritten claim.initial ops read
IsExcluding claim ops (Split first second) = (claim.known ≡ false) × IsSplit claim ops first second
IsExcluding claim ops (Early read write) = Contains ops read × Contains ops write × IsEarly read write
IsExcluding claim ops (Crossing a (sides.Op b) c (sides.Op d)) = IsCrossing (start_of claim ops) ops (side_op a) b (side_op c) d
IsExcluding claim ops (Crossing a b c d) = ⊥

-- a side of a crossing by id: the id of its operation, or that it is the initial write
abbrev pub side_holder : Side → Holder
side_holder (sides.Op op) = holders.Op op.id
side_holder sides.Initial = holders.Initial

-- the fault of a witness: each operation replaced by its id
abbrev pub ids_of : Witness → Fault
ids_of (Wrong read) = faults.Wrong read.id
ids_of (Unwritten read) = faults.Unwritten read.id
ids_of (Split first second) = faults.Split first.id second.id
ids_of (Early read write) = faults.Early read.id write.id
ids_of (Crossing a b c d) = faults.Crossing (side_holder a) (side_holder b) (side_holder c) (side_holder d)

-- the id of an operation, or none for the initial write
abbrev pub id_held : Holder → Option OpId
id_held (holders.Op id) = Some id
id_held holders.Initial = None

-- the ids of the operations of a fault, in four slots
abbrev pub operations_in : Fault → List (Option OpId)
operations_in (faults.Wrong read) = Some read ∷ None ∷ None ∷ None ∷ []
operations_in (faults.Unwritten read) = Some read ∷ None ∷ None ∷ None ∷ []
operations_in (faults.Split first second) = Some first ∷ Some second ∷ None ∷ None ∷ []
operations_in (faults.Early read write) = Some read ∷ Some write ∷ None ∷ None ∷ []
operations_in (faults.Crossing a b c d) = id_held a ∷ id_held b ∷ id_held c ∷ id_held d ∷ []

-- what the operation of a side read or wrote, or none for the initial write
abbrev pub value_at_side : Side → Option Value
value_at_side (sides.Op op) = Some (value_of op.act)
value_at_side sides.Initial = None

-- the values that the operations of a witness read or wrote, two at most: a crossing's second and third have one value, and
-- its first and fourth another
abbrev pub values_shown : Witness → List (Option Value)
values_shown (Wrong read) = Some (value_of read.act) ∷ None ∷ []
values_shown (Unwritten read) = Some (value_of read.act) ∷ None ∷ []
values_shown (Split first second) = Some (value_of first.act) ∷ Some (value_of second.act) ∷ []
values_shown (Early read write) = Some (value_of read.act) ∷ Some (value_of write.act) ∷ []
values_shown (Crossing a b c d) = value_at_side b ∷ value_at_side d ∷ []

-- the operation of a side of a crossing as a list, empty for the initial write
abbrev pub ops_at : Side → List Op
ops_at (sides.Op op) = op ∷ []
ops_at sides.Initial = []

-- the operations of a witness, as a list
abbrev pub operations_of : Witness → List Op
operations_of (Wrong read) = read ∷ []
operations_of (Unwritten read) = read ∷ []
operations_of (Split first second) = first ∷ second ∷ []
operations_of (Early read write) = read ∷ write ∷ []
operations_of (Crossing a b c d) = ops_at a ++ ops_at b ++ ops_at c ++ ops_at d

-- an operation in this role
abbrev pub in_role : Role → Op → Option InRole
in_role role op = Some (record { role = role; op = op })

-- the operation of a side of a crossing in this role, or none for the initial write
abbrev pub side_in_role : Role → Side → Option InRole
side_in_role role (sides.Op op) = in_role role op
side_in_role role sides.Initial = None

-- two sides of a crossing are one operation
abbrev pub is_one : Side → Side → Bool
is_one (sides.Op a) (sides.Op b) = same_id a.id b.id
is_one (sides.Op a) sides.Initial = false
is_one sides.Initial b = false

-- the operations of a witness with their roles, in four slots; a crossing's second and third once, where they are one
abbrev pub roles_of : Witness → List (Option InRole)
roles_of (Wrong read) = in_role roles.Read read ∷ None ∷ None ∷ None ∷ []
roles_of (Unwritten read) = in_role roles.Read read ∷ None ∷ None ∷ None ∷ []
roles_of (Split first second) = in_role roles.FirstRead first ∷ in_role roles.SecondRead second ∷ None ∷ None ∷ []
roles_of (Early read write) = in_role roles.EarlyRead read ∷ in_role roles.LateWrite write ∷ None ∷ None ∷ []
roles_of (Crossing a b c d) =
    if is_one b c
    then side_in_role roles.A a ∷ side_in_role roles.Bc b ∷ None ∷ side_in_role roles.D d ∷ []
    else side_in_role roles.A a ∷ side_in_role roles.B b ∷ side_in_role roles.C c ∷ side_in_role roles.D d ∷ []

-- the operations in slots that have one, in their order
abbrev pub ops_in_roles : List (Option InRole) → List Op
ops_in_roles [] = []
ops_in_roles (None ∷ slots) = ops_in_roles slots
ops_in_roles (Some one ∷ slots) = one.op ∷ ops_in_roles slots
