-- The lanes that operations are drawn in.
use Rattle.std.specs.Prelude.{◌≡◌, ◌≤◌, ◌<◌, ◌==◌, ◌&&◌, ℕ, zero, suc, Bool, true, false, List, [], ◌∷◌, Some, IfSome, length, map, All, Contains, IsPermutation, IsSorted}
use Rattle.std.specs.List.{range_with_len, slice_get}
use Rattle.std.specs.Option.{option_map_or}
use Rattle.std.specs.Ordering.{int_eq}
use Rattle.std.specs.declared.cmp.Ordering.{Ordering}
use Rattle.intervals.specs.declared.operation.Op.{Op}
use Rattle.intervals.specs.Operation.{Precedes, precedes}
use Rattle.timeline.specs.declared.seat.Seat.{Seat}
use Rattle.timeline.specs.declared.seat.Tail.{Tail}
use Rattle.timeline.specs.contracts.seat.SeatOrd.TheImpl as seat_ord

-- the seat is for an operation of the list, and has its process and its trace
pub record IsSeat (ops : List Op) (seat : Seat) : Type 0 where
  pub op : Op
  pub present : slice_get ops seat.op ≡ Some op
  pub process : seat.process ≡ op.process
  pub feeder : seat.feeder ≡ op.id.feeder

-- the two seats are of one process and trace, and the operation of the first precedes that of the second
pub record AreInTurn (ops : List Op) (a b : Seat) : Type 0 where
  pub process : a.process ≡ b.process
  pub feeder : a.feeder ≡ b.feeder
  pub before : (x y : Op) → slice_get ops a.op ≡ Some x → slice_get ops b.op ≡ Some y → Precedes x y

-- the order of seats: by process, trace, lane and the number of the operation
abbrev pub seat_cmp : Seat → Seat → Ordering
seat_cmp = (seat_ord.ghosts).cmp

-- each operation has one seat; those in one lane are in turn (`AreInTurn`); the seats are in order (`seat_cmp`)
pub record AreSeats (ops : List Op) (seats : List Seat) : Type 0 where
  pub each_once : IsPermutation (range_with_len 0 (length ops)) (map (λ seat. seat.op) seats)
  pub theirs : All (IsSeat ops) seats
  pub in_turn : (a b : Seat) → Contains seats a → Contains seats b → a.lane ≡ b.lane → a.op < b.op → AreInTurn ops a b
  pub in_order : IsSorted seat_cmp seats

-- the seat of the operation of this number in this lane
abbrev pub seat_of : Op → ℕ → ℕ → Seat
seat_of op number lane = record { process = op.process; feeder = op.id.feeder; lane = lane; op = number }

-- the tail of a lane whose last operation is this one, of this number
abbrev pub tail_of : Op → ℕ → Tail
tail_of op number = record { process = op.process; feeder = op.id.feeder; op = number }

-- whether the lane of the tail is of the operation's process and trace, and its last operation precedes the operation
abbrev pub is_free : List Op → Op → Tail → Bool
is_free ops op tail =
    int_eq tail.process op.process
    && ((tail.feeder == op.id.feeder) && option_map_or (λ before. precedes before op) (slice_get ops tail.op) false)

-- the list with this element in place of the one at this index, or at the end where the list is shorter
abbrev pub put : {X : Type 0} → List X → ℕ → X → List X
put [] number y = y ∷ []
put (x ∷ xs) zero y = y ∷ xs
put (x ∷ xs) (suc number) y = x ∷ put xs number y

-- the seat of the operation is in a lane that is new or free for it (`is_free`), whose tail it is afterwards
pub record TakesLane (ops : List Op) (number : ℕ) (op : Op) (tails : List Tail) (taken : Seat) (left : List Tail) : Type 0 where
  pub seat : taken ≡ seat_of op number taken.lane
  pub within : taken.lane ≤ length tails
  pub free : IfSome (slice_get tails taken.lane) (λ tail. is_free ops op tail ≡ true)
  pub after : left ≡ put tails taken.lane (tail_of op number)

-- there is one seat for each operation, in their order, and those in one lane are in turn (`AreInTurn`)
pub record AreTaken (ops : List Op) (seats : List Seat) : Type 0 where
  pub numbered : map (λ seat. seat.op) seats ≡ range_with_len 0 (length ops)
  pub theirs : All (IsSeat ops) seats
  pub in_turn : (a b : Seat) → Contains seats a → Contains seats b → a.lane ≡ b.lane → a.op < b.op → AreInTurn ops a b
