-- Lanes: the seats in each are still in turn when one more operation takes one.
use Rattle.std.proofs.Common.{◌≡◌, ◌≢◌, ◌∙◌, ◌≤◌, ◌<◌, ◌⊎◌, inl, inr, ℕ, zero, suc, ◌+◌, Bool, true, false, List, [], ◌∷◌, ◌++◌, length, map, get_or, set, Some, None, Option, refl, sym, ap, subst, arith}
use Rattle.std.proofs.lemmas.Bool.{cases_lt, eqb-true}
use Rattle.std.proofs.lemmas.Bool.Decides.{Decides-int_eq}
use Rattle.std.proofs.lemmas.List.{map-append}
use Rattle.std.proofs.lemmas.List.Elements.{All-contains, All-push, All-weaker, Contains-push_cases}
use Rattle.std.proofs.lemmas.Option.{same_Some, get_or_from_slice_get, slice_get-get_or, slice_get_within}
use Rattle.std.specs.Prelude.{◌&&◌, ◌==◌, All, Contains, IfSome}
use Rattle.std.specs.List.{range_with_len, slice_get}
use Rattle.std.specs.List.Sorted.{IsNonDecreasingBy}
use Rattle.intervals.specs.declared.operation.Op.{Op}
use Rattle.intervals.specs.declared.operation.Moment.{Moment}
use Rattle.std.specs.Option.{option_map_or}
use Rattle.std.specs.Ordering.{int_eq}
use Rattle.intervals.specs.Operation.{Precedes, EndsBefore}
use Rattle.intervals.specs.Operation.{precedes as precedes_test}
use Rattle.intervals.proofs.Agreement.{Decides-precedes}
use Rattle.timeline.specs.declared.seat.Seat.{Seat}
use Rattle.timeline.specs.declared.seat.Tail.{Tail}
use Rattle.timeline.specs.Seat.{AreInTurn, IsSeat, TakesLane, is_free, put, seat_of, tail_of}

-- a list with one element put into it (`put`)

pub put_here : {X : Type 0} (xs : List X) (n : ℕ) (y : X) → n ≤ length xs → slice_get (put xs n y) n ≡ Some y
put_here [] zero y le = refl
put_here [] (suc n) y le = absurd (omega (arith, le))
put_here (x ∷ xs) zero y le = refl
put_here (x ∷ xs) (suc n) y le = put_here xs n y (omega (arith, le))

pub put_elsewhere : {X : Type 0} (xs : List X) (n m : ℕ) (y z : X) → m ≢ n → slice_get xs m ≡ Some z → slice_get (put xs n y) m ≡ Some z
put_elsewhere [] n m y z other is = absurd (cc)
put_elsewhere (x ∷ xs) zero zero y z other is = absurd (other refl)
put_elsewhere (x ∷ xs) zero (suc m) y z other is = is
put_elsewhere (x ∷ xs) (suc n) zero y z other is = is
put_elsewhere (x ∷ xs) (suc n) (suc m) y z other is = put_elsewhere xs n m y z (λ e. other (ap suc e)) is

pub put_last : {X : Type 0} (xs : List X) (y : X) → put xs (length xs) y ≡ xs ++ y ∷ []
put_last [] y = refl
put_last (x ∷ xs) y = ap (λ zs. x ∷ zs) (put_last xs y)

pub put_back : {X : Type 0} (xs : List X) (n m : ℕ) (y z : X) → n ≤ length xs → m ≢ n → slice_get (put xs n y) m ≡ Some z → slice_get xs m ≡ Some z
put_back [] zero zero y z le other is = absurd (other refl)
put_back [] zero (suc m) y z le other is = is
put_back [] (suc n) m y z le other is = absurd (omega (arith, le))
put_back (x ∷ xs) zero zero y z le other is = absurd (other refl)
put_back (x ∷ xs) zero (suc m) y z le other is = is
put_back (x ∷ xs) (suc n) zero y z le other is = is
put_back (x ∷ xs) (suc n) (suc m) y z le other is = put_back xs n m y z (omega (arith, le)) (λ e. other (ap suc e)) is

same_some : {X : Type 0} (x y : X) → Some x ≡ Some y → x ≡ y
same_some x y is = same_Some x y is

range_suc : (first n : ℕ) → range_with_len first (suc n) ≡ range_with_len first n ++ (first + n) ∷ []
range_suc first zero = ap (λ (k : ℕ). k ∷ []) (omega arith)
range_suc first (suc n) =
    let last : first + 1 + n ≡ first + suc n = omega arith in
    ap (λ ks. first ∷ ks) (range_suc (first + 1) n ∙ ap (λ (k : ℕ). range_with_len (first + 1) n ++ k ∷ []) last)

range_more : (n : ℕ) → range_with_len 0 (n + 1) ≡ range_with_len 0 n ++ n ∷ []
range_more n =
    let next : suc n ≡ n + 1 = omega arith in
    let last : 0 + n ≡ n = omega arith in
    subst (λ (k : ℕ). range_with_len 0 k ≡ range_with_len 0 n ++ n ∷ []) next (range_suc 0 n ∙ ap (λ (k : ℕ). range_with_len 0 n ++ k ∷ []) last)

-- a seat is in a lane: it is that of the lane's tail, or comes before it and its operation precedes the tail's

pub record StandsIn (ops : List Op) (tails : List Tail) (seat : Seat) : Type 0 where
  pub tail : Tail
  pub is : slice_get tails seat.lane ≡ Some tail
  pub process : tail.process ≡ seat.process
  pub feeder : tail.feeder ≡ seat.feeder
  pub rises : seat.op ≤ tail.op
  pub before : seat.op < tail.op → (x y : Op) → slice_get ops seat.op ≡ Some x → slice_get ops tail.op ≡ Some y → Precedes x y

-- the seats and tails after the operations before this number have taken theirs
pub record AreSoFar (ops : List Op) (number : ℕ) (tails : List Tail) (seats : List Seat) : Type 0 where
  pub numbered : map (λ (seat : Seat). seat.op) seats ≡ range_with_len 0 number
  pub below : All (λ (seat : Seat). seat.op < number) seats
  pub theirs : All (IsSeat ops) seats
  pub lanes : All (StandsIn ops tails) seats
  pub tails_below : (lane : ℕ) (tail : Tail) → slice_get tails lane ≡ Some tail → tail.op < number
  pub in_turn : (a b : Seat) → Contains seats a → Contains seats b → a.lane ≡ b.lane → a.op < b.op → AreInTurn ops a b

-- an end before a moment is before each later one
ends_before_later : (end : Option Moment) (a b : Moment) → EndsBefore end a → a.0 ≤ b.0 → EndsBefore end b
ends_before_later None a b before le = absurd before
ends_before_later (Some end) a b before le = omega (arith, before, le)

begins_by : (ops : List Op) (i j : ℕ) (x y : Op) → IsNonDecreasingBy (λ (op : Op). op.begin.0) ops → i ≤ j → slice_get ops i ≡ Some x → slice_get ops j ≡ Some y → x.begin.0 ≤ y.begin.0
begins_by ops i j x y sorted le at_x at_y =
    let far = sorted i j x le (slice_get_within ops j y at_y) in
    subst (λ (op : Op). x.begin.0 ≤ op.begin.0) (get_or_from_slice_get ops j y x at_y)
    (subst (λ (op : Op). op.begin.0 ≤ (get_or ops j x).begin.0) (get_or_from_slice_get ops i x x at_x) far)

module _ (ops : List Op) (sorted : IsNonDecreasingBy (λ (op : Op). op.begin.0) ops) (number : ℕ) (op : Op) (at : slice_get ops number ≡ Some op) where
  -- the lane is new, or its tail is of the operation's process and trace and its operation precedes this one
  pub record IsFree (tails : List Tail) (lane : ℕ) : Type 0 where
    pub within : lane ≤ length tails
    pub free : (tail : Tail) → slice_get tails lane ≡ Some tail → (tail.process ≡ op.process) × (tail.feeder ≡ op.id.feeder) × ((before : Op) → slice_get ops tail.op ≡ Some before → Precedes before op)

  -- the operation of each seat in the lane precedes this one
  precedes : (tails : List Tail) (lane : ℕ) (seat : Seat) (tail : Tail) (x : Op) → IsFree tails lane → slice_get tails lane ≡ Some tail → tail.op < number
      → seat.op ≤ tail.op → (seat.op < tail.op → (x y : Op) → slice_get ops seat.op ≡ Some x → slice_get ops tail.op ≡ Some y → Precedes x y) → slice_get ops seat.op ≡ Some x → Precedes x op
  precedes tails lane seat tail x free is below rises before at_x = by_cases (cases_lt seat.op tail.op)
    where
      last : (y : Op) → slice_get ops tail.op ≡ Some y → Precedes y op
      last y at_y = (free.free tail is).2 y at_y

      by_cases : (seat.op < tail.op) ⊎ (tail.op ≤ seat.op) → Precedes x op
      by_cases (inl lt) =
          let within : tail.op < length ops = omega (arith, below, slice_get_within ops number op at) in
          let y = get_or ops tail.op x in
          let at_y : slice_get ops tail.op ≡ Some y = slice_get-get_or ops tail.op x within in
          ends_before_later x.end y.begin op.begin (before lt x y at_x at_y) (begins_by ops tail.op number y op sorted (omega (arith, below)) at_y at)
      by_cases (inr le) =
          let same : seat.op ≡ tail.op = omega (arith, rises, le) in
          last x (subst (λ (n : ℕ). slice_get ops n ≡ Some x) same at_x)

  -- the operation takes its seat

  module _ (tails new : List Tail) (seats : List Seat) (lane : ℕ) (so_far : AreSoFar ops number tails seats) (free : IsFree tails lane) (now : new ≡ put tails lane (tail_of op number)) where
    abbrev pub seat : Seat
    seat = seat_of op number lane

    mine : slice_get new lane ≡ Some (tail_of op number)
    mine = subst (λ (ts : List Tail). slice_get ts lane ≡ Some (tail_of op number)) (sym now) (put_here tails lane (tail_of op number) free.within)

    mine_in : StandsIn ops new seat
    mine_in = record {
      tail = tail_of op number;
      is = mine;
      process = refl;
      feeder = refl;
      rises = omega arith;
      before = λ lt. absurd (omega (arith, lt));
    }

    -- an earlier seat of this lane comes before the new tail
    old_here : (s : Seat) → s.op < number → StandsIn ops tails s → s.lane ≡ lane → StandsIn ops new s
    old_here s below present same =
        let is : slice_get tails lane ≡ Some present.tail = subst (λ (l : ℕ). slice_get tails l ≡ Some present.tail) same present.is in
        let theirs = free.free present.tail is in
        record {
          tail = tail_of op number;
          is = subst (λ (l : ℕ). slice_get new l ≡ Some (tail_of op number)) (sym same) mine;
          process = sym theirs.0 ∙ present.process;
          feeder = sym theirs.1 ∙ present.feeder;
          rises = omega (arith, below);
          before = λ lt x y at_x at_y.
              subst (Precedes x) (same_some op y (sym at ∙ at_y))
              (precedes tails lane s present.tail x free is (so_far.tails_below lane present.tail is) present.rises present.before at_x);
        }

    old_elsewhere : (s : Seat) → StandsIn ops tails s → s.lane ≢ lane → StandsIn ops new s
    old_elsewhere s present other = record {
      tail = present.tail;
      is = subst (λ (ts : List Tail). slice_get ts s.lane ≡ Some present.tail) (sym now) (put_elsewhere tails lane s.lane (tail_of op number) present.tail other present.is);
      process = present.process;
      feeder = present.feeder;
      rises = present.rises;
      before = present.before;
    }

    old_in : (s : Seat) → (s.op < number) × StandsIn ops tails s → StandsIn ops new s
    old_in s (below, present) = by_cases (cases_lt s.lane lane) (cases_lt lane s.lane)
      where
        by_cases : (s.lane < lane) ⊎ (lane ≤ s.lane) → (lane < s.lane) ⊎ (s.lane ≤ lane) → StandsIn ops new s
        by_cases (inl lt) h = old_elsewhere s present (λ e. omega (arith, lt, e))
        by_cases (inr le) (inl lt) = old_elsewhere s present (λ e. omega (arith, lt, e))
        by_cases (inr le) (inr ge) = old_here s below present (omega (arith, le, ge))

    tails_below : (l : ℕ) (tail : Tail) → slice_get new l ≡ Some tail → tail.op < number + 1
    tails_below l tail is = by_cases (cases_lt l lane) (cases_lt lane l)
      where
        there : slice_get (put tails lane (tail_of op number)) l ≡ Some tail
        there = subst (λ (ts : List Tail). slice_get ts l ≡ Some tail) now is

        other : l ≢ lane → tail.op < number + 1
        other differs = omega (arith, so_far.tails_below l tail (put_back tails lane l (tail_of op number) tail free.within differs there))

        by_cases : (l < lane) ⊎ (lane ≤ l) → (lane < l) ⊎ (l ≤ lane) → tail.op < number + 1
        by_cases (inl lt) h = other (λ e. omega (arith, lt, e))
        by_cases (inr le) (inl lt) = other (λ e. omega (arith, lt, e))
        by_cases (inr le) (inr ge) =
            let same : l ≡ lane = omega (arith, le, ge) in
            let tail_is : tail_of op number ≡ tail = same_some (tail_of op number) tail (sym mine ∙ subst (λ (k : ℕ). slice_get new k ≡ Some tail) same is) in
            subst (λ (t : Tail). t.op < number + 1) tail_is (omega arith)

    -- the new seat and an earlier one of its lane are in turn
    new_turn : (a : Seat) → Contains seats a → a.lane ≡ lane → AreInTurn ops a seat
    new_turn a has same =
        let below = All-contains (λ (s : Seat). s.op < number) seats a so_far.below has in
        let present = All-contains (StandsIn ops tails) seats a so_far.lanes has in
        let is : slice_get tails lane ≡ Some present.tail = subst (λ (l : ℕ). slice_get tails l ≡ Some present.tail) same present.is in
        let theirs = free.free present.tail is in
        record {
          process = sym present.process ∙ theirs.0;
          feeder = sym present.feeder ∙ theirs.1;
          before = λ x y at_x at_y.
              subst (Precedes x) (same_some op y (sym at ∙ at_y))
              (precedes tails lane a present.tail x free is (so_far.tails_below lane present.tail is) present.rises present.before at_x);
        }

    in_turn : (a b : Seat) → Contains (seats ++ seat ∷ []) a → Contains (seats ++ seat ∷ []) b → a.lane ≡ b.lane → a.op < b.op → AreInTurn ops a b
    in_turn a b has_a has_b same lt = by_cases (Contains-push_cases seats seat a has_a) (Contains-push_cases seats seat b has_b)
      where
        below : (s : Seat) → Contains seats s → s.op < number
        below s has = All-contains (λ (s : Seat). s.op < number) seats s so_far.below has

        by_cases : Contains seats a ⊎ (seat ≡ a) → Contains seats b ⊎ (seat ≡ b) → AreInTurn ops a b
        by_cases (inl x) (inl y) = so_far.in_turn a b x y same lt
        by_cases (inl x) (inr y) = subst (AreInTurn ops a) y (new_turn a x (same ∙ ap (λ (s : Seat). s.lane) (sym y)))
        by_cases (inr x) (inl y) = absurd (omega (arith, lt, below b y, ap (λ (s : Seat). s.op) x))
        by_cases (inr x) (inr y) = absurd (omega (arith, lt, ap (λ (s : Seat). s.op) x, ap (λ (s : Seat). s.op) y))

    pub one_more : AreSoFar ops (number + 1) new (seats ++ seat ∷ [])
    one_more = record {
      numbered = map-append (λ (s : Seat). s.op) seats (seat ∷ []) ∙ ap (λ (ns : List ℕ). ns ++ number ∷ []) so_far.numbered ∙ sym (range_more number);
      below = All-push (λ (s : Seat). s.op < number + 1) seats seat (All-weaker (λ (s : Seat). s.op < number) (λ (s : Seat). s.op < number + 1) (λ s lt. omega (arith, lt)) seats so_far.below) (omega arith);
      theirs = All-push (IsSeat ops) seats seat so_far.theirs (record { op = op; present = at; process = refl; feeder = refl });
      lanes = All-push (StandsIn ops new) seats seat (λ k d lt. old_in (get_or seats k d) (so_far.below k d lt, so_far.lanes k d lt)) mine_in;
      tails_below = tails_below;
      in_turn = in_turn;
    }

-- free lanes by the test, and the lanes after the operation took one

there : {X : Type 0} (xs : List X) (n : ℕ) → n < length xs → (x : X) × (slice_get xs n ≡ Some x)
there [] n lt = absurd (omega (arith, lt))
there (x ∷ xs) zero lt = (x, refl)
there (x ∷ xs) (suc n) lt = there xs n (omega (arith, lt))

both : (a b : Bool) → (a && b) ≡ true → (a ≡ true) × (b ≡ true)
both true b is = (refl, is)
both false b is = absurd (cc)

precedes_there : (ops : List Op) (n : ℕ) (before op : Op) → slice_get ops n ≡ Some before → option_map_or (λ (o : Op). precedes_test o op) (slice_get ops n) false ≡ true → Precedes before op
precedes_there ops n before op is test =
    (Decides-precedes before op).0 (subst (λ (o : Option Op). option_map_or (λ (x : Op). precedes_test x op) o false ≡ true) is test)

free_by : (ops : List Op) (op : Op) (tail : Tail) → is_free ops op tail ≡ true → (tail.process ≡ op.process) × (tail.feeder ≡ op.id.feeder) × ((before : Op) → slice_get ops tail.op ≡ Some before → Precedes before op)
free_by ops op tail is =
    let first = both (int_eq tail.process op.process) ((tail.feeder == op.id.feeder) && option_map_or (λ (o : Op). precedes_test o op) (slice_get ops tail.op) false) is in
    let rest = both (tail.feeder == op.id.feeder) (option_map_or (λ (o : Op). precedes_test o op) (slice_get ops tail.op) false) first.1 in
    ((Decides-int_eq tail.process op.process).0 first.0, eqb-true tail.feeder op.id.feeder rest.0, λ before at. precedes_there ops tail.op before op at rest.1)

free_of : (ops : List Op) (op : Op) (tails : List Tail) (lane : ℕ) (tail : Tail) → IfSome (slice_get tails lane) (λ (t : Tail). is_free ops op t ≡ true) → slice_get tails lane ≡ Some tail → is_free ops op tail ≡ true
free_of ops op tails lane tail free is = subst (λ (o : Option Tail). IfSome o (λ (t : Tail). is_free ops op t ≡ true)) is free

pub next_seat : (ops : List Op) (number : ℕ) (tails new : List Tail) (seats now : List Seat) (taken : Seat) → IsNonDecreasingBy (λ (op : Op). op.begin.0) ops → number < length ops → now ≡ seats ++ taken ∷ []
    → ((op : Op) → slice_get ops number ≡ Some op → TakesLane ops number op tails taken new) → AreSoFar ops number tails seats → AreSoFar ops (number + 1) new now
next_seat ops number tails new seats now taken sorted within pushed takes so_far =
    let (op, at) = there ops number within in
    let is = takes op at in
    let free : IsFree ops sorted number op at tails taken.lane = record { within = is.within; free = λ tail here. free_by ops op tail (free_of ops op tails taken.lane tail is.free here) } in
    let more = one_more ops sorted number op at tails new seats taken.lane so_far free is.after in
    subst (AreSoFar ops (number + 1) new) (sym (pushed ∙ ap (λ (s : Seat). seats ++ s ∷ []) is.seat)) more

-- to put an element over another sets it

pub put_over : {X : Type 0} (xs : List X) (n : ℕ) (y : X) → n < length xs → set xs n y ≡ put xs n y
put_over [] n y lt = absurd (omega (arith, lt))
put_over (x ∷ xs) zero y lt = refl
put_over (x ∷ xs) (suc n) y lt = ap (λ zs. x ∷ zs) (put_over xs n y (omega (arith, lt)))
