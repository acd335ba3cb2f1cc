use Rattle.std.proofs.Common.{List, ℕ, map, subst}
use Rattle.std.proofs.lemmas.List.Sorted.{All-permutation, Contains-permutation, IsPermutation-map, IsPermutation-sym}
use Rattle.std.specs.Prelude.{IsPermutation}
use Rattle.timeline.specs.declared.seat.Seat.{Seat}
use Rattle.timeline.specs.Seat.{IsSeat}
use Rattle.timeline.proofs.seat.seats.Goals as goal

pub returns : goal.returns
returns c =
    let ops = c.args.ops.now in
    let old = c.in_ok-seats.seats.items in
    let new = c.sort_unstable.new.self.items in
    let moved = c.sort_unstable.ensures.permutation in
    let back = IsPermutation-sym old new moved in
    let taken = c.in_ok-seats.ensures in
    record {
      each_once = subst (λ (ns : List ℕ). IsPermutation ns (map (λ (seat : Seat). seat.op) new)) taken.numbered (IsPermutation-map (λ (seat : Seat). seat.op) old new moved);
      theirs = All-permutation (IsSeat ops) old new moved taken.theirs;
      in_turn = λ a b has_a has_b same lt. taken.in_turn a b (Contains-permutation new old a back has_a) (Contains-permutation new old b back has_b) same lt;
      in_order = c.sort_unstable.ensures.sorted;
    }
