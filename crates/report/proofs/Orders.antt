-- The order that is found of a register is that of its book.
use Rattle.std.proofs.Common.{Option, Some, None, Result, Ok, Err}
use Rattle.std.specs.Prelude.{◌≡◌, ◌↔◌, IfOk, IfSome, IsNone, option_map, Vec}
use Rattle.std.specs.declared.alloc.Global.{Global}
use Rattle.intervals.specs.declared.claim.Kind.TheVariants.{Atomic}
use Rattle.intervals.specs.declared.operation.OpId.{OpId}
use Rattle.intervals.specs.Terms.{RegisterState}
use Rattle.intervals.specs.Kind.{Holds}
use Rattle.zones.specs.AtFirst.{with_start}
use Rattle.zones.specs.Turn.{IsOrder}
use Rattle.report.specs.Order.{IsOrderOf}

pub order_is : {E : Type 0} (book : RegisterState) (result : Result (Option (Vec OpId Global)) E) → IfOk result (λ found. IfSome found (λ ids. IsOrder (with_start book) book.ops ids.items)) → IfOk result (λ found. IsNone found ↔ ¬ ((book.claim.kind ≡ Atomic) × Holds book)) → IfOk result (λ found. IsOrderOf (Some book) (option_map (λ (ids : Vec OpId Global). ids.items) found))
order_is book (Err fault) order none = tt
order_is book (Ok None) order none = (tt, none)
order_is book (Ok (Some ids)) order none = (order, none)
