-- the ids so far and those that are left are the order's
use Rattle.std.proofs.Common.{◌≡◌, ◌++◌, drop, Some, string_bytes}
use Rattle.report.specs.Order.{ids_text}
use Rattle.report.proofs.order.push_ids.Given as goal

abbrev pub invariant-loop-id : goal.invariant-loop-id
invariant-loop-id l = string_bytes l.text ++ ids_text (Some (drop l.id-index l.ids)) ≡ string_bytes l.fn.text ++ ids_text (Some l.fn.ids)
