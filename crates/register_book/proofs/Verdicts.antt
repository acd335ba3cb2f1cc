-- A safe or regular register has no wrong read exactly where it keeps its claim.
use Rattle.std.proofs.Common.{◌≡◌, ◌≢◌, ◌↔◌, Option, Some, None, List, refl, ap}
use Rattle.std.specs.Prelude.{IsNone, is_some}
use Rattle.intervals.specs.declared.operation.Op.{Op}
use Rattle.intervals.specs.declared.claim.Kind.{Kind}
use Rattle.intervals.specs.declared.claim.Kind.TheVariants.{Safe, Regular, Atomic}
use Rattle.intervals.specs.Terms.{ClaimModel}
use Rattle.intervals.specs.Kind.{IsSafe, IsRegular, Keeps, Holds}
use Rattle.intervals.specs.Judging.{first_wrong}
