-- all parts so far hold
use Rattle.std.proofs.Common.{◌≡◌, drop}
use Rattle.std.specs.List.{list_all}
use Rattle.report.specs.Finding.{holds_in}
use Rattle.report.proofs.culprit.all_hold.Given as goal

abbrev pub invariant-loop-part : goal.invariant-loop-part
invariant-loop-part l = list_all (λ part. holds_in l.failing part.0) (drop l.part-index l.parts) ≡ list_all (λ part. holds_in l.fn.failing part.0) l.fn.parts
