use Rattle.std.proofs.Common.{◌≡◌, ◌∙◌, false, rules, sym}
use Rattle.std.specs.Prelude.{IsTrue}
use Rattle.zone_tree.specs.Conflict.{IsClean}
use Rattle.zones.specs.AtFirst.{first_split, initial_of, start_of, unwritten_of}
use Rattle.zones.specs.Cluster.{zones_from}
use Rattle.zones.specs.Fault.{IsFaultless, first_early}
use Rattle.zones.proofs.Verdict.{rest_decides}
use Rattle.zones.proofs.register.Clusters.is_faultless.Goals as goal

pub returns-then-not-has_faulty_read : goal.returns-then-not-has_faulty_read
returns-then-not-has_faulty_read c =
    let now = c.args.self.now in
    let none : c.has_faulty_read.result ≡ false = search rules in
    rest_decides (IsFaultless (start_of now.claim now.ops) now.ops) (IsClean (zones_from (initial_of now.claim now.ops) now.ops)) (IsTrue c.clean.result)
    (unwritten_of now.claim now.ops) (first_split now.claim now.ops) (first_early now.ops)
    (c.faultless_where_no_fault_is_first.ensures.start now.claim now.ops) (sym c.has_faulty_read.ensures ∙ none) c.clean.ensures
