use Rattle.std.proofs.Common.{◌∙◌, [], ◌∷◌, ◌++◌, ap}
use Rattle.shards.specs.declared.compact.CompactEntry.TheVariants.{Whole}
use Rattle.shards.proofs.Rows.{same_entries, whole_push}
use Rattle.shards.proofs.submitted.Submitted.add.Goals as goal

pub returns-in-None : goal.returns-in-None
returns-in-None c =
    same_entries c.args.known.now.entry.feeder _ _ _ _ c.push_reserved-in-None.ensures.items
    (c.push_reserved-in-None-2.ensures.items ∙ ap (λ place. c.args.self.now.rows.items ++ Whole place ∷ []) (c.len-place.ensures ∙ c.args.self.now.whole.ok.0))
    ∙ whole_push c.args.known.now.entry.feeder c.args.self.now.whole.items c.args.self.now.rows.items c.args.known.now c.args.self.now.within
