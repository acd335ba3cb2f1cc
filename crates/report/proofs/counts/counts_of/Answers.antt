use Rattle.report.proofs.counts.counts_of.Goals as goal

pub returns : goal.returns
returns c = record { all = c.total.ensures; none = c.least_of.ensures.none; one = c.least_of.ensures.one; least = c.least_of.ensures.least }
