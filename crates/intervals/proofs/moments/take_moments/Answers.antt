use Rattle.intervals.proofs.moments.take_moments.Goals as goal

pub returns-in-Some-clause-kept : goal.returns-in-Some-clause-kept
returns-in-Some-clause-kept c n room = c.remove-in-Some.ensures.kept n (c.remove.ensures.kept n room)
