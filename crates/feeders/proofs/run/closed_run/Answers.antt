use Rattle.feeders.proofs.run.closed_run.Goals as goal

pub returns-clause-fault : goal.returns-clause-fault
returns-clause-fault g c = (c.in-Err.unfinished.fault, c.in-Err.ensures.unfinished, c.from.ensures)
