use Rattle.records.proofs.fault.add_fault_head.Goals as goal

pub returns-in-Split : goal.returns-in-Split
returns-in-Split c = rw c.in-Split.is c.add_two.ensures

pub returns-in-Early : goal.returns-in-Early
returns-in-Early c = rw c.in-Early.is c.add_two-in-Early.ensures
