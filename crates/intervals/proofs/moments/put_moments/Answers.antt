use Rattle.intervals.proofs.moments.put_moments.Goals as goal

pub put-requires-in-Some-clause-room : goal.put-requires-in-Some-clause-room
put-requires-in-Some-clause-room c = c.put.ensures.kept 1 c.requires.room
