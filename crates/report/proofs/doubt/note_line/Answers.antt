use Rattle.report.proofs.doubt.note_line.Goals as goal

pub returns-in-Refused : goal.returns-in-Refused
returns-in-Refused c = rw c.in-Refused.is c.note.ensures
