use Rattle.intervals.proofs.Texts.{reply_to-bare}
use Rattle.intervals.proofs.Arrangements.{standing_bare, Holds-bare, decided_alike}
use Rattle.intervals.proofs.laws.texts_decide_nothing.Goals as goal

pub returns : goal.returns
returns c = record { reply = reply_to-bare; standing = standing_bare; verdict = Holds-bare; alike = decided_alike }
