use Rattle.std.proofs.Common.{[]}
use Rattle.shards.proofs.Legal.{one_journal}
use Rattle.shards.proofs.laws.one_reply.Goals as goal

pub returns : goal.returns
returns c = λ plan at journal other legal legal' same. one_journal plan at [] journal other legal legal' same
