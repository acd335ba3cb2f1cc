use Rattle.std.proofs.Common.{[]}
use Rattle.shards.specs.Journal.{IsAnswered}
use Rattle.shards.proofs.Legal.{each_front}
use Rattle.shards.proofs.laws.each_front_is_legal.Goals as goal

pub returns : goal.returns
returns c = λ plan at front rest legal. each_front (IsAnswered plan at) [] front rest legal
