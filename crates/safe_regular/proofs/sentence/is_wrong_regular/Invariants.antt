-- the write looked at next is the last one that was not passed
use Rattle.std.proofs.Common.{Contains}
use Rattle.intervals.specs.Operation.{IsJudgedRead}
use Rattle.intervals.specs.Terms.{terms_of}
use Rattle.safe_regular.specs.Held.{AreOneWriters}
use Rattle.safe_regular.specs.Looks.{IsLookedUp}
use Rattle.safe_regular.specs.Writes.{AreWrites}
use Rattle.safe_regular.proofs.sentence.is_wrong_regular.Given as goal

abbrev pub invariant-loop : goal.invariant-loop
invariant-loop l = AreWrites l.table.ops l.writes → AreOneWriters (terms_of l.claim) l.table.ops → Contains l.table.ops l.read → IsJudgedRead l.read → IsLookedUp l.table.ops l.read l.last
