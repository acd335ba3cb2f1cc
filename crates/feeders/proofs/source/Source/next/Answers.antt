-- the prefix of what was read, up to the byte limit
use Rattle.std.proofs.Common.{◌-◌, subst, arith}
use Rattle.feeders.specs.Source.{AreBytesOf}
use Rattle.feeders.proofs.Sourcing.{front_given}
use Rattle.feeders.proofs.source.Source.next.Goals as goal

pub returns-in-Ok-2-clause-given : goal.returns-in-Ok-2-clause-given
returns-in-Ok-2-clause-given g c first bytes given =
    let more = c.if-count-room.false in
    let bound = c.in-Ok.ensures.bound.0 in
    let left = g.R.Read.remaining c.args.self.now.reader in
    front_given first left (g.R.Read.remaining c.loop-self.self.reader) (g.R.Read.remaining c.read.new.self) bytes c.read.new.buf _ (1073741824 - c.args.self.now.given) c.in-Ok.count
    (subst (λ past. AreBytesOf first bytes left past) c.loop-self.invariant.before given) c.loop-self.invariant.kept c.in-Ok.ensures.bytes.0 (omega (arith, more)) bound
