use Rattle.std.proofs.Common.{◌≤◌, take, sym, subst, arith, List, ℕ}
use Rattle.feeders.specs.Source.{AreBytesOf}
use Rattle.feeders.proofs.Sourcing.{read_after_used}
use Rattle.feeders.proofs.whole.read_after.Goals as goal

pub returns-in-Ok-clause-given : goal.returns-in-Ok-clause-given
returns-in-Ok-clause-given g c first given =
    let used = c.args.used in
    let old = c.args.bytes.now in
    subst (λ (bytes : List ℕ). AreBytesOf first bytes (g.R.Read.remaining c.next.new.self.reader) c.next.new.self.past)
    (sym (read_after_used used c.in-Ok.count old c.next.new.buffer _ (let room = c.requires.room in omega (arith, room)) (subst (λ (n : ℕ). c.in-Ok.count ≤ n) (sym c.in-Ok.ensures.length) c.in-Ok.ensures.count.0)))
    (c.in-Ok.ensures.given first (take used old) given)
