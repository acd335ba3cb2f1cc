use Rattle.std.proofs.Common.{◌≢◌, sym, subst, rules}
use Rattle.intervals.specs.declared.claim.Kind.TheVariants.{Atomic}
use Rattle.intervals.specs.Terms.{ClaimModel}
use Rattle.safe_regular.proofs.judge.SingleWriterJudge.new.Goals as goal

pub invariant_of-result : goal.invariant_of-result
invariant_of-result c = record {
  apart = rw c.new.ensures (record { one_writer = subst (λ (claim : ClaimModel). claim.kind ≢ Atomic) (sym c.in_ok-try_clone.ensures) c.requires.kind; kept = search rules });
  shelved = rw c.new.ensures c.new-2.ensures.writes;
  laid = rw c.new.ensures (c.in_ok-new.ensures _);
  room = rw c.new.ensures tt;
  only = rw c.new.ensures c.new-2.ensures.only;
}
