use Rattle.std.proofs.Common.{◌≡◌, rules}
use Rattle.std.specs.Prelude.{option_map}
use Rattle.intervals.specs.Kind.{IsSafe, IsRegular}
use Rattle.intervals.specs.Judging.{first_wrong}
use Rattle.safe_regular.proofs.Faults.{none_exactly}
use Rattle.safe_regular.proofs.judge.SingleWriterJudge.first_fault.Goals as goal

pub returns-clause-safe : goal.returns-clause-safe
returns-clause-safe c is_safe =
    let judge = c.args.self.now in
    let fault : c.map.result ≡ option_map (λ op. op.id) (first_wrong judge.claim judge.ops) = search rules in
    none_exactly (IsSafe judge.claim judge.ops) _ _ fault (c.safe_without_wrong_reads.ensures judge.claim judge.ops is_safe)

pub returns-clause-regular : goal.returns-clause-regular
returns-clause-regular c is_regular =
    let judge = c.args.self.now in
    let fault : c.map.result ≡ option_map (λ op. op.id) (first_wrong judge.claim judge.ops) = search rules in
    none_exactly (IsRegular judge.claim judge.ops) _ _ fault (c.regular_without_wrong_reads.ensures judge.claim judge.ops is_regular)
