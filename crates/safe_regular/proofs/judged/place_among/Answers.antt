use Rattle.std.proofs.Common.{ltb, ltb-true, ltb-false, arith, rules}
use Rattle.std.proofs.lemmas.List.Sorted.{IsPartitionPoint-from_clause, IsPartitionedBy-ltb}
use Rattle.safe_regular.specs.declared.judged.JudgedRead.{JudgedRead}
use Rattle.safe_regular.proofs.Rows.{non_decreasing}
use Rattle.safe_regular.proofs.judged.place_among.Goals as goal

pub returns : goal.returns
returns c = record {
  place = λ up.
      let rows = c.args.rows.now in
      let parted = IsPartitionedBy-ltb (λ (r : JudgedRead). r.end.0) rows c.args.number (non_decreasing rows up) in
      let point = IsPartitionPoint-from_clause (λ (r : JudgedRead). ltb r.end.0 c.args.number) _ _ c.partition_point.ensures.partitioned parted (λ a r q k. search rules) in
      let within = c.partition_point.ensures.bound in
      record {
        within = within;
        before = λ k d lt. ltb-true _ _ (point.0 k d (omega arith) lt);
        following = λ k d ge lt. ltb-false _ _ (point.1 k d ge lt);
      };
}
