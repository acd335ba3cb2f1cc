-- `first_wrong` is the wrong read that ended first.
use Rattle.std.proofs.Common.{◌≡◌, ◌≤◌, List, Option, Some, None}
use Rattle.std.specs.Prelude.{IsTrue}
use Rattle.std.proofs.lemmas.Bool.{and_parts}
use Rattle.intervals.specs.declared.operation.Op.{Op}
use Rattle.intervals.specs.Terms.{ClaimModel}
use Rattle.intervals.specs.Operation.{IsJudgedRead, is_judged_read}
use Rattle.intervals.specs.Judging.{is_wrong_read, end_number, first_wrong}
use Rattle.intervals.proofs.LeastOf.{AreTold, none_least, least_is}
use Rattle.intervals.proofs.Members.{all_from}
use Rattle.safe_regular.specs.Apart.{HasDistinctEnds}
use Rattle.safe_regular.specs.First.{IsFirstWrong}

-- where no two judged reads end at one moment, `first_wrong` finds the wrong read that ended first
pub first_wrong_is : (claim : ClaimModel) (ops : List Op) → HasDistinctEnds ops → (found : Option Op) → IsFirstWrong claim ops found → first_wrong claim ops ≡ found
first_wrong_is claim ops distinct None none = none_least end_number (is_wrong_read claim ops) ops none
first_wrong_is claim ops distinct (Some r) is = least_is end_number (is_wrong_read claim ops) ops r told (record {
  present = is.present;
  passes = is.wrong;
  least = all_from (λ o. IsTrue (is_wrong_read claim ops o) → end_number r ≤ end_number o) ops is.first;
})
  where
    judged : (o : Op) → IsTrue (is_wrong_read claim ops o) → IsJudgedRead o
    judged o wrong = (and_parts (is_judged_read o) _ wrong).0

    told : AreTold end_number (is_wrong_read claim ops) ops
    told a b sa sb wa wb = distinct a b sa sb (judged a wa) (judged b wb)
