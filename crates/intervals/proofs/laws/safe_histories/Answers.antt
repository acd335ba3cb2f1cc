use Rattle.std.proofs.Common.{Some, None, refl}
use Rattle.intervals.specs.declared.claim.Kind.TheVariants.{Safe}
use Rattle.intervals.specs.Histories.{number, plain_claim, ten_values, read_after_write, read_within_write}
use Rattle.intervals.proofs.Verdicts.{first_wrong-safe}
use Rattle.intervals.proofs.laws.safe_histories.Goals as goal

pub returns : goal.returns
returns c = record {
  newest = (first_wrong-safe (plain_claim Safe (number 0) None) (read_after_write (number 1)) refl).0 refl;
  stale = λ safe. let none = (first_wrong-safe (plain_claim Safe (number 0) None) (read_after_write (number 0)) refl).1 safe in cc;
  anything = (first_wrong-safe (plain_claim Safe (number 0) None) (read_within_write (number 7)) refl).0 refl;
  in_domain = (first_wrong-safe (plain_claim Safe (number 0) (Some ten_values)) (read_within_write (number 7)) refl).0 refl;
  out_of_domain = λ safe. let none = (first_wrong-safe (plain_claim Safe (number 0) (Some ten_values)) (read_within_write (number 12)) refl).1 safe in cc;
}
