use Rattle.std.proofs.Common.{None, refl}
use Rattle.intervals.specs.declared.claim.Kind.TheVariants.{Regular}
use Rattle.intervals.specs.declared.operation.Value.TheVariants.{Nil}
use Rattle.intervals.specs.Histories.{number, plain_claim, read_after_write, new_before_old, older_of_two}
use Rattle.intervals.proofs.Verdicts.{first_wrong-regular}
use Rattle.intervals.proofs.laws.regular_histories.Goals as goal

pub returns : goal.returns
returns c = record {
  new_before_old = (first_wrong-regular (plain_claim Regular Nil None) new_before_old refl).0 refl;
  older_of_two = (first_wrong-regular (plain_claim Regular (number 0) None) older_of_two refl).0 refl;
  stale = λ regular. let none = (first_wrong-regular (plain_claim Regular (number 0) None) (read_after_write (number 0)) refl).1 regular in cc;
}
