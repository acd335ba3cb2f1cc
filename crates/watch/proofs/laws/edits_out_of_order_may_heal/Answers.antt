use Rattle.std.proofs.Common.{[], ◌∷◌, ◌++◌, refl}
use Rattle.intervals.specs.declared.edit.Edit.TheVariants.{Withdraw, Claim}
use Rattle.intervals.specs.declared.operation.Value.TheVariants.{Nil}
use Rattle.intervals.specs.declared.claim.Kind.TheVariants.{Safe}
use Rattle.intervals.specs.Terms.{unedited}
use Rattle.intervals.specs.Refusal.{standing}
use Rattle.intervals.specs.Histories.{place}
use Rattle.intervals.proofs.Verdicts.{first_wrong-safe, first_wrong-regular}
use Rattle.watch.specs.Healing.{of_one_process, answered_at, read_of_one, older_write, seven_within_write}
use Rattle.watch.proofs.laws.edits_out_of_order_may_heal.Goals as goal

pub returns : goal.returns
returns c = record {
  fails = λ regular. let none = (first_wrong-regular (standing (unedited of_one_process) read_of_one).claim (standing (unedited of_one_process) read_of_one).ops refl).1 regular in cc;
  older = (first_wrong-regular (standing (unedited of_one_process) (read_of_one ++ older_write ∷ [])).claim (standing (unedited of_one_process) (read_of_one ++ older_write ∷ [])).ops refl).0 refl;
  value = (first_wrong-regular (standing (unedited of_one_process) (read_of_one ++ answered_at 0 Nil 3 ∷ [])).claim (standing (unedited of_one_process) (read_of_one ++ answered_at 0 Nil 3 ∷ [])).ops refl).0 refl;
  withdrawn = (first_wrong-regular (standing (unedited of_one_process) (read_of_one ++ Withdraw (place 0) ∷ [])).claim (standing (unedited of_one_process) (read_of_one ++ Withdraw (place 0) ∷ [])).ops refl).0 refl;
  fails_as_regular = λ regular. let none = (first_wrong-regular (standing (unedited of_one_process) seven_within_write).claim (standing (unedited of_one_process) seven_within_write).ops refl).1 regular in cc;
  claim = (first_wrong-safe (standing (unedited of_one_process) (seven_within_write ++ Claim Safe ∷ [])).claim (standing (unedited of_one_process) (seven_within_write ++ Claim Safe ∷ [])).ops refl).0 refl;
}
