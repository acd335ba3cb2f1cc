use Rattle.report.proofs.Found.{run_of_tower}
use Rattle.report.proofs.laws.a_run_is_of_its_tower.Goals as goal

pub returns : goal.returns
returns c = run_of_tower
