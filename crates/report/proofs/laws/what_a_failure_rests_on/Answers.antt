use Rattle.register_book.specs.Fault.{ops_in_roles, roles_of}
use Rattle.report.proofs.Doubts.{decides_rests}
use Rattle.report.proofs.laws.what_a_failure_rests_on.Goals as goal

pub returns : goal.returns
returns c witness about = decides_rests (ops_in_roles (roles_of witness)) about
