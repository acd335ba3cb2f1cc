use Rattle.keys.proofs.Once.{each_once}
use Rattle.keys.proofs.laws.each_name_comes_once.Goals as goal

pub returns : goal.returns
returns c = each_once
