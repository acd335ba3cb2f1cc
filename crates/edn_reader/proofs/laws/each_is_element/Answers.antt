use Rattle.std.proofs.Common.{◌≤◌, arith}
use Rattle.edn_reader.proofs.Views as views
use Rattle.edn_reader.proofs.laws.each_is_element.Goals as goal

pub returns : goal.returns
returns c input pieces at front = let low : 64 ≤ 64 = omega arith in views.each_is_element low front
