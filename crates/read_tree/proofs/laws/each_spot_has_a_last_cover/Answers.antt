use Rattle.read_tree.proofs.Told.{cover_at, last_cover}
use Rattle.std.proofs.Common.{None}
use Rattle.read_tree.proofs.laws.each_spot_has_a_last_cover.Goals as goal

pub returns : goal.returns
returns c = λ items spot order. (cover_at None items spot, last_cover items spot order)
