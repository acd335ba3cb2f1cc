-- what the notices so far tell, and then what is left
use Rattle.std.proofs.Common.{◌≡◌, ◌++◌, take}
use Rattle.watch.specs.Watched.{changes_in}
use Rattle.watch.proofs.compare.rest_of.Given as goal

abbrev pub invariant-loop-notice : goal.invariant-loop-notice
invariant-loop-notice l = l.own ≡ changes_in l.shards l.at (take l.notice-index l.notices) ++ l.rest
