-- the chunk is fed up to here
use Rattle.std.proofs.Common.{length, take, drop, ◌-◌, ◌≡◌, ◌+◌, ◌≤◌, ◌++◌, ℕ, List}
use Rattle.feeders.specs.declared.pending.Pending.TheVariants.{Nothing}
use Rattle.feeders.specs.Intake.{CanGoOn, HasFed}
use Rattle.logs.specs.Start.{Start}
use Rattle.feeders.specs.Setting.{setting_of}
use Rattle.feeders.proofs.intake.Intake.take_piece.Given as goal

abbrev pub invariant-loop-at : goal.invariant-loop-at
invariant-loop-at g l = record {
  within : l.at ≤ length l.fn.piece;
  none : l.self.pending ≡ Nothing;
  can : CanGoOn (drop l.at l.fn.piece) l.self;
  taken : l.self.splitter.taken ≡ l.fn.self.splitter.taken + l.at;
  so_far : (start : Start) (bytes : List ℕ) → HasFed (setting_of g.O.Opening.plan l.fn.site.tower.now l.fn.site.field start) bytes l.fn.piece l.fn.self l.fn.access.pass
      → HasFed (setting_of g.O.Opening.plan l.fn.site.tower.now l.fn.site.field start) (bytes ++ take l.at l.fn.piece) (drop l.at l.fn.piece) l.self l.access.pass;
}

abbrev pub decreases-loop-at : goal.decreases-loop-at
decreases-loop-at g l = (l.fn.self.splitter.taken + length l.fn.piece - l.self.splitter.taken) + (l.fn.self.splitter.taken + length l.fn.piece - l.self.progress.place)
