-- the parts so far, whose codes are there, and those of the rest
use Rattle.std.proofs.Common.{length, map}
use denote.Text.{Utf8}
use denote.Shadow.{shadow}
use Rattle.lint_command.proofs.Denying.{HasFirst}
use Rattle.lint_command.proofs.deny.denied_codes.Given as goal

abbrev pub invariant-loop-word : goal.invariant-loop-word
invariant-loop-word l = shadow (Utf8 l.rest) × HasFirst l.initial.rest l.rest (map (λ code. code.now) l.denied.items)

abbrev pub decreases-loop-word : goal.decreases-loop-word
decreases-loop-word l = length l.rest
