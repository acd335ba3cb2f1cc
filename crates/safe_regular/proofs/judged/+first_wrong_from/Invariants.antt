use Rattle.safe_regular.proofs.judged.+first_wrong_from.Given as goal

-- proposed from what the function passes where it calls itself
abbrev pub decreases-first_wrong_from : goal.decreases-first_wrong_from
decreases-first_wrong_from l = l.looks
