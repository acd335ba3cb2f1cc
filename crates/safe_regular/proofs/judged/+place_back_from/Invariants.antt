use Rattle.safe_regular.proofs.judged.+place_back_from.Given as goal

-- proposed from what the function passes where it calls itself
abbrev pub decreases-place_back_from : goal.decreases-place_back_from
decreases-place_back_from l = l.at
