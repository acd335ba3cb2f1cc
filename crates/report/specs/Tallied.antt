-- The codes that are counted for the line of refusals, without where their texts lie in memory.
use Rattle.std.specs.Prelude.{List, map}
use Rattle.report.specs.declared.refused.CodeTally.{CodeTally}
use Rattle.report.specs.Refused.{RefusedCode}

-- a code that is counted
abbrev pub tallied_code : CodeTally → RefusedCode
tallied_code tally = record { code = tally.code.now; name = tally.name.now; many = tally.many }

-- codes that are counted, in order
abbrev pub tallied : List CodeTally → List RefusedCode
tallied tallies = map tallied_code tallies
