-- Where a finding is, and what it says.
use Rattle.std.specs.Prelude.{ℕ, List, ◌++◌, codes}
use Rattle.std.specs.Fmt.{decimal}
use Rattle.phrases.specs.Names.{printed}
use Rattle.lint.specs.declared.finding.Amiss.{Amiss}
use Rattle.places.specs.declared.location.Location.{Location}
use Rattle.lint.specs.Grade.{finding_code, grade_of, grade_word}
use Rattle.lint.specs.Message.{message_of}

-- where a finding is, as it is printed: the file, the line and the column
abbrev pub position_text : List ℕ → Location → List ℕ
position_text name spot = printed name ++ codes ":" ++ decimal spot.place.line ++ codes ":" ++ decimal spot.place.column

-- what a finding says, as it is printed: its grade, its code and its message
abbrev pub finding_head_text : Amiss → List ℕ
finding_head_text what = grade_word (grade_of what) ++ codes "[" ++ finding_code what ++ codes "]: " ++ message_of what
