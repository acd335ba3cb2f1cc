-- The words of a call that ask for a tower, a field of moments and traces.
use Rattle.std.specs.Prelude.{List, ℕ, [], ◌++◌, codes}
use Rattle.clap.specs.Words.{Text}
use Rattle.intervals.specs.declared.claim.Kind.TheVariants.{Safe, Regular, Atomic}
use Rattle.jepsen_form.specs.declared.item.MomentField.{MomentField}
use Rattle.jepsen_form.specs.declared.item.MomentField.TheVariants.{Index, Time}
use Rattle.phrases.specs.Names.{printed}
use Rattle.words.specs.Words.{AskedTower, OfFile, OfTraces}

-- an option with its value, after a blank
abbrev pub option_words : List ℕ → List ℕ → List ℕ
option_words name value = codes " --" ++ name ++ codes " " ++ printed value

-- the words that ask for a tower; that of atomic registers is asked for by none
abbrev pub tower_words : AskedTower → List ℕ
tower_words (OfFile name) = option_words (codes "tower") name
tower_words (OfTraces Atomic) = []
tower_words (OfTraces Regular) = option_words (codes "each") (codes "regular")
tower_words (OfTraces Safe) = option_words (codes "each") (codes "safe")

-- the words that ask for a field of moments; `:index` is asked for by none
abbrev pub moment_words : MomentField → List ℕ
moment_words Index = []
moment_words Time = option_words (codes "moment") (codes "time")

-- the name of a trace, after a blank
abbrev pub trace_word : Text → List ℕ
trace_word name = codes " " ++ printed name
