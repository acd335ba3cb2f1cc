-- What the commands that print a text wrote.
use Rattle.std.specs.Prelude.{◌≡◌, ℕ, List, ◌++◌, Option, Some, None}
use Rattle.std.specs.Io.KnownBytes.{Appends}
use Rattle.texts.specs.declared.entry.Explanation.{Explanation}
use Rattle.texts.specs.Printing.{AreLines, entry_text}
use Rattle.texts.specs.Codes.{all_codes, code_of}

-- a text was written, and the status is 0
abbrev pub IsPrintedText : List ℕ → ℕ → Option (List ℕ) → Option (List ℕ) → Type 0
IsPrintedText text status old new = Appends old new text × (status ≡ 0)

-- what `explain` did with a word: it names a code, or a word of a report, and the entry of that was written
pub record IsExplainedWord (word : List ℕ) (status : ℕ) (old new : Option (List ℕ)) : Type 0 where
  pub entry : Explanation
  pub named : code_of word ≡ Some entry.code.now
  pub written : IsPrintedText (entry_text entry) status old new

-- what `explain` did without a word: a line of each code and word was written
pub record IsListOfCodes (status : ℕ) (old new : Option (List ℕ)) : Type 0 where
  pub text : List ℕ
  pub lines : AreLines all_codes text
  pub written : IsPrintedText text status old new

-- what `explain` did: the entry of the word was written, or a line of each code and word where no word was given
abbrev pub IsExplained : Option (List ℕ) → ℕ → Option (List ℕ) → Option (List ℕ) → Type 0
IsExplained (Some word) status old new = IsExplainedWord word status old new
IsExplained None status old new = IsListOfCodes status old new

-- the text of a manual: some help, whose words are the command line's, and then a line of each code and word
pub record IsManualText (text : List ℕ) : Type 0 where
  pub help : List ℕ
  pub lines : List ℕ
  pub are : AreLines all_codes lines
  pub parts : text ≡ help ++ lines

-- what `manual` did: the text of a manual was written
pub record IsManual (status : ℕ) (old new : Option (List ℕ)) : Type 0 where
  pub text : List ℕ
  pub is : IsManualText text
  pub written : IsPrintedText text status old new
