-- The codes of notes that are to count as warnings.
use Rattle.std.specs.Prelude.{◌≡◌, ◌==◌, ℕ, List, [], ◌∷◌, Option, Some, None, if◌then◌else◌}
use Rattle.std.specs.List.{AllZip}
use Rattle.clap.specs.Words.{Text}
use Rattle.texts.specs.Codes.{code_among, note_codes}

-- the parts with one byte more at the beginning of the first
abbrev pub at_front : ℕ → List Text → List Text
at_front byte [] = (byte ∷ []) ∷ []
at_front byte (part ∷ parts) = (byte ∷ part) ∷ parts

-- the parts of a text between its commas
abbrev pub comma_parts : Text → List Text
comma_parts [] = [] ∷ []
comma_parts (byte ∷ text) = if byte == 44 then [] ∷ comma_parts text else at_front byte (comma_parts text)

-- the word names a note, in capitals or not, and this is the note's code
abbrev pub IsNoteNamed : Text → Text → Type 0
IsNoteNamed word code = code_among note_codes word ≡ Some code

-- the codes of the notes that an optional text names, with commas between them
abbrev pub AreDenied : Option Text → List Text → Type 0
AreDenied None denied = denied ≡ []
AreDenied (Some text) denied = AllZip IsNoteNamed (comma_parts text) denied
