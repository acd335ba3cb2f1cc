-- The letters of the operations that a picture is about.
use Rattle.std.specs.Prelude.{◌+◌, ℕ, zero, suc, Bool, true, false, List, [], ◌∷◌, ◌++◌, Option, Some, None, codes, option_map, if◌then◌else◌}
use Rattle.std.specs.List.{find}
use Rattle.intervals.specs.declared.operation.Op.{Op}
use Rattle.intervals.specs.declared.operation.OpId.{OpId}
use Rattle.intervals.specs.Operation.{is_write, same_id}
use Rattle.register_book.specs.declared.around.WritesAround.{WritesAround}
use Rattle.register_book.specs.declared.fault.InRole.{InRole}
use Rattle.register_book.specs.declared.fault.Role.{Role}
use Rattle.register_book.specs.declared.fault.Role.TheVariants.{Read, FirstRead, SecondRead, EarlyRead, LateWrite, A, B, C, Bc, D}
use Rattle.register_book.specs.declared.fault.Witness.{Witness}
use Rattle.register_book.specs.Fault.{roles_of}
use Rattle.show.specs.declared.letter.Letter.{Letter}
use Rattle.show.specs.declared.letter.Letter.TheVariants.{OfRole, LastWrite, FirstOver, SecondOver, ThirdOver}
use Rattle.show.specs.declared.letter.Lettered.{Lettered}

-- the letter of an operation in this role, as it is printed
abbrev pub role_word : Role → List ℕ
role_word Read = codes "R"
role_word FirstRead = codes "R1"
role_word SecondRead = codes "R2"
role_word EarlyRead = codes "R"
role_word LateWrite = codes "W"
role_word A = codes "A"
role_word B = codes "B"
role_word C = codes "C"
role_word Bc = codes "BC"
role_word D = codes "D"

-- a letter as it is printed
abbrev pub word_of : Letter → List ℕ
word_of (OfRole role) = role_word role
word_of LastWrite = codes "W1"
word_of FirstOver = codes "W2"
word_of SecondOver = codes "W3"
word_of ThirdOver = codes "W4"

-- an operation with this letter
abbrev pub lettered : Op → Letter → Lettered
lettered op letter = record { id = op.id; letter = letter }

-- an optional operation with this letter
abbrev pub letters_if : Option Op → Letter → List Lettered
letters_if None letter = []
letters_if (Some op) letter = lettered op letter ∷ []

-- the letter of the write of this number among those that a wrong read overlaps; the first three have one
abbrev pub over_letter : ℕ → Option Letter
over_letter zero = Some FirstOver
over_letter (suc zero) = Some SecondOver
over_letter (suc (suc zero)) = Some ThirdOver
over_letter (suc (suc (suc number))) = None

-- an operation with an optional letter; nothing where there is no letter
abbrev pub letters_by : Option Letter → Op → List Lettered
letters_by None op = []
letters_by (Some letter) op = lettered op letter ∷ []

-- the writes that a wrong read overlaps with their letters; the first of these writes has this number
abbrev pub over_letters : ℕ → List Op → List Lettered
over_letters number [] = []
over_letters number (op ∷ ops) = letters_by (over_letter number) op ++ over_letters (number + 1) ops

-- the operations in slots that have one, with the letters of their roles
abbrev pub letters_in : List (Option InRole) → List Lettered
letters_in [] = []
letters_in (None ∷ slots) = letters_in slots
letters_in (Some one ∷ slots) = lettered one.op (OfRole one.role) ∷ letters_in slots

-- the writes around a wrong read with their letters: the last before it, and the first three that overlap it
abbrev pub around_letters : WritesAround → List Lettered
around_letters around = letters_if around.last LastWrite ++ over_letters 0 around.over.items

-- the operations that a picture is about with their letters: those of the witness, and the writes around a wrong read
abbrev pub letters_of : Option Witness → WritesAround → List Lettered
letters_of None around = around_letters around
letters_of (Some witness) around = letters_in (roles_of witness) ++ around_letters around

-- the letter of an operation, or none
abbrev pub letter_for : List Lettered → OpId → Option Letter
letter_for letters id = option_map (λ (l : Lettered). l.letter) (find (λ (l : Lettered). same_id l.id id) letters)

-- `w` for a write and `r` for a read
abbrev pub short_act : Op → List ℕ
short_act op = if is_write op then codes "w" else codes "r"

-- an optional letter as it is printed, else the word of what the operation is
abbrev pub letter_or_act : Option Letter → Op → List ℕ
letter_or_act None op = short_act op
letter_or_act (Some letter) op = word_of letter

-- what is written of an operation where there is no room for its label: its letter, else `w` or `r`
abbrev pub short_label : List Lettered → Op → List ℕ
short_label letters op = letter_or_act (letter_for letters op.id) op

-- whether an operation in this role is a read that is wrong by itself, without another
abbrev pub is_wrong_role : Role → Bool
is_wrong_role Read = true
is_wrong_role FirstRead = false
is_wrong_role SecondRead = false
is_wrong_role EarlyRead = true
is_wrong_role LateWrite = false
is_wrong_role A = false
is_wrong_role B = false
is_wrong_role C = false
is_wrong_role Bc = false
is_wrong_role D = false

-- the same of an operation with this optional letter
abbrev pub is_wrong_letter : Option Letter → Bool
is_wrong_letter None = false
is_wrong_letter (Some (OfRole role)) = is_wrong_role role
is_wrong_letter (Some LastWrite) = false
is_wrong_letter (Some FirstOver) = false
is_wrong_letter (Some SecondOver) = false
is_wrong_letter (Some ThirdOver) = false
