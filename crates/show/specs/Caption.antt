-- Words of the sentences below a picture.
use Rattle.std.specs.Prelude.{ℕ, List, [], ◌∷◌, ◌++◌, codes, if◌then◌else◌}
use Rattle.intervals.specs.declared.claim.Kind.{Kind}
use Rattle.intervals.specs.declared.claim.Kind.TheVariants.{Safe, Regular, Atomic}
use Rattle.intervals.specs.declared.operation.Op.{Op}
use Rattle.intervals.specs.Operation.{value_of}
use Rattle.register_book.specs.declared.fault.Side.{Side}
use Rattle.register_book.specs.declared.fault.Side.TheVariants as sides
use Rattle.register_book.specs.Fault.{is_one}
use Rattle.show.specs.Label.{value_text}

-- the value of an operation as it is printed
abbrev pub value_text_of : Op → List ℕ
value_text_of op = value_text (value_of op.act)

-- the end of a sentence and of its line: a full stop and a line end
abbrev pub line_end : List ℕ
line_end = 46 ∷ (10 ∷ [])

-- the sentence on a register that holds
abbrev pub holds_text : Kind → List ℕ
holds_text Safe = codes "Each read returned what it may return" ++ line_end
holds_text Regular = codes "Each read returned what it may return" ++ line_end
holds_text Atomic = codes "Each number is a place in an order that explains what was read" ++ line_end

-- the value of a side of a conflict as it is printed; `the value at first` where the side is no operation
abbrev pub side_text : Side → List ℕ
side_text (sides.Op op) = value_text_of op
side_text sides.Initial = codes "the value at first"

-- the beginning of a sentence: one side ended before the other began, or is the value at first; by their letters
abbrev pub before_text : List ℕ → Side → List ℕ → List ℕ
before_text letter (sides.Op op) other = letter ++ (codes " ended before " ++ (other ++ codes " began, so "))
before_text letter sides.Initial other = letter ++ codes " is the value at first, so "

-- the letter of the second operation of a conflict: `B`, or `BC` where the third is the same operation
abbrev pub second_letter : Side → Side → List ℕ
second_letter b c = if is_one b c then codes "BC" else codes "B"

-- the letter of the third operation of a conflict: `C`, or `BC` where the second is the same operation
abbrev pub third_letter : Side → Side → List ℕ
third_letter b c = if is_one b c then codes "BC" else codes "C"
