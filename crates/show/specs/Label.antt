-- The labels of bars.
use Rattle.std.specs.Prelude.{ℕ, List, [], ◌++◌, Option, Some, None, codes, if◌then◌else◌}
use Rattle.std.specs.Fmt.{decimal, signed_decimal}
use Rattle.intervals.specs.declared.operation.Op.{Op}
use Rattle.intervals.specs.declared.operation.Moment.{Moment}
use Rattle.intervals.specs.declared.operation.Value.{Value}
use Rattle.intervals.specs.declared.operation.Value.TheVariants.{Nil, Int}
use Rattle.intervals.specs.Operation.{is_write, value_of}
use Rattle.show.specs.declared.label.Head.{Head}
use Rattle.show.specs.declared.label.Head.TheVariants as heads
use Rattle.show.specs.declared.letter.Letter.{Letter}
use Rattle.show.specs.declared.letter.Lettered.{Lettered}
use Rattle.show.specs.Letter.{letter_for, word_of}

-- a value as it is printed: `nil` or an integer
abbrev pub value_text : Value → List ℕ
value_text Nil = codes "nil"
value_text (Int number) = signed_decimal number

-- what a read returned as it is printed; `?` where it has no answer
abbrev pub read_text : Option Moment → Value → List ℕ
read_text None value = codes "?"
read_text (Some end) value = value_text value

-- what an operation did as it is printed: `w` or `r`, and the value
abbrev pub act_text : Op → List ℕ
act_text op = if is_write op then codes "w " ++ value_text (value_of op.act) else codes "r " ++ read_text op.end (value_of op.act)

-- the head of a label: the operation's letter, where it has one, else its rank, if any
abbrev pub head_for : Option Letter → Option ℕ → Option Head
head_for (Some letter) rank = Some (heads.Letter letter)
head_for None (Some rank) = Some (heads.Rank rank)
head_for None None = None

-- the head of a label as it is printed, with a blank after it; empty where there is none
abbrev pub label_head_text : Option Head → List ℕ
label_head_text None = []
label_head_text (Some (heads.Letter letter)) = word_of letter ++ codes " "
label_head_text (Some (heads.Rank rank)) = decimal rank ++ codes " "

-- the label of an operation: its head, and what it did
abbrev pub label_text : Option Head → Op → List ℕ
label_text head op = label_head_text head ++ act_text op

-- the label of an operation with this optional rank, by its letter where it has one
abbrev pub label_by : List Lettered → Option ℕ → Op → List ℕ
label_by letters rank op = label_text (head_for (letter_for letters op.id) rank) op
