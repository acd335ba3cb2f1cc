-- What a picture shows: operations with their labels, marks and seats.
use Rattle.std.specs.Prelude.{◌≡◌, ◌*◌, ◌-◌, ◌^◌, ◌++◌, true, min, List, [], ◌∷◌, Option, Some, None, drop, length, map, string_bytes}
use Rattle.std.specs.Fmt.{decimal}
use Rattle.intervals.specs.declared.operation.Op.{Op}
use Rattle.intervals.specs.declared.operation.OpId.{OpId}
use Rattle.intervals.specs.Least.{least_by}
use Rattle.intervals.specs.Table.{ops_in_slots}
use Rattle.register_book.specs.declared.around.WritesAround.{WritesAround}
use Rattle.register_book.specs.declared.fault.Witness.{Witness}
use Rattle.register_book.specs.declared.fault.Witness.TheVariants.{Wrong}
use Rattle.register_book.specs.Around.{AreAround}
use Rattle.timeline.specs.declared.choice.Chosen.{Chosen}
use Rattle.timeline.specs.declared.choice.Extent.{Extent}
use Rattle.timeline.specs.declared.choice.Extent.TheVariants.{Around}
use Rattle.timeline.specs.Axis.{AreMarks, AreSpans, folded_of}
use Rattle.timeline.specs.Choice.{IsChosen}
use Rattle.timeline.specs.Seat.{AreSeats}
use Rattle.show.specs.declared.letter.Lettered.{Lettered}
use Rattle.show.specs.declared.scene.Scene.{Scene}
use Rattle.show.specs.declared.subject.Subject.{Subject}
use Rattle.show.specs.Front.{front_of}
use Rattle.show.specs.Label.{label_by}
use Rattle.show.specs.Letter.{letters_of}
use Rattle.show.specs.Rank.{rank_of}

-- how much is shown of a register: eight times as many operations where it holds, at most 2^64 - 1
abbrev pub extent_of : Option Witness → Extent → Extent
extent_of None (Around around) = Around (min (around * 8) (2 ^ 64 - 1))
extent_of witness extent = extent

-- the id of an optional operation
abbrev pub ids_of_optional : Option Op → List OpId
ids_of_optional None = []
ids_of_optional (Some op) = op.id ∷ []

-- the operation that began first, or none
abbrev pub first_to_begin : List Op → Option Op
first_to_begin ops = least_by (λ op. op.begin.0) (λ op. true) ops

-- there is no write around
pub record HasNoneAround (around : WritesAround) : Type 0 where
  pub last : around.last ≡ None
  pub over : around.over.items ≡ []
  pub source : around.source ≡ None
  pub later : around.later ≡ None

-- the writes around the read of a witness that is a wrong read; none otherwise
abbrev pub AreAroundOf : List Op → Option Witness → WritesAround → Type 0
AreAroundOf ops (Some (Wrong read)) around = AreAround ops read around
AreAroundOf ops witness around = HasNoneAround around

-- what is shown besides the operations with letters: of a register that fails the writes of what a wrong read returned,
-- of one that holds its first operation
abbrev pub asked_beside : List Op → Option Witness → WritesAround → List OpId
asked_beside ops None around = ids_of_optional (first_to_begin ops)
asked_beside ops (Some witness) around = ids_of_optional around.source ++ ids_of_optional around.later

-- what is shown before all else: the operations with letters, and those that are asked for besides
abbrev pub asked_ids : List Op → Option Witness → WritesAround → List Lettered → List OpId
asked_ids ops witness around letters = map (λ (lettered : Lettered). lettered.id) letters ++ asked_beside ops witness around

-- the scene of a register: of the operations that stand those that the timeline chooses, each with its rank, its label,
-- its marks and its seat; the others are counted between the marks, and the label of a mark is its moment after the front
pub record IsScene (subject : Subject) (extent : Extent) (scene : Scene) : Type 0 where
  pub witness : scene.witness ≡ subject.witness
  pub around : AreAroundOf (ops_in_slots subject.slots.now) scene.witness scene.around
  pub letters : scene.letters.items ≡ letters_of scene.witness scene.around
  pub chosen : Chosen
  pub choice : IsChosen (ops_in_slots subject.slots.now) (asked_ids (ops_in_slots subject.slots.now) scene.witness scene.around scene.letters.items) (extent_of scene.witness extent) chosen
  pub shown : scene.ops.items ≡ chosen.shown.items
  pub ranks : scene.ranks.items ≡ map (λ op. rank_of subject.order.now op.id) scene.ops.items
  pub labels : map (λ label. string_bytes label) scene.labels.items ≡ map (λ op. label_by scene.letters.items (rank_of subject.order.now op.id) op) scene.ops.items
  pub marks : AreMarks scene.ops.items scene.marks.items
  pub front : string_bytes scene.front ≡ front_of (map (λ mark. decimal mark.moment.0) scene.marks.items)
  pub moments : map (λ label. string_bytes label) scene.moments.items ≡ map (λ mark. drop (length (string_bytes scene.front)) (decimal mark.moment.0)) scene.marks.items
  pub spans : AreSpans scene.ops.items scene.marks.items scene.spans.items
  pub folded : scene.folded.items ≡ folded_of 0 scene.marks.items chosen.hidden.items
  pub seats : AreSeats scene.ops.items scene.seats.items
  pub all : scene.all ≡ length (ops_in_slots subject.slots.now)
