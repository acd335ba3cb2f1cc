-- What `show` draws of a register: which one, how much of it, and how wide.
use Rattle.std.specs.Prelude.{◌≡◌, ◌↔◌, ◌-◌, ◌^◌, ◌||◌, ℕ, Bool, false, min, List, [], filter, Option, Some, None, IfSome, IsNone, is_some, if◌then◌else◌}
use Rattle.std.specs.List.{slice_get}
use Rattle.intervals.specs.declared.claim.Initial.{Initial}
use Rattle.intervals.specs.declared.claim.Kind.TheVariants.{Atomic}
use Rattle.intervals.specs.declared.operation.Op.{Op}
use Rattle.intervals.specs.declared.operation.OpId.{OpId}
use Rattle.intervals.specs.declared.operation.RegId.{RegId}
use Rattle.intervals.specs.Kind.{Holds}
use Rattle.intervals.specs.Operation.{is_write}
use Rattle.intervals.specs.Table.{ops_in_slots}
use Rattle.intervals.specs.Terms.{ClaimModel, is_known, value_at_first}
use Rattle.zones.specs.AtFirst.{with_start}
use Rattle.zones.specs.Turn.{IsOrder}
use Rattle.register_book.specs.BookModel.{BookModel, claimed_of}
use Rattle.register_book.specs.Fault.{IsWitness}
use Rattle.tower_file.specs.Contents.{TowerModel}
use Rattle.phrases.specs.Names.{register_name}
use Rattle.report.specs.declared.doubt.Doubt.{Doubt}
use Rattle.report.specs.Doubted.{is_doubted}
use Rattle.timeline.specs.declared.choice.Extent.{Extent}
use Rattle.timeline.specs.declared.choice.Extent.TheVariants.{All, Around}
use Rattle.show.specs.declared.scene.Sketch.{Sketch}
use Rattle.show.specs.declared.subject.Subject.{Subject}
use Rattle.show.specs.Scene.{IsScene}
use Rattle.show.specs.declared.style.Theme.{Theme}
use Rattle.show.specs.declared.style.Theme.TheVariants as shown_themes
use Rattle.words.specs.Words.{AskedShow}
use Rattle.words.specs.declared.show.ThemeWord.{ThemeWord}
use Rattle.words.specs.declared.show.ThemeWord.TheVariants as asked_themes

-- the value that a claim has at first, or that nobody knows it
abbrev pub IsInitialOf : ClaimModel → Initial → Type 0
IsInitialOf claim initial = (value_at_first initial ≡ claim.initial) × (is_known initial ≡ claim.known)

-- an order that explains the operations of a register that is atomic and holds; empty for any other
pub record IsDrawnOrder (book : BookModel) (ids : List OpId) : Type 0 where
  pub explains : (book.claim.kind ≡ Atomic) × Holds (claimed_of book) → IsOrder (with_start (claimed_of book)) book.ops ids
  pub none : ¬ ((book.claim.kind ≡ Atomic) × Holds (claimed_of book)) → ids ≡ []

-- an operation is drawn: any where all are asked for, else each but a read without an answer, which is not judged
abbrev pub is_drawn : Bool → Op → Bool
is_drawn all op = all || (is_write op || is_some op.end)

-- the operation of a slot is drawn, where it has one
abbrev pub is_drawn_slot : Bool → Option Op → Bool
is_drawn_slot all None = false
is_drawn_slot all (Some op) = is_drawn all op

-- the operations that are drawn
abbrev pub drawn_ops : Bool → List Op → List Op
drawn_ops all ops = filter (is_drawn all) ops

-- the register of this number: its name, its kind, its value at first, its operations, the witness, none exactly where it
-- holds, an order, and whether its failure rests on an element that was left out
pub record IsSubjectOf (asked : AskedShow) (tower : TowerModel) (doubts : List Doubt) (id : RegId) (book : BookModel) (subject : Subject) : Type 0 where
  pub name : subject.name.now ≡ register_name tower.registers id
  pub kind : subject.kind ≡ book.claim.kind
  pub initial : IfSome (slice_get tower.registers id.0) (λ register. IsInitialOf register.claim subject.initial)
  pub ops : ops_in_slots subject.slots.now ≡ drawn_ops asked.all book.ops
  pub witness : IfSome subject.witness (IsWitness book.claim book.ops)
  pub none : IsNone subject.witness ↔ Holds (claimed_of book)
  pub order : IsDrawnOrder book subject.order.now
  pub in_doubt : subject.in_doubt ≡ is_doubted doubts id

-- how much of a register is asked for
abbrev pub asked_extent : AskedShow → Extent
asked_extent asked = if asked.all then All else Around asked.around

-- how wide a picture is: as it is asked for, but at most 2^32 - 1, or the usual width
abbrev pub asked_width : Option ℕ → ℕ → ℕ
asked_width None usual = usual
asked_width (Some width) usual = min width (2 ^ 32 - 1)

-- the colours of a picture that are asked for
abbrev pub theme_by : ThemeWord → Theme
theme_by asked_themes.Auto = shown_themes.Auto
theme_by asked_themes.Light = shown_themes.Light
theme_by asked_themes.Dark = shown_themes.Dark

-- the sketch of the register of this number, with as much of it as is asked for
pub record IsSketchOf (asked : AskedShow) (tower : TowerModel) (doubts : List Doubt) (id : RegId) (book : BookModel) (sketch : Sketch) : Type 0 where
  pub subject : IsSubjectOf asked tower doubts id book sketch.subject
  pub extent : sketch.extent ≡ asked_extent asked
  pub scene : IsScene sketch.subject sketch.extent sketch.scene
