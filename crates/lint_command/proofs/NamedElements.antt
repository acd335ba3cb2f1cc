-- The lines of a log are of elements of the text that its trace was read of.
use Rattle.std.proofs.Common.{◌≡◌, ◌⊎◌, inl, inr, ℕ, suc, ◌+◌, ◌≤◌, ◌<◌, Bool, true, false, List, [], ◌∷◌, ◌++◌, length, map, Option, Some, None, Result, refl, sym, ap, subst, ◌∙◌, arith}
use Rattle.std.specs.Prelude.{All}
use Rattle.std.specs.List.{AllZip}
use Rattle.std.proofs.lemmas.List.{length-append, length-map}
use Rattle.std.proofs.lemmas.List.Elements.{All-append, All-cons, All-nil, All-weaker, All-same}
use Rattle.std.proofs.lemmas.Slice.Zip.{AllZip-long}
use Rattle.edn_reader.specs.declared.fault.EdnFault.{EdnFault}
use Rattle.edn_reader.specs.declared.fault.EdnFault.TheVariants as edn
use Rattle.edn_reader.specs.Fault.{AreElementsBefore, AreElementsSoFar, IsBeginning}
use Rattle.edn_reader.specs.Grammar.{ElementModel}
use Rattle.edn_reader.specs.Text.{IsText}
use Rattle.tower_file.specs.Contents.{TowerModel}
use Rattle.jepsen_form.specs.declared.gist.RefusedForm.{RefusedForm}
use Rattle.jepsen_form.specs.declared.item.Item.{Item}
use Rattle.jepsen_form.specs.declared.item.MomentField.{MomentField}
use Rattle.jepsen_form.specs.Item.{IsItem}
use Rattle.shards.specs.Closing.{ClosedShard}
use Rattle.shards.specs.Plan.{Plan}
use Rattle.logs.specs.declared.log.Broken.{Broken}
use Rattle.logs.specs.declared.log.Line.{Line}
use Rattle.logs.specs.declared.log.Log.{Log}
use Rattle.logs.specs.declared.log.What.{What}
use Rattle.logs.specs.Broken.{AreElements, BrokeByReading, BrokeByText, broken_by, is_of_reading}
use Rattle.logs.specs.Doings.{Doing, lines_at, lines_from, taken_of, what_of}
use Rattle.feeders.specs.Readers.{AreReadOf, IsReadUpTo, broke_reading}
use Rattle.logs.specs.Run.{EachNumbered, IsTraced}
use Rattle.logs.specs.Steps.{steps_after}
use Rattle.lint.specs.Found.{NamesElements}

-- a text has elements before its fault, and all of them where it has no fault
abbrev pub TextHasThem : Type 0
TextHasThem = (input : List ℕ) (pieces : List ElementModel) → IsText input pieces → AreElementsBefore input pieces

-- the elements that have ended in a prefix of a text are the first of its elements
abbrev pub FrontHasFirst : Type 0
FrontHasFirst = (bytes more : List ℕ) (pieces all : List ElementModel) → AreElementsSoFar bytes [] pieces → AreElementsBefore (bytes ++ more) all → IsBeginning pieces all

here : (place bound : ℕ) (what : Option What) → place < bound → All (λ (line : Line). line.event < bound) (lines_at place what)
here place bound None below = All-nil (λ (line : Line). line.event < bound)
here place bound (Some what) below =
    All-cons (λ (line : Line). line.event < bound) (record { event = place; what = what }) [] below (All-nil (λ (line : Line). line.event < bound))

below_all : (place : ℕ) (doings : List Doing) → All (λ (line : Line). line.event < place + length doings) (lines_from place doings)
below_all place [] = All-nil (λ (line : Line). line.event < place + 0)
below_all place (doing ∷ doings) =
    let bound = place + length (doing ∷ doings) in
    All-append (λ (line : Line). line.event < bound) (lines_at place (what_of doing)) (lines_from (place + 1) doings)
    (here place bound (what_of doing) (omega arith))
    (All-weaker (λ (line : Line). line.event < place + 1 + length doings) (λ (line : Line). line.event < bound) (λ line less. omega arith)
    (lines_from (place + 1) doings) (below_all (place + 1) doings))

as_many : (feeder : ℕ) (before items : List (Result Item RefusedForm)) → length (steps_after feeder before items) ≡ length items
as_many feeder before [] = refl
as_many feeder before (item ∷ items) = ap suc (as_many feeder (before ++ item ∷ []) items)

longer : (one other : List ElementModel) → IsBeginning one other → length one ≤ length other
longer one other begins = omega (arith, ap length begins.1, length-append one begins.0)

same_length : (text : List ℕ) (one other : List ElementModel) → AreElementsBefore text one → AreElementsBefore text other → length one ≡ length other
same_length text one other is_one is_other =
    omega (arith, longer other one (is_one.2 other is_other.0 is_other.1), longer one other (is_other.2 one is_one.0 is_one.1))

textual : (fault : EdnFault) → broke_reading (broken_by fault) ≡ false
textual (edn.Truncated place) = refl
textual (edn.StrayClose place) = refl
textual (edn.WrongClose place) = refl
textual (edn.TooDeep place) = refl
textual (edn.OddMap place) = refl
textual (edn.TagWithoutElement place) = refl
textual (edn.Memory place) = refl

of_text : (fault : EdnFault) (broken : Broken) → broken_by fault ≡ Some broken → is_of_reading broken.code ≡ true → ⊥
of_text fault broken is reading =
    let same : true ≡ false = sym reading ∙ sym (ap broke_reading is) ∙ textual fault in
    absurd (cc)

module _ (law : TextHasThem) (front : FrontHasFirst) where
  whole : (text : List ℕ) (pieces all : List ElementModel) → AreElementsBefore text pieces → AreElementsBefore text all → length pieces ≤ length all
  whole text pieces all is are = omega (arith, same_length text pieces all is are)

  up_to : (reading : Bool) (text trace : List ℕ) (broken : Broken) (pieces all : List ElementModel) → is_of_reading broken.code ≡ reading → IsReadUpTo reading text trace
      → BrokeByText trace broken pieces ⊎ BrokeByReading trace broken pieces → AreElementsBefore text all → length pieces ≤ length all
  up_to false text trace broken pieces all code read (inl is) are = whole text pieces all (subst (λ (bytes : List ℕ). AreElementsBefore bytes pieces) read is.2) are
  up_to false text trace broken pieces all code read (inr is) are = absurd cc
  up_to true text trace broken pieces all code read (inl is) are = absurd (of_text is.0 broken is.3 code)
  up_to true text trace broken pieces all code read (inr is) are =
      longer pieces all (front trace read.0 pieces all is.3 (subst (λ (bytes : List ℕ). AreElementsBefore bytes all) read.1 are))

  -- the text has as many elements as were read of it, or more
  enough : (text trace : List ℕ) (broken : Option Broken) (pieces all : List ElementModel) → IsReadUpTo (broke_reading broken) text trace → AreElements trace broken pieces → AreElementsBefore text all
      → length pieces ≤ length all
  enough text trace None pieces all read is are = whole text pieces all (subst (λ (bytes : List ℕ). AreElementsBefore bytes pieces) read (law trace pieces is)) are
  enough text trace (Some broken) pieces all read is are = up_to (is_of_reading broken.code) text trace broken pieces all refl read is are

  module _ (plan : Plan) (tower : TowerModel) (chosen : MomentField) (closed : List ClosedShard) where
    pub names : (feeder : ℕ) (text trace : List ℕ) (log : Log) → IsTraced plan tower chosen closed feeder trace log → IsReadUpTo (broke_reading log.broken) text trace → NamesElements text log
    names feeder text trace log is read pieces are =
        let many : length is.doings ≡ length is.are.pieces =
        sym (length-map is.doings taken_of) ∙ ap length is.done.for_steps ∙ as_many feeder [] is.items ∙ AllZip-long (IsItem tower chosen) is.are.pieces is.items is.are.read in
        let there = enough text trace log.broken is.are.pieces pieces read is.are.elements are in
        All-same (λ (line : Line). line.event < length pieces) log.lines.items _ is.done.noted
        (All-weaker (λ (line : Line). line.event < 0 + length is.doings) (λ (line : Line). line.event < length pieces) (λ line less. omega (arith, many, there)) _ (below_all 0 is.doings))

    pub each_names : {X : Type 0} (bytes : X → List ℕ) (number : ℕ) (texts : List X) (traces : List (List ℕ)) (logs : List Log) → EachNumbered (IsTraced plan tower chosen closed) number traces logs
        → AreReadOf (map (λ text. Some (bytes text)) texts) logs traces → AllZip NamesElements (map bytes texts) logs
    each_names bytes number [] [] [] are read = tt
    each_names bytes number [] [] (log ∷ logs) are read = absurd are
    each_names bytes number [] (trace ∷ traces) [] are read = absurd are
    each_names bytes number [] (trace ∷ traces) (log ∷ logs) are read = absurd read
    each_names bytes number (text ∷ texts) [] [] are read = absurd read
    each_names bytes number (text ∷ texts) [] (log ∷ logs) are read = absurd are
    each_names bytes number (text ∷ texts) (trace ∷ traces) [] are read = absurd are
    each_names bytes number (text ∷ texts) (trace ∷ traces) (log ∷ logs) are read =
        (names number (bytes text) trace log are.0 read.0, each_names bytes (number + 1) texts traces logs are.1 read.1)
