-- What is in doubt of a register when its verdict changes, by the elements that were left out before.
use Rattle.std.specs.Prelude.{◌≡◌, ℕ, List, [], ◌∷◌, Option, Some, None, filter, flat_map, if◌then◌else◌, map}
use Rattle.std.specs.Option.{option_map_or}
use Rattle.std.specs.List.{slice_get}
use Rattle.shards.specs.declared.entry.VerdictChange.{VerdictChange}
use Rattle.logs.specs.declared.notice.Notice.{Notice}
use Rattle.logs.specs.declared.notice.Notice.TheVariants.{Changed, Refused, Broke, Ended}
use Rattle.report.specs.Doubt.{change_rests_on, is_about}
use Rattle.watch.specs.declared.text.NoticeForm.{NoticeForm}
use Rattle.watch.specs.declared.text.NoticeForm.TheVariants.{Record}
use Rattle.watch.specs.declared.doubt.LeftElement.{LeftElement}
use Rattle.watch.specs.declared.doubt.LeftSoFar.{LeftSoFar}

-- an element as a list, where it is of the register of this number
abbrev pub of_register : ℕ → LeftElement → List LeftElement
of_register number element = if is_about number element.about then element ∷ [] else []

-- the element that a notice says was left out, if it does
abbrev pub element_of : Notice → Option LeftElement
element_of (Changed feeder place line change) = None
element_of (Refused feeder place line left_out) = Some (record { at = (feeder, place); about = left_out.about })
element_of (Broke feeder broken line) = None
element_of (Ended feeder elements) = None

-- the same as a list, where it is of the register of this number
abbrev pub left_out_by : ℕ → Notice → List LeftElement
left_out_by number notice = option_map_or (of_register number) (element_of notice) []

-- the elements of the register of this number that notices say were left out, in order
abbrev pub named_in : ℕ → List Notice → List LeftElement
named_in number notices = flat_map (left_out_by number) notices

-- the place of an element: the number of its trace, and its place there
abbrev pub element_place : LeftElement → ℕ × ℕ
element_place element = element.at

-- the elements on which the failure rests that a change of a verdict tells of
abbrev pub rested_among : VerdictChange → List LeftElement → List LeftElement
rested_among change elements = filter (λ element. change_rests_on change element.about) elements

-- the elements that the earlier notices say were left out of the register whose verdict a notice says has changed
abbrev pub left_out_before : List Notice → Notice → List (ℕ × ℕ)
left_out_before earlier (Changed feeder place line change) = map element_place (named_in change.register.0 earlier)
left_out_before earlier (Refused feeder place line left_out) = []
left_out_before earlier (Broke feeder broken line) = []
left_out_before earlier (Ended feeder elements) = []

-- those of them on which its failure rests
abbrev pub rested_before : List Notice → Notice → List (ℕ × ℕ)
rested_before earlier (Changed feeder place line change) = map element_place (rested_among change (named_in change.register.0 earlier))
rested_before earlier (Refused feeder place line left_out) = []
rested_before earlier (Broke feeder broken line) = []
rested_before earlier (Ended feeder elements) = []

-- the elements that are kept of the register of this number; none where there is no list of it
abbrev pub kept_at : LeftSoFar → ℕ → List LeftElement
kept_at left number = option_map_or (λ elements. elements.items) (slice_get left.by_register.items number) []

-- the elements that are kept are those that these notices say were left out
abbrev pub AreLeft : List Notice → LeftSoFar → Type 0
AreLeft notices left = (number : ℕ) → kept_at left number ≡ named_in number notices

-- where notices are written as records, the elements that are kept are those that these notices say were left out
abbrev pub AreLeftFor : NoticeForm → List Notice → LeftSoFar → Type 0
AreLeftFor form notices left = form ≡ Record → AreLeft notices left
