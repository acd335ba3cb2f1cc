-- The elements that notices say were left out, kept by register.
use Rattle.std.proofs.Common.{◌≡◌, ◌<◌, ◌≤◌, ◌+◌, ◌==◌, ℕ, true, false, List, [], ◌∷◌, ◌++◌, Option, Some, None, if◌then◌else◌, length, drop, refl, sym, ap, ◌∙◌, slice_index_or}
use Rattle.std.specs.Prelude.{Result, Ok, Err, IfOk, OnOk, map}
use Rattle.std.specs.Option.{option_map_or}
use Rattle.std.proofs.lemmas.List.{append-nil, append_assoc, at_drop_all, at_drop_more}
use Rattle.std.proofs.lemmas.List.Concat.{flat_map-append}
use Rattle.intervals.specs.declared.operation.RegId.{RegId}
use Rattle.shards.specs.declared.entry.VerdictChange.{VerdictChange}
use Rattle.logs.specs.declared.notice.Notice.{Notice}
use Rattle.report.specs.Doubt.{change_rests_on}
use Rattle.watch.specs.declared.doubt.LeftElement.{LeftElement}
use Rattle.watch.specs.declared.doubt.LeftSoFar.{LeftSoFar}
use Rattle.watch.specs.Doubt.{AreLeft, element_of, kept_at, left_out_by, named_in, of_register, element_place, rested_among}

-- where one more notice came, and what is kept grew by the element that it names, what is kept is that of all
pub left_more : (earlier : List Notice) (notice : Notice) (old new : LeftSoFar) → ((number : ℕ) → kept_at new number ≡ kept_at old number ++ left_out_by number notice)
    → AreLeft earlier old → AreLeft (earlier ++ notice ∷ []) new
left_more earlier notice old new grows are number =
    grows number
    ∙ ap (λ (l : List LeftElement). l ++ left_out_by number notice) (are number)
    ∙ sym (flat_map-append (left_out_by number) earlier (notice ∷ []) ∙ ap (λ (l : List LeftElement). named_in number earlier ++ l) (append-nil (left_out_by number notice)))

pub left_more_by : {E : Type 0} (result : Result Unit E) (notice : Notice) (old new : LeftSoFar) → OnOk result ((number : ℕ) → kept_at new number ≡ kept_at old number ++ left_out_by number notice)
    → OnOk result ((earlier : List Notice) → AreLeft earlier old → AreLeft (earlier ++ notice ∷ []) new)
left_more_by (Ok done) notice old new grows = λ earlier are. left_more earlier notice old new grows are
left_more_by (Err fault) notice old new grows = tt

pub left_same : (earlier : List Notice) (notice : Notice) (old : LeftSoFar) → ((number : ℕ) → left_out_by number notice ≡ []) → AreLeft earlier old → AreLeft (earlier ++ notice ∷ []) old
left_same earlier notice old none are =
    left_more earlier notice old old (λ number. sym (ap (λ (l : List LeftElement). kept_at old number ++ l) (none number) ∙ append-nil (kept_at old number))) are

pub given : (notice : Notice) (found : Option LeftElement) (element : LeftElement) (number : ℕ) → found ≡ element_of notice → found ≡ Some element → of_register number element ≡ left_out_by number notice
given notice found element number is some = ap (λ (o : Option LeftElement). option_map_or (of_register number) o []) (sym some ∙ is)

pub not_given : (notice : Notice) (found : Option LeftElement) (number : ℕ) → found ≡ element_of notice → found ≡ None → left_out_by number notice ≡ []
not_given notice found number is none = ap (λ (o : Option LeftElement). option_map_or (of_register number) o []) (sym is ∙ none)

-- an element of a register is one of those of that register alone; one of none is of none
pub of_one : (element : LeftElement) (register : RegId) (number : ℕ) → element.about.register ≡ Some register → (if register.0 == number then element ∷ [] else []) ≡ of_register number element
of_one element register number is = ap (λ (o : Option RegId). if option_map_or (λ (r : RegId). r.0 == number) o false then element ∷ [] else []) (sym is)

pub of_none : (element : LeftElement) (number : ℕ) → element.about.register ≡ None → of_register number element ≡ []
of_none element number is = ap (λ (o : Option RegId). if option_map_or (λ (r : RegId). r.0 == number) o false then element ∷ [] else []) is

-- the places of those of some elements on which a failure rests
abbrev pub rested_places : VerdictChange → List LeftElement → List (ℕ × ℕ)
rested_places change elements = map element_place (rested_among change elements)

-- ---- results

pub ok_then : {A E : Type 0} {P Q : A → Type 0} (result : Result A E) → ((a : A) → P a → Q a) → IfOk result P → IfOk result Q
ok_then (Ok a) f p = f a p
ok_then (Err fault) f p = tt

pub on_ok_then : {A E P Q : Type 0} (result : Result A E) → (P → Q) → OnOk result P → OnOk result Q
on_ok_then (Ok a) f p = f p
on_ok_then (Err fault) f p = tt
