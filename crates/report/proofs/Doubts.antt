-- What is in doubt of registers: each element that was left out is noted of its register.
use Rattle.std.proofs.Common.{◌≡◌, ◌≢◌, Decides, ◌<◌, ◌≤◌, append_assoc, drop, ◌==◌, ◌&&◌, ◌||◌, ◌+◌, ℕ, zero, suc, Bool, true, false, List, [], ◌∷◌, ◌++◌, length, Option, Some, None, if◌then◌else◌, refl, sym, ap, subst, ◌∙◌, arith, append-nil, slice_set, slice_index_or}
use Rattle.std.proofs.lemmas.Bool.Decides.{nat_tests, Decides-or}
use Rattle.std.specs.Option.{option_map_or}
use Rattle.std.proofs.lemmas.List.{at_drop_all, at_drop_more}
use Rattle.std.specs.List.{flat_map, list_any, slice_get}
use Rattle.intervals.specs.declared.operation.Op.{Op}
use Rattle.intervals.specs.declared.operation.OpId.{OpId}
use Rattle.intervals.specs.declared.operation.Value.{Value}
use Rattle.intervals.specs.Operation.{value_of}
use Rattle.intervals.proofs.Agreement.{Decides-IsTrue, Decides-list_any, Decides-same_value}
use Rattle.intervals.proofs.Ids.{Decides-same_id_is}
use Rattle.jepsen_form.specs.declared.gist.Written.{Written}
use Rattle.jepsen_form.specs.declared.gist.Written.TheVariants.{Nothing, Known, Unread}
use Rattle.pairing.specs.declared.about.About.{About}
use Rattle.register_book.specs.declared.fault.InRole.{InRole}
use Rattle.register_book.specs.Fault.{ops_in_roles}
use Rattle.logs.specs.declared.log.Line.{Line}
use Rattle.logs.specs.declared.log.Log.{Log}
use Rattle.report.specs.declared.doubt.Doubt.{Doubt}
use Rattle.report.specs.declared.finding.Finding.{Finding}
use Rattle.report.specs.Doubt.{AreDoubts, Touches, RestsOn, is_about, is_of_operation, is_rested_on, is_unread, left_at, left_from, left_in, touches, touches_one, witness_at, would_write}
use Rattle.report.specs.Doubting.{AreNotedSoFar, touches_slot}

-- an element touches the operation of a slot where it touches one of the operations in slots
pub any_slot : (about : About) (slots : List (Option InRole)) → list_any (touches_slot about) slots ≡ list_any (touches about) (ops_in_roles slots)
any_slot about [] = refl
any_slot about (None ∷ slots) = any_slot about slots
any_slot about (Some one ∷ slots) = ap (λ (b : Bool). touches about one.op || b) (any_slot about slots)

-- what a list of doubts, or of other things by register, has for a register
abbrev at : {D A : Type 0} → (D → List A) → List D → ℕ → List A
at f doubts number = option_map_or f (slice_get doubts number) []

added_here : {D A : Type 0} (f : D → List A) (doubts : List D) (number : ℕ) (old new : D) (more : List A) → number < length doubts → old ≡ slice_index_or doubts number old → f new ≡ f old ++ more
    → at f (slice_set doubts number new) number ≡ at f doubts number ++ more
added_here f [] number old new more within is grows = absurd (omega (arith, within))
added_here {D = D} f (doubt ∷ doubts) zero old new more within is grows = grows ∙ ap (λ (old : D). f old ++ more) is
added_here f (doubt ∷ doubts) (suc number) old new more within is grows = added_here f doubts number old new more (omega (arith, within)) is grows

added_there : {D A : Type 0} (f : D → List A) (doubts : List D) (number other : ℕ) (new : D) → number ≢ other → at f (slice_set doubts number new) other ≡ at f doubts other
added_there f [] number other new apart = refl
added_there f (doubt ∷ doubts) zero zero new apart = absurd (apart refl)
added_there f (doubt ∷ doubts) zero (suc other) new apart = refl
added_there f (doubt ∷ doubts) (suc number) zero new apart = refl
added_there f (doubt ∷ doubts) (suc number) (suc other) new apart = added_there f doubts number other new (λ one. apart (ap suc one))

-- a list that is added to what is noted of one register is added to it, and nothing is added to what is noted of others
pub added : {D A : Type 0} (f : D → List A) (doubts : List D) (number : ℕ) (old new : D) (more : List A) → number < length doubts → old ≡ slice_index_or doubts number old → f new ≡ f old ++ more
    → (other : ℕ) → at f (slice_set doubts number new) other ≡ at f doubts other ++ (if number == other then more else [])
added f doubts number old new more within is grows other = by_test (number == other) refl
  where
    by_test : (test : Bool) → (number == other) ≡ test → at f (slice_set doubts number new) other ≡ at f doubts other ++ (if test then more else [])
    by_test true e =
        let one : number ≡ other = grind (arith, nat_tests) in
        subst (λ (other : ℕ). at f (slice_set doubts number new) other ≡ at f doubts other ++ more) one (added_here f doubts number old new more within is grows)
    by_test false e =
        let apart : number ≢ other = grind (arith, nat_tests) in
        added_there f doubts number other new apart ∙ sym (append-nil (at f doubts other))

-- a list under two tests
pub both_tests : (first second : Bool) (more : List (ℕ × ℕ)) → (if first && second then more else []) ≡ (if first then (if second then more else []) else [])
both_tests true second more = refl
both_tests false second more = refl

-- the same where what is added depends on a second test
pub added_if : (f : Doubt → List (ℕ × ℕ)) (doubts : List Doubt) (number : ℕ) (old new : Doubt) (test : Bool) (more : List (ℕ × ℕ)) → number < length doubts → old ≡ slice_index_or doubts number old
    → f new ≡ f old ++ (if test then more else []) → (other : ℕ) → at f (slice_set doubts number new) other ≡ at f doubts other ++ (if (number == other) && test then more else [])
added_if f doubts number old new test more within is grows other =
    added f doubts number old new (if test then more else []) within is grows other
    ∙ ap (λ (list : List (ℕ × ℕ)). at f doubts other ++ list) (sym (both_tests (number == other) test more))

-- ---- the lines of a log

-- what is noted so far, with the lines that are left, is what is to be noted
abbrev pub NotedLines : List Finding → List Doubt → ℕ → List Line → ℕ → ((About → Bool) → List (ℕ × ℕ)) → Type 0
NotedLines findings doubts feeder lines index left =
    (so_far : (About → Bool) → List (ℕ × ℕ)) × AreNotedSoFar findings doubts so_far
    × ((test : About → Bool) → so_far test ++ flat_map (left_at test feeder) (drop index lines) ≡ left test ++ flat_map (left_at test feeder) lines)

-- the step that notes a line keeps what is noted
abbrev pub NotesLine : List Finding → List Doubt → List Doubt → ℕ → Line → Type 0
NotesLine findings doubts new feeder line =
    (left : (About → Bool) → List (ℕ × ℕ)) → AreNotedSoFar findings doubts left → AreNotedSoFar findings new (λ test. left test ++ left_at test feeder line)

line_more : (findings : List Finding) (doubts new : List Doubt) (feeder : ℕ) (lines : List Line) (index : ℕ) (d : Line) → index < length lines → NotesLine findings doubts new feeder (slice_index_or lines index d)
    → (left : (About → Bool) → List (ℕ × ℕ)) → NotedLines findings doubts feeder lines index left → NotedLines findings new feeder lines (index + 1) left
line_more findings doubts new feeder lines index d within notes left (so_far, noted, same) =
    let line : Line = slice_index_or lines index d in (
      (λ test. so_far test ++ left_at test feeder line),
      notes so_far noted,
      (λ test.
          append_assoc (so_far test) (left_at test feeder line) (flat_map (left_at test feeder) (drop (index + 1) lines))
          ∙ ap (λ (list : List (ℕ × ℕ)). so_far test ++ list) (sym (at_drop_more (flat_map (left_at test feeder)) lines index d within))
          ∙ same test),
    )

pub one_line_more : (findings : List Finding) (doubts new : List Doubt) (feeder : ℕ) (lines seen : List Line) (index : ℕ) (d : Line) → seen ≡ lines → index < length seen → NotesLine findings doubts new feeder (slice_index_or seen index d)
    → (left : (About → Bool) → List (ℕ × ℕ)) → NotedLines findings doubts feeder lines index left → NotedLines findings new feeder lines (index + 1) left
one_line_more findings doubts new feeder lines seen index d is within notes left =
    subst (λ (lines : List Line). NotedLines findings doubts feeder lines index left → NotedLines findings new feeder lines (index + 1) left) is
    (line_more findings doubts new feeder seen index d within notes left)

-- what is noted is one list for each test, however it is written
noted_as : (findings : List Finding) (doubts : List Doubt) (left other : (About → Bool) → List (ℕ × ℕ)) → ((test : About → Bool) → left test ≡ other test) → AreNotedSoFar findings doubts left → AreNotedSoFar findings doubts other
noted_as findings doubts left other same noted = record {
  many = noted.many;
  left_out = λ number within. noted.left_out number within ∙ same (is_about number);
  rests_on = λ number within. noted.rests_on number within ∙ same (is_rested_on number (witness_at findings number));
}

pub all_lines : (findings : List Finding) (doubts : List Doubt) (feeder : ℕ) (lines seen : List Line) (index : ℕ) → seen ≡ lines → length seen ≤ index
    → (left : (About → Bool) → List (ℕ × ℕ)) → NotedLines findings doubts feeder lines index left → AreNotedSoFar findings doubts (λ test. left test ++ flat_map (left_at test feeder) lines)
all_lines findings doubts feeder lines seen index is past left (so_far, noted, same) =
    let over : length lines ≤ index = omega (arith, ap length is, past) in
    noted_as findings doubts so_far (λ test. left test ++ flat_map (left_at test feeder) lines)
    (λ test. sym (append-nil (so_far test)) ∙ ap (λ (list : List (ℕ × ℕ)). so_far test ++ list) (sym (at_drop_all (flat_map (left_at test feeder)) lines index over)) ∙ same test) noted

-- ---- the logs of all traces

-- what is noted so far, with the logs that are left, is what is to be noted
abbrev pub NotedLogs : List Finding → List Doubt → List Log → ℕ → Type 0
NotedLogs findings doubts logs feeder =
    (so_far : (About → Bool) → List (ℕ × ℕ)) × AreNotedSoFar findings doubts so_far
    × ((test : About → Bool) → so_far test ++ left_from test feeder (drop feeder logs) ≡ left_from test 0 logs)

-- the step that notes a log keeps what is noted
abbrev pub NotesLog : List Finding → List Doubt → List Doubt → ℕ → Log → Type 0
NotesLog findings doubts new feeder log =
    (left : (About → Bool) → List (ℕ × ℕ)) → AreNotedSoFar findings doubts left → AreNotedSoFar findings new (λ test. left test ++ left_in test feeder log)

pub one_log_more : (findings : List Finding) (doubts new : List Doubt) (logs : List Log) (feeder : ℕ) (d : Log) → feeder < length logs → NotesLog findings doubts new feeder (slice_index_or logs feeder d)
    → NotedLogs findings doubts logs feeder → NotedLogs findings new logs (feeder + 1)
one_log_more findings doubts new logs feeder d within notes (so_far, noted, same) =
    let log : Log = slice_index_or logs feeder d in (
      (λ test. so_far test ++ left_in test feeder log),
      notes so_far noted,
      (λ test.
          append_assoc (so_far test) (left_in test feeder log) (left_from test (feeder + 1) (drop (feeder + 1) logs))
          ∙ ap (λ (list : List (ℕ × ℕ)). so_far test ++ list) (sym (at_drop_more (left_from test feeder) logs feeder d within))
          ∙ same test),
    )

pub all_logs : (findings : List Finding) (doubts : List Doubt) (logs : List Log) (feeder : ℕ) → length logs ≤ feeder → NotedLogs findings doubts logs feeder → AreDoubts findings logs doubts
all_logs findings doubts logs feeder past (so_far, noted, same) =
    let is = noted_as findings doubts so_far (λ test. left_from test 0 logs)
    (λ test. sym (append-nil (so_far test)) ∙ ap (λ (list : List (ℕ × ℕ)). so_far test ++ list) (sym (at_drop_all (left_from test feeder) logs feeder past)) ∙ same test) noted in
    (is.many, is.left_out, is.rests_on)

-- ---- what a failure rests on, in words

decides_edited : (id : OpId) (operation : Option OpId) → Decides (is_of_operation id operation) (operation ≡ Some id)
decides_edited id None = ((λ t. cc), (λ is. cc))
decides_edited id (Some edited) = (
  (λ t. ap Some ((Decides-same_id_is edited id).0 t)),
  (λ is. let one : edited ≡ id = cc in (Decides-same_id_is edited id).1 one),
)

decides_written : (value : Value) (written : Written) → Decides (would_write value written) (written ≡ Known value)
decides_written value Nothing = ((λ t. cc), (λ is. cc))
decides_written value (Known written) = (
  (λ t. ap Known ((Decides-same_value written value).0 t)),
  (λ is. let one : written ≡ value = cc in (Decides-same_value written value).1 one),
)
decides_written value Unread = ((λ t. cc), (λ is. cc))

decides_unread : (written : Written) → Decides (is_unread written) (written ≡ Unread)
decides_unread Nothing = ((λ t. cc), (λ is. cc))
decides_unread (Known value) = ((λ t. cc), (λ is. cc))
decides_unread Unread = ((λ t. refl), (λ is. refl))

decides_touches : (about : About) (op : Op) → Decides (touches about op) (Touches about op)
decides_touches about op =
    Decides-or (is_of_operation op.id about.operation) (would_write (value_of op.act) about.written) (decides_edited op.id about.operation) (decides_written (value_of op.act) about.written)

-- the test of whether what some operations show rests on an element decides whether it does
pub decides_rests : (ops : List Op) (about : About) → Decides (touches_one ops about) (RestsOn ops about)
decides_rests ops about =
    Decides-or (about.claims || is_unread about.written) (list_any (touches about) ops)
    (Decides-or about.claims (is_unread about.written) (Decides-IsTrue about.claims) (decides_unread about.written))
    (Decides-list_any (touches about) (Touches about) (decides_touches about) ops)
