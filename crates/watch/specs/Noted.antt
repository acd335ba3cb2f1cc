-- What notices note of a trace beside changes of verdicts: its refusals, where it broke, and its end.
use Rattle.std.specs.Prelude.{◌≡◌, ◌<◌, ◌==◌, ℕ, Bool, true, false, List, [], ◌∷◌, ◌++◌, Option, Some, None, option_map, length, All, filter_map, if◌then◌else◌}
use Rattle.std.specs.List.{slice_get}
use Rattle.std.specs.Option.{option_to_list}
use Rattle.logs.specs.Code.{break_code_of, refused_code}
use Rattle.pairing.specs.declared.about.About.{About}
use Rattle.logs.specs.declared.log.Broken.{Broken as ABreak}
use Rattle.logs.specs.declared.log.LeftOut.{LeftOut}
use Rattle.logs.specs.declared.log.Line.{Line}
use Rattle.logs.specs.declared.log.Log.{Log}
use Rattle.logs.specs.declared.log.What.{What}
use Rattle.logs.specs.declared.log.What.TheVariants as whats
use Rattle.logs.specs.declared.notice.Notice.{Notice}
use Rattle.logs.specs.declared.notice.Notice.TheVariants as notices

-- what was told is all that there is to tell; or, where the watch stopped, the first of it
abbrev pub IsToldOf : {A : Type 0} → Bool → List A → List A → Type 0
IsToldOf true told own = (rest : List _) × (own ≡ told ++ rest)
IsToldOf false told own = own ≡ told

-- what is noted of a trace: that an element was refused, by its place, the printed code and what it is about; that the
-- trace broke, by the printed code and at which byte; or that it ended, where nothing says after how many elements
pub data Note : Type 0 where
  Refused : ℕ → List ℕ → About → Note
  Broke : List ℕ → ℕ → Note
  Ended : Note

-- what is noted of an element that was left out
abbrev pub note_of_refusal : ℕ → LeftOut → Note
note_of_refusal place left_out = Refused place (refused_code left_out.code) left_out.about

-- what is noted of where a trace broke
abbrev pub note_of_break : ABreak → Note
note_of_break broken = Broke (break_code_of broken.code) broken.place

-- the feeder that a notice names
abbrev pub feeder_of_notice : Notice → ℕ
feeder_of_notice (notices.Changed feeder place line change) = feeder
feeder_of_notice (notices.Refused feeder place line left_out) = feeder
feeder_of_notice (notices.Broke feeder broken line) = feeder
feeder_of_notice (notices.Ended feeder elements) = feeder

-- what a notice notes; none for a change. How many elements a trace had when it ended is left out: no log says it
abbrev pub note_of_notice : Notice → Option Note
note_of_notice (notices.Changed feeder place line change) = None
note_of_notice (notices.Refused feeder place line left_out) = Some (note_of_refusal place left_out)
note_of_notice (notices.Broke feeder broken line) = Some (note_of_break broken)
note_of_notice (notices.Ended feeder elements) = Some Ended

-- what a notice notes of the trace of this number, where it names its feeder
abbrev pub note_of : ℕ → Notice → Option Note
note_of at notice = if feeder_of_notice notice == at then note_of_notice notice else None

-- what is to be noted of an element, given what its log line has: that it was refused; an answer is not told
abbrev pub note_of_what : ℕ → What → Option Note
note_of_what place (whats.Refused left_out) = Some (note_of_refusal place left_out)
note_of_what place (whats.Answered register answer) = None

-- what is to be noted by a log line
abbrev pub note_of_line : Line → Option Note
note_of_line line = note_of_what line.event line.what

-- what is to be noted of a trace by its log: each refusal in order, where it broke, if it did, and its end
abbrev pub notes_of_log : Log → List Note
notes_of_log log = filter_map note_of_line log.lines.items ++ option_to_list (option_map note_of_break log.broken) ++ Ended ∷ []

-- of each trace the notices note what its log has, in order; or, where the watch stopped, the first of it. And none
-- names a trace that there is not
pub record AreNoted (logs : List Log) (stopped : Bool) (notices : List Notice) : Type 0 where
  pub each : (at : ℕ) (log : Log) → slice_get logs at ≡ Some log → IsToldOf stopped (filter_map (note_of at) notices) (notes_of_log log)
  pub named : All (λ notice. feeder_of_notice notice < length logs) notices
