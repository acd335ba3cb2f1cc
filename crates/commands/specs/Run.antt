-- What a run of the program did.
use Rattle.std.specs.Prelude.{◌≡◌, ℕ, Bool, true, false, List, [], Option, Some, None, IfSome, is_some}
use Rattle.std.specs.List.{list_any}
use Rattle.std.specs.Io.KnownBytes.{Appends}
use Rattle.clap.specs.Words.{Text}
use Rattle.edn_reader.specs.declared.fault.EdnFault.{EdnFault}
use Rattle.tower_file.specs.Contents.{TowerModel}
use Rattle.tower_file.specs.Tower.{IsTowerOf}
use Rattle.report.specs.Listing.{tower_lines}
use Rattle.texts.specs.declared.version.TheConstants.{VERSION}
use Rattle.colours.specs.Painted.{IsPainted}
use Rattle.words.specs.declared.colour.ColourWord.{ColourWord}
use Rattle.words.specs.declared.colour.ColourWord.TheVariants.{Auto, Always, Never}
use Rattle.words.specs.Completion.{script_for}
use Rattle.words.specs.Words.{Asked, AskedKeys, Safe, Check, Watch, Show, Lint, Keys, Tower, Explain, Version, Manual, Completion, IsWellFormed, asked, colours_asked}
use Rattle.keys.specs.declared.file.NameClaim.{NameClaim}
use Rattle.command_parts.specs.Files.{AreHeld}
use Rattle.command_parts.specs.Status.{status_of}
use Rattle.command_parts.specs.Tower.{IsFileOfNames, OfTower}
use Rattle.commands.specs.Printed.{IsExplained, IsManual, IsPrintedText}
use Rattle.check_command.specs.Verdict.{IsAudited}
use Rattle.check_command.specs.Checked.{IsChecked}
use Rattle.lint_command.specs.Looked.{IsLooked}
use Rattle.show_command.specs.Shown.{IsShown}
use Rattle.watch_command.specs.Watching.{HasWholeNotices, IsFollowed}

-- what `tower` did: the lines of the tower that the file says were written
pub record IsListed (file : List ℕ) (status : ℕ) (old new : Option (List ℕ)) : Type 0 where
  pub tower : TowerModel
  pub says : IsTowerOf file tower
  pub written : Appends old new (tower_lines tower)
  pub status_is : status ≡ 0

-- what each register claims that `keys` writes
abbrev pub claim_asked : AskedKeys → NameClaim
claim_asked asked = record { kind = asked.kind; initial = asked.initial; any_writes = asked.any_writes }

-- what `keys` did: the tower file of what the traces name was written, up to the first fault of each, and it says a register
-- for each name; the status is 2 where one has a fault
pub record IsNaming (asked : AskedKeys) (traces : List (List ℕ)) (status : ℕ) (old new : Option (List ℕ)) : Type 0 where
  pub faults : List (Option EdnFault)
  pub file : List ℕ
  pub is : IsFileOfNames (claim_asked asked) traces faults file
  pub written : Appends old new file
  pub status_is : status ≡ status_of (list_any is_some faults) false false false

-- the command was carried out, over files and a standard input whose bytes are known
abbrev pub IsCarriedOut : Asked → (Text → Option (List ℕ)) → Option (List ℕ) → ℕ → Option (List ℕ) → Option (List ℕ) → Type 0
IsCarriedOut (Safe None) files input status old new = IfSome input (λ bytes. IsAudited bytes status old new)
IsCarriedOut (Safe (Some name)) files input status old new = IfSome (files name) (λ bytes. IsAudited bytes status old new)
IsCarriedOut (Check check) files input status old new =
    OfTower check.tower files check.traces (λ file. (traces : List (List ℕ)) → AreHeld files check.traces traces → IsChecked check file traces status old new)
IsCarriedOut (Watch watch) files input status old new =
    OfTower watch.tower files watch.traces (λ file. (traces : List (List ℕ)) → AreHeld files watch.traces traces → IsFollowed watch file traces status old new)
IsCarriedOut (Show show) files input status old new =
    OfTower show.tower files show.traces (λ file. (traces : List (List ℕ)) → AreHeld files show.traces traces → IsShown show file traces status old new)
IsCarriedOut (Lint lint) files input status old new =
    (traces : List (List ℕ)) → AreHeld files lint.traces traces → IsLooked lint files traces status old new
IsCarriedOut (Keys keys) files input status old new =
    (traces : List (List ℕ)) → AreHeld files keys.traces traces → IsNaming keys traces status old new
IsCarriedOut (Explain code colours) files input status old new = IsExplained code status old new
IsCarriedOut Version files input status old new = IsPrintedText VERSION.now status old new
IsCarriedOut Manual files input status old new = IsManual status old new
IsCarriedOut (Completion shell) files input status old new = IsPrintedText (script_for shell) status old new
IsCarriedOut (Tower name) files input status old new = IfSome (files name) (λ bytes. IsListed bytes status old new)

-- what was printed is in colours: always or never where the words say so, else where the output shows colours
abbrev pub is_coloured : Bool → ColourWord → Bool
is_coloured shows Auto = shows
is_coloured shows Always = true
is_coloured shows Never = false

-- the command was carried out over an output of its own, and that was written with colours put in
pub record IsInColours (command : Asked) (files : Text → Option (List ℕ)) (input : Option (List ℕ)) (status : ℕ) (old new : Option (List ℕ)) : Type 0 where
  pub text : List ℕ
  pub carried_out : IsCarriedOut command files input status (Some []) (Some text)
  pub painted : List ℕ
  pub paints : IsPainted text painted
  pub written : Appends old new painted

-- the command was carried out, in colours or not
abbrev pub IsCarriedOutIn : Bool → Asked → (Text → Option (List ℕ)) → Option (List ℕ) → ℕ → Option (List ℕ) → Option (List ℕ) → Type 0
IsCarriedOutIn false command files input status old new = IsCarriedOut command files input status old new
IsCarriedOutIn true command files input status old new = IsInColours command files input status old new

-- the command is a watch
abbrev pub IsWatch : Asked → Type 0
IsWatch (Watch watch) = Unit {0}
IsWatch command = ⊥

-- where the command is a watch that broke off, it wrote nothing or whole notices alone
abbrev pub WritesWhole : Asked → (Text → Option (List ℕ)) → Option (List ℕ) → Option (List ℕ) → Type 0
WritesWhole (Watch watch) files old new = HasWholeNotices watch files old new
WritesWhole command files old new = Unit {0}

-- the words are well formed and ask for `safe` on standard input
abbrev pub WantInput : List Text → Type 0
WantInput words = (asked words ≡ Some (Safe None)) × IsWellFormed words

-- the words are well formed and ask for a command, and it was carried out over an output that shows colours or not
pub record IsDone (words : List Text) (shows : Bool) (files : Text → Option (List ℕ)) (input : Option (List ℕ)) (status : ℕ) (old new : Option (List ℕ)) : Type 0 where
  pub command : Asked
  pub faultless : IsWellFormed words
  pub asks : asked words ≡ Some command
  pub carried_out : IsCarriedOutIn (is_coloured shows (colours_asked command)) command files input status old new
