-- What is printed on standard error of a run that broke off.
use Rattle.std.specs.Prelude.{◌≡◌, ◌⊎◌, List, ℕ, [], ◌∷◌, ◌++◌, Option, Some, None, codes}
use Rattle.std.specs.Borrow.{Bor}
use Rattle.std.specs.Fmt.{decimal}
use Rattle.shards.specs.Code.{shard_fault_code}
use Rattle.logs.specs.Code.{break_code_of}
use Rattle.logs.specs.declared.log.Broken.{Broken}
use Rattle.feeders.specs.declared.fault.RunFault.{RunFault}
use Rattle.feeders.specs.declared.fault.RunFault.TheVariants as runs
use Rattle.command_parts.specs.declared.fault.CommandFault.{CommandFault}
use Rattle.command_parts.specs.declared.fault.CommandFault.TheVariants.{Usage, TooManyTraces, Unreadable, UnreadableFor, ReadOnce, Tower, Misnamed, Named, NoRegister, NoCode, NoNote, Shard, Memory, Unwritable, Unlike, Untold}
use Rattle.command_parts.specs.declared.files.Cause.{Cause}
use Rattle.command_parts.specs.declared.files.Cause.TheVariants.{Folder, Absent, Forbidden}
use Rattle.feeders.specs.declared.whole.InputFault.{InputFault}
use Rattle.feeders.specs.declared.whole.InputFault.TheVariants as inputs
use Rattle.phrases.specs.Names.{printed}

-- the line of a trace of which only what is before its first fault is named
abbrev pub named_before : List ℕ → Broken → List ℕ
named_before name broken =
    codes "regaudit: " ++ printed name ++ codes " breaks at byte " ++ decimal broken.place ++ codes ": " ++ break_code_of broken.code
    ++ codes "; what comes before is named, and regaudit lint shows where it is" ++ 10 ∷ []

-- why a file cannot be read, as it is printed after its name
abbrev pub cause_words : Cause → List ℕ
cause_words Folder = codes ": it is a folder"
cause_words Absent = codes ": there is no such file"
cause_words Forbidden = codes ": it may not be read"

-- the line that says why a run broke off; none for a usage fault, whose text is clap's
abbrev pub complaint_of : CommandFault → Option (List ℕ)
complaint_of (Usage error) = None
complaint_of TooManyTraces = Some (codes "regaudit: too many traces" ++ 10 ∷ [])
complaint_of (Unreadable name) = Some (codes "regaudit: cannot read " ++ printed name.now ++ 10 ∷ [])
complaint_of (UnreadableFor name cause) = Some (codes "regaudit: cannot read " ++ printed name.now ++ cause_words cause ++ 10 ∷ [])
complaint_of (ReadOnce name) =
    Some (codes "regaudit: " ++ printed name.now ++ codes " can be read only once: name a tower file by --tower; regaudit keys writes one" ++ 10 ∷ [])
complaint_of (Tower code) = Some (codes "regaudit: tower " ++ code.now ++ 10 ∷ [])
complaint_of Misnamed = Some (codes "regaudit: the tower file does not say what the traces name" ++ 10 ∷ [])
complaint_of (Named name broken) = Some (named_before name.now broken)
complaint_of (NoRegister name) = Some (codes "regaudit: no register " ++ printed name.now ++ 10 ∷ [])
complaint_of (NoCode name) = Some (codes "regaudit: no code " ++ printed name.now ++ codes "; regaudit explain lists them" ++ 10 ∷ [])
complaint_of (NoNote name) = Some (codes "regaudit: '" ++ printed name.now ++ codes "' is no note; --deny takes L1 to L8" ++ 10 ∷ [])
complaint_of (Shard fault) = Some (codes "regaudit: " ++ shard_fault_code fault ++ 10 ∷ [])
complaint_of Memory = Some (codes "regaudit: out of memory" ++ 10 ∷ [])
complaint_of Unwritable = Some (codes "regaudit: cannot write" ++ 10 ∷ [])
complaint_of Unlike = Some (codes "regaudit: the trace that was made does not fail alike" ++ 10 ∷ [])
complaint_of Untold = Some (codes "regaudit: what was written is not what the registers did" ++ 10 ∷ [])

-- the fault of a command that could not read the input of this name whole, or had no memory for it
abbrev pub unread : Bor (List ℕ) → InputFault → CommandFault
unread name inputs.Memory = Memory
unread name inputs.Failed = Unreadable name
unread name inputs.TooLong = Unreadable name
unread name inputs.TooManyCalls = Unreadable name

-- the fault, or, where it is that a file cannot be read, that and why
abbrev pub IsWithCause : CommandFault → CommandFault → Type 0
IsWithCause fault told = (told ≡ fault) ⊎ ((name : Bor (List ℕ)) × (cause : Cause) × (fault ≡ Unreadable name) × (told ≡ UnreadableFor name cause))

-- the fault of a command whose run broke off: out of memory, or what a shard refused
abbrev pub broken_off : RunFault → CommandFault
broken_off runs.Memory = Memory
broken_off (runs.Shard fault) = Shard fault
