-- The tower that a text says, or its first fault as a tower file, and where reading it may run out of memory.
use Rattle.std.specs.Prelude.{◌≡◌, ◌⊎◌, ℕ, List, Option, Result, Ok, Err, codes}
use Rattle.edn_reader.specs.declared.fault.EdnFault.{EdnFault}
use Rattle.edn_reader.specs.Grammar.{ElementModel}
use Rattle.edn_reader.specs.Fault.{FaultOf, CanWantMemory}
use Rattle.tower_file.specs.declared.fault.TowerFault.{TowerFault}
use Rattle.tower_file.specs.declared.fault.TowerFault.TheVariants.{Edn, Shape, NameTaken, WriterCount, UnknownPart, EmptyDomain, InitialOutOfDomain, TooMany, Memory, UnknownInitial}
use Rattle.tower_file.specs.Form.{FileForm, IsFileOf}
use Rattle.tower_file.specs.Contents.{TowerModel}
use Rattle.tower_file.specs.Reading.{contents_of}
use Rattle.tower_file.specs.Keeping.{KeepsALevel}

-- the text has no fault as EDN, and read as a tower file it gives this: a tower, or the first fault in reading order
abbrev pub Says : List ℕ → Result TowerModel TowerFault → Type 0
Says bytes answer = (form : Option FileForm) × IsFileOf bytes form × (contents_of form ≡ answer)

-- the text says this tower
abbrev pub IsTowerOf : List ℕ → TowerModel → Type 0
IsTowerOf bytes tower = Says bytes (Ok tower)

-- the fault is V1, with the fault of the text as EDN, wherever in the text that is
abbrev pub HasTextFault : List ℕ → TowerFault → Type 0
HasTextFault bytes fault = (of_text : EdnFault) × (fault ≡ Edn of_text) × FaultOf bytes of_text

-- the text has this first fault of a tower file: that of the text as EDN, else the first one in reading order
abbrev pub HasTowerFault : List ℕ → TowerFault → Type 0
HasTowerFault bytes fault = HasTextFault bytes fault ⊎ Says bytes (Err fault)

-- somewhere in the text sixteen or more brackets, tags and discards are open, and one more begins
abbrev pub NestsDeeply : List ℕ → Type 0
NestsDeeply bytes = (pieces : List ElementModel) × (place : ℕ) × CanWantMemory bytes pieces place

-- reading the text may run out of memory: it nests deeply (`NestsDeeply`), or is a file of which a level is kept
abbrev pub MayWantMemory : List ℕ → Type 0
MayWantMemory bytes = NestsDeeply bytes ⊎ ((form : Option FileForm) × IsFileOf bytes form × KeepsALevel form)

-- the printed code of a fault of a tower file, V1 to V10
abbrev pub tower_fault_code : TowerFault → List ℕ
tower_fault_code (Edn fault) = codes "V1"
tower_fault_code (Shape field) = codes "V2"
tower_fault_code NameTaken = codes "V3"
tower_fault_code WriterCount = codes "V4"
tower_fault_code UnknownPart = codes "V5"
tower_fault_code EmptyDomain = codes "V6"
tower_fault_code InitialOutOfDomain = codes "V7"
tower_fault_code TooMany = codes "V8"
tower_fault_code Memory = codes "V9"
tower_fault_code UnknownInitial = codes "V10"
