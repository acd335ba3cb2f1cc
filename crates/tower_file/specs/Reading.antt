-- What a file says (docs/FORMATS.md): its levels and registers in file order, or the first fault that is met.
use Rattle.std.specs.Prelude.{ℕ, ℤ, nat_lt, nat_le, ◌==◌, Bool, true, false, not, List, [], ◌∷◌, ◌++◌, length, Option, Some, None, Result, Ok, Err, codes, if◌then◌else◌, is_some}
use Rattle.std.specs.List.{list_any}
use Rattle.std.specs.Option.{ok_or}
use Rattle.std.specs.Str.{bytes_eq}
use Rattle.intervals.specs.declared.operation.RegId.{RegId}
use Rattle.intervals.specs.declared.operation.Value.{Value}
use Rattle.intervals.specs.declared.operation.Value.TheVariants.{Nil}
use Rattle.intervals.specs.declared.claim.Initial.{Initial}
use Rattle.intervals.specs.declared.claim.Initial.TheVariants.{Known, Unknown}
use Rattle.intervals.specs.declared.claim.Kind.{Kind}
use Rattle.intervals.specs.declared.claim.Kind.TheVariants as kinds
use Rattle.intervals.specs.Operation.{same_value}
use Rattle.intervals.specs.Refusal.{is_one_writer}
use Rattle.intervals.specs.Terms.{ClaimModel, value_at_first, is_known}
use Rattle.edn_reader.specs.Grammar.{ElementModel, untagged}
use Rattle.edn_reader.specs.Pairs.{is_word}
use Rattle.edn_reader.specs.Given.{Given, Missing, One, Many}
use Rattle.edn_reader.specs.Integer.{int_of}
use Rattle.tower_file.specs.declared.fault.TowerField.{TowerField}
use Rattle.tower_file.specs.declared.fault.TowerField.TheVariants as fields
use Rattle.tower_file.specs.declared.fault.TowerFault.{TowerFault}
use Rattle.tower_file.specs.declared.fault.TowerFault.TheVariants.{Shape, NameTaken, WriterCount, UnknownPart, EmptyDomain, InitialOutOfDomain, TooMany, UnknownInitial}
use Rattle.tower_file.specs.Form.{Sequence, RegisterForm, LevelForm, FileForm}
use Rattle.tower_file.specs.Steps.{◌>>=◌, once, at_most_once}
use Rattle.tower_file.specs.Stating.{stated_value, stated_initial, stated_kind}
use Rattle.tower_file.specs.Contents.{Register, TowerModel, empty, number_of}

-- what is under a key that must be there once; else V2 (`Shape`) of its field
abbrev pub needed : {X : Type 0} → TowerField → Given X → Result X TowerFault
needed field given = once (Shape field) (Shape field) given

-- what is under an optional key, read further, or none where it is not there; V2 where it is there more than once
abbrev pub optional : {X Y : Type 0} → TowerField → (X → Result Y TowerFault) → Given X → Result (Option Y) TowerFault
optional field read given = at_most_once (Shape field) read given

-- what has the form that it must have; V2 (`Shape`) of its field where it has another
abbrev pub formed : {X : Type 0} → TowerField → Option X → Result X TowerFault
formed field x = ok_or x (Shape field)

-- what the elements of a list are read to, in order; the fault of the first that has one
abbrev pub each : {X Y : Type 0} → (X → Result Y TowerFault) → List X → Result (List Y) TowerFault
each read [] = Ok []
each read (x ∷ xs) = read x >>= (λ y. each read xs >>= (λ ys. Ok (y ∷ ys)))

-- the name that an element gives: its bytes without its tags
abbrev pub name_of : ElementModel → List ℕ
name_of piece = (untagged piece).text

-- a value of a domain: nil, or an integer of 64 bits; V2 of `:domain` where the element is another
abbrev pub domain_value : ElementModel → Result Value TowerFault
domain_value piece = formed fields.Domain (stated_value piece)

-- an initial value: a value, or unknown for `:unknown`; V2 of `:initial` where the element is another
abbrev pub initial_claimed : ElementModel → Result Initial TowerFault
initial_claimed piece = formed fields.Initial (stated_initial piece)

-- a process: an integer of 64 bits; V2 of `:writers` where the element is another
abbrev pub process_of : ElementModel → Result ℤ TowerFault
process_of piece = formed fields.Writers (int_of piece)

-- a kind, named `:safe`, `:regular` or `:atomic`; V2 of `:kind` where the element is another
abbrev pub kind_claimed : ElementModel → Result Kind TowerFault
kind_claimed piece = formed fields.Kind (stated_kind piece)

-- the processes that a vector lists; V2 of `:writers` where the element is no vector or lists something else
abbrev pub processes_of : Option (List ElementModel) → Result (Option (List ℤ)) TowerFault
processes_of members = formed fields.Writers members >>= each process_of >>= (λ processes. Ok (Some processes))

-- the writers: any process for `:any`, for which there is no list, or those that a vector lists
abbrev pub writers_listed : Sequence → Result (Option (List ℤ)) TowerFault
writers_listed writers = if is_word (codes ":any") writers.element then Ok None else processes_of writers.members

-- the values of a vector; V2 of `:domain` where the element is no vector or has something else
abbrev pub domain_of : Option (List ElementModel) → Result (List Value) TowerFault
domain_of members = formed fields.Domain members >>= each domain_value

-- the name under a key that must be there once; else V2 of its field
abbrev pub name_in : TowerField → Given ElementModel → Result (List ℕ) TowerFault
name_in field name = needed field name >>= (λ piece. Ok (name_of piece))

-- the kind under `:kind`, which must be there once
abbrev pub kind_in : Given ElementModel → Result Kind TowerFault
kind_in kind = needed fields.Kind kind >>= kind_claimed

-- the writers under `:writers`, which must be there once; no list where any process may write
abbrev pub writers_in : Given Sequence → Result (Option (List ℤ)) TowerFault
writers_in writers = needed fields.Writers writers >>= writers_listed

-- the optional initial value under `:initial`
abbrev pub initial_in : Given ElementModel → Result (Option Initial) TowerFault
initial_in initial = optional fields.Initial initial_claimed initial

-- the optional domain under `:domain`
abbrev pub domain_in : Given (Option (List ElementModel)) → Result (Option (List Value)) TowerFault
domain_in domain = optional fields.Domain domain_of domain

-- the elements under `:of`, which name the parts; no elements where the key is missing
abbrev pub parts_in : Given (Option (List ElementModel)) → Result (List ElementModel) TowerFault
parts_in Missing = Ok []
parts_in (One members) = formed fields.Parts members
parts_in Many = Err (Shape fields.Parts)

-- whether the kind is fixed, by the word `true` or `false`; V2 of `:fixed` where the element is another
abbrev pub fixed_of : ElementModel → Result Bool TowerFault
fixed_of piece =
    if bytes_eq (name_of piece) (codes "true") then Ok true
    else if bytes_eq (name_of piece) (codes "false") then Ok false
    else Err (Shape fields.Fixed)

-- whether the kind is fixed, by what is under `:fixed`; it is not where the key is missing
abbrev pub fixed_in : Given ElementModel → Result Bool TowerFault
fixed_in Missing = Ok false
fixed_in (One piece) = fixed_of piece
fixed_in Many = Err (Shape fields.Fixed)

-- what a register says by itself, before it is placed among the others
pub record RegisterFields : Type 0 where
  pub name : List ℕ
  pub kind : Kind
  pub writers : Option (List ℤ)
  pub initial : Option Initial
  pub domain : Option (List Value)
  pub parts : List ElementModel
  pub fixed : Bool

-- what a register says by itself, read in this order: name, kind, writers, initial value, domain, parts, fixed
abbrev pub said_by : RegisterForm → Result RegisterFields TowerFault
said_by form =
    name_in fields.Name form.name >>= (λ name.
    kind_in form.kind >>= (λ kind.
    writers_in form.writers >>= (λ writers.
    initial_in form.initial >>= (λ initial.
    domain_in form.domain >>= (λ domain.
    parts_in form.parts >>= (λ parts.
    fixed_in form.fixed >>= (λ fixed.
    Ok (record { name = name; kind = kind; writers = writers; initial = initial; domain = domain; parts = parts; fixed = fixed }))))))))

-- whether a register has the writers that its kind allows: one if safe or regular (Lamport 1986), any if atomic
abbrev pub has_its_writers : Kind → Option (List ℤ) → Bool
has_its_writers kinds.Safe writers = is_one_writer writers
has_its_writers kinds.Regular writers = is_one_writer writers
has_its_writers kinds.Atomic writers = true

-- the stated initial value; nil, which is known, where none is stated
abbrev pub stated_or_nil : Option Initial → Initial
stated_or_nil None = Known Nil
stated_or_nil (Some initial) = initial

-- whether a register has an initial value that its kind allows: a known one if safe or regular, any if atomic
abbrev pub has_its_initial : Kind → Option Initial → Bool
has_its_initial kinds.Safe initial = is_known (stated_or_nil initial)
has_its_initial kinds.Regular initial = is_known (stated_or_nil initial)
has_its_initial kinds.Atomic initial = true

-- this number of a register, if it is there and below `first`, a level's first number; else V5 (`UnknownPart`)
abbrev pub earlier : ℕ → Option RegId → Result RegId TowerFault
earlier first None = Err UnknownPart
earlier first (Some number) = if nat_lt number.0 first then Ok number else Err UnknownPart

-- the part that an element names: a register of an earlier level, with a number below `first`; else V5 (`UnknownPart`)
abbrev pub part_of : ℕ → List Register → ElementModel → Result RegId TowerFault
part_of first registers piece = earlier first (number_of registers (name_of piece))

-- whether there is a domain, and it has no value
abbrev pub is_empty_domain : Option (List Value) → Bool
is_empty_domain None = false
is_empty_domain (Some values) = length values == 0

-- whether there are a known initial value and a domain, and the value is not in the domain
abbrev pub is_outside : Option Initial → Option (List Value) → Bool
is_outside None domain = false
is_outside (Some Unknown) domain = false
is_outside (Some (Known initial)) None = false
is_outside (Some (Known initial)) (Some values) = not (list_any (λ value. same_value value initial) values)

-- what a register claims, by what it says by itself; without a stated initial value it is nil at first
abbrev pub claim_said : RegisterFields → ClaimModel
claim_said said = record {
  kind = said.kind;
  writers = said.writers;
  initial = value_at_first (stated_or_nil said.initial);
  known = is_known (stated_or_nil said.initial);
  domain = said.domain;
  fixed = said.fixed;
}

-- the register on this level that says this by itself, with these parts
abbrev pub register_said : ℕ → RegisterFields → List RegId → Register
register_said level said parts = record {
  name = said.name;
  claim = claim_said said;
  level = level;
  parts = parts;
}

-- this fault where the test is true; else no fault
abbrev pub fails_if : Bool → TowerFault → Result Unit TowerFault
fails_if true fault = Err fault
fails_if false fault = Ok tt

-- the register that says this, placed after `registers`, of which those below `first` are on earlier levels; the faults
-- are looked for in this order: V3, V4, V10, V5, V6, V7, V8
abbrev pub register_among : ℕ → ℕ → List Register → RegisterFields → Result Register TowerFault
register_among level first registers said =
    fails_if (is_some (number_of registers said.name)) NameTaken >>= (λ _.
    fails_if (not (has_its_writers said.kind said.writers)) WriterCount >>= (λ _.
    fails_if (not (has_its_initial said.kind said.initial)) UnknownInitial >>= (λ _.
    each (part_of first registers) said.parts >>= (λ parts.
    fails_if (is_empty_domain said.domain) EmptyDomain >>= (λ _.
    fails_if (is_outside said.initial said.domain) InitialOutOfDomain >>= (λ _.
    fails_if (nat_le 65536 (length registers)) TooMany >>= (λ _.
    Ok (register_said level said parts))))))))

-- the register that is written so, placed on a level after those before it; V2 where it is no map
abbrev pub register_read : ℕ → ℕ → List Register → Option RegisterForm → Result Register TowerFault
register_read level first registers form = formed fields.Registers form >>= said_by >>= register_among level first registers

-- one step for each of a list, in order, each from the state that the one before it left; the first fault ends them
abbrev pub through : {State X : Type 0} → (State → X → Result State TowerFault) → State → List X → Result State TowerFault
through step state [] = Ok state
through step state (x ∷ xs) = step state x >>= (λ next. through step next xs)

-- the registers so far, and the next one of a level
abbrev pub with_register : ℕ → ℕ → List Register → Option RegisterForm → Result (List Register) TowerFault
with_register level first registers form = register_read level first registers form >>= (λ register. Ok (registers ++ register ∷ []))

-- the registers so far, and then those of a level, in order; its first number is how many there were before
abbrev pub with_registers : ℕ → List Register → List (Option RegisterForm) → Result (List Register) TowerFault
with_registers level registers forms = through (with_register level (length registers)) registers forms

-- the tower with one more level on top, with this name and these registers
abbrev pub with_level : TowerModel → List ℕ → List (Option RegisterForm) → Result TowerModel TowerFault
with_level tower name registers =
    with_registers (length tower.levels) tower.registers registers
    >>= (λ after. Ok (record { levels = tower.levels ++ name ∷ []; registers = after }))

-- the elements of the vector under a key that must be there once; else V2 of its field
abbrev pub vector_in : {Form : Type 0} → TowerField → Given (Option (List Form)) → Result (List Form) TowerFault
vector_in field given = needed field given >>= formed field

-- the tower after one more level, whose name is read before its registers
abbrev pub level_after : TowerModel → Option LevelForm → Result TowerModel TowerFault
level_after tower form =
    formed fields.Levels form >>= (λ level.
    name_in fields.Name level.name >>= (λ name.
    vector_in fields.Registers level.registers >>= with_level tower name))

-- the tower after these levels, in order; the first fault ends them
abbrev pub levels_after : TowerModel → List (Option LevelForm) → Result TowerModel TowerFault
levels_after = through level_after

-- the tower that a file says, or its first fault
abbrev pub contents_of : Option FileForm → Result TowerModel TowerFault
contents_of form =
    formed fields.File form >>= (λ file.
    vector_in fields.Levels file.levels >>= levels_after empty)
