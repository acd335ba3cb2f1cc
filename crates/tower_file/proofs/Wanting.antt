-- What a file says is never the fault that memory was refused.
use Rattle.std.proofs.Common.{ℕ, Bool, true, false, List, [], ◌∷◌, Option, Some, None, Result, Ok, Err}
use Rattle.std.specs.Str.{bytes_eq}
use Rattle.std.specs.Prelude.{if◌then◌else◌, not, nat_lt, nat_le, length, is_some}
use Rattle.intervals.specs.declared.operation.RegId.{RegId}
use Rattle.edn_reader.specs.Grammar.{ElementModel}
use Rattle.edn_reader.specs.Pairs.{is_word}
use Rattle.edn_reader.specs.Integer.{int_of}
use Rattle.edn_reader.specs.Given.{Given, Missing, One, Many}
use Rattle.std.specs.Prelude.{codes}
use Rattle.tower_file.specs.declared.fault.TowerField.{TowerField}
use Rattle.tower_file.specs.declared.fault.TowerField.TheVariants as fields
use Rattle.tower_file.specs.declared.fault.TowerFault.{TowerFault}
use Rattle.tower_file.specs.declared.fault.TowerFault.TheVariants.{Edn, Shape, NameTaken, WriterCount, UnknownPart, EmptyDomain, InitialOutOfDomain, TooMany, Memory, UnknownInitial}
use Rattle.tower_file.specs.Form.{Sequence, RegisterForm, LevelForm, FileForm}
use Rattle.tower_file.specs.Contents.{Register, TowerModel, empty, number_of}
use Rattle.tower_file.specs.Steps.{◌>>=◌}
use Rattle.tower_file.specs.Stating.{stated_value, stated_initial, stated_kind}
use Rattle.tower_file.specs.Reading.{needed, optional, formed, each, domain_value, initial_claimed, process_of, kind_claimed, processes_of, writers_listed, domain_of, name_in, kind_in, writers_in, initial_in, domain_in, parts_in, fixed_in, name_of, RegisterFields, said_by, has_its_writers, has_its_initial, earlier, part_of, is_empty_domain, is_outside, fails_if, register_among, register_read, through, with_register, with_registers, with_level, vector_in, level_after, levels_after, contents_of}

-- any fault but that memory was refused
abbrev pub IsOther : TowerFault → Type 0
IsOther (Edn fault) = Unit {0}
IsOther (Shape field) = Unit {0}
IsOther NameTaken = Unit {0}
IsOther WriterCount = Unit {0}
IsOther UnknownPart = Unit {0}
IsOther EmptyDomain = Unit {0}
IsOther InitialOutOfDomain = Unit {0}
IsOther TooMany = Unit {0}
IsOther Memory = ⊥
IsOther UnknownInitial = Unit {0}

abbrev pub Wants_none : {X : Type 0} → Result X TowerFault → Type 0
Wants_none (Ok x) = Unit {0}
Wants_none (Err fault) = IsOther fault

after : {X Y : Type 0} (x : Result X TowerFault) (read : X → Result Y TowerFault) → Wants_none x → ((y : X) → Wants_none (read y)) → Wants_none (x >>= read)
after (Ok x) read h k = k x
after (Err fault) read h k = h

either : {X : Type 0} (test : Bool) (x y : Result X TowerFault) → Wants_none x → Wants_none y → Wants_none (if test then x else y)
either true x y h k = h
either false x y h k = k

of_needed : {X : Type 0} (field : TowerField) (x : Given X) → Wants_none (needed field x)
of_needed field Missing = tt
of_needed field (One x) = tt
of_needed field Many = tt

of_formed : {X : Type 0} (field : TowerField) (x : Option X) → Wants_none (formed field x)
of_formed field None = tt
of_formed field (Some x) = tt

of_optional : {X Y : Type 0} (field : TowerField) (read : X → Result Y TowerFault) (x : Given X) → ((y : X) → Wants_none (read y)) → Wants_none (optional field read x)
of_optional field read Missing h = tt
of_optional field read (One x) h = after (read x) (λ y. Ok (Some y)) (h x) (λ y. tt)
of_optional field read Many h = tt

of_each : {X Y : Type 0} (read : X → Result Y TowerFault) (xs : List X) → ((x : X) → Wants_none (read x)) → Wants_none (each read xs)
of_each read [] h = tt
of_each read (x ∷ xs) h = after (read x) (λ y. each read xs >>= (λ ys. Ok (y ∷ ys))) (h x) (λ y. after (each read xs) (λ ys. Ok (y ∷ ys)) (of_each read xs h) (λ ys. tt))

of_value : (piece : ElementModel) → Wants_none (domain_value piece)
of_value piece = of_formed fields.Domain (stated_value piece)

of_initial : (piece : ElementModel) → Wants_none (initial_claimed piece)
of_initial piece = of_formed fields.Initial (stated_initial piece)

of_kind : (piece : ElementModel) → Wants_none (kind_claimed piece)
of_kind piece = of_formed fields.Kind (stated_kind piece)

of_processes : (members : Option (List ElementModel)) → Wants_none (processes_of members)
of_processes None = tt
of_processes (Some members) = after (each process_of members) (λ processes. Ok (Some processes)) (of_each process_of members (λ piece. of_formed fields.Writers (int_of piece))) (λ processes. tt)

of_writers : (writers : Sequence) → Wants_none (writers_listed writers)
of_writers writers = either (is_word (codes ":any") writers.element) _ (processes_of writers.members) tt (of_processes writers.members)

of_values : (members : Option (List ElementModel)) → Wants_none (domain_of members)
of_values None = tt
of_values (Some members) = of_each domain_value members of_value

of_name : (field : TowerField) (name : Given ElementModel) → Wants_none (name_in field name)
of_name field Missing = tt
of_name field (One piece) = tt
of_name field Many = tt

of_parts : (parts : Given (Option (List ElementModel))) → Wants_none (parts_in parts)
of_parts Missing = tt
of_parts (One members) = of_formed fields.Parts members
of_parts Many = tt

of_fixed : (fixed : Given ElementModel) → Wants_none (fixed_in fixed)
of_fixed Missing = tt
of_fixed (One piece) = either (bytes_eq (name_of piece) (codes "true")) _ _ tt (either (bytes_eq (name_of piece) (codes "false")) _ _ tt tt)
of_fixed Many = tt

of_said : (form : RegisterForm) → Wants_none (said_by form)
of_said form =
    after (name_in fields.Name form.name) _ (of_name fields.Name form.name) (λ name.
    after (kind_in form.kind) _ (after (needed fields.Kind form.kind) kind_claimed (of_needed fields.Kind form.kind) of_kind) (λ kind.
    after (writers_in form.writers) _ (after (needed fields.Writers form.writers) writers_listed (of_needed fields.Writers form.writers) of_writers) (λ writers.
    after (initial_in form.initial) _ (of_optional fields.Initial initial_claimed form.initial of_initial) (λ initial.
    after (domain_in form.domain) _ (of_optional fields.Domain domain_of form.domain of_values) (λ domain.
    after (parts_in form.parts) _ (of_parts form.parts) (λ parts.
    after (fixed_in form.fixed) _ (of_fixed form.fixed) (λ fixed. tt)))))))

of_below : (first : ℕ) (number : Option RegId) → Wants_none (earlier first number)
of_below first None = tt
of_below first (Some number) = either (nat_lt number.0 first) _ _ tt tt

of_refused : (test : Bool) (fault : TowerFault) → IsOther fault → Wants_none (fails_if test fault)
of_refused true fault h = h
of_refused false fault h = tt

of_placed : (level first : ℕ) (registers : List Register) (said : RegisterFields) → Wants_none (register_among level first registers said)
of_placed level first registers said =
    after (fails_if (is_some (number_of registers said.name)) NameTaken) _ (of_refused _ NameTaken tt) (λ taken.
    after (fails_if (not (has_its_writers said.kind said.writers)) WriterCount) _ (of_refused _ WriterCount tt) (λ writers.
    after (fails_if (not (has_its_initial said.kind said.initial)) UnknownInitial) _ (of_refused _ UnknownInitial tt) (λ known.
    after (each (part_of first registers) said.parts) _ (of_each (part_of first registers) said.parts (λ piece. of_below first _)) (λ parts.
    after (fails_if (is_empty_domain said.domain) EmptyDomain) _ (of_refused _ EmptyDomain tt) (λ domain.
    after (fails_if (is_outside said.initial said.domain) InitialOutOfDomain) _ (of_refused _ InitialOutOfDomain tt) (λ initial.
    after (fails_if (nat_le 65536 (length registers)) TooMany) _ (of_refused _ TooMany tt) (λ room. tt)))))))

of_register : (level first : ℕ) (registers : List Register) (form : Option RegisterForm) → Wants_none (register_read level first registers form)
of_register level first registers None = tt
of_register level first registers (Some form) = after (said_by form) (register_among level first registers) (of_said form) (of_placed level first registers)

of_through : {State X : Type 0} (step : State → X → Result State TowerFault) (state : State) (xs : List X) → ((s : State) (x : X) → Wants_none (step s x)) → Wants_none (through step state xs)
of_through step state [] h = tt
of_through step state (x ∷ xs) h = after (step state x) (λ next. through step next xs) (h state x) (λ next. of_through step next xs h)

of_registers : (level : ℕ) (registers : List Register) (forms : List (Option RegisterForm)) → Wants_none (with_registers level registers forms)
of_registers level registers forms =
    of_through (with_register level (length registers)) registers forms (λ before form.
    after (register_read level (length registers) before form) _ (of_register level (length registers) before form) (λ register. tt))

of_vector : {Form : Type 0} (field : TowerField) (forms : Given (Option (List Form))) → Wants_none (vector_in field forms)
of_vector field forms = after (needed field forms) (formed field) (of_needed field forms) (of_formed field)

of_level : (tower : TowerModel) (form : Option LevelForm) → Wants_none (level_after tower form)
of_level tower None = tt
of_level tower (Some level) =
    after (name_in fields.Name level.name) _ (of_name fields.Name level.name) (λ name.
    after (vector_in fields.Registers level.registers) (with_level tower name) (of_vector fields.Registers level.registers) (λ forms.
    after (with_registers (length tower.levels) tower.registers forms) _ (of_registers (length tower.levels) tower.registers forms) (λ registers. tt)))

-- what a file says is not that memory was refused
pub of_contents : (form : Option FileForm) → Wants_none (contents_of form)
of_contents None = tt
of_contents (Some file) =
    after (vector_in fields.Levels file.levels) (levels_after empty) (of_vector fields.Levels file.levels) (λ forms. of_through level_after empty forms of_level)
