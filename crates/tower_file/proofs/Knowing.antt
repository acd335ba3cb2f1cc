-- Each register that a file says to be safe or regular has a known initial value.
use Rattle.std.proofs.Common.{arith, ◌≡◌, ◌≢◌, ◌∷◌, [], ℕ, Bool, true, false, List, Option, Some, None, Result, Ok, Err, refl, subst, length}
use Rattle.std.specs.Prelude.{IfOk, not, nat_le, is_some}
use Rattle.std.proofs.lemmas.List.Elements.{All-push}
use Rattle.intervals.specs.declared.claim.Initial.{Initial}
use Rattle.intervals.specs.declared.claim.Kind.{Kind}
use Rattle.intervals.specs.declared.claim.Kind.TheVariants.{Safe, Regular, Atomic}
use Rattle.intervals.specs.Terms.{is_known, IsKnownUnlessAtomic}
use Rattle.tower_file.specs.declared.fault.TowerField.TheVariants as fields
use Rattle.tower_file.specs.declared.fault.TowerFault.{TowerFault}
use Rattle.tower_file.specs.declared.fault.TowerFault.TheVariants.{NameTaken, WriterCount, UnknownInitial, EmptyDomain, InitialOutOfDomain, TooMany}
use Rattle.tower_file.specs.Form.{RegisterForm, LevelForm, FileForm}
use Rattle.tower_file.specs.Contents.{Register, TowerModel, empty, number_of, AreKnownUnlessAtomic}
use Rattle.tower_file.specs.Steps.{◌>>=◌}
use Rattle.tower_file.specs.Reading.{each, name_in, RegisterFields, said_by, has_its_writers, stated_or_nil, has_its_initial, part_of, is_empty_domain, is_outside, fails_if, register_among, register_read, through, with_register, with_registers, with_level, vector_in, level_after, levels_after, contents_of}
use Rattle.tower_file.specs.Tower.{IsTowerOf}

-- what holds after two steps, where something holds of what the first one gave
both : {X Y : Type 0} (First : X → Type 0) (Then : Y → Type 0) (x : Result X TowerFault) (read : X → Result Y TowerFault) → IfOk x First → ((y : X) → First y → IfOk (read y) Then) → IfOk (x >>= read) Then
both First Then (Ok x) read h k = k x h
both First Then (Err fault) read h k = tt

after : {X Y : Type 0} (Then : Y → Type 0) (x : Result X TowerFault) (read : X → Result Y TowerFault) → ((y : X) → IfOk (read y) Then) → IfOk (x >>= read) Then
after Then (Ok x) read k = k x
after Then (Err fault) read k = tt

not_refused : (test : Bool) (fault : TowerFault) → IfOk (fails_if (not test) fault) (λ _. test ≡ true)
not_refused true fault = refl
not_refused false fault = tt

known_by : (kind : Kind) (initial : Option Initial) → has_its_initial kind initial ≡ true → kind ≢ Atomic → is_known (stated_or_nil initial) ≡ true
known_by Safe initial e other = e
known_by Regular initial e other = e
known_by Atomic initial e other = absurd (other refl)

abbrev Is_known : Register → Type 0
Is_known register = IsKnownUnlessAtomic register.claim

of_placed : (level first : ℕ) (registers : List Register) (said : RegisterFields) → IfOk (register_among level first registers said) Is_known
of_placed level first registers said =
    after Is_known (fails_if (is_some (number_of registers said.name)) NameTaken) _ (λ taken.
    after Is_known (fails_if (not (has_its_writers said.kind said.writers)) WriterCount) _ (λ writers.
    both (λ _. has_its_initial said.kind said.initial ≡ true) Is_known (fails_if (not (has_its_initial said.kind said.initial)) UnknownInitial) _ (not_refused _ UnknownInitial) (λ initial known.
    after Is_known (each (part_of first registers) said.parts) _ (λ parts.
    after Is_known (fails_if (is_empty_domain said.domain) EmptyDomain) _ (λ domain.
    after Is_known (fails_if (is_outside said.initial said.domain) InitialOutOfDomain) _ (λ within.
    after Is_known (fails_if (nat_le 65536 (length registers)) TooMany) _ (λ room. known_by said.kind said.initial known)))))))

of_register : (level first : ℕ) (registers : List Register) (form : Option RegisterForm) → IfOk (register_read level first registers form) Is_known
of_register level first registers None = tt
of_register level first registers (Some form) = after Is_known (said_by form) (register_among level first registers) (of_placed level first registers)

of_through : {State X : Type 0} (Holds : State → Type 0) (step : State → X → Result State TowerFault) (state : State) (xs : List X) → Holds state → ((s : State) (x : X) → Holds s → IfOk (step s x) Holds)
    → IfOk (through step state xs) Holds
of_through Holds step state [] h on = h
of_through Holds step state (x ∷ xs) h on = both Holds Holds (step state x) (λ next. through step next xs) (on state x h) (λ next k. of_through Holds step next xs k on)

of_registers : (level : ℕ) (registers : List Register) (forms : List (Option RegisterForm)) → AreKnownUnlessAtomic registers → IfOk (with_registers level registers forms) AreKnownUnlessAtomic
of_registers level registers forms h =
    of_through AreKnownUnlessAtomic (with_register level (length registers)) registers forms h (λ before form known.
    both Is_known AreKnownUnlessAtomic (register_read level (length registers) before form) _ (of_register level (length registers) before form) (λ register k. All-push Is_known before register known k))

abbrev Has_known : TowerModel → Type 0
Has_known tower = AreKnownUnlessAtomic tower.registers

of_level : (tower : TowerModel) (form : Option LevelForm) → Has_known tower → IfOk (level_after tower form) Has_known
of_level tower None h = tt
of_level tower (Some level) h =
    after Has_known (name_in fields.Name level.name) _ (λ name.
    after Has_known (vector_in fields.Registers level.registers) (with_level tower name) (λ forms.
    both AreKnownUnlessAtomic Has_known (with_registers (length tower.levels) tower.registers forms) _ (of_registers (length tower.levels) tower.registers forms h) (λ registers k. k)))

none_unknown : Has_known empty
none_unknown place register less = absurd (omega arith)

of_contents : (form : Option FileForm) → IfOk (contents_of form) Has_known
of_contents None = tt
of_contents (Some file) =
    after Has_known (vector_in fields.Levels file.levels) (levels_after empty) (λ forms. of_through Has_known level_after empty forms none_unknown of_level)

pub known_unless_atomic : (bytes : List ℕ) (tower : TowerModel) → IsTowerOf bytes tower → AreKnownUnlessAtomic tower.registers
known_unless_atomic bytes tower t = subst (λ (answer : Result TowerModel TowerFault). IfOk answer Has_known) t.2 (of_contents t.0)
