-- Each name comes once.
use Rattle.std.proofs.Common.{◌≡◌, ◌∙◌, ◌||◌, ℕ, ℤ, Bool, true, false, List, [], ◌∷◌, ◌++◌, Option, Some, None, map, refl, ap, subst, sym}
use Rattle.std.specs.Prelude.{fold}
use Rattle.std.specs.Str.{bytes_eq}
use Rattle.std.proofs.lemmas.Cmp.{nat_list_eq_equiv}
use Rattle.std.proofs.lemmas.Slice.Eq.{bytes_eq-Decides}
use Rattle.edn_reader.specs.declared.fault.EdnFault.{EdnFault}
use Rattle.jepsen_form.specs.Mention.{MentionModel}
use Rattle.keys.specs.Named.{AreEachOnce, AreNamesAfter, NamedModel, NamesModel, has_name, next, no_names, none, registers_named, registers_or, with_mention, with_name, with_said}

twice : (first rest : Bool) → (first || rest) ≡ (first || (first || rest))
twice true rest = refl
twice false rest = refl

in_turn : (first second rest : Bool) → (first || (second || rest)) ≡ (second || (first || rest))
in_turn true true rest = refl
in_turn true false rest = refl
in_turn false true rest = refl
in_turn false false rest = refl

neither : (first second : Bool) → first ≡ false → second ≡ false → (first || second) ≡ false
neither first second is_not nor = rw (is_not, nor) refl

of_first : (first second : Bool) → (first || second) ≡ false → first ≡ false
of_first true second is = absurd cc
of_first false second is = refl

of_second : (first second : Bool) → (first || second) ≡ false → second ≡ false
of_second true second is = absurd cc
of_second false second is = is

there_by : (first : NamedModel) (registers : List NamedModel) (name other : List ℕ) (writer : Option ℤ) (same : Bool) → bytes_eq name first.name ≡ same
    → has_name (with_name registers name writer) other ≡ (bytes_eq other name || has_name registers other)
    → has_name (with_name (first ∷ registers) name writer) other ≡ (bytes_eq other name || has_name (first ∷ registers) other)
there_by first registers name other writer true is more =
    let equal : name ≡ first.name = (bytes_eq-Decides name first.name).0 is in
    rw is (twice (bytes_eq other first.name) (has_name registers other) ∙ ap (λ (bytes : List ℕ). bytes_eq other bytes || (bytes_eq other first.name || has_name registers other)) (sym equal))
there_by first registers name other writer false is more =
    rw (is, more) (in_turn (bytes_eq other first.name) (bytes_eq other name) (has_name registers other))

-- a name is there after a mention where it was there, or is the one that is mentioned
pub there : (registers : List NamedModel) (name other : List ℕ) (writer : Option ℤ) → has_name (with_name registers name writer) other ≡ (bytes_eq other name || has_name registers other)
there [] name other writer = refl
there (first ∷ registers) name other writer = there_by first registers name other writer (bytes_eq name first.name) refl (there registers name other writer)

-- a new name comes last
pub comes_last : (registers : List NamedModel) (name : List ℕ) (writer : Option ℤ) → has_name registers name ≡ false → with_name registers name writer ≡ registers ++ record { name = name; writer = writer } ∷ []
comes_last [] name writer new = refl
comes_last (first ∷ registers) name writer new =
    let apart : bytes_eq name first.name ≡ false = of_first _ _ new in
    rw apart (ap (λ (rest : List NamedModel). first ∷ rest) (comes_last registers name writer (of_second _ _ new)))

stay_by : (first : NamedModel) (registers : List NamedModel) (name : List ℕ) (writer : Option ℤ) (same : Bool) → bytes_eq name first.name ≡ same → has_name (first ∷ registers) name ≡ true
    → (has_name registers name ≡ true → map (λ register. register.name) (with_name registers name writer) ≡ map (λ register. register.name) registers)
    → map (λ register. register.name) (with_name (first ∷ registers) name writer) ≡ map (λ register. register.name) (first ∷ registers)
stay_by first registers name writer true is known more = rw is refl
stay_by first registers name writer false is known more =
    let later : has_name registers name ≡ true = sym (rw is refl) ∙ known in
    rw is (ap (λ (names : List (List ℕ)). first.name ∷ names) (more later))

-- a name that is there leaves the names where they are
pub names_stay : (registers : List NamedModel) (name : List ℕ) (writer : Option ℤ) → has_name registers name ≡ true → map (λ register. register.name) (with_name registers name writer) ≡ map (λ register. register.name) registers
names_stay [] name writer known = absurd cc
names_stay (first ∷ registers) name writer known = stay_by first registers name writer (bytes_eq name first.name) refl known (names_stay registers name writer)

once_by : (first : NamedModel) (registers : List NamedModel) (name : List ℕ) (writer : Option ℤ) (same : Bool) → bytes_eq name first.name ≡ same → AreEachOnce (first ∷ registers)
    → AreEachOnce (with_name registers name writer) → AreEachOnce (with_name (first ∷ registers) name writer)
once_by first registers name writer true is once more = rw is once
once_by first registers name writer false is once more =
    let apart : bytes_eq first.name name ≡ false = nat_list_eq_equiv.symm first.name name ∙ is in
    rw is (there registers name first.name writer ∙ neither _ _ apart once.0, more)

once_more : (registers : List NamedModel) (name : List ℕ) (writer : Option ℤ) → AreEachOnce registers → AreEachOnce (with_name registers name writer)
once_more [] name writer once = (refl, tt)
once_more (first ∷ registers) name writer once = once_by first registers name writer (bytes_eq name first.name) refl once (once_more registers name writer once.1)

after_said : (registers : List NamedModel) (name : Option (List ℕ)) (writer : Option ℤ) → AreEachOnce registers → AreEachOnce (with_said registers name writer)
after_said registers None writer once = once
after_said registers (Some name) writer once = once_more registers name writer once

after_mention : (named : NamesModel) (mention : Option MentionModel) → AreEachOnce named.registers → AreEachOnce (with_mention named mention).registers
after_mention named None once = once
after_mention named (Some mention) once = after_said named.registers mention.name mention.writer once

after_mentions : (named : NamesModel) (mentions : List (Option MentionModel)) → AreEachOnce named.registers → AreEachOnce (fold with_mention named mentions).registers
after_mentions named [] once = once
after_mentions named (mention ∷ mentions) once = after_mentions (with_mention named mention) mentions (after_mention named mention once)

after_texts : {before after : NamesModel} {texts : List (List ℕ)} {faults : List (Option EdnFault)} → AreNamesAfter before texts faults after → AreEachOnce before.registers → AreEachOnce after.registers
after_texts none once = once
after_texts {before} (next now more) once =
    after_texts more (subst (λ (named : NamesModel). AreEachOnce named.registers) (sym now.after_is) (after_mentions before now.mentions once))

of_registers : (registers : List NamedModel) (writer : Option ℤ) → AreEachOnce registers → AreEachOnce (registers_or registers writer)
of_registers [] writer once = (refl, tt)
of_registers (only ∷ []) writer once = (refl, tt)
of_registers (first ∷ second ∷ registers) writer once = once

-- what traces name has each name once, and so has the tower of it
pub each_once : (texts : List (List ℕ)) (faults : List (Option EdnFault)) (named : NamesModel) → AreNamesAfter no_names texts faults named → AreEachOnce named.registers × AreEachOnce (registers_named named)
each_once texts faults named are =
    let once : AreEachOnce named.registers = after_texts are tt in
    (once, of_registers named.registers named.first_writer once)
