-- The names that are kept, by their bytes.
use Rattle.std.proofs.Common.{◌≡◌, ◌∙◌, ◌||◌, ℕ, ℤ, Bool, true, false, List, [], ◌∷◌, Option, Some, None, map, not, refl, ap, subst, sym}
use Rattle.std.specs.Prelude.{Vec, is_none, is_some}
use Rattle.std.specs.Option.{option_map_or, option_or}
use Rattle.std.specs.Str.{bytes_eq}
use Rattle.std.specs.declared.alloc.Global.{Global}
use Rattle.std.specs.Map.{lookup}
use Rattle.indexmap.specs.IndexMap.{insert_entry}
use Rattle.keys.specs.Kept.{says_nothing_new, kept_name, names_with}
use Rattle.keys.specs.Named.{NamedModel, NamesModel, with_name}

abbrev pub Entries : Type 0
Entries = List (Vec ℕ Global × Option ℤ)

-- whether a mention with this optional writer says nothing new, by the value that is found under its name
abbrev pub is_found : Option ℤ → Option (Option ℤ) → Bool
is_found writer found = option_map_or (λ first. is_some first || is_none writer) found false

known_by : (name : List ℕ) (writer : Option ℤ) (entry : Vec ℕ Global × Option ℤ) (entries : Entries) (same : Bool) → bytes_eq name entry.0.items ≡ same
    → says_nothing_new (map kept_name entries) name writer ≡ is_found writer (lookup (λ key. bytes_eq name key.items) entries)
    → says_nothing_new (map kept_name (entry ∷ entries)) name writer ≡ is_found writer (lookup (λ key. bytes_eq name key.items) (entry ∷ entries))
known_by name writer entry entries true is more = rw is refl
known_by name writer entry entries false is more = rw is more

-- whether a mention says nothing new is read off what is found under its name
pub known_as_found : (name : List ℕ) (writer : Option ℤ) (entries : Entries) → says_nothing_new (map kept_name entries) name writer ≡ is_found writer (lookup (λ key. bytes_eq name key.items) entries)
known_as_found name writer [] = refl
known_as_found name writer (entry ∷ entries) = known_by name writer entry entries (bytes_eq name entry.0.items) refl (known_as_found name writer entries)

same_writer : (first writer : Option ℤ) → (is_some first || is_none writer) ≡ true → option_or first writer ≡ first
same_writer None None is = refl
same_writer None (Some process) is = absurd cc
same_writer (Some process) writer is = refl

new_writer : (first writer : Option ℤ) → (is_some first || is_none writer) ≡ false → option_or first writer ≡ writer
new_writer None writer is = refl
new_writer (Some process) writer is = absurd cc

stays_by : (name : List ℕ) (writer : Option ℤ) (first : NamedModel) (registers : List NamedModel) (same : Bool) → bytes_eq name first.name ≡ same → says_nothing_new (first ∷ registers) name writer ≡ true
    → (says_nothing_new registers name writer ≡ true → with_name registers name writer ≡ registers) → with_name (first ∷ registers) name writer ≡ first ∷ registers
stays_by name writer first registers true is known more =
    let says : (is_some first.writer || is_none writer) ≡ true = sym (rw is refl) ∙ known in
    rw is (rw (same_writer first.writer writer says) refl)
stays_by name writer first registers false is known more =
    let says : says_nothing_new registers name writer ≡ true = sym (rw is refl) ∙ known in
    rw is (ap (λ (rest : List NamedModel). first ∷ rest) (more says))

-- a mention that says nothing new changes nothing
pub stays : (name : List ℕ) (writer : Option ℤ) (registers : List NamedModel) → says_nothing_new registers name writer ≡ true → with_name registers name writer ≡ registers
stays name writer [] known = absurd cc
stays name writer (first ∷ registers) known = stays_by name writer first registers (bytes_eq name first.name) refl known (stays name writer registers)

put_by : (name : Vec ℕ Global) (writer : Option ℤ) (entry : Vec ℕ Global × Option ℤ) (entries : Entries) (same : Bool) → bytes_eq name.items entry.0.items ≡ same
    → says_nothing_new (map kept_name (entry ∷ entries)) name.items writer ≡ false
    → (says_nothing_new (map kept_name entries) name.items writer ≡ false → map kept_name (insert_entry (λ a b. bytes_eq a.items b.items) entries name writer) ≡ with_name (map kept_name entries) name.items writer)
    → map kept_name (insert_entry (λ a b. bytes_eq a.items b.items) (entry ∷ entries) name writer) ≡ with_name (map kept_name (entry ∷ entries)) name.items writer
put_by name writer entry entries true is new more =
    let says : (is_some entry.1 || is_none writer) ≡ false = sym (rw is refl) ∙ new in
    rw is (rw (new_writer entry.1 writer says) refl)
put_by name writer entry entries false is new more =
    let says : says_nothing_new (map kept_name entries) name.items writer ≡ false = sym (rw is refl) ∙ new in
    rw is (ap (λ (rest : List NamedModel). kept_name entry ∷ rest) (more says))

-- a mention that says something new adds its name, or gives it a writer
pub put : (name : Vec ℕ Global) (writer : Option ℤ) (entries : Entries) → says_nothing_new (map kept_name entries) name.items writer ≡ false
    → map kept_name (insert_entry (λ a b. bytes_eq a.items b.items) entries name writer) ≡ with_name (map kept_name entries) name.items writer
put name writer [] new = refl
put name writer (entry ∷ entries) new = put_by name writer entry entries (bytes_eq name.items entry.0.items) refl new (put name writer entries)

-- what is found under a name says whether a mention of it says nothing new
pub tells : (name : List ℕ) (writer : Option ℤ) (entries : Entries) (plain : Option ℤ) (named : NamesModel) (found : Option (Option ℤ)) (is : Bool) → names_with entries plain ≡ named
    → found ≡ lookup (λ key. bytes_eq name key.items) entries → is ≡ is_found writer found → is ≡ says_nothing_new named.registers name writer
tells name writer entries plain named found is view_is found_is is_is =
    is_is ∙ ap (is_found writer) found_is ∙ sym (known_as_found name writer entries) ∙ ap (λ (names : NamesModel). says_nothing_new names.registers name writer) view_is

-- a mention that says something new, as the map of names takes it
pub put_named : (name : Vec ℕ Global) (bytes : List ℕ) (writer : Option ℤ) (entries new : Entries) (plain : Option ℤ) (named : NamesModel) → names_with entries plain ≡ named → name.items ≡ bytes
    → says_nothing_new named.registers bytes writer ≡ false → new ≡ insert_entry (λ a b. bytes_eq a.items b.items) entries name writer
    → names_with new plain ≡ record { registers = with_name named.registers bytes writer; first_writer = named.first_writer }
put_named name bytes writer entries new plain named view_is name_is unknown new_is =
    subst (λ (n : NamesModel). says_nothing_new n.registers bytes writer ≡ false → names_with new plain ≡ record { registers = with_name n.registers bytes writer; first_writer = n.first_writer }) view_is
    (λ free. subst (λ (b : List ℕ). says_nothing_new (map kept_name entries) b writer ≡ false → names_with new plain ≡ record { registers = with_name (map kept_name entries) b writer; first_writer = plain }) name_is
    (λ f. ap (λ (registers : List NamedModel). record { registers = registers; first_writer = plain }) (ap (map kept_name) new_is ∙ put name writer entries f)) free)
    unknown

-- the test that there is no writer, by the test that there is one
pub none_by : (writer : Option ℤ) (is : Bool) → is_some writer ≡ not is → is ≡ is_none writer
none_by None true says = refl
none_by None false says = absurd cc
none_by (Some process) true says = absurd cc
none_by (Some process) false says = refl
