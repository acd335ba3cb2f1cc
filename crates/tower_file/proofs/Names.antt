-- Names of registers, by their bytes, and what is known of each entry.
use Rattle.std.proofs.Common.{arith, ◌≡◌, ◌≤◌, ◌<◌, ℕ, ◌+◌, Bool, true, false, List, [], ◌∷◌, ◌++◌, Option, Some, None, refl, sym, ap, subst, ◌∙◌, length, position, map}
use Rattle.std.specs.Prelude.{Vec}
use Rattle.std.specs.List.{position_or_len, slice_get}
use Rattle.std.specs.Option.{option_map, IfSome}
use Rattle.std.specs.Str.{bytes_eq}
use Rattle.std.specs.declared.alloc.Global.{Global}
use Rattle.std.specs.Map.{keys_of}
use Rattle.std.proofs.lemmas.List.{length-map, length-append}
use Rattle.std.proofs.lemmas.List.Elements.{All-get_or}
use Rattle.std.proofs.lemmas.Option.{slice_get_within, get_or_from_slice_get}
use Rattle.intervals.specs.declared.operation.RegId.{RegId}
use Rattle.intervals.specs.Terms.{terms_of, IsKnownUnlessAtomic}
use Rattle.indexmap.specs.IndexMap.{insert_entry}
use Rattle.indexmap.proofs.MapLemmas.{Missing-position, insert_entry-absent}
use Rattle.tower_file.specs.declared.registers.NameEntry.{NameEntry}
use Rattle.tower_file.specs.Contents.{Register, number_of}
use Rattle.tower_file.specs.Views.{kept_register, AreKnown}

-- the entries that the program keeps
abbrev pub Entries : Type 0
Entries = List (Vec ℕ Global × NameEntry)

-- the test by which an entry is looked up
abbrev pub has_name : List ℕ → Vec ℕ Global → Bool
has_name name key = bytes_eq name key.items

-- the names of the registers are those of the entries, in order
names_of : (entries : Entries) → map (λ register. register.name) (map kept_register entries) ≡ map (λ key. key.items) (keys_of entries)
names_of [] = refl
names_of (entry ∷ entries) = ap (λ (names : List (List ℕ)). entry.0.items ∷ names) (names_of entries)

module _ {A B : Type 0} (test : B → Bool) (view : A → B) where
  place_by : (x : A) (xs : List A) (b : Bool) → test (view x) ≡ b → position_or_len (λ y. test (view y)) xs ≡ position_or_len test (map view xs)
      → position_or_len (λ y. test (view y)) (x ∷ xs) ≡ position_or_len test (map view (x ∷ xs))
  place_by x xs true e h = rw e refl
  place_by x xs false e h = rw e (ap (λ (n : ℕ). 1 + n) h)

  place_map : (xs : List A) → position_or_len (λ x. test (view x)) xs ≡ position_or_len test (map view xs)
  place_map [] = refl
  place_map (x ∷ xs) = place_by x xs (test (view x)) refl (place_map xs)

  position_map : (xs : List A) → position (λ x. test (view x)) xs ≡ position test (map view xs)
  position_map xs = rw (place_map xs, length-map xs view) refl

-- the first entry with a name is the register that has it
pub place_of : (entries : Entries) (name : List ℕ) → position (has_name name) (keys_of entries) ≡ position (bytes_eq name) (map (λ register. register.name) (map kept_register entries))
place_of entries name = position_map (bytes_eq name) (λ key. key.items) (keys_of entries) ∙ ap (position (bytes_eq name)) (sym (names_of entries))

abbrev pub numbered : Option ℕ → Option RegId
numbered place = option_map (λ n. record { 0 = n }) place

pub number_is : (entries : Entries) (name : List ℕ) (place : Option ℕ) → place ≡ position (has_name name) (keys_of entries) → numbered place ≡ number_of (map kept_register entries) name
number_is entries name place e = rw (e, place_of entries name) refl

no_place : (place : Option ℕ) → numbered place ≡ None → place ≡ None
no_place None e = refl
no_place (Some n) e = absurd cc

-- a register of a new name comes last
pub pushed : (entries : Entries) (name : Vec ℕ Global) (entry : NameEntry) → number_of (map kept_register entries) name.items ≡ None
    → insert_entry (λ a b. bytes_eq a.items b.items) entries name entry ≡ entries ++ (name, entry) ∷ []
pushed entries name entry none =
    let missing : position (has_name name.items) (keys_of entries) ≡ None = place_of entries name.items ∙ no_place _ none in
    insert_entry-absent (λ a b. bytes_eq a.items b.items) name entry entries (Missing-position (has_name name.items) entries missing).absent

pub map_pushed : (entries : Entries) (name : Vec ℕ Global) (entry : NameEntry) → map kept_register (entries ++ (name, entry) ∷ []) ≡ map kept_register entries ++ kept_register (name, entry) ∷ []
map_pushed [] name entry = refl
map_pushed (first ∷ entries) name entry = ap (λ (registers : List Register). kept_register first ∷ registers) (map_pushed entries name entry)

-- one entry more has room, where the registers had room
pub pushed_room : (entries : Entries) (entry : Vec ℕ Global × NameEntry) (registers : List Register) → map kept_register entries ≡ registers → length registers < 65536
    → length (entries ++ entry ∷ []) ≤ 65536
pushed_room entries entry registers e room =
    let kept : length registers ≡ length entries = ap length (sym e) ∙ length-map entries kept_register in
    let more : length (entries ++ entry ∷ []) ≡ length entries + 1 = length-append entries (entry ∷ []) in omega arith

-- an entry's claim has a known initial value, where it is safe or regular
abbrev pub Is_known : Vec ℕ Global × NameEntry → Type 0
Is_known entry = IsKnownUnlessAtomic (terms_of entry.1.claim)

-- an entry that is found is one of these, so its initial value is known too
pub found_known : {Found : Type 0} (read : Found → Vec ℕ Global × NameEntry) (entries : Entries) (place : ℕ) (found : Option Found) → option_map read found ≡ slice_get entries place → AreKnown entries
    → IfSome found (λ entry. Is_known (read entry))
found_known read entries place None e h = tt
found_known read entries place (Some entry) e h =
    subst Is_known (get_or_from_slice_get entries place (read entry) (read entry) (sym e)) (All-get_or Is_known entries place (read entry) (slice_get_within entries place (read entry) (sym e)) h)
