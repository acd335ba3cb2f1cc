-- What is found among entries and among parts, and the codes and lines of parts as those of one list.
use Rattle.std.proofs.Common.{◌≡◌, ◌<◌, ◌+◌, ◌++◌, ◌∙◌, ap, sym, refl, ℕ, Bool, true, false, List, [], ◌∷◌, cond, drop, find, length, map, slice_index_or, Option, Some, None, Bor, Result, Ok, Err, OnOk}
use Rattle.std.specs.List.{flat_map}
use Rattle.std.specs.Option.{option_map, option_map_or, option_or}
use Rattle.std.specs.Str.{str_eq_ignore_ascii_case}
use Rattle.std.proofs.lemmas.List.{at_drop_more}
use Rattle.std.proofs.lemmas.Grind.{flat_map-append}
use Rattle.std.proofs.lemmas.List.Folds.{find-append}
use Rattle.texts.specs.declared.entry.Explanation.{Explanation}
use Rattle.texts.specs.Codes.{NamedCode, all_named, code_among, code_by_name, code_in, codes_of, entry_among, entry_key, message_of_code, named_codes_of}
use Rattle.texts.specs.Printing.{line_text, list_text}

abbrev no_text : Bor (List ℕ)
no_text = record { ref_ptr = (0, 0); now = [] }

-- what stands for an entry where there is none
abbrev pub no_entry : Explanation
no_entry = record { code = no_text; name = no_text; message = no_text; outcome = no_text; what = no_text; more = no_text; mostly = no_text; tower = no_text; example = no_text; mend = no_text; see = no_text }

-- the next entry is the one that is looked for
pub is_next : (by_name : Bool) (entries : List Explanation) (i : ℕ) (d : Explanation) (word : List ℕ) → i < length entries → str_eq_ignore_ascii_case (entry_key by_name (slice_index_or entries i d)) word ≡ true
    → entry_among by_name (drop i entries) word ≡ Some (slice_index_or entries i d)
is_next by_name entries i d word below is = at_drop_more (λ left. entry_among by_name left word) entries i d below ∙ rw is refl

-- it is not the next entry
pub is_after : (by_name : Bool) (entries : List Explanation) (i : ℕ) (d : Explanation) (word : List ℕ) → i < length entries → str_eq_ignore_ascii_case (entry_key by_name (slice_index_or entries i d)) word ≡ false
    → entry_among by_name (drop i entries) word ≡ entry_among by_name (drop (i + 1) entries) word
is_after by_name entries i d word below is = at_drop_more (λ left. entry_among by_name left word) entries i d below ∙ rw is refl

-- all entries of these parts, in order
abbrev pub entries_of : List (Bor (List Explanation)) → List Explanation
entries_of parts = flat_map (λ part. part.now) parts

-- the next part has the entry that is looked for
pub in_next : (by_name : Bool) (parts : List (Bor (List Explanation))) (i : ℕ) (d : Bor (List Explanation)) (word : List ℕ) (entry : Explanation) → i < length parts → Some entry ≡ entry_among by_name (slice_index_or parts i d).now word
    → Some entry ≡ entry_among by_name (entries_of (drop i parts)) word
in_next by_name parts i d word entry below is =
    let others = entries_of (drop (i + 1) parts) in
    sym (at_drop_more (λ left. entry_among by_name (entries_of left) word) parts i d below ∙ find-append _ (slice_index_or parts i d).now others
    ∙ ap (λ found. option_or found (entry_among by_name others word)) (sym is))

-- the next part has no such entry
pub in_others : (by_name : Bool) (parts : List (Bor (List Explanation))) (i : ℕ) (d : Bor (List Explanation)) (word : List ℕ) → i < length parts → None ≡ entry_among by_name (slice_index_or parts i d).now word
    → entry_among by_name (entries_of (drop i parts)) word ≡ entry_among by_name (entries_of (drop (i + 1) parts)) word
in_others by_name parts i d word below is =
    let others = entries_of (drop (i + 1) parts) in
    at_drop_more (λ left. entry_among by_name (entries_of left) word) parts i d below ∙ find-append _ (slice_index_or parts i d).now others
    ∙ ap (λ found. option_or found (entry_among by_name others word)) (sym is)

-- what is found by a part of each item is found among these parts
found_by : {X Y : Type 0} (p : Y → Bool) (f : X → Y) (xs : List X) → option_map f (find (λ x. p (f x)) xs) ≡ find p (map f xs)
found_by p f [] = refl
found_by p f (x ∷ xs) = by_test (p (f x)) (found_by p f xs)
  where
    by_test : (b : Bool) → option_map f (find (λ y. p (f y)) xs) ≡ find p (map f xs) → option_map f (cond b (Some x) (find (λ y. p (f y)) xs)) ≡ cond b (Some (f x)) (find p (map f xs))
    by_test true e = refl
    by_test false e = e

codes_append : (entries others : List Explanation) → codes_of (entries ++ others) ≡ codes_of entries ++ codes_of others
codes_append [] others = refl
codes_append (entry ∷ entries) others = ap (λ rest. entry.code.now ∷ rest) (codes_append entries others)

pub codes_of_parts : (parts : List (Bor (List Explanation))) → codes_of (flat_map (λ part. part.now) parts) ≡ flat_map (λ part. codes_of part.now) parts
codes_of_parts [] = refl
codes_of_parts (part ∷ parts) = codes_append part.now (flat_map (λ part. part.now) parts) ∙ ap (λ rest. codes_of part.now ++ rest) (codes_of_parts parts)

named_append : (entries others : List Explanation) → named_codes_of (entries ++ others) ≡ named_codes_of entries ++ named_codes_of others
named_append [] others = refl
named_append (entry ∷ entries) others = ap (λ rest. code_in entry ∷ rest) (named_append entries others)

pub named_of_parts : (parts : List (Bor (List Explanation))) → named_codes_of (entries_of parts) ≡ flat_map (λ part. named_codes_of part.now) parts
named_of_parts [] = refl
named_of_parts (part ∷ parts) = named_append part.now (entries_of parts) ∙ ap (λ rest. named_codes_of part.now ++ rest) (named_of_parts parts)

code_lent : (found : Option (Bor Explanation)) → option_map (λ entry. entry.now.code.now) found ≡ option_map (λ entry. entry.code.now) (option_map (λ entry. entry.now) found)
code_lent None = refl
code_lent (Some entry) = refl

-- the code of the entry that is found is the one that the word is
pub code_found : (entries : List Explanation) (word : List ℕ) (found : Option (Bor Explanation)) → option_map (λ entry. entry.now) found ≡ entry_among false entries word
    → option_map (λ entry. entry.now.code.now) found ≡ code_among (codes_of entries) word
code_found entries word found is =
    code_lent found ∙ ap (λ one. option_map (λ entry. entry.code.now) one) is ∙ found_by (λ code. str_eq_ignore_ascii_case code word) (λ (entry : Explanation). entry.code.now) entries

code_through : (found : Option Explanation) → option_map (λ entry. entry.code.now) found ≡ option_map (λ (one : NamedCode). one.code) (option_map code_in found)
code_through None = refl
code_through (Some entry) = refl

-- the code of the entry that is found is the first whose name the word is
pub name_found : (entries : List Explanation) (word : List ℕ) (found : Option (Bor Explanation)) → option_map (λ entry. entry.now) found ≡ entry_among true entries word
    → option_map (λ entry. entry.now.code.now) found ≡ code_by_name (named_codes_of entries) word
name_found entries word found is =
    let IsOf : NamedCode → Bool = λ one. str_eq_ignore_ascii_case one.name word in
    code_lent found ∙ ap (λ (one : Option Explanation). option_map (λ entry. entry.code.now) one) is ∙ code_through (entry_among true entries word)
    ∙ ap (λ (one : Option NamedCode). option_map (λ (named : NamedCode). named.code) one) (found_by IsOf code_in entries)

message_in : (found : Option Explanation) → option_map_or (λ entry. entry.message.now) found [] ≡ option_map_or (λ (one : NamedCode). one.message) (option_map code_in found) []
message_in None = refl
message_in (Some entry) = refl

-- the message of the entry that is found is that of the code
pub message_found : (parts : List (Bor (List Explanation))) (word : List ℕ) (found : Option Explanation) → flat_map (λ part. named_codes_of part.now) parts ≡ all_named → found ≡ entry_among false (entries_of parts) word
    → option_map_or (λ entry. entry.message.now) found [] ≡ message_of_code word
message_found parts word found all is =
    let IsOf : NamedCode → Bool = λ one. str_eq_ignore_ascii_case one.code word in
    message_in found
    ∙ ap (λ (one : Option NamedCode). option_map_or (λ (named : NamedCode). named.message) one [])
    (ap (λ one. option_map code_in one) is ∙ found_by IsOf code_in (entries_of parts)
    ∙ ap (λ (named : List NamedCode). find IsOf named) (named_of_parts parts ∙ all))

pub list_of_parts : (parts : List (Bor (List Explanation))) → list_text (flat_map (λ part. part.now) parts) ≡ flat_map (λ part. list_text part.now) parts
list_of_parts [] = refl
list_of_parts (part ∷ parts) = flat_map-append (λ (entry : Explanation). line_text entry entry.what.now) part.now (flat_map (λ part. part.now) parts) ∙ ap (λ rest. list_text part.now ++ rest) (list_of_parts parts)

pub on_ok : {A E P Q : Type 0} (result : Result A E) → OnOk result P → (P → Q) → OnOk result Q
on_ok (Ok value) is then = then is
on_ok (Err fault) is then = tt
