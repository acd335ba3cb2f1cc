-- What the text of the example says, worked out token by token and then key by key.
use Rattle.std.proofs.Common.{◌≡◌, ℕ, List, [], ◌∷◌, Some, Ok, refl}
use Rattle.std.specs.Prelude.{codes}
use Rattle.edn_reader.specs.declared.element.ElementKind.TheVariants as kinds
use Rattle.edn_reader.specs.Bytes.{class_of}
use Rattle.edn_reader.specs.Integer.{integer_of, natural_of, digits_after}
use Rattle.edn_reader.specs.Grammar.{ElementModel, nothing}
use Rattle.edn_reader.specs.Text.{IsText}
use Rattle.edn_reader.specs.Pairs.{HasPairs, HasMembers}
use Rattle.edn_reader.specs.Given.{Missing, One}
use Rattle.tower_file.specs.Alone.{alone_text, alone_tower}
use Rattle.tower_file.specs.Form.{RegisterForm, AreRegisterFields, LevelForm, AreLevelFields, FileForm, AreFileFields, IsFileOf}
use Rattle.tower_file.specs.Reading.{contents_of}
use Rattle.tower_file.specs.Tower.{IsTowerOf}
use Rattle.tower_file.proofs.Spelled.{Item, Stands, All_stand, piece_at, inside, square_ends, curly_ends, atom, vector, map_of, on_inside, members_of, pairs_of}

abbrev word : List ℕ → Item
word bytes = record { kind = kinds.Atom; text = bytes }

abbrev levels_key : Item
levels_key = word (codes ":levels")

abbrev name_key : Item
name_key = word (codes ":name")

abbrev top : Item
top = word (codes "top")

abbrev registers_key : Item
registers_key = word (codes ":registers")

abbrev r : Item
r = word (codes "r")

abbrev kind_key : Item
kind_key = word (codes ":kind")

abbrev safe : Item
safe = word (codes ":safe")

abbrev writers_key : Item
writers_key = word (codes ":writers")

abbrev initial_key : Item
initial_key = word (codes ":initial")

abbrev nought : Item
nought = word (codes "0")

abbrev writers : Item
writers = record { kind = kinds.Vector; text = codes "[0]" }

abbrev register : Item
register = record { kind = kinds.Map; text = codes "{:name r :kind :safe :writers [0] :initial 0}" }

abbrev registers : Item
registers = record { kind = kinds.Vector; text = codes "[{:name r :kind :safe :writers [0] :initial 0}]" }

abbrev level : Item
level = record { kind = kinds.Map; text = codes "{:name top :registers [{:name r :kind :safe :writers [0] :initial 0}]}" }

abbrev levels : Item
levels = record { kind = kinds.Vector; text = codes "[{:name top :registers [{:name r :kind :safe :writers [0] :initial 0}]}]" }

abbrev file : Item
file = record { kind = kinds.Map; text = alone_text }

-- ---- each element is spelled out

present_levels_key : (depth : ℕ) → Stands depth levels_key
unfolding class_of
present_levels_key depth = atom depth 58 (codes "levels") refl refl

present_name_key : (depth : ℕ) → Stands depth name_key
unfolding class_of
present_name_key depth = atom depth 58 (codes "name") refl refl

present_top : (depth : ℕ) → Stands depth top
unfolding class_of
present_top depth = atom depth 116 (codes "op") refl refl

present_registers_key : (depth : ℕ) → Stands depth registers_key
unfolding class_of
present_registers_key depth = atom depth 58 (codes "registers") refl refl

present_r : (depth : ℕ) → Stands depth r
unfolding class_of
present_r depth = atom depth 114 [] refl refl

present_kind_key : (depth : ℕ) → Stands depth kind_key
unfolding class_of
present_kind_key depth = atom depth 58 (codes "kind") refl refl

present_safe : (depth : ℕ) → Stands depth safe
unfolding class_of
present_safe depth = atom depth 58 (codes "safe") refl refl

present_writers_key : (depth : ℕ) → Stands depth writers_key
unfolding class_of
present_writers_key depth = atom depth 58 (codes "writers") refl refl

present_initial_key : (depth : ℕ) → Stands depth initial_key
unfolding class_of
present_initial_key depth = atom depth 58 (codes "initial") refl refl

present_nought : (depth : ℕ) → Stands depth nought
unfolding class_of
present_nought depth = atom depth 48 [] refl refl

all_writers : All_stand 0 (nought ∷ [])
all_writers = (present_nought 0, tt)

present_writers : Stands 1 writers
present_writers room place rest e = vector 0 nought [] all_writers room place rest

abbrev after_name : List Item
after_name = r ∷ kind_key ∷ safe ∷ writers_key ∷ writers ∷ initial_key ∷ nought ∷ []

all_register : All_stand 1 (name_key ∷ after_name)
all_register = (present_name_key 1, (present_r 1, (present_kind_key 1, (present_safe 1, (present_writers_key 1, (present_writers, (present_initial_key 1, (present_nought 1, tt))))))))

present_register : Stands 2 register
present_register room place rest e = map_of 1 name_key after_name all_register room place rest refl

all_registers : All_stand 2 (register ∷ [])
all_registers = (present_register, tt)

present_registers : Stands 3 registers
present_registers room place rest e = vector 2 register [] all_registers room place rest

abbrev after_level_name : List Item
after_level_name = top ∷ registers_key ∷ registers ∷ []

all_level : All_stand 3 (name_key ∷ after_level_name)
all_level = (present_name_key 3, (present_top 3, (present_registers_key 3, (present_registers, tt))))

present_level : Stands 4 level
present_level room place rest e = map_of 3 name_key after_level_name all_level room place rest refl

all_levels : All_stand 4 (level ∷ [])
all_levels = (present_level, tt)

present_levels : Stands 5 levels
present_levels room place rest e = vector 4 level [] all_levels room place rest

all_file : All_stand 5 (levels_key ∷ levels ∷ [])
all_file = (present_levels_key 5, (present_levels, tt))

present_file : Stands 6 file
present_file room place rest e = map_of 5 levels_key (levels ∷ []) all_file room place rest refl

-- ---- what the elements are made of

is_text : IsText alone_text (piece_at 0 file ∷ [])
is_text = (82, 82, on_inside 6 58 0 file [] [] (present_file, tt) tt, nothing)

-- the elements, at their places in the text
abbrev at : ℕ → Item → ElementModel
at = piece_at

abbrev file_pairs : List (ElementModel × ElementModel)
file_pairs = (at 1 levels_key, at 9 levels) ∷ []

file_has : HasPairs (at 0 file) file_pairs
file_has = pairs_of (at 0 file) (inside levels_key (levels ∷ []) (125 ∷ [])) file_pairs 81 refl refl (on_inside 5 58 1 levels_key (levels ∷ []) (125 ∷ []) all_file curly_ends)

levels_have : HasMembers (at 9 levels) (at 10 level ∷ [])
levels_have = members_of (at 9 levels) (inside level [] (93 ∷ [])) (at 10 level ∷ []) 80 refl refl (on_inside 4 59 10 level [] (93 ∷ []) all_levels square_ends)

abbrev level_pairs : List (ElementModel × ElementModel)
level_pairs = (at 11 name_key, at 17 top) ∷ (at 21 registers_key, at 32 registers) ∷ []

level_has : HasPairs (at 10 level) level_pairs
level_has = pairs_of (at 10 level) (inside name_key after_level_name (125 ∷ [])) level_pairs 79 refl refl (on_inside 3 60 11 name_key after_level_name (125 ∷ []) all_level curly_ends)

registers_have : HasMembers (at 32 registers) (at 33 register ∷ [])
registers_have = members_of (at 32 registers) (inside register [] (93 ∷ [])) (at 33 register ∷ []) 78 refl refl (on_inside 2 61 33 register [] (93 ∷ []) all_registers square_ends)

abbrev register_pairs : List (ElementModel × ElementModel)
register_pairs = (at 34 name_key, at 40 r) ∷ (at 42 kind_key, at 48 safe) ∷ (at 54 writers_key, at 63 writers) ∷ (at 67 initial_key, at 76 nought) ∷ []

register_has : HasPairs (at 33 register) register_pairs
register_has = pairs_of (at 33 register) (inside name_key after_name (125 ∷ [])) register_pairs 77 refl refl (on_inside 1 62 34 name_key after_name (125 ∷ []) all_register curly_ends)

writers_have : HasMembers (at 63 writers) (at 64 nought ∷ [])
writers_have = members_of (at 63 writers) (inside nought [] (93 ∷ [])) (at 64 nought ∷ []) 65 refl refl (on_inside 0 63 64 nought [] (93 ∷ []) all_writers square_ends)

-- ---- what the file says

abbrev register_form : RegisterForm
register_form = record {
  name = One (at 40 r);
  kind = One (at 48 safe);
  writers = One (record { element = at 63 writers; members = Some (at 64 nought ∷ []) });
  initial = One (at 76 nought);
  domain = Missing;
  parts = Missing;
  fixed = Missing;
}

register_fields : AreRegisterFields register_pairs register_form
register_fields = record { name = refl; kind = refl; writers = (refl, writers_have); initial = refl; domain = tt; parts = tt; fixed = refl }

abbrev level_form : LevelForm
level_form = record { name = One (at 17 top); registers = One (Some (Some register_form ∷ [])) }

level_fields : AreLevelFields level_pairs level_form
level_fields = record { name = refl; registers = (at 33 register ∷ [], registers_have, ((register_pairs, register_has, register_fields), tt)) }

abbrev file_form : FileForm
file_form = record { levels = One (Some (Some level_form ∷ [])) }

file_fields : AreFileFields file_pairs file_form
file_fields = record { levels = (at 10 level ∷ [], levels_have, ((level_pairs, level_has, level_fields), tt)) }

is_file : IsFileOf alone_text (Some file_form)
is_file = (at 0 file ∷ [], is_text, (file_pairs, file_has, file_fields))

says : contents_of (Some file_form) ≡ Ok alone_tower
unfolding integer_of natural_of digits_after
says = refl

pub is_tower : IsTowerOf alone_text alone_tower
is_tower = (Some file_form, is_file, says)
