-- A record in EDN is one element of the reader's grammar.
use Rattle.std.proofs.Common.{◌≡◌, ℕ, zero, suc, ◌+◌, ◌-◌, ◌≤◌, Bool, true, false, not, List, [], ◌∷◌, ◌++◌, codes, if◌then◌else◌, append_assoc, append-nil, refl, sym, ap, ap₂, ◌∙◌, subst, arith}
use Rattle.edn_reader.specs.declared.bytes.ByteClass.TheVariants.{Opens, Closes}
use Rattle.edn_reader.specs.declared.bytes.Bracket.TheVariants.{Square, Curly}
use Rattle.edn_reader.specs.declared.element.ElementKind.TheVariants as kinds
use Rattle.edn_reader.specs.declared.token.Opener.TheVariants as openers
use Rattle.edn_reader.specs.Bytes.{class_of}
use Rattle.edn_reader.specs.Grammar.{ElementModel, IsElement, IsElementAt, bracketed, close, is_odd, none, nothing as no_gap, opening}
use Rattle.tower_file.proofs.Spelled.{All_stand, Item, Stands, following, deep, inside, inside_after, map_of, piece_at, spaced, spaced_after, spaced_pieces, vector}
use Rattle.records.specs.Edn.{begins, edn_from, edn_text, ends, symbol_text}
use Rattle.records.specs.Grammar.{AreFields, AreValues, IsOneValue, IsRecord, alone, between, is_whole_value, is_record_word, listed, more_fields, more_values, nested, no_field, no_value}
use Rattle.records.specs.Symbol.{Symbol, begin_list, begin_record, end_list, end_record, flag, key, nothing, number, place, text, word}
use Rattle.records.proofs.EdnStrings.{following-append, keyword_present, place_present, string_present, word_present}

abbrev blank : Bool → List ℕ
blank ended = if ended then codes " " else []

-- the symbols are this element in EDN, wherever they are
record IsPrinted (depth : ℕ) (symbols : List Symbol) : Type 0 where
  item : Item
  present : Stands depth item
  printed : (ended : Bool) (more : List Symbol) → edn_from ended (symbols ++ more) ≡ blank ended ++ (item.text ++ edn_from true more)

-- what elements come to after a bracket: the first bytes where there is none, and the second after the last
abbrev listing : List Item → List ℕ → List ℕ → List ℕ
listing [] first rest = first
listing (item ∷ items) first rest = inside item items rest

-- the symbols are these elements in EDN, one after the other
record ArePrinted (depth : ℕ) (symbols : List Symbol) : Type 0 where
  items : List Item
  stand : All_stand depth items
  spaced_is : (more : List Symbol) → edn_from true (symbols ++ more) ≡ spaced items (edn_from true more)
  first_is : (more : List Symbol) → edn_from false (symbols ++ more) ≡ listing items (edn_from false more) (edn_from true more)

-- ---- values by themselves

one_symbol : (symbol : Symbol) (ended : Bool) (more : List Symbol) → begins symbol ≡ true → ends symbol ≡ true
    → edn_from ended (symbol ∷ more) ≡ blank ended ++ (symbol_text symbol ++ edn_from true more)
unfolding edn_from
one_symbol symbol true more begin end = ap₂ (λ (t u : Bool). (blank t ++ symbol_text symbol) ++ edn_from u more) begin end
one_symbol symbol false more begin end = ap (λ (u : Bool). symbol_text symbol ++ edn_from u more) end

printed_symbol : (depth : ℕ) (symbol : Symbol) (item : Item) → Stands depth item → item.text ≡ symbol_text symbol → begins symbol ≡ true → ends symbol ≡ true
    → IsPrinted depth (symbol ∷ [])
printed_symbol depth symbol item present same begin end =
    record {
      item = item;
      present = present;
      printed = λ ended more. one_symbol symbol ended more begin end ∙ ap (λ (bytes : List ℕ). blank ended ++ (bytes ++ edn_from true more)) (sym same);
    }

alone_is : (depth : ℕ) (symbol : Symbol) → is_whole_value symbol ≡ true → IsPrinted depth (symbol ∷ [])
alone_is depth begin_record whole = absurd cc
alone_is depth end_record whole = absurd cc
alone_is depth begin_list whole = absurd cc
alone_is depth end_list whole = absurd cc
alone_is depth (key name) whole = absurd cc
alone_is depth (word name) whole = printed_symbol depth (word name) (record { kind = kinds.Atom; text = 58 ∷ name }) (keyword_present depth name whole) refl refl refl
alone_is depth (text bytes) whole = printed_symbol depth (text bytes) (record { kind = kinds.Text; text = symbol_text (text bytes) }) (string_present depth bytes) refl refl refl
alone_is depth (place feeder event) whole =
    printed_symbol depth (place feeder event) (record { kind = kinds.Text; text = symbol_text (place feeder event) }) (place_present depth feeder event) refl refl refl
alone_is depth (number digits) whole = printed_symbol depth (number digits) (record { kind = kinds.Atom; text = digits }) (word_present depth digits whole) refl refl refl
alone_is depth (flag true) whole = printed_symbol depth (flag true) (record { kind = kinds.Atom; text = codes "true" }) (word_present depth (codes "true") refl) refl refl refl
alone_is depth (flag false) whole = printed_symbol depth (flag false) (record { kind = kinds.Atom; text = codes "false" }) (word_present depth (codes "false") refl) refl refl refl
alone_is depth nothing whole = printed_symbol depth nothing (record { kind = kinds.Atom; text = codes "nil" }) (word_present depth (codes "nil") refl) refl refl refl

-- ---- between brackets

spaced-append : (items : List Item) (a rest : List ℕ) → spaced items a ++ rest ≡ spaced items (a ++ rest)
spaced-append [] a rest = refl
spaced-append (item ∷ items) a rest =
    ap (λ (bytes : List ℕ). 32 ∷ bytes) (append_assoc item.text (spaced items a) rest ∙ ap (λ (bytes : List ℕ). item.text ++ bytes) (spaced-append items a rest))

listing-append : (items : List Item) (a rest : List ℕ) → listing items a a ++ rest ≡ listing items (a ++ rest) (a ++ rest)
listing-append [] a rest = refl
listing-append (item ∷ items) a rest = append_assoc item.text (spaced items a) rest ∙ ap (λ (bytes : List ℕ). item.text ++ bytes) (spaced-append items a rest)

following-spaced : (at : ℕ) (items : List Item) (a : List ℕ) → following at (spaced items a) ≡ following (spaced_after at items) a
following-spaced at [] a = refl
following-spaced at (item ∷ items) a = following-append (suc at) item.text (spaced items a) ∙ following-spaced (following (suc at) item.text) items a

following-inside : (at : ℕ) (item : Item) (items : List Item) (a : List ℕ) → following at (inside item items a) ≡ following (inside_after at item items) a
following-inside at item items a = following-append at item.text (spaced items a) ∙ following-spaced (following at item.text) items a

square_opens : class_of 91 ≡ Opens Square
unfolding class_of
square_opens = refl

square_closes : class_of 93 ≡ Closes Square
unfolding class_of
square_closes = refl

curly_opens : class_of 123 ≡ Opens Curly
unfolding class_of
curly_opens = refl

curly_closes : class_of 125 ≡ Closes Curly
unfolding class_of
curly_closes = refl

abbrev vector_item : List Item → Item
vector_item items = record { kind = kinds.Vector; text = 91 ∷ listing items (93 ∷ []) (93 ∷ []) }

vector_present : (depth : ℕ) (items : List Item) → All_stand depth items → Stands (suc depth) (vector_item items)
vector_present depth [] stand room at rest e =
    bracketed {opener = openers.Vector} {bracket = Square} (opening {bracket = Square} square_opens) none no_gap (close square_closes) refl refl
vector_present depth (item ∷ items) stand room at rest e =
    subst (λ (n : ℕ). IsElementAt (suc (deep depth room)) kinds.Vector (record { kind = kinds.Vector; start = at }) at ((vector_item (item ∷ items)).text ++ rest) n rest)
    (sym (following-inside (suc at) item items (93 ∷ [])))
    (subst (λ (bytes : List ℕ). IsElementAt (suc (deep depth room)) kinds.Vector (record { kind = kinds.Vector; start = at }) at (91 ∷ bytes) (suc (inside_after (suc at) item items)) rest)
    (sym (listing-append (item ∷ items) (93 ∷ []) rest)) (vector depth item items stand room at rest))

abbrev odd_many : List Item → Bool
odd_many [] = false
odd_many (item ∷ items) = not (odd_many items)

odd_spaced : (at : ℕ) (items : List Item) → is_odd (spaced_pieces at items) ≡ odd_many items
odd_spaced at [] = refl
odd_spaced at (item ∷ items) = ap not (odd_spaced (following (suc at) item.text) items)

abbrev map_item : List Item → Item
map_item items = record { kind = kinds.Map; text = 123 ∷ listing items (125 ∷ []) (125 ∷ []) }

map_present : (depth : ℕ) (items : List Item) → All_stand depth items → odd_many items ≡ false → Stands (suc depth) (map_item items)
map_present depth [] stand even room at rest e =
    bracketed {opener = openers.Map} {bracket = Curly} (opening {bracket = Curly} curly_opens) none no_gap (close curly_closes) refl refl
map_present depth (item ∷ items) stand even room at rest e =
    subst (λ (n : ℕ). IsElementAt (suc (deep depth room)) kinds.Map (record { kind = kinds.Map; start = at }) at ((map_item (item ∷ items)).text ++ rest) n rest)
    (sym (following-inside (suc at) item items (125 ∷ [])))
    (subst (λ (bytes : List ℕ). IsElementAt (suc (deep depth room)) kinds.Map (record { kind = kinds.Map; start = at }) at (123 ∷ bytes) (suc (inside_after (suc at) item items)) rest)
    (sym (listing-append (item ∷ items) (125 ∷ []) rest))
    (map_of depth item items stand room at rest (ap not (odd_spaced (following (suc at) item.text) items) ∙ even)))

-- a bracket that closes has nothing before it
closed_list : (ended : Bool) (more : List Symbol) → edn_from ended (end_list ∷ more) ≡ 93 ∷ edn_from true more
unfolding edn_from
closed_list true more = refl
closed_list false more = refl

closed_record : (ended : Bool) (more : List Symbol) → edn_from ended (end_record ∷ more) ≡ 125 ∷ edn_from true more
unfolding edn_from
closed_record true more = refl
closed_record false more = refl

opened_list : (ended : Bool) (more : List Symbol) → edn_from ended (begin_list ∷ more) ≡ blank ended ++ 91 ∷ edn_from false more
unfolding edn_from
opened_list true more = refl
opened_list false more = refl

opened_record : (ended : Bool) (more : List Symbol) → edn_from ended (begin_record ∷ more) ≡ blank ended ++ 123 ∷ edn_from false more
unfolding edn_from
opened_record true more = refl
opened_record false more = refl

keyed : (ended : Bool) (name : List ℕ) (more : List Symbol) → edn_from ended (key name ∷ more) ≡ blank ended ++ 58 ∷ ((name ++ 32 ∷ []) ++ edn_from false more)
unfolding edn_from
keyed true name more = refl
keyed false name more = refl

listed_text : (items : List Item) (symbols : List Symbol) → ((more : List Symbol) → edn_from false (symbols ++ more) ≡ listing items (edn_from false more) (edn_from true more))
    → (ended : Bool) (more : List Symbol) → edn_from ended (begin_list ∷ ((symbols ++ end_list ∷ []) ++ more)) ≡ blank ended ++ ((vector_item items).text ++ edn_from true more)
listed_text items symbols first ended more =
    opened_list ended ((symbols ++ end_list ∷ []) ++ more)
    ∙ ap (λ (bytes : List ℕ). blank ended ++ 91 ∷ bytes)
    (ap (λ (list : List Symbol). edn_from false list) (append_assoc symbols (end_list ∷ []) more)
    ∙ first (end_list ∷ more)
    ∙ ap₂ (λ (a b : List ℕ). listing items a b) (closed_list false more) (closed_list true more)
    ∙ sym (listing-append items (93 ∷ []) (edn_from true more)))

record_text : (items : List Item) (symbols : List Symbol) → ((more : List Symbol) → edn_from false (symbols ++ more) ≡ listing items (edn_from false more) (edn_from true more))
    → (ended : Bool) (more : List Symbol) → edn_from ended (begin_record ∷ ((symbols ++ end_record ∷ []) ++ more)) ≡ blank ended ++ ((map_item items).text ++ edn_from true more)
record_text items symbols first ended more =
    opened_record ended ((symbols ++ end_record ∷ []) ++ more)
    ∙ ap (λ (bytes : List ℕ). blank ended ++ 123 ∷ bytes)
    (ap (λ (list : List Symbol). edn_from false list) (append_assoc symbols (end_record ∷ []) more)
    ∙ first (end_record ∷ more)
    ∙ ap₂ (λ (a b : List ℕ). listing items a b) (closed_record false more) (closed_record true more)
    ∙ sym (listing-append items (125 ∷ []) (edn_from true more)))

-- ---- values and fields

values_on : {depth : ℕ} (value values : List Symbol) → IsPrinted depth value → ArePrinted depth values → ArePrinted depth (value ++ values)
values_on value values one others =
    let on = λ (ended : Bool) (more : List Symbol). ap (λ (list : List Symbol). edn_from ended list) (append_assoc value values more) ∙ one.printed ended (values ++ more)
    ∙ ap (λ (bytes : List ℕ). blank ended ++ (one.item.text ++ bytes)) (others.spaced_is more) in
    record { items = one.item ∷ others.items; stand = (one.present, others.stand); spaced_is = λ more. on true more; first_is = λ more. on false more }

abbrev key_item : List ℕ → Item
key_item name = record { kind = kinds.Atom; text = 58 ∷ name }

-- the fields are these elements in EDN: an even number of them
record AreInPairs (depth : ℕ) (symbols : List Symbol) : Type 0 where
  printed : ArePrinted depth symbols
  even : odd_many printed.items ≡ false

not_twice : (b : Bool) → not (not b) ≡ b
not_twice true = refl
not_twice false = refl

fields_on : {depth : ℕ} (name : List ℕ) (value fields : List Symbol) → is_record_word name ≡ true → IsPrinted depth value → AreInPairs depth fields
    → AreInPairs depth (key name ∷ (value ++ fields))
unfolding values_on
fields_on {depth} name value fields is one others =
    let after = values_on value fields one others.printed in
    let on = λ (ended : Bool) (more : List Symbol). keyed ended name ((value ++ fields) ++ more)
    ∙ ap (λ (bytes : List ℕ). blank ended ++ 58 ∷ bytes)
    (append_assoc name (32 ∷ []) (edn_from false ((value ++ fields) ++ more)) ∙ ap (λ (bytes : List ℕ). name ++ 32 ∷ bytes) (after.first_is more)) in
    record {
      printed = record {
        items = key_item name ∷ after.items;
        stand = (keyword_present depth name is, after.stand);
        spaced_is = λ more. on true more;
        first_is = λ more. on false more;
      };
      even = not_twice (odd_many others.printed.items) ∙ others.even;
    }

mutual
  value_is : {depth : ℕ} {symbols : List Symbol} → IsOneValue depth symbols → IsPrinted depth symbols
  value_is {depth} (alone symbol whole) = alone_is depth symbol whole
  value_is (listed {depth = depth} {values = values} are) =
      let inner = values_are are in
      record { item = vector_item inner.items; present = vector_present depth inner.items inner.stand; printed = listed_text inner.items values inner.first_is }
  value_is (nested is) = record_is is

  values_are : {depth : ℕ} {symbols : List Symbol} → AreValues depth symbols → ArePrinted depth symbols
  values_are no_value = record { items = []; stand = tt; spaced_is = λ more. refl; first_is = λ more. refl }
  values_are (more_values {value = value} {values = values} is are) = values_on value values (value_is is) (values_are are)

  fields_are : {depth : ℕ} {symbols : List Symbol} → AreFields depth symbols → AreInPairs depth symbols
  fields_are no_field = record { printed = record { items = []; stand = tt; spaced_is = λ more. refl; first_is = λ more. refl }; even = refl }
  fields_are (more_fields name is {value = value} {fields = fields} one others) = fields_on name value fields is (value_is one) (fields_are others)

  record_is : {depth : ℕ} {symbols : List Symbol} → IsRecord depth symbols → IsPrinted depth symbols
  record_is (between {depth = depth} {fields = fields} are) =
      let inner = fields_are are in
      record {
        item = map_item inner.printed.items;
        present = map_present depth inner.printed.items inner.printed.stand inner.even;
        printed = record_text inner.printed.items fields inner.printed.first_is;
      }

record_kind : {depth : ℕ} {symbols : List Symbol} (is : IsRecord depth symbols) → (record_is is).item.kind ≡ kinds.Map
unfolding record_is
record_kind (between are) = refl

-- ---- a record

deep_is : (depth room : ℕ) → deep depth room ≡ depth + room
deep_is zero room = omega arith
deep_is (suc depth) room = omega (arith, deep_is depth room)

end_is_nothing : (ended : Bool) → edn_from ended [] ≡ []
unfolding edn_from
end_is_nothing ended = refl

pub one_element : (depth : ℕ) (symbols : List Symbol) → depth ≤ 64 → IsRecord depth symbols → (piece : ElementModel) × IsElement piece × (piece.kind ≡ kinds.Map) × (piece.text ≡ edn_text symbols)
one_element depth symbols fits is =
    let printed = record_is is in
    let item = printed.item in
    let room : deep depth (64 - depth) ≡ 64 = omega (arith, deep_is depth (64 - depth)) in
    let at = subst (λ (n : ℕ). IsElementAt n item.kind (record { kind = item.kind; start = 0 }) 0 (item.text ++ []) (following 0 item.text) []) room (printed.present (64 - depth) 0 [] tt) in
    let whole = subst (λ (bytes : List ℕ). IsElementAt 64 item.kind (record { kind = item.kind; start = 0 }) 0 bytes (following 0 item.text) []) (append-nil item.text) at in
    let same : edn_text symbols ≡ item.text =
    ap (λ (list : List Symbol). edn_from false list) (sym (append-nil symbols)) ∙ printed.printed false [] ∙ ap (λ (bytes : List ℕ). item.text ++ bytes) (end_is_nothing true) ∙ append-nil item.text in
    (piece_at 0 item, (following 0 item.text, whole), record_kind is, sym same)
