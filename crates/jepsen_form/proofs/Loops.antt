-- What a loop over the pairs of a map has found: the fields of the pairs so far.
use Rattle.std.proofs.Common.{◌≡◌, ℕ, Bool, true, false, ◌&&◌, cond, List, [], ◌∷◌, ◌++◌, Option, Some, None, refl, sym, ap, ◌∙◌}
use Rattle.std.specs.Prelude.{if◌then◌else◌, codes}
use Rattle.std.specs.Str.{bytes_eq}
use Rattle.edn_reader.specs.declared.element.Element.{Element}
use Rattle.edn_reader.specs.declared.flat.FlatMap.{FlatMap}
use Rattle.edn_reader.specs.declared.view.MapView.{MapView}
use Rattle.edn_reader.specs.Flat.{HasRead}
use Rattle.edn_reader.specs.Grammar.{ElementModel, untagged}
use Rattle.edn_reader.specs.Pairs.{is_keyword, is_word, keyword_of, values_of}
use Rattle.edn_reader.specs.Lent.{piece_of, PairsLeft, NextPair}
use Rattle.edn_reader.specs.Given.{Given, Missing, Many, given, one_more}
use Rattle.jepsen_form.specs.declared.item.MomentField.{MomentField}
use Rattle.jepsen_form.specs.declared.form.EventFields.{EventFields}
use Rattle.jepsen_form.specs.Fields.{Fields, fields_of, moment_key}
use Rattle.jepsen_form.specs.Form.{seen_all, nothing, more_if, is_key, noted}

-- the fields after some more pairs
abbrev pub after : MomentField → Fields → List (ElementModel × ElementModel) → Fields
after chosen found [] = found
after chosen found (pair ∷ pairs) = after chosen (noted chosen found (keyword_of pair.0) pair.1) pairs

-- what is under a key after some more values
abbrev more : Given ElementModel → List ElementModel → Given ElementModel
more found [] = found
more found (value ∷ values) = more (one_more found value) values

many_more : (values : List ElementModel) → more Many values ≡ Many
many_more [] = refl
many_more (value ∷ values) = many_more values

more_than_none : (values : List ElementModel) → more Missing values ≡ given values
more_than_none [] = refl
more_than_none (value ∷ []) = refl
more_than_none (value ∷ other ∷ values) = many_more values

key_word : (key : List ℕ) (is : Bool) (text : List ℕ) → is_key key (if is then Some text else None) ≡ (is && bytes_eq text key)
key_word key true text = refl
key_word key false text = refl

pub is_key_word : (key : List ℕ) (piece : ElementModel) → is_key key (keyword_of piece) ≡ is_word key piece
is_key_word key piece = key_word key (is_keyword piece) (untagged piece).text

one_value : (key : List ℕ) (pair : ElementModel × ElementModel) (pairs : List (ElementModel × ElementModel)) (t : Bool) → is_word key pair.0 ≡ t → values_of key (pair ∷ pairs) ≡ cond t (pair.1 ∷ values_of key pairs) (values_of key pairs)
one_value key pair pairs true e = rw e refl
one_value key pair pairs false e = rw e refl

more_values : (t : Bool) (found : Given ElementModel) (value : ElementModel) (values : List ElementModel) → more (more_if t found value) values ≡ more found (cond t (value ∷ values) values)
more_values true found value values = refl
more_values false found value values = refl

-- one of the fields takes the values whose key is this one
abbrev IsUnder : MomentField → (Fields → Given ElementModel) → List ℕ → Type 0
IsUnder chosen slot key = (found : Fields) (word : Option (List ℕ)) (value : ElementModel) → slot (noted chosen found word value) ≡ more_if (is_key key word) (slot found) value

slot_after : (chosen : MomentField) (slot : Fields → Given ElementModel) (key : List ℕ) → IsUnder chosen slot key → (found : Fields) (pairs : List (ElementModel × ElementModel)) → slot (after chosen found pairs) ≡ more (slot found) (values_of key pairs)
slot_after chosen slot key under found [] = refl
slot_after chosen slot key under found (pair ∷ pairs) =
    slot_after chosen slot key under (noted chosen found (keyword_of pair.0) pair.1) pairs
    ∙ ap (λ (given : Given ElementModel). more given (values_of key pairs)) (under found (keyword_of pair.0) pair.1)
    ∙ ap (λ (t : Bool). more (more_if t (slot found) pair.1) (values_of key pairs)) (is_key_word key pair.0)
    ∙ more_values (is_word key pair.0) (slot found) pair.1 (values_of key pairs)
    ∙ ap (more (slot found)) (sym (one_value key pair pairs (is_word key pair.0) refl))

slot_of : (chosen : MomentField) (slot : Fields → Given ElementModel) (key : List ℕ) → IsUnder chosen slot key → slot nothing ≡ Missing → (pairs : List (ElementModel × ElementModel)) → slot (after chosen nothing pairs) ≡ given (values_of key pairs)
slot_of chosen slot key under none pairs =
    slot_after chosen slot key under nothing pairs ∙ ap (λ (found : Given ElementModel). more found (values_of key pairs)) none ∙ more_than_none (values_of key pairs)

after_all : (chosen : MomentField) (pairs : List (ElementModel × ElementModel)) → after chosen nothing pairs ≡ fields_of chosen pairs
after_all chosen pairs =
    let process = slot_of chosen (λ found. found.process) (codes ":process") (λ found word value. refl) refl pairs in
    let stage = slot_of chosen (λ found. found.stage) (codes ":type") (λ found word value. refl) refl pairs in
    let action = slot_of chosen (λ found. found.action) (codes ":f") (λ found word value. refl) refl pairs in
    let value = slot_of chosen (λ found. found.value) (codes ":value") (λ found word value. refl) refl pairs in
    let moment = slot_of chosen (λ found. found.moment) (moment_key chosen) (λ found word value. refl) refl pairs in
    let edit = slot_of chosen (λ found. found.edit) (codes ":edit") (λ found word value. refl) refl pairs in
    let of = slot_of chosen (λ found. found.of) (codes ":of") (λ found word value. refl) refl pairs in
    let begin = slot_of chosen (λ found. found.begin) (codes ":begin") (λ found word value. refl) refl pairs in
    let end = slot_of chosen (λ found. found.end) (codes ":end") (λ found word value. refl) refl pairs in
    let ask = slot_of chosen (λ found. found.ask) (codes ":ask") (λ found word value. refl) refl pairs in
    let register = slot_of chosen (λ found. found.register) (codes ":register") (λ found word value. refl) refl pairs in
    let claimed = slot_of chosen (λ found. found.claimed) (codes ":kind") (λ found word value. refl) refl pairs in
    λ i. record {
      process = process i;
      stage = stage i;
      action = action i;
      value = value i;
      moment = moment i;
      edit = edit i;
      of = of i;
      begin = begin i;
      end = end i;
      ask = ask i;
      register = register i;
      claimed = claimed i;
    }

-- the fields found so far, and the pairs that are left, make the fields of the map
abbrev pub Found : MapView → MomentField → MapView → EventFields → Type 0
Found first chosen view form =
    (pairs : List (ElementModel × ElementModel)) → PairsLeft first pairs
    → (left : List (ElementModel × ElementModel)) × PairsLeft view left × (after chosen (seen_all form) left ≡ fields_of chosen pairs)

pub found_first : (first : MapView) (chosen : MomentField) (form : EventFields) → seen_all form ≡ nothing → Found first chosen first form
found_first first chosen form none pairs h = (pairs, h, ap (λ (found : Fields). after chosen found pairs) none ∙ after_all chosen pairs)

one_pair : (first view next : MapView) (chosen : MomentField) (form more : EventFields) (key value : Element) (pairs left : List (ElementModel × ElementModel)) → NextPair (Some (key, value)) next left
    → seen_all more ≡ noted chosen (seen_all form) (keyword_of (piece_of key)) (piece_of value) → after chosen (seen_all form) left ≡ fields_of chosen pairs
    → (rest : List (ElementModel × ElementModel)) × PairsLeft next rest × (after chosen (seen_all more) rest ≡ fields_of chosen pairs)
one_pair first view next chosen form more key value pairs [] n e h = absurd n
one_pair first view next chosen form more key value pairs (pair ∷ rest) n e h = (
  rest,
  n.2,
  ap (λ (found : Fields). after chosen found rest) e
      ∙ ap (λ (piece : ElementModel). after chosen (noted chosen (seen_all form) (keyword_of piece) (piece_of value)) rest) n.0
      ∙ ap (λ (piece : ElementModel). after chosen (noted chosen (seen_all form) (keyword_of pair.0) piece) rest) n.1
      ∙ h,
)

pub found_next : (first view next : MapView) (chosen : MomentField) (form more : EventFields) (key value : Element) → Found first chosen view form
    → ((pairs : List (ElementModel × ElementModel)) → PairsLeft view pairs → NextPair (Some (key, value)) next pairs)
    → seen_all more ≡ noted chosen (seen_all form) (keyword_of (piece_of key)) (piece_of value) → Found first chosen next more
found_next first view next chosen form more key value found given e pairs h =
    let k = found pairs h in one_pair first view next chosen form more key value pairs k.0 (given k.0 k.1) e k.2

pub found_all : (first view next : MapView) (chosen : MomentField) (form : EventFields) → Found first chosen view form
    → ((pairs : List (ElementModel × ElementModel)) → PairsLeft view pairs → NextPair None next pairs)
    → (pairs : List (ElementModel × ElementModel)) → PairsLeft first pairs → seen_all form ≡ fields_of chosen pairs
found_all first view next chosen form found ended pairs h =
    let k = found pairs h in
    ap (after chosen (seen_all form)) (sym (ended k.0 k.1)) ∙ k.2

-- ---- a map that is read in one pass

after_more : (chosen : MomentField) (found : Fields) (pairs : List (ElementModel × ElementModel)) (pair : ElementModel × ElementModel) → after chosen found (pairs ++ pair ∷ []) ≡ noted chosen (after chosen found pairs) (keyword_of pair.0) pair.1
after_more chosen found [] pair = refl
after_more chosen found (first ∷ pairs) pair = after_more chosen (noted chosen found (keyword_of first.0) first.1) pairs pair

-- the fields found so far are those of the pairs that were read
pub record Noted (map : FlatMap) (chosen : MomentField) (form : EventFields) : Type 0 where
  pub pairs : List (ElementModel × ElementModel)
  pub read : HasRead map pairs
  pub fields : seen_all form ≡ after chosen nothing pairs

pub noted_next : (map next : FlatMap) (chosen : MomentField) (form more : EventFields) (key value : Element) (noted_so_far : Noted map chosen form)
    → HasRead next (noted_so_far.pairs ++ (piece_of key, piece_of value) ∷ []) → seen_all more ≡ noted chosen (seen_all form) (keyword_of (piece_of key)) (piece_of value) → Noted next chosen more
noted_next map next chosen form more key value so_far read e = record {
  pairs = so_far.pairs ++ (piece_of key, piece_of value) ∷ [];
  read = read;
  fields = e ∙ ap (λ (found : Fields). noted chosen found (keyword_of (piece_of key)) (piece_of value)) so_far.fields
      ∙ sym (after_more chosen nothing so_far.pairs (piece_of key, piece_of value));
}

pub noted_all : (map : FlatMap) (chosen : MomentField) (form : EventFields) (so_far : Noted map chosen form) → seen_all form ≡ fields_of chosen so_far.pairs
noted_all map chosen form so_far = so_far.fields ∙ after_all chosen so_far.pairs
