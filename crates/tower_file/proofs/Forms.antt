-- Each element is read as some form: a vector by its elements, a map by its pairs, and another element as none.
use Rattle.std.proofs.Common.{◌≡◌, ◌≢◌, ◌⊎◌, inl, inr, ℕ, Bool, true, false, List, [], ◌∷◌, Option, Some, None, refl}
use Rattle.std.specs.Prelude.{codes}
use Rattle.std.specs.List.{AllByRecursion}
use Rattle.edn_reader.specs.declared.element.ElementKind.{ElementKind}
use Rattle.edn_reader.specs.declared.element.ElementKind.TheVariants as kinds
use Rattle.edn_reader.specs.Grammar.{ElementModel, IsElement}
use Rattle.edn_reader.specs.Pairs.{is_word, values_of, HasPairs, HasMembers}
use Rattle.edn_reader.specs.Given.{Given, Missing, One, Many, given}
use Rattle.tower_file.specs.Form.{under, IsGiven, AreVectorElements, Each, IsVectorOf, IsMapOf, IsSequence, AreRegisterFields, IsRegister, AreLevelFields, IsLevel, AreFileFields}

vector_or : (kind : ElementKind) → (kind ≡ kinds.Vector) ⊎ (kind ≢ kinds.Vector)
vector_or kinds.Atom = inr (λ h. absurd cc)
vector_or kinds.Char = inr (λ h. absurd cc)
vector_or kinds.Text = inr (λ h. absurd cc)
vector_or kinds.List = inr (λ h. absurd cc)
vector_or kinds.Vector = inl refl
vector_or kinds.Map = inr (λ h. absurd cc)
vector_or kinds.Set = inr (λ h. absurd cc)
vector_or kinds.Tagged = inr (λ h. absurd cc)

map_or : (kind : ElementKind) → (kind ≡ kinds.Map) ⊎ (kind ≢ kinds.Map)
map_or kinds.Atom = inr (λ h. absurd cc)
map_or kinds.Char = inr (λ h. absurd cc)
map_or kinds.Text = inr (λ h. absurd cc)
map_or kinds.List = inr (λ h. absurd cc)
map_or kinds.Vector = inr (λ h. absurd cc)
map_or kinds.Map = inl refl
map_or kinds.Set = inr (λ h. absurd cc)
map_or kinds.Tagged = inr (λ h. absurd cc)

-- both of a pair are elements on their own
abbrev pub AreElements : ElementModel × ElementModel → Type 0
AreElements pair = IsElement pair.0 × IsElement pair.1

-- each element is read as some form
abbrev pub Some_form : {Form : Type 0} → (ElementModel → Form → Type 0) → Type 0
Some_form {Form} IsRead = (piece : ElementModel) → IsElement piece → (form : Form) × IsRead piece form

-- the pairs of each map are read as some form
abbrev pub Some_fields : {Form : Type 0} → (List (ElementModel × ElementModel) → Form → Type 0) → Type 0
Some_fields {Form} IsRead = (pairs : List (ElementModel × ElementModel)) → AllByRecursion AreElements pairs → (form : Form) × IsRead pairs form

value_by : (key : List ℕ) (pair : ElementModel × ElementModel) (pairs : List (ElementModel × ElementModel)) (t : Bool) → is_word key pair.0 ≡ t → IsElement pair.1 → AllByRecursion IsElement (values_of key pairs)
    → AllByRecursion IsElement (values_of key (pair ∷ pairs))
value_by key pair pairs true e h k = rw e (h, k)
value_by key pair pairs false e h k = rw e k

values_are : (key : List ℕ) (pairs : List (ElementModel × ElementModel)) → AllByRecursion AreElements pairs → AllByRecursion IsElement (values_of key pairs)
values_are key [] h = tt
values_are key (pair ∷ pairs) h = value_by key pair pairs (is_word key pair.0) refl h.0.1 (values_are key pairs h.1)

given_form : {Form : Type 0} (IsRead : ElementModel → Form → Type 0) → Some_form IsRead → (values : List ElementModel) → AllByRecursion IsElement values → (form : Given Form) × IsGiven IsRead (given values) form
given_form IsRead some [] h = (Missing, tt)
given_form IsRead some (value ∷ []) h = let f = some value h.0 in (One f.0, f.1)
given_form IsRead some (value ∷ other ∷ values) h = (Many, tt)

under_form : {Form : Type 0} (IsRead : ElementModel → Form → Type 0) → Some_form IsRead → (key : List ℕ) (pairs : List (ElementModel × ElementModel)) → AllByRecursion AreElements pairs
    → (form : Given Form) × IsGiven IsRead (under key pairs) form
under_form IsRead some key pairs h = given_form IsRead some (values_of key pairs) (values_are key pairs h)

each_form : {Form : Type 0} (IsRead : ElementModel → Form → Type 0) → Some_form IsRead → (members : List ElementModel) → AllByRecursion IsElement members → (forms : List Form) × Each IsRead members forms
each_form IsRead some [] h = ([], tt)
each_form IsRead some (piece ∷ members) h =
    let f = some piece h.0 in
    let fs = each_form IsRead some members h.1 in (f.0 ∷ fs.0, (f.1, fs.1))

module _ (some_pairs : (piece : ElementModel) → IsElement piece → piece.core.kind ≡ kinds.Map → (pairs : List (ElementModel × ElementModel)) × HasPairs piece pairs)
    (pairs_are : (piece : ElementModel) (pairs : List (ElementModel × ElementModel)) → HasPairs piece pairs → AllByRecursion AreElements pairs)
    (some_members : (piece : ElementModel) → IsElement piece → piece.core.kind ≡ kinds.Vector → (members : List ElementModel) × HasMembers piece members)
    (members_are : (piece : ElementModel) (members : List ElementModel) → HasMembers piece members → AllByRecursion IsElement members) where
  map_by : {Form : Type 0} (IsRead : List (ElementModel × ElementModel) → Form → Type 0) → Some_fields IsRead → (piece : ElementModel) → IsElement piece → (piece.core.kind ≡ kinds.Map) ⊎ (piece.core.kind ≢ kinds.Map)
      → (form : Option Form) × IsMapOf IsRead piece form
  map_by IsRead some piece whole (inl k) =
      let p = some_pairs piece whole k in
      let f = some p.0 (pairs_are piece p.0 p.1) in (Some f.0, (p.0, p.1, f.1))
  map_by IsRead some piece whole (inr n) = (None, n)

  map_some : {Form : Type 0} (IsRead : List (ElementModel × ElementModel) → Form → Type 0) → Some_fields IsRead → Some_form (IsMapOf IsRead)
  map_some IsRead some piece whole = map_by IsRead some piece whole (map_or piece.core.kind)

  vector_by : {Form : Type 0} (IsRead : ElementModel → Form → Type 0) → Some_form IsRead → (piece : ElementModel) → IsElement piece → (piece.core.kind ≡ kinds.Vector) ⊎ (piece.core.kind ≢ kinds.Vector)
      → (forms : Option (List Form)) × IsVectorOf IsRead piece forms
  vector_by IsRead some piece whole (inl k) =
      let m = some_members piece whole k in
      let f = each_form IsRead some m.0 (members_are piece m.0 m.1) in (Some f.0, (m.0, m.1, f.1))
  vector_by IsRead some piece whole (inr n) = (None, n)

  vector_some : {Form : Type 0} (IsRead : ElementModel → Form → Type 0) → Some_form IsRead → Some_form (IsVectorOf IsRead)
  vector_some IsRead some piece whole = vector_by IsRead some piece whole (vector_or piece.core.kind)

  members_by : (piece : ElementModel) → IsElement piece → (piece.core.kind ≡ kinds.Vector) ⊎ (piece.core.kind ≢ kinds.Vector) → (members : Option (List ElementModel)) × AreVectorElements piece members
  members_by piece whole (inl k) = let m = some_members piece whole k in (Some m.0, m.1)
  members_by piece whole (inr n) = (None, n)

  members_some : Some_form AreVectorElements
  members_some piece whole = members_by piece whole (vector_or piece.core.kind)

  sequence_some : Some_form IsSequence
  sequence_some piece whole = let m = members_some piece whole in (record { element = piece; members = m.0 }, (refl, m.1))

  register_some : Some_fields AreRegisterFields
  register_some pairs h =
      let writers = under_form IsSequence sequence_some (codes ":writers") pairs h in
      let domain = under_form AreVectorElements members_some (codes ":domain") pairs h in
      let parts = under_form AreVectorElements members_some (codes ":of") pairs h in (
        record {
          name = under (codes ":name") pairs;
          kind = under (codes ":kind") pairs;
          writers = writers.0;
          initial = under (codes ":initial") pairs;
          domain = domain.0;
          parts = parts.0;
          fixed = under (codes ":fixed") pairs;
        },
        record { name = refl; kind = refl; writers = writers.1; initial = refl; domain = domain.1; parts = parts.1; fixed = refl },
      )

  level_some : Some_fields AreLevelFields
  level_some pairs h =
      let registers = under_form (IsVectorOf IsRegister) (vector_some IsRegister (map_some AreRegisterFields register_some)) (codes ":registers") pairs h in
      (record { name = under (codes ":name") pairs; registers = registers.0 }, record { name = refl; registers = registers.1 })

  file_fields : Some_fields AreFileFields
  file_fields pairs h =
      let levels = under_form (IsVectorOf IsLevel) (vector_some IsLevel (map_some AreLevelFields level_some)) (codes ":levels") pairs h in
      (record { levels = levels.0 }, record { levels = levels.1 })

  -- the one element of a file is read as some form
  pub file_some : Some_form (IsMapOf AreFileFields)
  file_some = map_some AreFileFields file_fields
