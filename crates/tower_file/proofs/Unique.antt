-- A text is read as one form at most.
use Rattle.std.proofs.Common.{◌≡◌, ℕ, List, [], ◌∷◌, Option, Some, None, refl, sym, ap, subst, ◌∙◌}
use Rattle.edn_reader.specs.Grammar.{ElementModel}
use Rattle.edn_reader.specs.Text.{IsText}
use Rattle.edn_reader.specs.Pairs.{HasPairs, HasMembers}
use Rattle.edn_reader.specs.Given.{Missing, One, Many}
use Rattle.tower_file.specs.Form.{IsGiven, AreVectorElements, Each, IsVectorOf, IsMapOf, Sequence, IsSequence, RegisterForm, AreRegisterFields, IsRegister, LevelForm, AreLevelFields, IsLevel, FileForm, AreFileFields, IsFile, IsFileOf}

-- what is read is read as one form at most
abbrev pub One_form : {X Form : Type 0} → (X → Form → Type 0) → Type 0
One_form {X} {Form} IsRead = (x : X) (first second : Form) → IsRead x first → IsRead x second → first ≡ second

one_given : {X Y : Type 0} (IsRead : X → Y → Type 0) → One_form IsRead → One_form (IsGiven IsRead)
one_given IsRead one Missing Missing Missing h k = refl
one_given IsRead one Missing Missing (One z) h k = absurd k
one_given IsRead one Missing Missing Many h k = absurd k
one_given IsRead one Missing (One y) second h k = absurd h
one_given IsRead one Missing Many second h k = absurd h
one_given IsRead one (One x) Missing second h k = absurd h
one_given IsRead one (One x) (One y) Missing h k = absurd k
one_given IsRead one (One x) (One y) (One z) h k = ap One (one x y z h k)
one_given IsRead one (One x) (One y) Many h k = absurd k
one_given IsRead one (One x) Many second h k = absurd h
one_given IsRead one Many Missing second h k = absurd h
one_given IsRead one Many (One y) second h k = absurd h
one_given IsRead one Many Many Missing h k = absurd k
one_given IsRead one Many Many (One z) h k = absurd k
one_given IsRead one Many Many Many h k = refl

one_each : {Form : Type 0} (IsRead : ElementModel → Form → Type 0) → One_form IsRead → One_form (Each IsRead)
one_each IsRead one [] [] [] h k = refl
one_each IsRead one [] [] (z ∷ zs) h k = absurd k
one_each IsRead one [] (y ∷ ys) second h k = absurd h
one_each IsRead one (piece ∷ pieces) [] second h k = absurd h
one_each IsRead one (piece ∷ pieces) (y ∷ ys) [] h k = absurd k
one_each IsRead one (piece ∷ pieces) (y ∷ ys) (z ∷ zs) h k =
    let head = one piece y z h.0 k.0 in
    let rest = one_each IsRead one pieces ys zs h.1 k.1 in cc

same_sequence : (element other : ElementModel) (members others : Option (List ElementModel)) → element ≡ other → members ≡ others
    → ◌≡◌ {A = Sequence} (record { element = element; members = members }) (record { element = other; members = others })
same_sequence element other members others e m = cc

same_register : (first second : RegisterForm) → first.name ≡ second.name → first.kind ≡ second.kind → first.writers ≡ second.writers → first.initial ≡ second.initial
    → first.domain ≡ second.domain → first.parts ≡ second.parts → first.fixed ≡ second.fixed
    → ◌≡◌ {A = RegisterForm} (record { name = first.name; kind = first.kind; writers = first.writers; initial = first.initial; domain = first.domain; parts = first.parts; fixed = first.fixed })
    (record { name = second.name; kind = second.kind; writers = second.writers; initial = second.initial; domain = second.domain; parts = second.parts; fixed = second.fixed })
same_register first second name kind writers initial domain parts fixed = cc

same_level : (first second : LevelForm) → first.name ≡ second.name → first.registers ≡ second.registers
    → ◌≡◌ {A = LevelForm} (record { name = first.name; registers = first.registers }) (record { name = second.name; registers = second.registers })
same_level first second name registers = cc

same_file : (first second : FileForm) → first.levels ≡ second.levels → ◌≡◌ {A = FileForm} (record { levels = first.levels }) (record { levels = second.levels })
same_file first second levels = cc

module _ (one_pairs : (piece : ElementModel) (firsts seconds : List (ElementModel × ElementModel)) → HasPairs piece firsts → HasPairs piece seconds → firsts ≡ seconds)
    (one_members : (piece : ElementModel) (firsts seconds : List ElementModel) → HasMembers piece firsts → HasMembers piece seconds → firsts ≡ seconds) where
  pub one_map : {Form : Type 0} (IsRead : List (ElementModel × ElementModel) → Form → Type 0) → One_form IsRead → One_form (IsMapOf IsRead)
  one_map IsRead one piece None None h k = refl
  one_map IsRead one piece None (Some g) h k = absurd (h k.1.kind)
  one_map IsRead one piece (Some f) None h k = absurd (k h.1.kind)
  one_map IsRead one piece (Some f) (Some g) h k =
      ap Some (one k.0 f g (subst (λ (pairs : List (ElementModel × ElementModel)). IsRead pairs f) (one_pairs piece h.0 k.0 h.1 k.1) h.2) k.2)

  one_vector : {Form : Type 0} (IsRead : ElementModel → Form → Type 0) → One_form IsRead → One_form (IsVectorOf IsRead)
  one_vector IsRead one piece None None h k = refl
  one_vector IsRead one piece None (Some zs) h k = absurd (h k.1.kind)
  one_vector IsRead one piece (Some ys) None h k = absurd (k h.1.kind)
  one_vector IsRead one piece (Some ys) (Some zs) h k =
      ap Some (one_each IsRead one k.0 ys zs (subst (λ (members : List ElementModel). Each IsRead members ys) (one_members piece h.0 k.0 h.1 k.1) h.2) k.2)

  one_list : One_form AreVectorElements
  one_list piece None None h k = refl
  one_list piece None (Some zs) h k = absurd (h k.kind)
  one_list piece (Some ys) None h k = absurd (k h.kind)
  one_list piece (Some ys) (Some zs) h k = ap Some (one_members piece ys zs h k)

  one_sequence : One_form IsSequence
  one_sequence piece first second h k = same_sequence first.element second.element first.members second.members (h.0 ∙ sym k.0) (one_list piece first.members second.members h.1 k.1)

  pub one_register : One_form AreRegisterFields
  one_register pairs first second h k =
      let writers = one_given IsSequence one_sequence _ first.writers second.writers h.writers k.writers in
      let domain = one_given AreVectorElements one_list _ first.domain second.domain h.domain k.domain in
      let parts = one_given AreVectorElements one_list _ first.parts second.parts h.parts k.parts in
      same_register first second (h.name ∙ sym k.name) (h.kind ∙ sym k.kind) writers (h.initial ∙ sym k.initial) domain parts (h.fixed ∙ sym k.fixed)

  pub one_level : One_form AreLevelFields
  one_level pairs first second h k =
      let registers = one_given (IsVectorOf IsRegister) (one_vector IsRegister (one_map AreRegisterFields one_register)) _ first.registers second.registers h.registers k.registers in
      same_level first second (h.name ∙ sym k.name) registers

  one_fields : One_form AreFileFields
  one_fields pairs first second h k =
      let levels = one_given (IsVectorOf IsLevel) (one_vector IsLevel (one_map AreLevelFields one_level)) _ first.levels second.levels h.levels k.levels in
      same_file first second levels

  one_file : One_form IsFile
  one_file [] first second h k = h ∙ sym k
  one_file (piece ∷ []) first second h k = one_map AreFileFields one_fields piece first second h k
  one_file (piece ∷ other ∷ pieces) first second h k = h ∙ sym k

  -- a text is one file at most
  pub one_file_of : ((bytes : List ℕ) (firsts seconds : List ElementModel) → IsText bytes firsts → IsText bytes seconds → firsts ≡ seconds) → One_form IsFileOf
  one_file_of division bytes first second h k =
      one_file k.0 first second (subst (λ (pieces : List ElementModel). IsFile pieces first) (division bytes h.0 k.0 h.1 k.1) h.2) k.2
