-- What is under a key of a register, as the program sees it and as it is read further.
use Rattle.std.proofs.Common.{◌≡◌, ◌↔◌, ℕ, ℤ, Bool, false, List, Option, Some, None, Ok, Err, refl, ap, subst, ◌∙◌}
use Rattle.std.specs.Prelude.{codes}
use Rattle.intervals.specs.declared.claim.Kind.{Kind}
use Rattle.intervals.specs.declared.claim.Initial.{Initial}
use Rattle.intervals.specs.declared.operation.Value.{Value}
use Rattle.edn_reader.specs.declared.element.ElementKind.TheVariants.{Vector}
use Rattle.edn_reader.specs.declared.view.VectorView.{VectorView}
use Rattle.edn_reader.specs.Grammar.{ElementModel}
use Rattle.edn_reader.specs.Pairs.{is_word, HasMembers}
use Rattle.edn_reader.specs.Lent.{MembersLeft}
use Rattle.edn_reader.specs.Given.{Given, Missing, One, Many}
use Rattle.tower_file.specs.declared.fault.TowerField.{TowerField}
use Rattle.tower_file.specs.declared.fault.TowerField.TheVariants.{Name, Writers}
use Rattle.tower_file.specs.declared.fault.TowerFault.{TowerFault}
use Rattle.tower_file.specs.declared.fault.TowerFault.TheVariants.{Shape}
use Rattle.tower_file.specs.Form.{IsGiven, AreVectorElements, IsVectorOf, Sequence, IsSequence, RegisterForm}
use Rattle.tower_file.specs.Reading.{needed, each, process_of, writers_listed, name_in, kind_in, writers_in, initial_in, domain_in, parts_in, said_by, vector_in, fixed_in}
use Rattle.tower_file.specs.Stated.{FormsLeft}

-- what is needed, and was not refused, is there once
pub needed_once : {X : Type 0} (field : TowerField) (given : Given X) (x : X) → needed field given ≡ Ok x → given ≡ One x
needed_once field Missing x e = absurd cc
needed_once field (One y) x e = cc
needed_once field Many x e = absurd cc

pub vector_shows : {Form : Type 0} (IsRead : ElementModel → Form → Type 0) (field : TowerField) (piece : ElementModel) (view : VectorView) (given : Given ElementModel) (read : Given (Option (List Form)))
    → needed field given ≡ Ok piece → piece.core.kind ≡ Vector → ((members : List ElementModel) → HasMembers piece members ↔ MembersLeft view members)
    → IsGiven (IsVectorOf IsRead) given read → (forms : List Form) × (vector_in field read ≡ Ok forms) × FormsLeft IsRead view forms
vector_shows IsRead field piece view Missing read e k m h = absurd cc
vector_shows IsRead field piece view (One first) Missing e k m h = absurd h
vector_shows IsRead field piece view (One first) (One None) e k m h = let same : first ≡ piece = cc in absurd (h (ap (λ (p : ElementModel). p.core.kind) same ∙ k))
vector_shows IsRead field piece view (One first) (One (Some forms)) e k m h =
    let same : first ≡ piece = cc in
    (forms, refl, (h.0, (m h.0).0 (subst (λ (p : ElementModel). HasMembers p h.0) same h.1), h.2))
vector_shows IsRead field piece view (One first) Many e k m h = absurd h
vector_shows IsRead field piece view Many read e k m h = absurd cc

pub no_vector : {Form : Type 0} (IsRead : ElementModel → Form → Type 0) (field : TowerField) (piece : ElementModel) (given : Given ElementModel) (read : Given (Option (List Form)))
    → needed field given ≡ Ok piece → ((members : List ElementModel) → HasMembers piece members → ⊥)
    → IsGiven (IsVectorOf IsRead) given read → vector_in field read ≡ Err (Shape field)
no_vector IsRead field piece Missing read e m h = absurd cc
no_vector IsRead field piece (One first) Missing e m h = absurd h
no_vector IsRead field piece (One first) (One None) e m h = refl
no_vector IsRead field piece (One first) (One (Some forms)) e m h =
    let same : first ≡ piece = cc in
    absurd (m h.0 (subst (λ (p : ElementModel). HasMembers p h.0) same h.1))
no_vector IsRead field piece (One first) Many e m h = absurd h
no_vector IsRead field piece Many read e m h = absurd cc

writers_by : (sequence : Sequence) (piece : ElementModel) (view : VectorView) (fault : TowerFault) (members : Option (List ElementModel)) → sequence.members ≡ members → sequence.element ≡ piece
    → is_word (codes ":any") piece ≡ false → piece.core.kind ≡ Vector → ((pieces : List ElementModel) → HasMembers piece pieces ↔ MembersLeft view pieces)
    → ((pieces : List ElementModel) → MembersLeft view pieces → each process_of pieces ≡ Err fault) → AreVectorElements piece members → writers_listed sequence ≡ Err fault
writers_by sequence piece view fault None e same w k m f h = absurd (h k)
writers_by sequence piece view fault (Some members) e same w k m f h = rw (same, w, e, f members ((m members).0 h)) refl

-- a vector of which an element is no process
pub no_writers : (piece : ElementModel) (view : VectorView) (fault : TowerFault) (given : Given ElementModel) (read : Given Sequence) → needed Writers given ≡ Ok piece
    → is_word (codes ":any") piece ≡ false → piece.core.kind ≡ Vector → ((pieces : List ElementModel) → HasMembers piece pieces ↔ MembersLeft view pieces)
    → ((pieces : List ElementModel) → MembersLeft view pieces → each process_of pieces ≡ Err fault) → IsGiven IsSequence given read → writers_in read ≡ Err fault
no_writers piece view fault Missing read e w k m f h = absurd cc
no_writers piece view fault (One first) Missing e w k m f h = absurd h
no_writers piece view fault (One first) (One sequence) e w k m f h =
    let same : first ≡ piece = cc in
    writers_by sequence piece view fault sequence.members refl (h.0 ∙ same) w k m f (subst (λ (p : ElementModel). AreVectorElements p sequence.members) same h.1)
no_writers piece view fault (One first) Many e w k m f h = absurd h
no_writers piece view fault Many read e w k m f h = absurd cc

-- what a register says, by what each of its keys says
pub all_said : (form : RegisterForm) (name : List ℕ) (kind : Kind) (writers : Option (List ℤ)) (initial : Option Initial) (domain : Option (List Value)) (parts : List ElementModel) (fixed : Bool)
    → name_in Name form.name ≡ Ok name → kind_in form.kind ≡ Ok kind → writers_in form.writers ≡ Ok writers → initial_in form.initial ≡ Ok initial → domain_in form.domain ≡ Ok domain
    → parts_in form.parts ≡ Ok parts → fixed_in form.fixed ≡ Ok fixed → said_by form ≡ Ok (record { name = name; kind = kind; writers = writers; initial = initial; domain = domain; parts = parts; fixed = fixed })
all_said form name kind writers initial domain parts fixed a b c d e f g = rw (a, b, c, d, e, f, g) refl
