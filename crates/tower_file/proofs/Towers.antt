-- What the program answers for a text is what the text says, unless memory is refused.
use Rattle.std.proofs.Common.{◌≡◌, ◌≢◌, ◌⊎◌, inl, inr, ℕ, List, [], ◌∷◌, Option, None, Result, Ok, Err, refl, sym, ap, subst, ◌∙◌}
use Rattle.std.specs.Prelude.{IfOk, IfErr}
use Rattle.edn_reader.specs.declared.fault.EdnFault.{EdnFault}
use Rattle.edn_reader.specs.declared.element.Element.{Element}
use Rattle.edn_reader.specs.declared.field.Field.{Field}
use Rattle.edn_reader.specs.declared.field.Field.TheVariants.{Absent, Once, Twice}
use Rattle.edn_reader.specs.Grammar.{ElementModel, IsElement}
use Rattle.edn_reader.specs.Lent.{piece_of}
use Rattle.edn_reader.specs.Text.{IsText}
use Rattle.edn_reader.specs.Fault.{FaultOf}
use Rattle.edn_reader.specs.Given.{Missing, One, Many, given, seen}
use Rattle.tower_file.specs.declared.fault.TowerField.TheVariants.{File}
use Rattle.tower_file.specs.declared.fault.TowerFault.{TowerFault}
use Rattle.tower_file.specs.declared.fault.TowerFault.TheVariants.{Edn, Shape, NameTaken, WriterCount, UnknownPart, EmptyDomain, InitialOutOfDomain, TooMany, Memory, UnknownInitial}
use Rattle.tower_file.specs.Form.{FileForm, IsMapOf, AreFileFields, IsFile, IsFileOf}
use Rattle.tower_file.specs.Contents.{TowerModel}
use Rattle.tower_file.specs.Reading.{contents_of}
use Rattle.tower_file.specs.Keeping.{KeepsALevel}
use Rattle.tower_file.specs.Views.{GivesOrMemory}
use Rattle.tower_file.proofs.Forms.{Some_form}
use Rattle.tower_file.specs.Tower.{IsTowerOf, HasTowerFault}
use Rattle.tower_file.specs.Stated.{IsTextFault}

memory_or : (fault : TowerFault) → (fault ≡ Memory) ⊎ (fault ≢ Memory)
memory_or (Edn e) = inr (λ h. absurd cc)
memory_or (Shape field) = inr (λ h. absurd cc)
memory_or NameTaken = inr (λ h. absurd cc)
memory_or WriterCount = inr (λ h. absurd cc)
memory_or UnknownPart = inr (λ h. absurd cc)
memory_or EmptyDomain = inr (λ h. absurd cc)
memory_or InitialOutOfDomain = inr (λ h. absurd cc)
memory_or TooMany = inr (λ h. absurd cc)
memory_or Memory = inl refl
memory_or UnknownInitial = inr (λ h. absurd cc)

-- what is a text of EDN has no fault as EDN
abbrev pub NotBoth : List ℕ → Type 0
NotBoth bytes = (pieces : List ElementModel) (fault : EdnFault) → IsText bytes pieces → FaultOf bytes fault → ⊥

abbrev pub OneFault : List ℕ → Type 0
OneFault bytes = (first second : EdnFault) → FaultOf bytes first → FaultOf bytes second → first ≡ second

abbrev pub OneDivision : List ℕ → Type 0
OneDivision bytes = (firsts seconds : List ElementModel) → IsText bytes firsts → IsText bytes seconds → firsts ≡ seconds

-- a text that has a fault as EDN

pub refused_text_reads : (bytes : List ℕ) (fault : TowerFault) → NotBoth bytes → IsTextFault bytes fault → (tower : TowerModel) → IsTowerOf bytes tower
    → ◌≡◌ {A = Result TowerModel TowerFault} (Err fault) (Ok tower) ⊎ (◌≡◌ {A = Result TowerModel TowerFault} (Err fault) (Err Memory))
refused_text_reads bytes (Edn e) both h tower t = absurd (both t.1.0 e t.1.1 h)
refused_text_reads bytes (Shape field) both h tower t = absurd h
refused_text_reads bytes NameTaken both h tower t = absurd h
refused_text_reads bytes WriterCount both h tower t = absurd h
refused_text_reads bytes UnknownPart both h tower t = absurd h
refused_text_reads bytes EmptyDomain both h tower t = absurd h
refused_text_reads bytes InitialOutOfDomain both h tower t = absurd h
refused_text_reads bytes TooMany both h tower t = absurd h
refused_text_reads bytes Memory both h tower t = inr refl
refused_text_reads bytes UnknownInitial both h tower t = absurd h

refused_by : (bytes : List ℕ) (e : EdnFault) (fault : TowerFault) → NotBoth bytes → OneFault bytes → FaultOf bytes e → HasTowerFault bytes fault
    → ◌≡◌ {A = Result TowerModel TowerFault} (Err (Edn e)) (Err fault) ⊎ (◌≡◌ {A = Result TowerModel TowerFault} (Err (Edn e)) (Err Memory))
refused_by bytes e fault both one h (inl t) = inl (ap (λ (f : EdnFault). Err (Edn f)) (one e t.0 h t.2) ∙ ap Err (sym t.1))
refused_by bytes e fault both one h (inr s) = absurd (both s.1.0 e s.1.1 h)

pub refused_text_refuses : (bytes : List ℕ) (fault : TowerFault) → NotBoth bytes → OneFault bytes → IsTextFault bytes fault → (other : TowerFault) → HasTowerFault bytes other
    → ◌≡◌ {A = Result TowerModel TowerFault} (Err fault) (Err other) ⊎ (◌≡◌ {A = Result TowerModel TowerFault} (Err fault) (Err Memory))
refused_text_refuses bytes (Edn e) both one h other t = refused_by bytes e other both one h t
refused_text_refuses bytes (Shape field) both one h other t = absurd h
refused_text_refuses bytes NameTaken both one h other t = absurd h
refused_text_refuses bytes WriterCount both one h other t = absurd h
refused_text_refuses bytes UnknownPart both one h other t = absurd h
refused_text_refuses bytes EmptyDomain both one h other t = absurd h
refused_text_refuses bytes InitialOutOfDomain both one h other t = absurd h
refused_text_refuses bytes TooMany both one h other t = absurd h
refused_text_refuses bytes Memory both one h other t = inr refl
refused_text_refuses bytes UnknownInitial both one h other t = absurd h

-- a text without a fault: a file is written there, and the answer is what each file written there says
pub record IsAnswered (bytes : List ℕ) (result : Result TowerModel TowerFault) : Type 0 where
  pub form : Option FileForm
  pub written : IsFileOf bytes form
  pub says : (other : Option FileForm) → IsFileOf bytes other → GivesOrMemory (λ (tower : TowerModel). tower) result (contents_of other)

pub answered_tower : (bytes : List ℕ) (result : Result TowerModel TowerFault) → IsAnswered bytes result → IfOk result (λ tower. IsTowerOf bytes tower)
answered_tower bytes (Ok tower) a = (a.form, a.written, a.says a.form a.written)
answered_tower bytes (Err fault) a = tt

pub answered_fault : (bytes : List ℕ) (result : Result TowerModel TowerFault) → IsAnswered bytes result → IfErr result (λ fault. fault ≢ Memory → HasTowerFault bytes fault)
answered_fault bytes (Ok tower) a = tt
answered_fault bytes (Err fault) a = λ other. inr (a.form, a.written, a.says a.form a.written other)

reads_by : (fault : TowerFault) (tower : TowerModel) (said : Result TowerModel TowerFault) → said ≡ Ok tower → (fault ≢ Memory → said ≡ Err fault) → (fault ≡ Memory) ⊎ (fault ≢ Memory)
    → ◌≡◌ {A = Result TowerModel TowerFault} (Err fault) (Ok tower) ⊎ (◌≡◌ {A = Result TowerModel TowerFault} (Err fault) (Err Memory))
reads_by fault tower said e f (inl m) = inr (ap Err m)
reads_by fault tower said e f (inr n) = absurd (let k = sym (f n) ∙ e in cc)

pub answered_reads : (bytes : List ℕ) (result : Result TowerModel TowerFault) → IsAnswered bytes result → (tower : TowerModel) → IsTowerOf bytes tower → (result ≡ Ok tower) ⊎ (result ≡ Err Memory)
answered_reads bytes (Ok found) a tower t = inl (sym (a.says t.0 t.1) ∙ t.2)
answered_reads bytes (Err fault) a tower t = reads_by fault tower (contents_of t.0) t.2 (a.says t.0 t.1) (memory_or fault)

refuses_by : (fault other : TowerFault) (said : Result TowerModel TowerFault) → said ≡ Err other → (fault ≢ Memory → said ≡ Err fault) → (fault ≡ Memory) ⊎ (fault ≢ Memory)
    → ◌≡◌ {A = Result TowerModel TowerFault} (Err fault) (Err other) ⊎ (◌≡◌ {A = Result TowerModel TowerFault} (Err fault) (Err Memory))
refuses_by fault other said e f (inl m) = inr (ap Err m)
refuses_by fault other said e f (inr n) = inl (sym (f n) ∙ e)

pub answered_refuses : (bytes : List ℕ) (result : Result TowerModel TowerFault) → NotBoth bytes → IsAnswered bytes result → (fault : TowerFault) → HasTowerFault bytes fault → (result ≡ Err fault) ⊎ (result ≡ Err Memory)
answered_refuses bytes result both a fault (inl t) = absurd (both a.written.0 t.0 a.written.1 t.2)
answered_refuses bytes (Ok found) both a fault (inr s) = absurd (let k = sym (a.says s.0 s.1) ∙ s.2 in cc)
answered_refuses bytes (Err found) both a fault (inr s) = refuses_by found fault (contents_of s.0) s.2 (a.says s.0 s.1) (memory_or found)

-- a text of one element
pub one_element : (bytes : List ℕ) (piece : ElementModel) (pieces : List ElementModel) (form : Option FileForm) (result : Result TowerModel TowerFault) → OneDivision bytes → IsText bytes pieces → pieces ≡ piece ∷ []
    → IsMapOf AreFileFields piece form → ((other : Option FileForm) → IsMapOf AreFileFields piece other → GivesOrMemory (λ (tower : TowerModel). tower) result (contents_of other)) → IsAnswered bytes result
one_element bytes piece pieces form result division text e h says = record {
  form = form;
  written = (piece ∷ [], subst (IsText bytes) e text, h);
  says = λ other written. says other (subst (λ (ps : List ElementModel). IsFile ps other) (division written.0 pieces written.1 text ∙ e) written.2);
}

-- a text of no element, or of more than one
abbrev pub IsNotOne : List ElementModel → Type 0
IsNotOne [] = Unit {0}
IsNotOne (piece ∷ []) = ⊥
IsNotOne (piece ∷ other ∷ pieces) = Unit {0}

no_file : (pieces : List ElementModel) → IsNotOne pieces → IsFile pieces None
no_file [] h = refl
no_file (piece ∷ []) h = absurd h
no_file (piece ∷ other ∷ pieces) h = refl

only_none : (pieces : List ElementModel) (form : Option FileForm) → IsNotOne pieces → IsFile pieces form → form ≡ None
only_none [] form h f = f
only_none (piece ∷ []) form h f = absurd h
only_none (piece ∷ other ∷ pieces) form h f = f

pub other_text : (bytes : List ℕ) (pieces : List ElementModel) → OneDivision bytes → IsText bytes pieces → IsNotOne pieces → IsAnswered bytes (Err (Shape File))
other_text bytes pieces division text h = record {
  form = None;
  written = (pieces, text, no_file pieces h);
  says = λ other written no.
      ap contents_of (only_none pieces other h (subst (λ (ps : List ElementModel). IsFile ps other) (division written.0 pieces written.1 text) written.2));
}

pub only_one : (pieces : List ElementModel) (piece : ElementModel) → One piece ≡ given pieces → pieces ≡ piece ∷ []
only_one [] piece e = absurd cc
only_one (first ∷ []) piece e = let same : piece ≡ first = cc in cc
only_one (first ∷ second ∷ pieces) piece e = absurd cc

none_of_nothing : (pieces : List ElementModel) → Missing ≡ given pieces → IsNotOne pieces
none_of_nothing [] e = tt
none_of_nothing (piece ∷ []) e = absurd cc
none_of_nothing (piece ∷ other ∷ pieces) e = tt

none_of_more : (pieces : List ElementModel) → Many ≡ given pieces → IsNotOne pieces
none_of_more [] e = tt
none_of_more (piece ∷ []) e = absurd cc
none_of_more (piece ∷ other ∷ pieces) e = tt

pub one_found : (bytes : List ℕ) (element : Element) (found : Field) (result : Result TowerModel TowerFault) → OneDivision bytes → found ≡ Once element
    → (pieces : List ElementModel) × IsText bytes pieces × (seen found ≡ given pieces) → IsElement (piece_of element) → Some_form (IsMapOf AreFileFields)
    → ((other : Option FileForm) → IsMapOf AreFileFields (piece_of element) other → GivesOrMemory (λ (tower : TowerModel). tower) result (contents_of other)) → IsAnswered bytes result
one_found bytes element found result division e text whole some says =
    let is = only_one text.0 (piece_of element) (sym (ap seen e) ∙ text.2) in
    let form = some (piece_of element) whole in
    one_element bytes (piece_of element) text.0 form.0 result division text.1 is form.1 says

pub other_by : (bytes : List ℕ) (pieces : List ElementModel) (found : Field) → OneDivision bytes → IsText bytes pieces → seen found ≡ given pieces → (found ≡ Absent) ⊎ (found ≡ Twice) → IsNotOne pieces
other_by bytes pieces found division text f (inl e) = none_of_nothing pieces (sym (ap seen e) ∙ f)
other_by bytes pieces found division text f (inr e) = none_of_more pieces (sym (ap seen e) ∙ f)

pub other_found : (bytes : List ℕ) (found : Field) → OneDivision bytes → (pieces : List ElementModel) × IsText bytes pieces × (seen found ≡ given pieces) → (found ≡ Absent) ⊎ (found ≡ Twice)
    → IsAnswered bytes (Err (Shape File))
other_found bytes found division text e = other_text bytes text.0 division text.1 (other_by bytes text.0 found division text.1 text.2 e)

-- a file of which a level is kept
pub kept_file : (bytes : List ℕ) (element : Element) (found : Field) → found ≡ Once element → (pieces : List ElementModel) × IsText bytes pieces × (seen found ≡ given pieces) → IsElement (piece_of element)
    → Some_form (IsMapOf AreFileFields) → ((form : Option FileForm) → IsMapOf AreFileFields (piece_of element) form → KeepsALevel form)
    → (form : Option FileForm) × IsFileOf bytes form × KeepsALevel form
kept_file bytes element found e text whole some keeps =
    let is = only_one text.0 (piece_of element) (sym (ap seen e) ∙ text.2) in
    let form = some (piece_of element) whole in
    (form.0, (piece_of element ∷ [], subst (IsText bytes) is text.1, form.1), keeps form.0 form.1)
