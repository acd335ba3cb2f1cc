-- A text says a tower or has a fault: one of the two, only one of it, and not both.
use Rattle.std.proofs.Common.{◌≡◌, ◌⊎◌, inl, inr, ℕ, List, [], ◌∷◌, Option, None, Result, Ok, Err, refl, sym, ap, subst, ◌∙◌}
use Rattle.std.specs.List.{AllByRecursion}
use Rattle.edn_reader.specs.declared.fault.EdnFault.{EdnFault}
use Rattle.edn_reader.specs.Grammar.{ElementModel, IsElement}
use Rattle.edn_reader.specs.Text.{IsText}
use Rattle.edn_reader.specs.Fault.{FaultOf}
use Rattle.tower_file.specs.declared.fault.TowerFault.{TowerFault}
use Rattle.tower_file.specs.declared.fault.TowerFault.TheVariants.{Edn, Memory}
use Rattle.tower_file.specs.Form.{FileForm, IsMapOf, AreFileFields, IsFile, IsFileOf}
use Rattle.tower_file.specs.Contents.{TowerModel}
use Rattle.tower_file.specs.Reading.{contents_of}
use Rattle.tower_file.specs.Tower.{Says, IsTowerOf, HasTowerFault}
use Rattle.tower_file.proofs.Forms.{Some_form}
use Rattle.tower_file.proofs.Towers.{NotBoth, OneFault}
use Rattle.tower_file.proofs.Unique.{One_form}
use Rattle.tower_file.proofs.Wanting.{IsOther, Wants_none, of_contents}

pub one_answer : One_form IsFileOf → (bytes : List ℕ) (first second : Result TowerModel TowerFault) → Says bytes first → Says bytes second → first ≡ second
one_answer one bytes first second h k = sym h.2 ∙ ap contents_of (one bytes h.0 k.0 h.1 k.1) ∙ k.2

same_tower : (first second : TowerModel) → ◌≡◌ {A = Result TowerModel TowerFault} (Ok first) (Ok second) → first ≡ second
same_tower first second e = cc

same_fault : (first second : TowerFault) → ◌≡◌ {A = Result TowerModel TowerFault} (Err first) (Err second) → first ≡ second
same_fault first second e = cc

no_fault_too : (tower : TowerModel) (fault : TowerFault) → ◌≡◌ {A = Result TowerModel TowerFault} (Ok tower) (Err fault) → ⊥
no_fault_too tower fault e = absurd cc

pub one_tower : One_form IsFileOf → (bytes : List ℕ) (first second : TowerModel) → IsTowerOf bytes first → IsTowerOf bytes second → first ≡ second
one_tower one bytes first second h k = same_tower first second (one_answer one bytes (Ok first) (Ok second) h k)

pub one_tower_fault : One_form IsFileOf → (bytes : List ℕ) → NotBoth bytes → OneFault bytes → (first second : TowerFault) → HasTowerFault bytes first → HasTowerFault bytes second → first ≡ second
one_tower_fault one bytes both fault first second (inl t) (inl u) = t.1 ∙ ap Edn (fault t.0 u.0 t.2 u.2) ∙ sym u.1
one_tower_fault one bytes both fault first second (inl t) (inr s) = absurd (both s.1.0 t.0 s.1.1 t.2)
one_tower_fault one bytes both fault first second (inr s) (inl t) = absurd (both s.1.0 t.0 s.1.1 t.2)
one_tower_fault one bytes both fault first second (inr s) (inr r) = same_fault first second (one_answer one bytes (Err first) (Err second) s r)

pub not_both : One_form IsFileOf → (bytes : List ℕ) → NotBoth bytes → (tower : TowerModel) (fault : TowerFault) → IsTowerOf bytes tower → HasTowerFault bytes fault → ⊥
not_both one bytes both tower fault h (inl t) = both h.1.0 t.0 h.1.1 t.2
not_both one bytes both tower fault h (inr s) = no_fault_too tower fault (one_answer one bytes (Ok tower) (Err fault) h s)

-- a tower that the text says, or a fault that it has
abbrev pub TowerOrFault : List ℕ → Type 0
TowerOrFault bytes = ((tower : TowerModel) × IsTowerOf bytes tower) ⊎ ((fault : TowerFault) × HasTowerFault bytes fault)

file_form : Some_form (IsMapOf AreFileFields) → (pieces : List ElementModel) → AllByRecursion IsElement pieces → (form : Option FileForm) × IsFile pieces form
file_form some [] h = (None, refl)
file_form some (piece ∷ []) h = some piece h.0
file_form some (piece ∷ other ∷ pieces) h = (None, refl)

said_by : (bytes : List ℕ) (form : Option FileForm) (answer : Result TowerModel TowerFault) → IsFileOf bytes form → contents_of form ≡ answer → TowerOrFault bytes
said_by bytes form (Ok tower) h e = inl (tower, (form, h, e))
said_by bytes form (Err fault) h e = inr (fault, inr (form, h, e))

pub tower_or_fault : (bytes : List ℕ) → Some_form (IsMapOf AreFileFields) → ((pieces : List ElementModel) → IsText bytes pieces → AllByRecursion IsElement pieces)
    → ((pieces : List ElementModel) × IsText bytes pieces) ⊎ ((fault : EdnFault) × FaultOf bytes fault) → TowerOrFault bytes
tower_or_fault bytes some whole (inl t) =
    let f = file_form some t.0 (whole t.0 t.1) in said_by bytes f.0 (contents_of f.0) (t.0, t.1, f.1) refl
tower_or_fault bytes some whole (inr t) = inr (Edn t.0, inl (t.0, refl, t.1))

-- no text has the fault that memory was refused

other_than : (fault : TowerFault) (answer : Result TowerModel TowerFault) → Wants_none answer → answer ≡ Err fault → IsOther fault
other_than fault answer h e = subst Wants_none e h

pub no_text_wants_memory : (bytes : List ℕ) → HasTowerFault bytes Memory → ⊥
no_text_wants_memory bytes (inl t) = absurd (let e = t.1 in cc)
no_text_wants_memory bytes (inr s) = other_than Memory (contents_of s.0) (of_contents s.0) s.2
