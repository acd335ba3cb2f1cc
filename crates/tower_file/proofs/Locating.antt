-- The span that the program finds is where the fault is.
use Rattle.std.proofs.Common.{◌≡◌, ◌≢◌, ◌⊎◌, inl, inr, ℕ, Bool, true, false, List, [], ◌∷◌, length, map, Option, Some, None, Ok, Err, refl, sym, ap, subst, ◌∙◌}
use Rattle.std.specs.Prelude.{codes}
use Rattle.edn_reader.specs.declared.element.Element.{Element}
use Rattle.edn_reader.specs.declared.field.Field.{Field}
use Rattle.edn_reader.specs.declared.field.Field.TheVariants.{Absent, Once, Twice}
use Rattle.edn_reader.specs.declared.view.MapView.{MapView}
use Rattle.edn_reader.specs.declared.view.VectorView.{VectorView}
use Rattle.edn_reader.specs.Grammar.{ElementModel}
use Rattle.edn_reader.specs.Text.{IsText}
use Rattle.edn_reader.specs.Pairs.{is_word, HasPairs, HasMembers}
use Rattle.edn_reader.specs.Lent.{piece_of, PairsLeft, NextPair, MembersLeft, NextMember}
use Rattle.edn_reader.specs.Given.{Given, Missing, One, Many, given, seen}
use Rattle.tower_file.specs.declared.fault.TowerField.{TowerField}
use Rattle.tower_file.specs.declared.fault.TowerField.TheVariants.{Name, Registers, File, Levels}
use Rattle.tower_file.specs.declared.fault.TowerFault.{TowerFault}
use Rattle.tower_file.specs.declared.fault.TowerFault.TheVariants.{Edn, Shape, NameTaken, WriterCount, UnknownPart, EmptyDomain, InitialOutOfDomain, TooMany, Memory, UnknownInitial}
use Rattle.tower_file.specs.Form.{under, IsGiven, IsVectorOf, RegisterForm, IsRegister, LevelForm, IsLevel}
use Rattle.tower_file.specs.Contents.{TowerModel, empty}
use Rattle.tower_file.specs.Reading.{name_in, vector_in}
use Rattle.tower_file.specs.Located.{ByteSpan, byte_span_of, pairs_under, at_key, IsAtKey, IsInVector, first_wrong_element, IsAmongRegisters, level_key_by, IsInLevel, IsAmongLevels, IsInFile, IsSpanIn, fault_place, text_span, HasFaultAt}
use Rattle.tower_file.specs.Stated.{IsSpanned, NextUnder, IsVectorAt, IsTextFault}
use Rattle.tower_file.proofs.Loops.{Gives_next}
use Rattle.tower_file.proofs.Towers.{IsNotOne, only_one, other_by, OneDivision}

-- the pairs under a key

other_pair : (key : List ℕ) (pair : ElementModel × ElementModel) (pairs : List (ElementModel × ElementModel)) → is_word key pair.0 ≡ false → pairs_under key (pair ∷ pairs) ≡ pairs_under key pairs
other_pair key pair pairs e = rw e refl

this_pair : (key : List ℕ) (pair : ElementModel × ElementModel) (pairs : List (ElementModel × ElementModel)) → is_word key pair.0 ≡ true → pairs_under key (pair ∷ pairs) ≡ pair ∷ pairs_under key pairs
this_pair key pair pairs e = rw e refl

same_pair : (key value : ElementModel) (pair : ElementModel × ElementModel) → key ≡ pair.0 → value ≡ pair.1 → pair ≡ (key, value)
same_pair key value pair k v = sym (ap (λ (p : ElementModel). (p, value)) k ∙ ap (λ (p : ElementModel). (pair.0, p)) v)

-- what a view gives next
abbrev pub Gives_pair : MapView → Option (Element × Element) → MapView → Type 0
Gives_pair view pair after = (pairs : List (ElementModel × ElementModel)) → PairsLeft view pairs → NextPair pair after pairs

-- none of the pairs that were gone over is under the key
abbrev pub Passed : List ℕ → MapView → MapView → Type 0
Passed key first view = (pairs : List (ElementModel × ElementModel)) → PairsLeft first pairs
    → (left : List (ElementModel × ElementModel)) × PairsLeft view left × (pairs_under key pairs ≡ pairs_under key left)

on_by : (key : List ℕ) (after : MapView) (name value : Element) (pairs left : List (ElementModel × ElementModel)) → pairs_under key pairs ≡ pairs_under key left → NextPair (Some (name, value)) after left
    → is_word key (piece_of name) ≡ false → (l : List (ElementModel × ElementModel)) × PairsLeft after l × (pairs_under key pairs ≡ pairs_under key l)
on_by key after name value pairs [] e n w = absurd n
on_by key after name value pairs (pair ∷ left) e n w = (left, n.2, e ∙ other_pair key pair left (subst (λ (p : ElementModel). is_word key p ≡ false) n.0 w))

pub passed_on : (key : List ℕ) (first view after : MapView) (name value : Element) → Passed key first view → Gives_pair view (Some (name, value)) after → is_word key (piece_of name) ≡ false
    → Passed key first after
passed_on key first view after name value s n w pairs h =
    let k = s pairs h in on_by key after name value pairs k.0 k.2 (n k.0 k.1) w

found_by : (key : List ℕ) (after : MapView) (name value : Element) (pairs left : List (ElementModel × ElementModel)) → pairs_under key pairs ≡ pairs_under key left → NextPair (Some (name, value)) after left
    → is_word key (piece_of name) ≡ true → NextUnder key (Some (name, value)) after pairs
found_by key after name value pairs [] e n w = absurd n
found_by key after name value pairs (pair ∷ left) e n w = (
  left,
  n.2,
  e ∙ this_pair key pair left (subst (λ (p : ElementModel). is_word key p ≡ true) n.0 w)
      ∙ ap (λ (p : ElementModel × ElementModel). p ∷ pairs_under key left) (same_pair (piece_of name) (piece_of value) pair n.0 n.1),
)

pub passed_found : (key : List ℕ) (first view after : MapView) (name value : Element) → Passed key first view → Gives_pair view (Some (name, value)) after → is_word key (piece_of name) ≡ true
    → (pairs : List (ElementModel × ElementModel)) → PairsLeft first pairs → NextUnder key (Some (name, value)) after pairs
passed_found key first view after name value s n w pairs h =
    let k = s pairs h in found_by key after name value pairs k.0 k.2 (n k.0 k.1) w

-- what is at a key

-- the values of pairs
abbrev values : List (ElementModel × ElementModel) → List ElementModel
values pairs = map (λ pair. pair.1) pairs

module _ (IsIn : ElementModel → ElementModel → Type 0) (whole : ElementModel) where
  once_by : (pairs : List (ElementModel × ElementModel)) (value wrong : ElementModel) → One value ≡ given (values pairs) → IsIn value wrong → IsAtKey IsIn whole pairs wrong
  once_by [] value wrong e h = absurd cc
  once_by (pair ∷ []) value wrong e h = let same : value ≡ pair.1 = cc in subst (λ (p : ElementModel). IsIn p wrong) same h
  once_by (first ∷ second ∷ pairs) value wrong e h = absurd cc

  pub at_once : (pairs : List (ElementModel × ElementModel)) (field : Field) (value : Element) (wrong : ElementModel) → field ≡ Once value → seen field ≡ given (values pairs) → IsIn (piece_of value) wrong
      → IsAtKey IsIn whole pairs wrong
  at_once pairs field value wrong e f h = once_by pairs (piece_of value) wrong (sym (ap seen e) ∙ f) h

  missing_by : (pairs : List (ElementModel × ElementModel)) → Missing ≡ given (values pairs) → IsAtKey IsIn whole pairs (at_key whole pairs)
  missing_by [] e = refl
  missing_by (pair ∷ []) e = absurd cc
  missing_by (first ∷ second ∷ pairs) e = refl

  many_by : (pairs : List (ElementModel × ElementModel)) → Many ≡ given (values pairs) → IsAtKey IsIn whole pairs (at_key whole pairs)
  many_by [] e = refl
  many_by (pair ∷ []) e = absurd cc
  many_by (first ∷ second ∷ pairs) e = refl

  pub at_other : (pairs : List (ElementModel × ElementModel)) (field : Field) → (field ≡ Absent) ⊎ (field ≡ Twice) → seen field ≡ given (values pairs) → IsAtKey IsIn whole pairs (at_key whole pairs)
  at_other pairs field (inl e) f = missing_by pairs (sym (ap seen e) ∙ f)
  at_other pairs field (inr e) f = many_by pairs (sym (ap seen e) ∙ f)

  -- a name that is not there once
  no_name_at : (pairs : List (ElementModel × ElementModel)) (fault : TowerFault) → name_in Name (given (values pairs)) ≡ Err fault
      → (level_key_by (given (values pairs)) ≡ codes ":name") × IsAtKey IsIn whole pairs (at_key whole pairs)
  no_name_at [] fault e = (refl, refl)
  no_name_at (pair ∷ []) fault e = absurd cc
  no_name_at (first ∷ second ∷ pairs) fault e = (refl, refl)

named_key : (name : Given ElementModel) (bytes : List ℕ) → name_in Name name ≡ Ok bytes → level_key_by name ≡ codes ":registers"
named_key Missing bytes e = absurd cc
named_key (One piece) bytes e = refl
named_key Many bytes e = absurd cc

module _ {Form : Type 0} (IsRead : ElementModel → Form → Type 0) (IsAmong : List ElementModel → ElementModel → Type 0) (whole : ElementModel) where
  -- no vector is there once under the key
  pub no_vector_at : (field : TowerField) (fault : TowerFault) (pairs : List (ElementModel × ElementModel)) (read : Given (Option (List Form))) → IsGiven (IsVectorOf IsRead) (given (values pairs)) read
      → vector_in field read ≡ Err fault → IsAtKey (IsInVector IsAmong) whole pairs (at_key whole pairs)
  no_vector_at field fault [] read h e = refl
  no_vector_at field fault (pair ∷ []) Missing h e = absurd h
  no_vector_at field fault (pair ∷ []) (One None) h e = inl (h, refl)
  no_vector_at field fault (pair ∷ []) (One (Some forms)) h e = absurd cc
  no_vector_at field fault (pair ∷ []) Many h e = absurd h
  no_vector_at field fault (first ∷ second ∷ pairs) read h e = refl

-- a vector is there under the key
pub in_vector_at : (IsAmong : List ElementModel → ElementModel → Type 0) (whole : ElementModel) (pairs : List (ElementModel × ElementModel)) (view : VectorView) (members : List ElementModel) (wrong : ElementModel) → IsVectorAt pairs view
    → MembersLeft view members → IsAmong members wrong → IsAtKey (IsInVector IsAmong) whole pairs wrong
in_vector_at IsAmong whole pairs view members wrong v m h =
    subst (λ (ps : List (ElementModel × ElementModel)). IsAtKey (IsInVector IsAmong) whole ps wrong) (sym v.1) (inr (members, v.2 members m, h))

pub vector_at : (view : VectorView) (value : ElementModel) (pairs : List (ElementModel × ElementModel)) → One value ≡ given (values pairs) → ((members : List ElementModel) → MembersLeft view members → HasMembers value members)
    → IsVectorAt pairs view
vector_at view value [] e h = absurd cc
vector_at view value (pair ∷ []) e h =
    let same : value ≡ pair.1 = cc in (pair, refl, λ members m. subst (λ (p : ElementModel). HasMembers p members) same (h members m))
vector_at view value (first ∷ second ∷ pairs) e h = absurd cc

-- elements of a vector that are wrong

module _ (test : ElementModel → Bool) (whole : ElementModel) where
  abbrev pub NoneWrong : VectorView → VectorView → Type 0
  NoneWrong first view = (members : List ElementModel) → MembersLeft first members
      → (left : List ElementModel) × MembersLeft view left × (first_wrong_element test whole members ≡ first_wrong_element test whole left)

  pub none_wrong : (view : VectorView) → NoneWrong view view
  none_wrong view members h = (members, h, refl)

  not_this : (piece : ElementModel) (pieces : List ElementModel) → test piece ≡ false → first_wrong_element test whole (piece ∷ pieces) ≡ first_wrong_element test whole pieces
  not_this piece pieces e = rw e refl

  it_is_this : (piece : ElementModel) (pieces : List ElementModel) → test piece ≡ true → first_wrong_element test whole (piece ∷ pieces) ≡ piece
  it_is_this piece pieces e = rw e refl

  right_by : (after : VectorView) (element : Element) (members left : List ElementModel) → first_wrong_element test whole members ≡ first_wrong_element test whole left → NextMember (Some element) after left
      → test (piece_of element) ≡ false → (l : List ElementModel) × MembersLeft after l × (first_wrong_element test whole members ≡ first_wrong_element test whole l)
  right_by after element members [] e n t = absurd n
  right_by after element members (piece ∷ left) e n t = (left, n.1, e ∙ not_this piece left (subst (λ (p : ElementModel). test p ≡ false) n.0 t))

  pub wrong_on : (first view after : VectorView) (element : Element) → NoneWrong first view → Gives_next view (Some element) after → test (piece_of element) ≡ false → NoneWrong first after
  wrong_on first view after element s n t members h =
      let k = s members h in right_by after element members k.0 k.2 (n k.0 k.1) t

  wrong_by : (after : VectorView) (element : Element) (members left : List ElementModel) → first_wrong_element test whole members ≡ first_wrong_element test whole left → NextMember (Some element) after left
      → test (piece_of element) ≡ true → piece_of element ≡ first_wrong_element test whole members
  wrong_by after element members [] e n t = absurd n
  wrong_by after element members (piece ∷ left) e n t = n.0 ∙ sym (e ∙ it_is_this piece left (subst (λ (p : ElementModel). test p ≡ true) n.0 t))

  pub wrong_found : (first view after : VectorView) (element : Element) → NoneWrong first view → Gives_next view (Some element) after → test (piece_of element) ≡ true
      → (members : List ElementModel) → MembersLeft first members → piece_of element ≡ first_wrong_element test whole members
  wrong_found first view after element s n t members h =
      let k = s members h in wrong_by after element members k.0 k.2 (n k.0 k.1) t

  pub wrong_ends : (first view after : VectorView) → NoneWrong first view → Gives_next view None after
      → (members : List ElementModel) → MembersLeft first members → whole ≡ first_wrong_element test whole members
  wrong_ends first view after s n members h =
      let k = s members h in sym (k.2 ∙ ap (first_wrong_element test whole) (n k.0 k.1))

-- a fault in a level

module _ (tower : TowerModel) (fault : TowerFault) (piece : ElementModel) (pairs : List (ElementModel × ElementModel)) (has : HasPairs piece pairs) where
  abbrev Among : List ElementModel → ElementModel → Type 0
  Among = IsAmongRegisters (length tower.levels) (length tower.registers) tower.registers fault

  by_key : (key : List ℕ) (wrong : ElementModel) → level_key_by (under (codes ":name") pairs) ≡ key → IsAtKey (IsInVector Among) piece (pairs_under key pairs) wrong → IsInLevel tower fault piece wrong
  by_key key wrong e h = inr (pairs, has, subst (λ (k : List ℕ). IsAtKey (IsInVector Among) piece (pairs_under k pairs) wrong) (sym e) h)

  pub at_name : name_in Name (under (codes ":name") pairs) ≡ Err fault → IsInLevel tower fault piece (at_key piece (pairs_under (codes ":name") pairs))
  at_name e =
      let k = no_name_at (IsInVector Among) piece (pairs_under (codes ":name") pairs) fault e in by_key (codes ":name") _ k.0 k.1

  pub at_registers : (name : List ℕ) (registers : Given (Option (List (Option RegisterForm)))) → name_in Name (under (codes ":name") pairs) ≡ Ok name
      → IsGiven (IsVectorOf IsRegister) (under (codes ":registers") pairs) registers → vector_in Registers registers ≡ Err fault
      → IsInLevel tower fault piece (at_key piece (pairs_under (codes ":registers") pairs))
  at_registers name registers n h e =
      by_key (codes ":registers") _ (named_key (under (codes ":name") pairs) name n) (no_vector_at IsRegister Among piece Registers fault (pairs_under (codes ":registers") pairs) registers h e)

  pub in_registers : (name : List ℕ) (view : VectorView) (members : List ElementModel) (wrong : ElementModel) → name_in Name (under (codes ":name") pairs) ≡ Ok name
      → IsVectorAt (pairs_under (codes ":registers") pairs) view → MembersLeft view members → Among members wrong → IsInLevel tower fault piece wrong
  in_registers name view members wrong n v m h =
      by_key (codes ":registers") wrong (named_key (under (codes ":name") pairs) name n) (in_vector_at Among piece (pairs_under (codes ":registers") pairs) view members wrong v m h)

-- a fault in a file

module _ (fault : TowerFault) (piece : ElementModel) (pairs : List (ElementModel × ElementModel)) (has : HasPairs piece pairs) where
  pub at_levels : (levels : Given (Option (List (Option LevelForm)))) → IsGiven (IsVectorOf IsLevel) (under (codes ":levels") pairs) levels → vector_in Levels levels ≡ Err fault
      → IsInFile fault piece (at_key piece (pairs_under (codes ":levels") pairs))
  at_levels levels h e = inr (pairs, has, no_vector_at IsLevel (IsAmongLevels empty fault) piece Levels fault (pairs_under (codes ":levels") pairs) levels h e)

  pub in_levels : (view : VectorView) (members : List ElementModel) (wrong : ElementModel) → IsVectorAt (pairs_under (codes ":levels") pairs) view → MembersLeft view members
      → IsAmongLevels empty fault members wrong → IsInFile fault piece wrong
  in_levels view members wrong v m h = inr (pairs, has, in_vector_at (IsAmongLevels empty fault) piece (pairs_under (codes ":levels") pairs) view members wrong v m h)

-- a fault in a text

-- the span is where the fault is
abbrev pub IsAt : List ℕ → TowerFault → Option ByteSpan → Type 0
IsAt bytes fault given_span = (span : ByteSpan) × (given_span ≡ Some span) × HasFaultAt bytes fault span

pub at_text : (bytes : List ℕ) (fault : TowerFault) (span : Option ByteSpan) → IsTextFault bytes fault → span ≡ text_span fault → fault ≢ Memory → IsAt bytes fault span
at_text bytes (Edn e) span h s n = ((fault_place e, fault_place e), s, inl (e, refl, h, refl))
at_text bytes (Shape field) span h s n = absurd h
at_text bytes NameTaken span h s n = absurd h
at_text bytes WriterCount span h s n = absurd h
at_text bytes UnknownPart span h s n = absurd h
at_text bytes EmptyDomain span h s n = absurd h
at_text bytes InitialOutOfDomain span h s n = absurd h
at_text bytes TooMany span h s n = absurd h
at_text bytes Memory span h s n = absurd (n refl)
at_text bytes UnknownInitial span h s n = absurd h

pub at_file : (bytes : List ℕ) (element : Element) (found : Field) (fault : TowerFault) (span : Option ByteSpan) → found ≡ Once element
    → (pieces : List ElementModel) × IsText bytes pieces × (seen found ≡ given pieces) → IsSpanned (IsInFile fault (piece_of element)) span → IsAt bytes fault span
at_file bytes element found fault span e text k =
    let is = only_one text.0 (piece_of element) (sym (ap seen e) ∙ text.2) in
    (byte_span_of k.0, k.2, inr (text.0, text.1, subst (λ (ps : List ElementModel). IsSpanIn bytes ps fault (byte_span_of k.0)) (sym is) (k.0, k.1, refl)))

whole_span : (bytes : List ℕ) (fault : TowerFault) (pieces : List ElementModel) → IsNotOne pieces → IsSpanIn bytes pieces fault (0, length bytes)
whole_span bytes fault [] h = refl
whole_span bytes fault (piece ∷ []) h = absurd h
whole_span bytes fault (piece ∷ other ∷ pieces) h = refl

pub at_whole : (bytes : List ℕ) (found : Field) → OneDivision bytes → (pieces : List ElementModel) × IsText bytes pieces × (seen found ≡ given pieces) → (found ≡ Absent) ⊎ (found ≡ Twice)
    → IsAt bytes (Shape File) (Some (0, length bytes))
at_whole bytes found division text e =
    ((0, length bytes), refl, inr (text.0, text.1, whole_span bytes (Shape File) text.0 (other_by bytes text.0 found division text.1 text.2 e)))
