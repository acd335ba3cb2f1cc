-- A fault has one place in a text at most.
use Rattle.std.proofs.Common.{◌≡◌, inl, inr, ℕ, List, [], ◌∷◌, ◌++◌, length, Some, Result, Ok, Err, refl, sym, ap, subst, ◌∙◌}
use Rattle.std.specs.Prelude.{codes}
use Rattle.edn_reader.specs.Grammar.{ElementModel}
use Rattle.edn_reader.specs.Pairs.{HasPairs, HasMembers}
use Rattle.tower_file.specs.declared.fault.TowerFault.{TowerFault}
use Rattle.tower_file.specs.Form.{Each, IsRegister, IsLevel}
use Rattle.tower_file.specs.Contents.{Register, TowerModel, empty}
use Rattle.tower_file.specs.Reading.{through, with_register, level_after}
use Rattle.tower_file.specs.Steps.{◌>>=◌}
use Rattle.tower_file.specs.Located.{ByteSpan, byte_span_of, pairs_under, IsAtKey, IsInMap, IsInVector, StopsAt, key_of, is_wrong, first_wrong_element, IsInValue, IsInRegister, IsAmongRegisters, level_key, IsInLevel, IsAmongLevels, IsInFile, IsSpanIn, HasFaultAt}
use Rattle.tower_file.proofs.Towers.{NotBoth, OneDivision}
use Rattle.tower_file.proofs.Unique.{One_form}

-- reading stops at one element

same_head : (p q : ElementModel) (l m : List ElementModel) → p ∷ l ≡ q ∷ m → p ≡ q
same_head p q l m e = cc

same_tail : (p q : ElementModel) (l m : List ElementModel) → p ∷ l ≡ q ∷ m → l ≡ m
same_tail p q l m e = cc

module _ {Form State : Type 0} (IsRead : ElementModel → Form → Type 0) (one : One_form IsRead) (step : State → Form → Result State TowerFault) where
  same_state : (s t : State) → ◌≡◌ {A = Result State TowerFault} (Ok s) (Ok t) → s ≡ t
  same_state s t e = cc

  not_ok : (r : Result State TowerFault) (fault : TowerFault) (rest : State → Result State TowerFault) (t : State) → r ≡ Err fault → (r >>= rest) ≡ Ok t → ⊥
  not_ok (Ok x) fault rest t e h = absurd cc
  not_ok (Err f) fault rest t e h = absurd cc

  after_ok : (r : Result State TowerFault) (rest : State → Result State TowerFault) (t : State) → (r >>= rest) ≡ Ok t → (next : State) × (r ≡ Ok next) × (rest next ≡ Ok t)
  after_ok (Ok x) rest t h = (x, refl, h)
  after_ok (Err f) rest t h = absurd cc

  -- an element that is read is not where reading stops
  not_before : (start : State) (fault : TowerFault) (p q : ElementModel) (f g : Form) (gs : List Form) (t : State) → p ≡ q → IsRead p f → step start f ≡ Err fault → IsRead q g
      → through step start (g ∷ gs) ≡ Ok t → ⊥
  not_before start fault p q f g gs t e h s k r =
      let same : f ≡ g = one q f g (subst (λ (x : ElementModel). IsRead x f) e h) k in
      not_ok (step start g) fault (λ next. through step next gs) t (sym (ap (step start) same) ∙ s) r

  stops_by : (start : State) (fault : TowerFault) (s t : State) (p q : ElementModel) (f g : Form) → IsRead p f → step s f ≡ Err fault → IsRead q g → step t g ≡ Err fault
      → (b d l m : List ElementModel) (fs gs : List Form) → b ++ p ∷ l ≡ d ++ q ∷ m → Each IsRead b fs → Each IsRead d gs → through step start fs ≡ Ok s → through step start gs ≡ Ok t
      → (s ≡ t) × (p ≡ q)
  stops_by start fault s t p q f g h i j k [] [] l m [] [] e x y u v = (sym (same_state start s u) ∙ same_state start t v, same_head p q l m e)
  stops_by start fault s t p q f g h i j k [] [] l m [] (g' ∷ gs) e x y u v = absurd y
  stops_by start fault s t p q f g h i j k [] [] l m (f' ∷ fs) gs e x y u v = absurd x
  stops_by start fault s t p q f g h i j k [] (z ∷ d) l m [] [] e x y u v = absurd y
  stops_by start fault s t p q f g h i j k [] (z ∷ d) l m [] (g' ∷ gs) e x y u v =
      absurd (not_before start fault p z f g' gs t (same_head p z l (d ++ q ∷ m) e) h (ap (λ (r : State). step r f) (same_state start s u) ∙ i) y.0 v)
  stops_by start fault s t p q f g h i j k [] (z ∷ d) l m (f' ∷ fs) gs e x y u v = absurd x
  stops_by start fault s t p q f g h i j k (w ∷ b) [] l m fs (g' ∷ gs) e x y u v = absurd y
  stops_by start fault s t p q f g h i j k (w ∷ b) [] l m [] [] e x y u v = absurd x
  stops_by start fault s t p q f g h i j k (w ∷ b) [] l m (f' ∷ fs) [] e x y u v =
      absurd (not_before start fault q w g f' fs s (sym (same_head w q (b ++ p ∷ l) m e)) j (ap (λ (r : State). step r g) (same_state start t v) ∙ k) x.0 u)
  stops_by start fault s t p q f g h i j k (w ∷ b) (z ∷ d) l m [] gs e x y u v = absurd x
  stops_by start fault s t p q f g h i j k (w ∷ b) (z ∷ d) l m (f' ∷ fs) [] e x y u v = absurd y
  stops_by start fault s t p q f g h i j k (w ∷ b) (z ∷ d) l m (f' ∷ fs) (g' ∷ gs) e x y u v =
      let first = after_ok (step start f') (λ next. through step next fs) s u in
      let second = after_ok (step start g') (λ next. through step next gs) t v in
      let form : f' ≡ g' = one z f' g' (subst (λ (r : ElementModel). IsRead r f') (same_head w z (b ++ p ∷ l) (d ++ q ∷ m) e) x.0) y.0 in
      let next = same_state first.0 second.0 (sym first.1 ∙ ap (step start) form ∙ second.1) in
      stops_by first.0 fault s t p q f g h i j k b d l m fs gs (same_tail w z (b ++ p ∷ l) (d ++ q ∷ m) e) x.1 y.1 first.2
      (subst (λ (r : State). through step r gs ≡ Ok t) (sym next) second.2)

  stops_once : (start : State) (members : List ElementModel) (fault : TowerFault) (s t : State) (p q : ElementModel) → StopsAt IsRead step start members fault s p
      → StopsAt IsRead step start members fault t q → (s ≡ t) × (p ≡ q)
  stops_once start members fault s t p q h k =
      stops_by start fault s t p q h.form k.form h.is h.fails k.is k.fails h.before k.before h.later k.later h.done k.done (sym h.order ∙ k.order) h.are k.are h.read k.read

-- one element is wrong

abbrev One_wrong : (ElementModel → ElementModel → Type 0) → Type 0
One_wrong IsIn = (piece first second : ElementModel) → IsIn piece first → IsIn piece second → first ≡ second

abbrev One_among : (List ElementModel → ElementModel → Type 0) → Type 0
One_among IsAmong = (members : List ElementModel) (first second : ElementModel) → IsAmong members first → IsAmong members second → first ≡ second

at_one_key : (IsIn : ElementModel → ElementModel → Type 0) → One_wrong IsIn → (whole : ElementModel) (pairs : List (ElementModel × ElementModel)) (first second : ElementModel) → IsAtKey IsIn whole pairs first
    → IsAtKey IsIn whole pairs second → first ≡ second
at_one_key IsIn one whole [] first second h k = h ∙ sym k
at_one_key IsIn one whole (pair ∷ []) first second h k = one pair.1 first second h k
at_one_key IsIn one whole (pair ∷ other ∷ pairs) first second h k = h ∙ sym k

same_some : (first second : ByteSpan) → Some first ≡ Some second → first ≡ second
same_some first second e = cc

module _ (one_pairs : (piece : ElementModel) (firsts seconds : List (ElementModel × ElementModel)) → HasPairs piece firsts → HasPairs piece seconds → firsts ≡ seconds)
    (one_members : (piece : ElementModel) (firsts seconds : List ElementModel) → HasMembers piece firsts → HasMembers piece seconds → firsts ≡ seconds)
    (one_register : One_form IsRegister) (one_level : One_form IsLevel) where
  in_one_map : (key : List (ElementModel × ElementModel) → List ℕ) (IsIn : ElementModel → ElementModel → Type 0) → One_wrong IsIn → One_wrong (IsInMap key IsIn)
  in_one_map key IsIn one piece first second (inl h) (inl k) = h.1 ∙ sym k.1
  in_one_map key IsIn one piece first second (inl h) (inr k) = absurd (h.0 k.1.kind)
  in_one_map key IsIn one piece first second (inr h) (inl k) = absurd (k.0 h.1.kind)
  in_one_map key IsIn one piece first second (inr h) (inr k) =
      at_one_key IsIn one piece (pairs_under (key k.0) k.0) first second
      (subst (λ (pairs : List (ElementModel × ElementModel)). IsAtKey IsIn piece (pairs_under (key pairs) pairs) first) (one_pairs piece h.0 k.0 h.1 k.1) h.2) k.2

  in_one_vector : (IsAmong : List ElementModel → ElementModel → Type 0) → One_among IsAmong → One_wrong (IsInVector IsAmong)
  in_one_vector IsAmong one piece first second (inl h) (inl k) = h.1 ∙ sym k.1
  in_one_vector IsAmong one piece first second (inl h) (inr k) = absurd (h.0 k.1.kind)
  in_one_vector IsAmong one piece first second (inr h) (inl k) = absurd (k.0 h.1.kind)
  in_one_vector IsAmong one piece first second (inr h) (inr k) =
      one k.0 first second (subst (λ (members : List ElementModel). IsAmong members first) (one_members piece h.0 k.0 h.1 k.1) h.2) k.2

  in_one_value : (number : ℕ) (registers : List Register) (fault : TowerFault) → One_wrong (IsInValue number registers fault)
  in_one_value number registers fault value =
      in_one_vector (λ members found. found ≡ first_wrong_element (is_wrong fault number registers) value members) (λ members first second h k. h ∙ sym k) value

  in_one_register : (number : ℕ) (registers : List Register) (fault : TowerFault) → One_wrong (IsInRegister number registers fault)
  in_one_register number registers fault = in_one_map (λ pairs. key_of fault) (IsInValue number registers fault) (in_one_value number registers fault)

  among_one_registers : (level number : ℕ) (registers : List Register) (fault : TowerFault) → One_among (IsAmongRegisters level number registers fault)
  among_one_registers level number registers fault members first second h k =
      let same = stops_once IsRegister one_register (with_register level number) registers members fault h.0 k.0 h.1 k.1 h.2 k.2 in
      in_one_register number k.0 fault k.1 first second
      (subst (λ (before : List Register). IsInRegister number before fault k.1 first) same.0 (subst (λ (piece : ElementModel). IsInRegister number h.0 fault piece first) same.1 h.3)) k.3

  in_one_level : (tower : TowerModel) (fault : TowerFault) → One_wrong (IsInLevel tower fault)
  in_one_level tower fault =
      let IsAmong = IsAmongRegisters (length tower.levels) (length tower.registers) tower.registers fault in
      in_one_map level_key (IsInVector IsAmong) (in_one_vector IsAmong (among_one_registers (length tower.levels) (length tower.registers) tower.registers fault))

  among_one_levels : (start : TowerModel) (fault : TowerFault) → One_among (IsAmongLevels start fault)
  among_one_levels start fault members first second h k =
      let same = stops_once IsLevel one_level level_after start members fault h.0 k.0 h.1 k.1 h.2 k.2 in
      in_one_level k.0 fault k.1 first second
      (subst (λ (tower : TowerModel). IsInLevel tower fault k.1 first) same.0 (subst (λ (piece : ElementModel). IsInLevel h.0 fault piece first) same.1 h.3)) k.3

  in_one_file : (fault : TowerFault) → One_wrong (IsInFile fault)
  in_one_file fault = in_one_map (λ pairs. codes ":levels") (IsInVector (IsAmongLevels empty fault)) (in_one_vector (IsAmongLevels empty fault) (among_one_levels empty fault))

  one_span : (bytes : List ℕ) (pieces : List ElementModel) (fault : TowerFault) (first second : ByteSpan) → IsSpanIn bytes pieces fault first → IsSpanIn bytes pieces fault second → first ≡ second
  one_span bytes [] fault first second h k = h ∙ sym k
  one_span bytes (piece ∷ []) fault first second h k = h.2 ∙ ap byte_span_of (in_one_file fault piece h.0 k.0 h.1 k.1) ∙ sym k.2
  one_span bytes (piece ∷ other ∷ pieces) fault first second h k = h ∙ sym k

  -- a fault has one place
  pub one_place : (bytes : List ℕ) → NotBoth bytes → OneDivision bytes → (fault : TowerFault) (first second : ByteSpan) → HasFaultAt bytes fault first → HasFaultAt bytes fault second → first ≡ second
  one_place bytes both division fault first second (inl t) (inl u) = same_some first second (sym t.3 ∙ u.3)
  one_place bytes both division fault first second (inl t) (inr s) = absurd (both s.0 t.0 s.1 t.2)
  one_place bytes both division fault first second (inr s) (inl t) = absurd (both s.0 t.0 s.1 t.2)
  one_place bytes both division fault first second (inr s) (inr r) =
      one_span bytes r.0 fault first second (subst (λ (pieces : List ElementModel). IsSpanIn bytes pieces fault first) (division s.0 r.0 s.1 r.1) s.2) r.2
