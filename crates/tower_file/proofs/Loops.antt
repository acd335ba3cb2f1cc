-- Going over a vector: what was gathered so far, and what the elements that are left will give.
use Rattle.std.proofs.Common.{◌≡◌, List, [], ◌∷◌, ◌++◌, Option, Some, None, Result, Ok, Err, refl, sym, ap, subst, ◌∙◌, append_assoc, append-nil}
use Rattle.edn_reader.specs.declared.element.Element.{Element}
use Rattle.edn_reader.specs.declared.view.VectorView.{VectorView}
use Rattle.edn_reader.specs.Grammar.{ElementModel}
use Rattle.edn_reader.specs.Lent.{piece_of, MembersLeft, NextMember}
use Rattle.tower_file.specs.declared.fault.TowerFault.{TowerFault}
use Rattle.tower_file.specs.Form.{Each}
use Rattle.tower_file.specs.Reading.{each, through}
use Rattle.tower_file.specs.Steps.{◌>>=◌}
use Rattle.tower_file.specs.Located.{StopsAt}
use Rattle.tower_file.specs.Stated.{FormsLeft}

-- what a view gives next
abbrev pub Gives_next : VectorView → Option Element → VectorView → Type 0
Gives_next view element after = (members : List ElementModel) → MembersLeft view members → NextMember element after members

module _ {Y : Type 0} (read : ElementModel → Result Y TowerFault) where
  -- what was read, followed by what is read of the rest
  abbrev pub following : List Y → Result (List Y) TowerFault → Result (List Y) TowerFault
  following done rest = rest >>= (λ ys. Ok (done ++ ys))

  following_nothing : (rest : Result (List Y) TowerFault) → rest ≡ following [] rest
  following_nothing (Ok ys) = refl
  following_nothing (Err fault) = refl

  following_one : (done : List Y) (y : Y) (rest : Result (List Y) TowerFault) → following done (rest >>= (λ ys. Ok (y ∷ ys))) ≡ following (done ++ y ∷ []) rest
  following_one done y (Ok ys) = ap Ok (sym (append_assoc done (y ∷ []) ys))
  following_one done y (Err fault) = refl

  -- what was gathered of a view, and what it has left
  abbrev pub SoFar : VectorView → VectorView → List Y → Type 0
  SoFar first view done = (members : List ElementModel) → MembersLeft first members
      → (left : List ElementModel) × MembersLeft view left × (each read members ≡ following done (each read left))

  pub so_far_begins : (view : VectorView) → SoFar view view []
  so_far_begins view members h = (members, h, following_nothing (each read members))

  on_by : (first after : VectorView) (element : Element) (done : List Y) (y : Y) (members left : List ElementModel) → each read members ≡ following done (each read left)
      → NextMember (Some element) after left → read (piece_of element) ≡ Ok y → (l : List ElementModel) × MembersLeft after l × (each read members ≡ following (done ++ y ∷ []) (each read l))
  on_by first after element done y members [] e n r = absurd n
  on_by first after element done y members (piece ∷ left) e n r =
      let is : read piece ≡ Ok y = subst (λ (p : ElementModel). read p ≡ Ok y) n.0 r in
      (left, n.1, e ∙ rw is refl ∙ following_one done y (each read left))

  pub so_far_on : (first view after : VectorView) (element : Element) (done : List Y) (y : Y) → SoFar first view done → Gives_next view (Some element) after
      → read (piece_of element) ≡ Ok y → SoFar first after (done ++ y ∷ [])
  so_far_on first view after element done y s n r members h =
      let k = s members h in on_by first after element done y members k.0 k.2 (n k.0 k.1) r

  fails_by : (after : VectorView) (element : Element) (done : List Y) (fault : TowerFault) (members left : List ElementModel) → each read members ≡ following done (each read left)
      → NextMember (Some element) after left → read (piece_of element) ≡ Err fault → each read members ≡ Err fault
  fails_by after element done fault members [] e n r = absurd n
  fails_by after element done fault members (piece ∷ left) e n r =
      let is : read piece ≡ Err fault = subst (λ (p : ElementModel). read p ≡ Err fault) n.0 r in e ∙ rw is refl

  pub so_far_fails : (first view after : VectorView) (element : Element) (done : List Y) (fault : TowerFault) → SoFar first view done → Gives_next view (Some element) after
      → read (piece_of element) ≡ Err fault → (members : List ElementModel) → MembersLeft first members → each read members ≡ Err fault
  so_far_fails first view after element done fault s n r members h =
      let k = s members h in fails_by after element done fault members k.0 k.2 (n k.0 k.1) r

  pub so_far_ends : (first view after : VectorView) (done : List Y) → SoFar first view done → Gives_next view None after
      → (members : List ElementModel) → MembersLeft first members → each read members ≡ Ok done
  so_far_ends first view after done s n members h =
      let k = s members h in
      k.2 ∙ ap (λ (left : List ElementModel). following done (each read left)) (n k.0 k.1) ∙ ap Ok (append-nil done)

module _ {Form State : Type 0} (IsRead : ElementModel → Form → Type 0) (step : State → Form → Result State TowerFault) where
  -- steps for two lists, one after the other
  both_by : (next : Result State TowerFault) (first second : List Form)
      → ((state : State) → through step state (first ++ second) ≡ through step state first >>= (λ after. through step after second))
      → (next >>= (λ state. through step state (first ++ second))) ≡ (next >>= (λ state. through step state first)) >>= (λ after. through step after second)
  both_by (Ok state) first second h = h state
  both_by (Err fault) first second h = refl

  through_both : (start : State) (first second : List Form) → through step start (first ++ second) ≡ through step start first >>= (λ after. through step after second)
  through_both start [] second = refl
  through_both start (form ∷ forms) second = both_by (step start form) forms second (λ state. through_both state forms second)

  -- the state after the forms of a view that were gone over, before those that it has left
  abbrev pub After : VectorView → State → VectorView → State → Type 0
  After first start view state = (forms : List Form) (h : FormsLeft IsRead first forms)
      → (done left : List Form) × (forms ≡ done ++ left) × (through step start done ≡ Ok state) × (rest : FormsLeft IsRead view left)
      × (before : List ElementModel) × (h.0 ≡ before ++ rest.0) × Each IsRead before done

  pub after_begins : (view : VectorView) (state : State) → After view state view state
  after_begins view state forms h = ([], forms, refl, refl, h, [], refl, tt)

  -- what all forms give is what the forms that are left give
  rest_of : (start state : State) (forms done left : List Form) → forms ≡ done ++ left → through step start done ≡ Ok state → through step start forms ≡ through step state left
  rest_of start state forms done left e d = ap (through step start) e ∙ through_both start done left ∙ rw d refl

  each_push : (pieces : List ElementModel) (forms : List Form) (piece : ElementModel) (form : Form) → Each IsRead pieces forms → IsRead piece form → Each IsRead (pieces ++ piece ∷ []) (forms ++ form ∷ [])
  each_push [] [] piece form h k = (k, tt)
  each_push [] (f ∷ forms) piece form h k = absurd h
  each_push (p ∷ pieces) [] piece form h k = absurd h
  each_push (p ∷ pieces) (f ∷ forms) piece form h k = (h.0, each_push pieces forms piece form h.1 k)

  -- the next form, and those after it
  abbrev First : Element → VectorView → List ElementModel → List Form → Type 0
  First element after members left = (form : Form) × (forms : List Form) × (left ≡ form ∷ forms) × IsRead (piece_of element) form × (rest : FormsLeft IsRead after forms)
      × (members ≡ piece_of element ∷ rest.0)

  first_by : (element : Element) (after : VectorView) (members : List ElementModel) (left : List Form) → NextMember (Some element) after members → Each IsRead members left → First element after members left
  first_by element after [] left n h = absurd n
  first_by element after (piece ∷ members) [] n h = absurd h
  first_by element after (piece ∷ members) (form ∷ forms) n h =
      (form, forms, refl, subst (λ (p : ElementModel). IsRead p form) (sym n.0) h.0, (members, n.1, h.1), ap (λ (p : ElementModel). p ∷ members) (sym n.0))

  first_of : (view after : VectorView) (element : Element) (left : List Form) (h : FormsLeft IsRead view left) → Gives_next view (Some element) after → First element after h.0 left
  first_of view after element left h n = first_by element after h.0 left (n h.0 h.1) h.2

  pub after_on : (first view after : VectorView) (element : Element) (start state next : State) → After first start view state → Gives_next view (Some element) after
      → ((form : Form) → IsRead (piece_of element) form → step state form ≡ Ok next) → After first start after next
  after_on first view after element start state next s n r forms h =
      let k = s forms h in
      let f = first_of view after element k.1 k.4 n in (
        k.0 ++ f.0 ∷ [],
        f.1,
        k.2 ∙ ap (λ (left : List Form). k.0 ++ left) f.2 ∙ sym (append_assoc k.0 (f.0 ∷ []) f.1),
        through_both start k.0 (f.0 ∷ []) ∙ rw (k.3, r f.0 f.3) refl,
        f.4,
        k.5 ++ piece_of element ∷ [],
        k.6 ∙ ap (λ (ms : List ElementModel). k.5 ++ ms) f.5 ∙ sym (append_assoc k.5 (piece_of element ∷ []) f.4.0),
        each_push k.5 k.0 (piece_of element) f.0 k.7 f.3,
      )

  pub after_fails : (first view after : VectorView) (element : Element) (start state : State) (fault : TowerFault) → After first start view state → Gives_next view (Some element) after
      → ((form : Form) → IsRead (piece_of element) form → step state form ≡ Err fault) → (forms : List Form) → FormsLeft IsRead first forms → through step start forms ≡ Err fault
  after_fails first view after element start state fault s n r forms h =
      let k = s forms h in
      let f = first_of view after element k.1 k.4 n in
      rest_of start state forms k.0 k.1 k.2 k.3 ∙ ap (through step state) f.2 ∙ rw (r f.0 f.3) refl

  -- the element at which reading stops
  pub after_stops : (first view after : VectorView) (element : Element) (start state : State) (fault : TowerFault) → After first start view state → Gives_next view (Some element) after
      → ((form : Form) → IsRead (piece_of element) form → step state form ≡ Err fault) → (forms : List Form) (h : FormsLeft IsRead first forms)
      → StopsAt IsRead step start h.0 fault state (piece_of element)
  after_stops first view after element start state fault s n r forms h =
      let k = s forms h in
      let f = first_of view after element k.1 k.4 n in
      record {
        before = k.5;
        later = f.4.0;
        done = k.0;
        form = f.0;
        order = k.6 ∙ ap (λ (ms : List ElementModel). k.5 ++ ms) f.5;
        are = k.7;
        read = k.3;
        is = f.3;
        fails = r f.0 f.3;
      }

  -- a form of a view that was reached, and what holds of it
  pub record Reached (start : State) (forms : List Form) (Holds : Form → Type 0) : Type 0 where
    pub before : List Form
    pub form : Form
    pub later : List Form
    pub state : State
    pub order : forms ≡ before ++ form ∷ later
    pub read : through step start before ≡ Ok state
    pub holds : Holds form

  pub after_reaches : (Holds : Form → Type 0) (first view after : VectorView) (element : Element) (start state : State) → After first start view state → Gives_next view (Some element) after
      → ((form : Form) → IsRead (piece_of element) form → Holds form) → (forms : List Form) → FormsLeft IsRead first forms → Reached start forms Holds
  after_reaches Holds first view after element start state s n r forms h =
      let k = s forms h in
      let f = first_of view after element k.1 k.4 n in
      record {
        before = k.0;
        form = f.0;
        later = f.1;
        state = state;
        order = k.2 ∙ ap (λ (left : List Form). k.0 ++ left) f.2;
        read = k.3;
        holds = r f.0 f.3;
      }

  none_left : (members : List ElementModel) (left : List Form) → members ≡ [] → Each IsRead members left → left ≡ []
  none_left [] [] e h = refl
  none_left [] (form ∷ left) e h = absurd h
  none_left (piece ∷ members) left e h = absurd cc

  pub after_ends : (first view after : VectorView) (start state : State) → After first start view state → Gives_next view None after
      → (forms : List Form) → FormsLeft IsRead first forms → through step start forms ≡ Ok state
  after_ends first view after start state s n forms h =
      let k = s forms h in
      rest_of start state forms k.0 k.1 k.2 k.3 ∙ ap (through step state) (none_left k.4.0 k.1 (n k.4.0 k.4.1) k.4.2)
