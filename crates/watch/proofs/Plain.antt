-- The edits of a plain trace come in the order of time.
use Rattle.std.proofs.Common.{◌≡◌, ◌≢◌, ◌≤◌, ◌<◌, ◌⊎◌, inl, inr, ℕ, ℤ, zero, suc, Bool, true, false, not, ◌&&◌, ◌==◌, List, [], ◌∷◌, ◌++◌, Option, Some, None, Ok, is_some, refl, sym, ap, ◌∙◌, subst, arith}
use Rattle.std.specs.Prelude.{All, Contains, IfSome, filter, if◌then◌else◌}
use Rattle.std.specs.List.{AllPairs}
use Rattle.std.specs.Ordering.{int_eq}
use Rattle.std.proofs.lemmas.Bool.Decides.{Decides-int_eq, not_from_Decides}
use Rattle.std.proofs.lemmas.List.Elements.{All-head, All-tail, All-contains}
use Rattle.intervals.specs.declared.operation.Op.{Op}
use Rattle.intervals.specs.declared.operation.OpId.{OpId}
use Rattle.intervals.specs.declared.operation.Moment.{Moment}
use Rattle.intervals.specs.declared.operation.RegId.{RegId}
use Rattle.intervals.specs.declared.operation.Value.{Value}
use Rattle.intervals.specs.declared.edit.Edit.{Edit as AnEdit}
use Rattle.intervals.specs.declared.edit.Edit.TheVariants as edits
use Rattle.intervals.specs.declared.edit.Lent.TheVariants.{Answer}
use Rattle.intervals.specs.Operation.{IsWrite, is_write, is_write_act, same_id}
use Rattle.intervals.specs.Edit.{edited}
use Rattle.intervals.specs.Refusal.{after_edit, standing}
use Rattle.intervals.specs.Terms.{ClaimModel, RegisterState, unedited}
use Rattle.intervals.proofs.Members.{all_from}
use Rattle.intervals.proofs.Standing.{after_one}
use Rattle.jepsen_form.specs.declared.item.Action.{Action}
use Rattle.jepsen_form.specs.declared.item.Action.TheVariants as actions
use Rattle.jepsen_form.specs.declared.item.Event.{Event as AnEvent}
use Rattle.jepsen_form.specs.declared.item.Item.{Item}
use Rattle.jepsen_form.specs.declared.item.Item.TheVariants.{Event, Amend, Withdraw, Claim, Ask, Skipped}
use Rattle.jepsen_form.specs.declared.item.Stage.{Stage}
use Rattle.jepsen_form.specs.declared.item.Stage.TheVariants as stages
use Rattle.pairing.specs.declared.fault.PairFault.TheVariants.{AnswerMismatch}
use Rattle.pairing.specs.declared.invocation.Invocation.{Invocation}
use Rattle.pairing.specs.declared.step.Step.TheVariants as steps
use Rattle.pairing.specs.Invocation.{invocation_by, answers, is_on, same_act}
use Rattle.pairing.specs.Accepted.{Placed, is_event_of, invocation, unanswered_of, event_fault, fault_of, accepted}
use Rattle.pairing.specs.Step.{id_of, act_of, value_read, append_of, amendment_of, invoke_step, ok_step, event_step, unless, step_of}
use Rattle.watch.specs.Coming.{ComesLast, ComeInOrder, IsLatest}
use Rattle.watch.specs.Trace.{IsNoEdit, item_moment, IsNotAfter}
use Rattle.watch.proofs.Placing.{edit_list, edit_answered, GoesBefore, IsPlain, edits_after, edits_of_items}
use Rattle.watch.proofs.Members.{here, in_none, kept_present}
use Rattle.watch.proofs.Waits.{unanswered_push, refused_push, taken_push, writes, IsBehind, IsOpen, Stands, later, fewer_wait, fewer_stand, invoked, appended, ended}

-- the edits come in order, and afterwards the operations stand as before items that come
abbrev Goes : ℕ → RegisterState → (ℤ → Option Invocation) → List Placed → List AnEdit → Type 0
Goes feeder held waits items edits = ComeInOrder held edits × Stands feeder waits items (standing held edits).ops

one_edit : (feeder : ℕ) (held : RegisterState) (waits : ℤ → Option Invocation) (items : List Placed) (mine : Bool) (edit : AnEdit)
    → ComesLast held.ops edit → Stands feeder waits items held.ops → Stands feeder waits items (edited held.ops edit)
    → Goes feeder held waits items (if mine then edit ∷ [] else [])
one_edit feeder held waits items false edit last before after = (tt, before)
one_edit feeder held waits items true edit last before after =
    (((λ accepted. last), tt), after_one (λ (next : RegisterState). Stands feeder waits items next.ops) held edit before (λ accepted. after))

act_writes : (action : Action) (value : Value) → is_write_act (act_of action value) ≡ writes action
act_writes actions.Read value = refl
act_writes actions.Write value = refl

-- an answer that agrees with its invocation gives a write no value
no_value : (said : Invocation) (event : AnEvent) → answers said event ≡ true → writes said.action ≡ true → value_read event.action event.value ≡ None
no_value said event t w = by_actions (is_on event.register said.register) said.action event.action t w
  where
    by_actions : (on : Bool) (invoked answered : Action) → (on && same_act invoked answered said.value event.value) ≡ true → writes invoked ≡ true → value_read answered event.value ≡ None
    by_actions on actions.Write actions.Write t w = refl
    by_actions true actions.Write actions.Read t w = absurd (cc)
    by_actions false actions.Write actions.Read t w = absurd (cc)
    by_actions on actions.Read answered t w = absurd (cc)

module _ (feeder : ℕ) (register : RegId) (before items : List Placed) (place : ℕ) (event : AnEvent) (held : RegisterState) where
  abbrev one : Placed
  one = record { place = place; item = Event event }

  abbrev waits : ℤ → Option Invocation
  waits = unanswered_of (accepted before)

  abbrev others : ℤ → Option Invocation
  others = unanswered_of (accepted (before ++ one ∷ []))

  module _ (s : Stands feeder waits (one ∷ items) held.ops) (order : (next : Placed) → Contains items next → GoesBefore one next) where
    one_less : Stands feeder waits items held.ops
    one_less = later feeder waits one items held.ops s

    -- where the item is refused
    refused : is_some (fault_of (accepted before) (Event event)) ≡ true → Stands feeder others items held.ops
    refused t = fewer_wait feeder waits others items held.ops (λ process said w. sym (ap (λ (taken : List Placed). unanswered_of taken process) (refused_push before one t)) ∙ w) one_less

    -- where it is accepted, the unanswered invocation of its process is a new one or none
    abbrev Waited : Option Invocation → Type 0
    Waited new = (process : ℤ) → others process ≡ (if int_eq process event.process then new else waits process)

    taken : is_some (fault_of (accepted before) (Event event)) ≡ false → Waited (invocation_by place event event.answer event.register)
    taken f process = ap (λ (t : List Placed). unanswered_of t process) (taken_push before one f) ∙ unanswered_push (accepted before) one process

    still : (process : ℤ) (said : Invocation) (t : Bool) → (if t then None else waits process) ≡ Some said → waits process ≡ Some said
    still process said true h = absurd (cc)
    still process said false h = h

    answered : Waited None → Stands feeder others items held.ops
    answered w = fewer_wait feeder waits others items held.ops (λ process said h. still process said (int_eq process event.process) (sym (w process) ∙ h)) one_less

    not_waited : (said : Invocation) → waits event.process ≡ Some said → Waited None → (process : ℤ) (other : Invocation) → others process ≡ Some other → id_of feeder other.place ≢ id_of feeder said.place
    not_waited said u w process other h e = by_cases (int_eq process event.process) refl (sym (w process) ∙ h)
      where
        by_cases : (t : Bool) → int_eq process event.process ≡ t → (if t then None else waits process) ≡ Some other → ⊥
        by_cases true f g = absurd (cc)
        by_cases false f g =
            not_from_Decides (int_eq process event.process) (Decides-int_eq process event.process) f
            (s.own process event.process other said g u (ap (λ (id : OpId). id.event) e))

    latest : (m : Moment) → event.moment ≡ Some m → IsLatest held.ops m
    latest m e = all_from (λ op. (op.begin.0 ≤ m.0) × IfSome op.end (λ end. end.0 ≤ m.0)) held.ops
        (λ op h. let b = s.following op h one (here one items) in (subst (IsNotAfter op.begin) e b.begin, by_end op.end b.end))
      where
        by_end : (end : Option Moment) → IfSome end (λ x. IsNotAfter x event.moment) → IfSome end (λ x. x.0 ≤ m.0)
        by_end None h = tt
        by_end (Some x) h = subst (IsNotAfter x) e h

    not_after_next : (m : Moment) → event.moment ≡ Some m → (next : Placed) → Contains items next → IsNotAfter m (item_moment next.item)
    not_after_next m e next k = subst (λ (o : Option Moment). IfSome o (λ m. IsNotAfter m (item_moment next.item))) e (order next k).moment

    -- an invocation
    module _ (reg : RegId) where
      abbrev new : Invocation
      new = record { place = place; register = reg; action = event.action; value = event.value }

      module _ (w : Waited (Some new)) where
        cases : (p : ℤ) (said : Invocation) → others p ≡ Some said → (waits p ≡ Some said) ⊎ ((p ≡ event.process) × (said ≡ new))
        cases p said h = by_cases (int_eq p event.process) refl (sym (w p) ∙ h)
          where
            by_cases : (t : Bool) → int_eq p event.process ≡ t → (if t then Some new else waits p) ≡ Some said → (waits p ≡ Some said) ⊎ ((p ≡ event.process) × (said ≡ new))
            by_cases true f g = inr ((Decides-int_eq p event.process).0 f, (cc))
            by_cases false f g = inl g

        waits_too : Stands feeder others items held.ops
        waits_too = invoked feeder waits others one items held.ops event.process new refl cases (λ next k. (order next k).place) s

        module _ (m : Moment) (e : event.moment ≡ Some m) where
          abbrev op : Op
          op = record {
            id = id_of feeder place;
            process = event.process;
            act = act_of event.action event.value;
            begin = m;
            end = None;
            parts = record { invocation = event.text; answer = None; amendment = None };
          }

          after_new : (next : Placed) → Contains items next → IsBehind op next
          after_new next k = record { place = (order next k).place; begin = not_after_next m e next k; end = tt }

          open_new : (process : ℤ) (said : Invocation) → others process ≡ Some said → IsOpen feeder said op
          open_new process said h is = by_cases (cases process said h)
            where
              by_cases : (waits process ≡ Some said) ⊎ ((process ≡ event.process) × (said ≡ new)) → (op.end ≡ None) × (is_write op ≡ writes said.action)
              by_cases (inl u) =
                  let lt : said.place < place = s.sooner process said u one (here one items) in
                  let same : place ≡ said.place = ap (λ (id : OpId). id.event) is in
                  absurd (omega arith)
              by_cases (inr (f, g)) = (refl, act_writes event.action event.value ∙ sym (ap (λ (i : Invocation). writes i.action) g))

          present_too : Stands feeder others items (held.ops ++ op ∷ [])
          present_too = appended feeder others items held.ops op after_new open_new waits_too

    invoke_goes : (reg : Option RegId) (m : Option Moment) → event.moment ≡ m → Waited (invocation_by place event stages.Invoke reg) → Goes feeder held others items (edit_list register (Ok (invoke_step feeder place event reg m)))
    invoke_goes None m e w = (tt, answered w)
    invoke_goes (Some reg) None e w = (tt, waits_too reg w)
    invoke_goes (Some reg) (Some m) e w =
        one_edit feeder held others items (reg.0 == register.0) (append_of feeder place event m) (refl, latest m e) (waits_too reg w) (present_too reg w m e)

    -- an answer to an invocation
    module _ (said : Invocation) (u : waits event.process ≡ Some said) (w : Waited None) where
      no_end : (op : Op) → Contains held.ops op → op.id ≡ id_of feeder said.place → (op.end ≡ None) × (is_write op ≡ writes said.action)
      no_end = s.unended event.process said u

      ok_goes : (m : Option Moment) → event.moment ≡ m → answers said event ≡ true → Goes feeder held others items (edit_list register (Ok (ok_step feeder said event m)))
      ok_goes None e t = (tt, answered w)
      ok_goes (Some m) e t =
          one_edit feeder held others items (said.register.0 == register.0) (amendment_of feeder said event m)
          (record {
            unfinished = all_from (λ op. op.id ≡ id_of feeder said.place → op.end ≡ None) held.ops (λ op h is. (no_end op h is).0);
            begin = refl;
            end = (m, refl, latest m e);
            value = all_from (λ op. op.id ≡ id_of feeder said.place → IsWrite op → value_read event.action event.value ≡ None) held.ops
                (λ op h is write. no_value said event t (sym (no_end op h is).1 ∙ write));
          })
          (answered w)
          (ended feeder others items held.ops (id_of feeder said.place)
          (record { value = value_read event.action event.value; begin = None; end = Some (Some m); lent = Answer event.text })
          refl m refl (not_after_next m e) (not_waited said u w) (answered w))

      fail_goes : Goes feeder held others items (edit_list register (Ok (Some (steps.Edit said.register (edits.Withdraw (id_of feeder said.place))))))
      fail_goes =
          one_edit feeder held others items (said.register.0 == register.0) (edits.Withdraw (id_of feeder said.place))
          (all_from (λ op. op.id ≡ id_of feeder said.place → op.end ≡ None) held.ops (λ op h is. (no_end op h is).0))
          (answered w)
          (fewer_stand feeder others items held.ops (filter (λ op. not (same_id op.id (id_of feeder said.place))) held.ops)
          (λ op h. (kept_present (λ op. not (same_id op.id (id_of feeder said.place))) held.ops op h).0) (answered w))

    ok_by : (said : Invocation) → waits event.process ≡ Some said → (t : Bool) → answers said event ≡ t
        → (is_some (if t then None else Some AnswerMismatch) ≡ true → Stands feeder others items held.ops) → (is_some (if t then None else Some AnswerMismatch) ≡ false → Waited None)
        → Goes feeder held others items (edit_answered register (unless (if t then None else Some AnswerMismatch) (ok_step feeder said event event.moment)))
    ok_by said u true e r w = ok_goes said u (w refl) event.moment refl e
    ok_by said u false e r w = (tt, r refl)

    event_goes : (u : Option Invocation) (stage : Stage) → waits event.process ≡ u → (is_some (event_fault u event stage) ≡ true → Stands feeder others items held.ops)
        → (is_some (event_fault u event stage) ≡ false → Waited (invocation_by place event stage event.register))
        → Goes feeder held others items (edit_answered register (unless (event_fault u event stage) (event_step feeder u place event stage)))
    event_goes None stages.Invoke u r w = invoke_goes event.register event.moment refl (w refl)
    event_goes None stages.Ok u r w = (tt, r refl)
    event_goes None stages.Fail u r w = (tt, r refl)
    event_goes None stages.Info u r w = (tt, r refl)
    event_goes (Some said) stages.Invoke u r w = (tt, r refl)
    event_goes (Some said) stages.Ok u r w = ok_by said u (answers said event) refl r w
    event_goes (Some said) stages.Fail u r w = fail_goes said u (w refl)
    event_goes (Some said) stages.Info u r w = (tt, answered (w refl))

    pub goes_on : Goes feeder held others items (edit_answered register (step_of feeder (accepted before) place (Event event)))
    goes_on = event_goes (waits event.process) event.answer refl refused taken

-- an item that is no event, and is accepted, leaves what waits
unanswered_still : (feeder : ℕ) (before items : List Placed) (one : Placed) (held : RegisterState) → is_some (fault_of (accepted before) one.item) ≡ false
    → ((process : ℤ) → is_event_of process one.item ≡ false) → Stands feeder (unanswered_of (accepted before)) (one ∷ items) held.ops → Stands feeder (unanswered_of (accepted (before ++ one ∷ []))) items held.ops
unanswered_still feeder before items one held ok no_event s =
    fewer_wait feeder (unanswered_of (accepted before)) (unanswered_of (accepted (before ++ one ∷ []))) items held.ops
    (λ process said w. sym (ap (λ (t : List Placed). unanswered_of t process) (taken_push before one ok) ∙ unanswered_push (accepted before) one process ∙ by_test process (no_event process)) ∙ w)
    (later feeder (unanswered_of (accepted before)) one items held.ops s)
  where
    by_test : (process : ℤ) → is_event_of process one.item ≡ false → (if is_event_of process one.item then invocation one else unanswered_of (accepted before) process) ≡ unanswered_of (accepted before) process
    by_test process f = rw f refl

module _ (feeder : ℕ) (register : RegId) where
  goes : (before items : List Placed) (place : ℕ) (item : Item) (held : RegisterState) → IsNoEdit item
      → Stands feeder (unanswered_of (accepted before)) (record { place = place; item = item } ∷ items) held.ops
      → ((next : Placed) → Contains items next → GoesBefore (record { place = place; item = item }) next)
      → Goes feeder held (unanswered_of (accepted (before ++ record { place = place; item = item } ∷ []))) items (edit_answered register (step_of feeder (accepted before) place item))
  goes before items place (Event event) held plain s order = goes_on feeder register before items place event held s order
  goes before items place (Amend of change) held plain s order = absurd plain
  goes before items place (Withdraw of) held plain s order = absurd plain
  goes before items place (Claim on kind) held plain s order = absurd plain
  goes before items place (Ask on) held plain s order = (tt, unanswered_still feeder before items (record { place = place; item = Ask on }) held refl (λ process. refl) s)
  goes before items place Skipped held plain s order = (tt, unanswered_still feeder before items (record { place = place; item = Skipped }) held refl (λ process. refl) s)

  come_append : (held : RegisterState) (first rest : List AnEdit) → ComeInOrder held first → ComeInOrder (standing held first) rest → ComeInOrder held (first ++ rest)
  come_append held [] rest h k = k
  come_append held (edit ∷ first) rest h k = (h.0, come_append (after_edit held edit) first rest h.1 k)

  standing_more : (held : RegisterState) (first rest : List AnEdit) → standing held (first ++ rest) ≡ standing (standing held first) rest
  standing_more held [] rest = refl
  standing_more held (edit ∷ first) rest = standing_more (after_edit held edit) first rest

  come_after : (before items : List Placed) (held : RegisterState) → All (λ one. IsNoEdit one.item) items → AllPairs GoesBefore items
      → Stands feeder (unanswered_of (accepted before)) items held.ops → ComeInOrder held (edits_after feeder register before items)
  come_after before [] held plain order s = tt
  come_after before (one ∷ items) held plain order s =
      let (first, present) = goes before items one.place one.item held (All-head (λ one. IsNoEdit one.item) one items plain) s (λ next k. All-contains (GoesBefore one) items next (λ i d lt. order zero (suc i) d (omega arith) (omega arith)) k) in
      let mine : List AnEdit = edit_answered register (step_of feeder (accepted before) one.place one.item) in
      come_append held mine (edits_after feeder register (before ++ one ∷ []) items) first
      (come_after (before ++ one ∷ []) items (standing held mine) (All-tail (λ one. IsNoEdit one.item) one items plain)
      (λ i j d lt lt'. order (suc i) (suc j) d (omega arith) (omega arith)) present)

  -- before the first item nothing stands and nothing waits
  at_first : (items : List Placed) → Stands feeder (unanswered_of (accepted [])) items []
  at_first items = record {
    following = λ op h. absurd (in_none op h);
    sooner = λ process said w. absurd (cc);
    unended = λ process said w. absurd (cc);
    own = λ p q a b u w. absurd (cc);
  }

  pub plain_in_order : (claim : ClaimModel) (items : List Placed) → IsPlain items → ComeInOrder (unedited claim) (edits_of_items feeder register items)
  plain_in_order claim items trace = come_after [] items (unedited claim) trace.unedited trace.order (at_first items)

pub come_rest : (held : RegisterState) (first rest : List AnEdit) → ComeInOrder held (first ++ rest) → ComeInOrder (standing held first) rest
come_rest held [] rest h = h
come_rest held (edit ∷ first) rest h = come_rest (after_edit held edit) first rest h.1
