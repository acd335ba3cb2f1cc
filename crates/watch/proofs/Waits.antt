-- What is so of the operations of a register and of the invocations that wait, before each item of a plain trace.
use Rattle.std.proofs.Common.{◌≡◌, ◌≢◌, ◌<◌, ◌⊎◌, inl, inr, ℕ, ℤ, Bool, true, false, List, [], ◌∷◌, ◌++◌, map, Option, Some, None, is_some, refl, sym, ap, ◌∙◌, cond, subst, arith}
use Rattle.std.specs.Prelude.{Contains, IfSome, find, unwrap_or, if◌then◌else◌}
use Rattle.std.specs.Option.{option_and_then}
use Rattle.std.proofs.lemmas.List.{reverse-append}
use Rattle.std.proofs.lemmas.List.Elements.{Contains-push_cases}
use Rattle.std.proofs.lemmas.List.Sums.{fold_push}
use Rattle.intervals.specs.declared.operation.Op.{Op}
use Rattle.intervals.specs.declared.operation.OpId.{OpId}
use Rattle.intervals.specs.declared.operation.Moment.{Moment}
use Rattle.intervals.specs.declared.edit.Change.{Change}
use Rattle.intervals.specs.Operation.{is_write, same_id}
use Rattle.intervals.specs.Edit.{amended, changed}
use Rattle.intervals.proofs.Ids.{Decides-same_id_is}
use Rattle.jepsen_form.specs.declared.item.Action.{Action}
use Rattle.jepsen_form.specs.declared.item.Action.TheVariants as actions
use Rattle.pairing.specs.declared.invocation.Invocation.{Invocation}
use Rattle.pairing.specs.Accepted.{Placed, is_event_of, invocation, last_of, unanswered_of, fault_of, with_accepted, accepted}
use Rattle.pairing.specs.Step.{id_of}
use Rattle.watch.specs.Trace.{item_moment, IsNotAfter}
use Rattle.watch.proofs.Members.{here, there, from_map}

-- the unanswered invocation of a process, after one more accepted item
pub unanswered_push : (taken : List Placed) (one : Placed) (process : ℤ) → unanswered_of (taken ++ one ∷ []) process ≡ (if is_event_of process one.item then invocation one else unanswered_of taken process)
unanswered_push taken one process =
    ap (λ (back : List Placed). option_and_then invocation (find (λ one. is_event_of process one.item) back)) (reverse-append taken (one ∷ []))
    ∙ by_cases (is_event_of process one.item)
  where
    by_cases : (t : Bool) → option_and_then invocation (if t then Some one else last_of taken process) ≡ (if t then invocation one else unanswered_of taken process)
    by_cases true = refl
    by_cases false = refl

accepted_push : (items : List Placed) (one : Placed) → accepted (items ++ one ∷ []) ≡ with_accepted (accepted items) one
accepted_push items one = fold_push with_accepted [] items one

pub refused_push : (items : List Placed) (one : Placed) → is_some (fault_of (accepted items) one.item) ≡ true → accepted (items ++ one ∷ []) ≡ accepted items
refused_push items one is = rw (accepted_push items one, is) refl

pub taken_push : (items : List Placed) (one : Placed) → is_some (fault_of (accepted items) one.item) ≡ false → accepted (items ++ one ∷ []) ≡ accepted items ++ one ∷ []
taken_push items one is = rw (accepted_push items one, is) refl

-- whether the action is a write
abbrev pub writes : Action → Bool
writes actions.Read = false
writes actions.Write = true

-- the operation has an earlier place than the item, and no later moment
pub record IsBehind (op : Op) (next : Placed) : Type 0 where
  pub place : op.id.event < next.place
  pub begin : IsNotAfter op.begin (item_moment next.item)
  pub end : IfSome op.end (λ end. IsNotAfter end (item_moment next.item))

-- the operation, if it is that of the invocation, has no end, and does the same
abbrev pub IsOpen : ℕ → Invocation → Op → Type 0
IsOpen feeder said op = op.id ≡ id_of feeder said.place → (op.end ≡ None) × (is_write op ≡ writes said.action)

-- before the items: each operation is behind them, those of waiting invocations are unfinished, and no two processes
-- wait for one invocation
pub record Stands (feeder : ℕ) (waits : ℤ → Option Invocation) (items : List Placed) (ops : List Op) : Type 0 where
  pub following : (op : Op) → Contains ops op → (next : Placed) → Contains items next → IsBehind op next
  pub sooner : (process : ℤ) (said : Invocation) → waits process ≡ Some said → (next : Placed) → Contains items next → said.place < next.place
  pub unended : (process : ℤ) (said : Invocation) → waits process ≡ Some said → (op : Op) → Contains ops op → IsOpen feeder said op
  pub own : (p q : ℤ) (a b : Invocation) → waits p ≡ Some a → waits q ≡ Some b → a.place ≡ b.place → p ≡ q

-- an operation of the id of an invocation has its place
same_place : (feeder : ℕ) (op : Op) (place : ℕ) → op.id ≡ id_of feeder place → op.id.event ≡ place
same_place feeder op place e = ap (λ (id : OpId). id.event) e

module _ (feeder : ℕ) where
  -- one item less comes
  pub later : (waits : ℤ → Option Invocation) (one : Placed) (items : List Placed) (ops : List Op) → Stands feeder waits (one ∷ items) ops → Stands feeder waits items ops
  later waits one items ops s = record {
    following = λ op h next k. s.following op h next (there one items next k);
    sooner = λ process said w next k. s.sooner process said w next (there one items next k);
    unended = s.unended;
    own = s.own;
  }

  -- fewer invocations wait
  pub fewer_wait : (waits others : ℤ → Option Invocation) (items : List Placed) (ops : List Op) → ((process : ℤ) (said : Invocation) → others process ≡ Some said → waits process ≡ Some said) → Stands feeder waits items ops → Stands feeder others items ops
  fewer_wait waits others items ops waited s = record {
    following = s.following;
    sooner = λ process said w. s.sooner process said (waited process said w);
    unended = λ process said w. s.unended process said (waited process said w);
    own = λ p q a b u w. s.own p q a b (waited p a u) (waited q b w);
  }

  -- fewer operations stand
  pub fewer_stand : (waits : ℤ → Option Invocation) (items : List Placed) (ops others : List Op) → ((op : Op) → Contains others op → Contains ops op) → Stands feeder waits items ops → Stands feeder waits items others
  fewer_stand waits items ops others stood s = record {
    following = λ op h. s.following op (stood op h);
    sooner = s.sooner;
    unended = λ process said w op h. s.unended process said w op (stood op h);
    own = s.own;
  }

  -- one more invocation waits, that of the item
  module _ (waits others : ℤ → Option Invocation) (one : Placed) (items : List Placed) (ops : List Op) (process : ℤ) (new : Invocation) (at : new.place ≡ one.place)
      (cases : (p : ℤ) (said : Invocation) → others p ≡ Some said → (waits p ≡ Some said) ⊎ ((p ≡ process) × (said ≡ new)))
      (rises : (next : Placed) → Contains items next → one.place < next.place) (s : Stands feeder waits (one ∷ items) ops) where
    first : Contains (one ∷ items) one
    first = here one items

    not_new : (op : Op) → Contains ops op → op.id ≢ id_of feeder one.place
    not_new op h e = let lt = (s.following op h one first).place in let same = same_place feeder op one.place e in absurd (omega arith)

    older : (p : ℤ) (said : Invocation) → waits p ≡ Some said → said.place ≢ one.place
    older p said w e = let lt = s.sooner p said w one first in absurd (omega arith)

    place_is : (said : Invocation) → said ≡ new → said.place ≡ one.place
    place_is said e = ap (λ (i : Invocation). i.place) e ∙ at

    sooner_still : (p : ℤ) (said : Invocation) → (next : Placed) → Contains items next → (waits p ≡ Some said) ⊎ ((p ≡ process) × (said ≡ new)) → said.place < next.place
    sooner_still p said next k (inl w) = s.sooner p said w next (there one items next k)
    sooner_still p said next k (inr (e, f)) = let is = place_is said f in let lt = rises next k in omega arith

    unended_still : (p : ℤ) (said : Invocation) → (op : Op) → Contains ops op → (waits p ≡ Some said) ⊎ ((p ≡ process) × (said ≡ new)) → IsOpen feeder said op
    unended_still p said op h (inl w) is = s.unended p said w op h is
    unended_still p said op h (inr (e, f)) is = absurd (not_new op h (is ∙ ap (id_of feeder) (place_is said f)))

    own_still : (p q : ℤ) (a b : Invocation) → a.place ≡ b.place → (waits p ≡ Some a) ⊎ ((p ≡ process) × (a ≡ new)) → (waits q ≡ Some b) ⊎ ((q ≡ process) × (b ≡ new)) → p ≡ q
    own_still p q a b same (inl u) (inl w) = s.own p q a b u w same
    own_still p q a b same (inl u) (inr (e, f)) = absurd (older p a u (same ∙ place_is b f))
    own_still p q a b same (inr (e, f)) (inl w) = absurd (older q b w (sym same ∙ place_is a f))
    own_still p q a b same (inr (e, f)) (inr (g, h)) = e ∙ sym g

    pub invoked : Stands feeder others items ops
    invoked = record {
      following = λ op h next k. s.following op h next (there one items next k);
      sooner = λ p said w next k. sooner_still p said next k (cases p said w);
      unended = λ p said w op h. unended_still p said op h (cases p said w);
      own = λ p q a b u w same. own_still p q a b same (cases p a u) (cases q b w);
    }

  -- one more operation stands
  pub appended : (waits : ℤ → Option Invocation) (items : List Placed) (ops : List Op) (op : Op) → ((next : Placed) → Contains items next → IsBehind op next)
      → ((process : ℤ) (said : Invocation) → waits process ≡ Some said → IsOpen feeder said op) → Stands feeder waits items ops → Stands feeder waits items (ops ++ op ∷ [])
  appended waits items ops op after_new open_new s = record {
    following = λ a h next k. following a next k (Contains-push_cases ops op a h);
    sooner = s.sooner;
    unended = λ process said w a h. unended process said w a (Contains-push_cases ops op a h);
    own = s.own;
  }
    where
      following : (a : Op) (next : Placed) → Contains items next → Contains ops a ⊎ (op ≡ a) → IsBehind a next
      following a next k (inl h) = s.following a h next k
      following a next k (inr e) = subst (λ (o : Op). IsBehind o next) e (after_new next k)

      unended : (process : ℤ) (said : Invocation) → waits process ≡ Some said → (a : Op) → Contains ops a ⊎ (op ≡ a) → IsOpen feeder said a
      unended process said w a (inl h) = s.unended process said w a h
      unended process said w a (inr e) = subst (IsOpen feeder said) e (open_new process said w)

  -- an operation that nothing waits for comes to have an end
  module _ (waits : ℤ → Option Invocation) (items : List Placed) (ops : List Op) (id : OpId) (change : Change) (begin : change.begin ≡ None) (end : Moment) (ends : change.end ≡ Some (Some end))
      (latest : (next : Placed) → Contains items next → IsNotAfter end (item_moment next.item))
      (not_waited : (process : ℤ) (said : Invocation) → waits process ≡ Some said → id_of feeder said.place ≢ id) (s : Stands feeder waits items ops) where
    begin_is : (x : Op) → (changed x change).begin ≡ x.begin
    begin_is x = ap (λ (b : Option Moment). unwrap_or b x.begin) begin

    end_is : (x : Op) → (changed x change).end ≡ Some end
    end_is x = ap (λ (e : Option (Option Moment)). unwrap_or e x.end) ends

    changed_after : (x : Op) (next : Placed) → Contains items next → IsBehind x next → IsBehind (changed x change) next
    changed_after x next k b = record {
      place = b.place;
      begin = subst (λ (m : Moment). IsNotAfter m (item_moment next.item)) (sym (begin_is x)) b.begin;
      end = subst (λ (e : Option Moment). IfSome e (λ m. IsNotAfter m (item_moment next.item))) (sym (end_is x)) (latest next k);
    }

    following_after : (x : Op) (next : Placed) → Contains items next → IsBehind x next → (t : Bool) → IsBehind (cond t (changed x change) x) next
    following_after x next k b true = changed_after x next k b
    following_after x next k b false = b

    unended_after : (process : ℤ) (said : Invocation) → waits process ≡ Some said → (x : Op) → IsOpen feeder said x → (t : Bool) → same_id x.id id ≡ t → IsOpen feeder said (cond t (changed x change) x)
    unended_after process said w x is true e = λ f. absurd (not_waited process said w (sym f ∙ (Decides-same_id_is x.id id).0 e))
    unended_after process said w x is false e = is

    pub ended : Stands feeder waits items (map (amended id change) ops)
    ended = record {
      following = λ op h next k. let (x, at, e) = from_map (amended id change) ops op h in
          subst (λ (o : Op). IsBehind o next) e (following_after x next k (s.following x at next k) (same_id x.id id));
      sooner = s.sooner;
      unended = λ process said w op h. let (x, at, e) = from_map (amended id change) ops op h in
          subst (IsOpen feeder said) e (unended_after process said w x (s.unended process said w x at) (same_id x.id id) refl);
      own = s.own;
    }
