-- What edits that read the same come to, and what a doing's reply says of its refusal.
use Rattle.std.proofs.Common.{◌≡◌, ◌⊎◌, Bool, true, false, not, ◌||◌, List, [], ◌∷◌, ◌++◌, map, refl, sym, ap, subst, ◌∙◌, inl, inr, IsTrue}
use Rattle.std.specs.Prelude.{is_some}
use Rattle.std.proofs.lemmas.List.{append-nil, append_assoc}
use Rattle.intervals.specs.declared.edit.Lent.TheVariants.{Answer}
use Rattle.intervals.specs.declared.edit.Edit.{Edit}
use Rattle.intervals.specs.declared.edit.Edit.TheVariants.{Append, Amend, Withdraw, Claim}
use Rattle.intervals.specs.Terms.{ClaimModel, RegisterState, unedited}
use Rattle.intervals.specs.Bare.{bare_edit, bare_held, no_text, no_parts}
use Rattle.intervals.specs.Refusal.{reply_to, standing}
use Rattle.register_book.specs.declared.reply.Reply.{Reply}
use Rattle.register_book.specs.declared.reply.Reply.TheVariants.{Accepted, Refused}
use Rattle.register_book.specs.Reply.{IsReply}
use Rattle.shards.specs.Journal.{EachAfter, is_accepted}
use Rattle.shards.specs.Plain.{PlainEdit, append, amend, withdraw, claim_to, plain_edit}

-- the edit without its texts, of the edit as it reads
abbrev pub bare_of : PlainEdit → Edit
bare_of (append op) = Append (record { id = op.id; process = op.process; act = op.act; begin = op.begin; end = op.end; parts = no_parts })
bare_of (amend id change) = Amend id (record { value = change.value; begin = change.begin; end = change.end; lent = Answer no_text })
bare_of (withdraw id) = Withdraw id
bare_of (claim_to kind) = Claim kind

bare_as_read : (edit : Edit) → bare_edit edit ≡ bare_of (plain_edit edit)
bare_as_read (Append op) = refl
bare_as_read (Amend id change) = refl
bare_as_read (Withdraw id) = refl
bare_as_read (Claim kind) = refl

-- edits that read the same are the same without their texts
pub same_bare : (edit other : Edit) → plain_edit edit ≡ plain_edit other → bare_edit edit ≡ bare_edit other
same_bare edit other same = bare_as_read edit ∙ ap bare_of same ∙ sym (bare_as_read other)

-- an edit was refused exactly where a refusal is its reply
pub refusal_of : (held : RegisterState) (edit : Edit) (reply : Reply) → IsReply held edit reply → not (is_accepted reply) ≡ is_some (reply_to held edit)
refusal_of held edit (Accepted holds) is = sym (ap is_some is.0)
refusal_of held edit (Refused refusal) is = sym (ap is_some is)

-- edits that are the same without their texts get one reply
pub one_reply : (claim : ClaimModel)
    (reply : (held : RegisterState) (edit : Edit) → reply_to (bare_held held) (bare_edit edit) ≡ reply_to held edit)
    (stood : (edits : List Edit) → bare_held (standing (unedited claim) (map bare_edit edits)) ≡ bare_held (standing (unedited claim) edits))
    (edits others : List Edit) (edit other : Edit) → map bare_edit edits ≡ map bare_edit others → bare_edit edit ≡ bare_edit other
    → reply_to (standing (unedited claim) edits) edit ≡ reply_to (standing (unedited claim) others) other
one_reply claim reply stood edits others edit other same alike =
    let one : RegisterState = standing (unedited claim) edits in
    let two : RegisterState = standing (unedited claim) others in
    let held : bare_held one ≡ bare_held two = sym (stood edits) ∙ ap (λ (e : List Edit). bare_held (standing (unedited claim) e)) same ∙ stood others in
    sym (reply one edit)
    ∙ ap (λ (h : RegisterState). reply_to h (bare_edit edit)) held
    ∙ ap (reply_to (bare_held two)) alike
    ∙ reply two other

-- each element of a list has the relation to those before it
pub after_front : {X : Type 0} (R : List X → X → Type 0) (before front : List X) (x : X) (rest : List X) → EachAfter R before (front ++ x ∷ rest) → R (before ++ front) x
after_front {X = X} R before [] x rest each = subst (λ (l : List X). R l x) (sym (append-nil before)) each.0
after_front {X = X} R before (y ∷ front) x rest each = subst (λ (l : List X). R l x) (append_assoc before (y ∷ []) front) (after_front R (before ++ y ∷ []) front x rest each.1)

pub front_of : {X : Type 0} (R : List X → X → Type 0) (before front rest : List X) → EachAfter R before (front ++ rest) → EachAfter R before front
front_of R before [] rest each = tt
front_of R before (x ∷ front) rest each = (each.0, front_of R (before ++ x ∷ []) front rest each.1)

-- of a test, or another after it
pub either_true : (a b : Bool) → IsTrue (a || b) → IsTrue a ⊎ IsTrue b
either_true true b is = inl is
either_true false b is = inr is

pub true_either : (a b : Bool) → IsTrue a ⊎ IsTrue b → IsTrue (a || b)
true_either true b is = refl
true_either false b (inl is) = cc
true_either false b (inr is) = is
