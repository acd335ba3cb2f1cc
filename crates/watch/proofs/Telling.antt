-- What a teller was told and wrote, as it goes on.
use Rattle.std.proofs.Common.{◌≡◌, ◌⊎◌, inl, inr, ◌<◌, ◌+◌, ℕ, Bool, true, false, ◌||◌, List, [], ◌∷◌, ◌++◌, Option, Some, None, length, refl, sym, ap, subst, ◌∙◌, arith}
use Rattle.std.specs.Prelude.{Result, Ok, Err, OnOk, slice_index_or, if◌then◌else◌}
use Rattle.std.specs.List.{list_any, remove}
use Rattle.std.specs.Io.KnownBytes.{Appends}
use Rattle.std.proofs.lemmas.List.{append-nil, append_assoc, length-append, map-append}
use Rattle.std.proofs.lemmas.List.Folds.{list_any-append}
use Rattle.tower_file.specs.Contents.{Register}
use Rattle.logs.specs.declared.notice.Notice.{Notice}
use Rattle.watch.specs.declared.run.Terms.{Terms}
use Rattle.watch.specs.declared.settling.Held.{Held}
use Rattle.watch.specs.declared.teller.TellerState.{TellerState}
use Rattle.watch.specs.declared.teller.TellerState.TheVariants.{Going, Stopped, OutOfMemory, Unwritable}
use Rattle.watch.specs.declared.printer.Unwritten.{Unwritten}
use Rattle.watch.specs.declared.printer.Unwritten.TheVariants as unwritten
use Rattle.watch.specs.Settling.{LessPairs, nothing, notices_of, says_fails}
use Rattle.watch.specs.Teller.{AreWrittenIn, HasTold, HasWritten, ArePassedOn, IsStateAfter, IsTold, IsToldAll, IsWritten, IsWrittenOrHeld, PrinterModel, WritesOn, state_after}
use Rattle.watch.specs.Due.{held_notice, held_notices}
use Rattle.watch.specs.declared.doubt.LeftSoFar.{LeftSoFar}
use Rattle.watch.specs.declared.text.NoticeForm.{NoticeForm}
use Rattle.watch.specs.Doubt.{AreLeftFor}
use Rattle.watch.specs.Text.{text_of_notice, texts_after}
use Rattle.watch.specs.Watched.{ends_at}
use Rattle.watch.proofs.Passing.{written_or_held_on, passes_due}

pub appends_none : (now : Option (List ℕ)) → Appends now now []
appends_none None = tt
appends_none (Some bytes) = sym (append-nil bytes)

appends_more : (old mid new : Option (List ℕ)) (first second : List ℕ) → Appends old mid first → Appends mid new second → Appends old new (first ++ second)
appends_more None mid new first second a b = tt
appends_more (Some xs) None new first second a b = absurd a
appends_more (Some xs) (Some ys) None first second a b = b
appends_more (Some xs) (Some ys) (Some zs) first second a b = b ∙ ap (λ (l : List ℕ). l ++ second) a ∙ append_assoc xs first second

none_ends : (until_fail : Bool) (first second : List Notice) → list_any (ends_at until_fail) first ≡ false → list_any (ends_at until_fail) second ≡ false → list_any (ends_at until_fail) (first ++ second) ≡ false
none_ends until_fail first second a b = list_any-append (ends_at until_fail) first second ∙ ap (λ (c : Bool). c || list_any (ends_at until_fail) second) a ∙ b

after_more : (until_fail : Bool) (first second : List Notice) (state : TellerState) → list_any (ends_at until_fail) first ≡ false → IsStateAfter until_fail second state → IsStateAfter until_fail (first ++ second) state
after_more until_fail first second Going none after = none_ends until_fail first second none after
after_more until_fail first second Stopped none after = record {
  before = first ++ after.before;
  last = after.last;
  parts = ap (λ (l : List Notice). first ++ l) after.parts ∙ sym (append_assoc first after.before (after.last ∷ []));
  none = none_ends until_fail first after.before none after.none;
  ends = after.ends;
}
after_more until_fail first second OutOfMemory none after = tt
after_more until_fail first second Unwritable none after = tt

texts_more : (form : NoticeForm) (registers : List Register) (earlier first second : List Notice)
    → texts_after form registers earlier (first ++ second) ≡ texts_after form registers earlier first ++ texts_after form registers (earlier ++ first) second
texts_more form registers earlier [] second = ap (λ (l : List Notice). texts_after form registers l second) (sym (append-nil earlier))
texts_more form registers earlier (notice ∷ first) second =
    let text = text_of_notice form registers earlier notice in
    let more = earlier ++ notice ∷ [] in
    ap (λ (l : List ℕ). text ++ l) (texts_more form registers more first second)
    ∙ sym (append_assoc text (texts_after form registers more first) (texts_after form registers (more ++ first) second))
    ∙ ap (λ (l : List Notice). (text ++ texts_after form registers more first) ++ texts_after form registers l second) (append_assoc earlier (notice ∷ []) first)

pub written_none : (terms : Terms) (registers : List Register) (now : PrinterModel) → WritesOn terms registers [] Going now now
written_none terms registers now earlier are = record {
  texts = λ has. appends_none now.out;
  left = λ told. subst (λ (l : List Notice). AreLeftFor terms.form l now.left) (sym (append-nil earlier)) are;
  after = refl;
}

written_then : (terms : Terms) (registers : List Register) (earlier first second : List Notice) (state : TellerState) (old mid new : Option (List ℕ)) (left_then left : LeftSoFar)
    → IsWritten terms registers earlier first Going old mid left_then → IsWritten terms registers (earlier ++ first) second state mid new left → IsWritten terms registers earlier (first ++ second) state old new left
written_then terms registers earlier first second state old mid new left_then left a b = record {
  texts = λ has. rw (texts_more terms.form registers earlier first second)
      (appends_more old mid new (texts_after terms.form registers earlier first) (texts_after terms.form registers (earlier ++ first) second) (a.texts tt) (b.texts has));
  left = λ told. subst (λ (l : List Notice). AreLeftFor terms.form l left) (append_assoc earlier first second) (b.left told);
  after = after_more terms.until_fail first second state a.after b.after;
}

pub written_more : (terms : Terms) (registers : List Register) (first second : List Notice) (state : TellerState) (old mid new : PrinterModel)
    → WritesOn terms registers first Going old mid → WritesOn terms registers second state mid new → WritesOn terms registers (first ++ second) state old new
written_more terms registers first second state old mid new a b earlier are =
    let one = a earlier are in written_then terms registers earlier first second state old.out mid.out new.out mid.left new.left one (b (earlier ++ first) (one.left tt))

pub told_on : (terms : Terms) (registers : List Register) (before : Option (List ℕ)) (now new : PrinterModel) (told held told_then left added written : List Notice) (state : TellerState)
    → IsTold terms registers before now told held Going → WritesOn terms registers written state now new
    → (HasTold state → told_then ≡ told ++ added) → (HasTold state → ArePassedOn terms.settle held added written left)
    → IsTold terms registers before new told_then left state
told_on terms registers before now new told held told_then left added written state is wrote adds moves = record {
  written = is.written ++ written;
  out = written_then terms registers [] is.written written state before now.out new.out now.left new.left is.out (wrote is.written (is.out.left tt));
  settled = λ has. rw (adds has) (written_or_held_on terms.settle told held is.written added written left (is.settled tt) (moves has));
}

-- what was held back first was written
pub told_due : (terms : Terms) (registers : List Register) (before : Option (List ℕ)) (now new : PrinterModel) (told : List Notice) (held first left : List Held) (state : TellerState)
    → IsTold terms registers before now told (held_notices held) Going → held ≡ first ++ left → WritesOn terms registers (held_notices first) state now new
    → IsTold terms registers before new told (held_notices left) state
told_due terms registers before now new told held first left state is parts wrote =
    told_on terms registers before now new told (held_notices held) told (held_notices left) [] (held_notices first) state is wrote (λ has. sym (append-nil told)) (λ has. passes_due terms.settle held first left parts)

settled_all : (settle : ℕ) (told held written : List Notice) (state : TellerState) → (HasTold state → IsWrittenOrHeld settle told held written) → (state ≡ Going → held ≡ []) → AreWrittenIn state settle told written
settled_all settle told held written Going is none =
    let all : IsWrittenOrHeld settle told [] written = subst (λ (l : List Notice). IsWrittenOrHeld settle told l written) (none refl) (is tt) in record {
      at_once = λ zero. (all.at_once zero).0;
      others = all.others;
      by_register = λ register. let one = all.by_register register in
          subst (λ (l : List Notice). LessPairs says_fails l (notices_of register written)) (sym (one.parts ∙ append-nil one.settled)) one.less;
    }
settled_all settle told held written Stopped is none =
    let some = is tt in record {
      at_once = λ zero. (some.at_once zero).0;
      others = some.others;
      by_register = λ register. (notices_of register held, some.by_register register);
    }
settled_all settle told held written OutOfMemory is none = tt
settled_all settle told held written Unwritable is none = tt

pub told_all_of : (terms : Terms) (registers : List Register) (before : Option (List ℕ)) (now : PrinterModel) (told held : List Notice) (finished : Bool) (state : TellerState)
    → IsTold terms registers before now told held state → (finished ≡ true → state ≡ Going → held ≡ []) → IsToldAll terms registers before now.out told finished state
told_all_of terms registers before now told held finished state is none = record {
  written = is.written;
  texts = is.out.texts;
  after = is.out.after;
  settled = λ over. settled_all terms.settle told held is.written state is.settled (none over);
}

pub told_none : (terms : Terms) (registers : List Register) (before : Option (List ℕ)) (now : PrinterModel) → now.out ≡ before → AreLeftFor terms.form [] now.left → IsTold terms registers before now [] [] Going
told_none terms registers before now same are = record {
  written = [];
  out = record { texts = λ has. subst (λ (out : Option (List ℕ)). Appends before out []) (sym same) (appends_none before); left = λ told. are; after = refl };
  settled = λ has. record { at_once = λ none. (refl, refl); others = refl; by_register = λ register. record { settled = []; parts = refl; less = nothing; held_back = tt } };
}

state_by : (until_fail : Bool) (notice : Notice) (b : Bool) → ends_at until_fail notice ≡ b → IsStateAfter until_fail (notice ∷ []) (if b then Stopped else Going)
state_by until_fail notice true is = record { before = []; last = notice; parts = refl; none = refl; ends = is }
state_by until_fail notice false is = rw is refl

pub written_one : (terms : Terms) (registers : List Register) (result : Result Unit Unwritten) (notice : Notice) (state : TellerState) (old new : PrinterModel) → state ≡ state_after result terms.until_fail notice
    → OnOk result ((earlier : List Notice) → AreLeftFor terms.form earlier old.left → Appends old.out new.out (text_of_notice terms.form registers earlier notice))
    → OnOk result ((earlier : List Notice) → AreLeftFor terms.form earlier old.left → AreLeftFor terms.form (earlier ++ notice ∷ []) new.left)
    → HasTold state → WritesOn terms registers (notice ∷ []) state old new
written_one terms registers (Ok done) notice state old new is appends kept told = λ earlier are. record {
  texts = λ has. rw (append-nil (text_of_notice terms.form registers earlier notice)) (appends earlier are);
  left = λ told. kept earlier are;
  after = rw is (state_by terms.until_fail notice (ends_at terms.until_fail notice) refl);
}
written_one terms registers (Err unwritten.Memory) notice state old new is appends kept told = absurd (subst HasTold is told)
written_one terms registers (Err unwritten.Write) notice state old new is appends kept told = absurd (subst HasTold is told)

told_by : (until_fail : Bool) (notice : Notice) (b : Bool) → HasTold (if b then Stopped else Going)
told_by until_fail notice true = tt
told_by until_fail notice false = tt

pub not_written : (terms : Terms) (registers : List Register) (result : Result Unit Unwritten) (notice : Notice) (state : TellerState) (old new : PrinterModel) → state ≡ state_after result terms.until_fail notice
    → (result ≡ Err unwritten.Memory → new.out ≡ old.out) → (HasTold state → ⊥) → WritesOn terms registers [] state old new
not_written terms registers (Ok done) notice state old new is same none = absurd (none (subst HasTold (sym is) (told_by terms.until_fail notice (ends_at terms.until_fail notice))))
not_written terms registers (Err unwritten.Memory) notice state old new is same none = λ earlier are. record {
  texts = λ has. subst (λ (out : Option (List ℕ)). Appends old.out out []) (sym (same refl)) (appends_none old.out);
  left = λ told. absurd (none told);
  after = rw is tt;
}
not_written terms registers (Err unwritten.Write) notice state old new is same none = λ earlier are. record {
  texts = λ has. absurd (subst HasWritten is has);
  left = λ told. absurd (none told);
  after = rw is tt;
}

-- what a notice had written, or nothing where that was not written
pub taken_one : (terms : Terms) (registers : List Register) (state : TellerState) (old new : PrinterModel) (settle : ℕ) (held left : List Notice) (notice now : Notice)
    → ArePassedOn settle held (notice ∷ []) (now ∷ []) left → (HasTold state → WritesOn terms registers (now ∷ []) state old new) → ((HasTold state → ⊥) → WritesOn terms registers [] state old new)
    → (written : List Notice) × WritesOn terms registers written state old new × (HasTold state → ArePassedOn settle held (notice ∷ []) written left)
taken_one terms registers Going old new settle held left notice now passed wrote none = (now ∷ [], wrote tt, λ told. passed)
taken_one terms registers Stopped old new settle held left notice now passed wrote none = (now ∷ [], wrote tt, λ told. passed)
taken_one terms registers OutOfMemory old new settle held left notice now passed wrote none = ([], none (λ told. told), λ told. absurd told)
taken_one terms registers Unwritable old new settle held left notice now passed wrote none = ([], none (λ told. told), λ told. absurd told)

-- where the first one was written it is not held any longer
pub written_first : (terms : Terms) (registers : List Register) (held left : List Held) (first : Held) (notice : Notice) (state : TellerState) (old new : PrinterModel)
    → 0 < length held → first ≡ slice_index_or held 0 first → notice ≡ held_notice first → left ≡ remove held 0 → HasTold state
    → (HasTold state → WritesOn terms registers (notice ∷ []) state old new)
    → (written : List Held) × (held ≡ written ++ left) × WritesOn terms registers (held_notices written) state old new × (HasTold state → length written ≡ 1)
written_first terms registers [] left first notice state old new some at is rest told wrote = absurd (omega arith)
written_first terms registers (one ∷ held) left first notice state old new some at is rest told wrote =
    (one ∷ [], ap (λ (l : List Held). one ∷ l) (sym rest), rw (sym (is ∙ ap held_notice at)) (wrote told), λ told. refl)

-- where it was not it is
pub written_not : (terms : Terms) (registers : List Register) (held : List Held) (state : TellerState) (old new : PrinterModel) → (HasTold state → ⊥) → ((HasTold state → ⊥) → WritesOn terms registers [] state old new)
    → (written : List Held) × (held ≡ written ++ held) × WritesOn terms registers (held_notices written) state old new × (HasTold state → length written ≡ 1)
written_not terms registers held state old new not wrote = ([], refl, wrote not, λ told. absurd (not told))

-- one more of what was held back first was written
pub written_next : (terms : Terms) (registers : List Register) (held rest left : List Held) (state : TellerState) (old mid new : PrinterModel)
    → ((first : List Held) × (held ≡ first ++ rest) × WritesOn terms registers (held_notices first) Going old mid)
    → ((written : List Held) × (rest ≡ written ++ left) × WritesOn terms registers (held_notices written) state mid new × (HasTold state → length written ≡ 1))
    → (first : List Held) × (held ≡ first ++ left) × WritesOn terms registers (held_notices first) state old new
written_next terms registers held rest left state old mid new before more = (
  before.0 ++ more.0,
  before.1 ∙ ap (λ (l : List Held). before.0 ++ l) more.1 ∙ sym (append_assoc before.0 more.0 left),
  rw (map-append held_notice before.0 more.0) (written_more terms registers (held_notices before.0) (held_notices more.0) state old mid new before.2 more.2),
)

pub one_less : (rest left : List Held) (state : TellerState) (Wrote : List Held → Type 0) → HasTold state → ((written : List Held) × (rest ≡ written ++ left) × Wrote written × (HasTold state → length written ≡ 1)) → length rest ≡ 1 + length left
one_less rest left state Wrote told more = ap (length {A = Held}) more.1 ∙ length-append more.0 left ∙ ap (λ (n : ℕ). n + length left) (more.3 told)

pub written_on : (terms : Terms) (registers : List Register) (held rest left : List Held) (state : TellerState) (old mid new : PrinterModel) → state ≡ Going
    → ((first : List Held) × (held ≡ first ++ rest) × WritesOn terms registers (held_notices first) Going old mid)
    → ((written : List Held) × (rest ≡ written ++ left) × WritesOn terms registers (held_notices written) state mid new × (HasTold state → length written ≡ 1))
    → (first : List Held) × (held ≡ first ++ left) × WritesOn terms registers (held_notices first) Going old new
written_on terms registers held rest left state old mid new going before more =
    subst (λ (s : TellerState). (first : List Held) × (held ≡ first ++ left) × WritesOn terms registers (held_notices first) s old new) going (written_next terms registers held rest left state old mid new before more)

-- what was held back first was written by a teller that went on
pub told_due_by : (terms : Terms) (registers : List Register) (before : Option (List ℕ)) (now new : PrinterModel) (told : List Notice) (held left : List Held) (state_then state : TellerState) → state_then ≡ Going
    → IsTold terms registers before now told (held_notices held) state_then
    → ((first : List Held) × (held ≡ first ++ left) × WritesOn terms registers (held_notices first) state now new)
    → IsTold terms registers before new told (held_notices left) state
told_due_by terms registers before now new told held left state_then state going is wrote =
    told_due terms registers before now new told held wrote.0 left state
    (subst (λ (s : TellerState). IsTold terms registers before now told (held_notices held) s) going is) wrote.1 wrote.2

-- a notice was taken by a teller that went on
pub told_more : (terms : Terms) (registers : List Register) (before : Option (List ℕ)) (now new : PrinterModel) (told held told_then left : List Notice) (notice : Notice) (state_then state : TellerState) → state_then ≡ Going
    → IsTold terms registers before now told held state_then
    → (HasTold state → told_then ≡ told ++ notice ∷ [])
    → ((written : List Notice) × WritesOn terms registers written state now new × (HasTold state → ArePassedOn terms.settle held (notice ∷ []) written left))
    → IsTold terms registers before new told_then left state
told_more terms registers before now new told held told_then left notice state_then state going is adds wrote =
    told_on terms registers before now new told held told_then left (notice ∷ []) wrote.0 state
    (subst (λ (s : TellerState). IsTold terms registers before now told held s) going is) wrote.1 adds wrote.2

pub not_going : (state : TellerState) → (state ≡ Stopped) ⊎ ((state ≡ OutOfMemory) ⊎ (state ≡ Unwritable)) → state ≡ Going → ⊥
not_going state (inl is) going = absurd (cc)
not_going state (inr (inl is)) going = absurd (cc)
not_going state (inr (inr is)) going = absurd (cc)
