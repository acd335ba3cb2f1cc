-- The error of a check is the refusal, and the first refusal that is there.
use Rattle.std.proofs.Common.{◌≡◌, ◌∷◌, [], true, false, List, Option, Some, None, Result, Ok, Err, IfOk, OnErr, refl, sym}
use Rattle.std.specs.Prelude.{is_some}
use Rattle.std.specs.Result.{result_err}
use Rattle.intervals.specs.declared.refusal.Refusal.{Refusal}
use Rattle.intervals.specs.Refusal.{first_present, ok_unless}

pub err_ok_unless : (refusal : Option Refusal) → result_err (ok_unless refusal) ≡ refusal
err_ok_unless None = refl
err_ok_unless (Some refusal) = refl

-- what is found is the first that is there, if it is there and is the first of the list
pub is_first : (found first : Option Refusal) (rest : List (Option Refusal)) → found ≡ first → is_some found ≡ true → found ≡ first_present (first ∷ rest)
is_first (Some refusal) (Some other) rest is some = is
is_first (Some refusal) None rest is some = absurd (cc)
is_first None first rest is some = absurd (cc)

-- where the first of the list is not there, what is found among the others is found
pub is_later : (found missed first : Option Refusal) (rest : List (Option Refusal)) → missed ≡ first → is_some missed ≡ false → found ≡ first_present rest
    → found ≡ first_present (first ∷ rest)
is_later found None None rest is none later = later
is_later found None (Some refusal) rest is none later = absurd (cc)
is_later found (Some refusal) first rest is none later = absurd (cc)

-- the only one of a list
pub is_only : (found only : Option Refusal) → found ≡ only → found ≡ first_present (only ∷ [])
is_only found None is = is
is_only found (Some refusal) is = is

pub if_ok : {E : Type 0} (result : Result (Option Refusal) E) (one other : Option Refusal) → ((found : Option Refusal) → found ≡ one → found ≡ other)
    → IfOk result (λ found. found ≡ one) → IfOk result (λ found. found ≡ other)
if_ok (Ok found) one other more is = more found is
if_ok (Err error) one other more is = tt

pub on_err : {E : Type 0} (result : Result (Option Refusal) E) (one other : Option Refusal) → ((found : Option Refusal) → found ≡ one → found ≡ other)
    → OnErr result (one ≡ None) → OnErr result (other ≡ None)
on_err (Ok found) one other more is = tt
on_err (Err error) one other more is = sym (more None (sym is))
