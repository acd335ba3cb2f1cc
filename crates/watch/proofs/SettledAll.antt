-- What was written of a register, as the changes by the entries of its shard's journal.
use Rattle.std.proofs.Common.{◌≡◌, ◌<◌, ◌%◌, ◌==◌, ℕ, Bool, true, false, cond, List, [], ◌∷◌, Option, Some, None, refl, ap, arith, subst}
use Rattle.std.specs.Prelude.{filter_map}
use Rattle.std.proofs.lemmas.Bool.Decides.{nat_tests}
use Rattle.tower_file.specs.Contents.{TowerModel}
use Rattle.shards.specs.declared.entry.VerdictChange.{VerdictChange}
use Rattle.shards.specs.Closing.{ClosedShard, journal_of}
use Rattle.shards.specs.VerdictChange.{AreVerdictChanges}
use Rattle.logs.specs.declared.log.Log.{Log}
use Rattle.logs.specs.declared.notice.Notice.{Notice}
use Rattle.logs.specs.declared.notice.Notice.TheVariants.{Changed, Refused, Broke, Ended}
use Rattle.logs.specs.Run.{plan_of_run}
use Rattle.watch.specs.declared.run.Terms.{Terms}
use Rattle.watch.specs.Settling.{LessPairs, nothing, kept, healed, change_fails, changes_on, is_no_change, notices_of, says_fails}
use Rattle.watch.specs.Watched.{IsWatched, changes_in}
use Rattle.watch.proofs.ToldAll.{told_all}

-- the change that a notice tells
abbrev pub change_said : Notice → Option VerdictChange
change_said (Changed feeder place line change) = Some change
change_said (Refused feeder place line left_out) = None
change_said (Broke feeder broken line) = None
change_said (Ended feeder elements) = None

abbrev pub AreChanges : List Notice → Type 0
AreChanges [] = Unit {0}
AreChanges (notice ∷ notices) = (is_no_change notice ≡ false) × AreChanges notices

pub are_changes : (register : ℕ) (notices : List Notice) → AreChanges (notices_of register notices)
are_changes register [] = tt
are_changes register (Changed feeder place line change ∷ notices) = go (change.register.0 == register) (are_changes register notices)
  where
    go : (b : Bool) → AreChanges (notices_of register notices) → AreChanges (cond b (Changed feeder place line change ∷ notices_of register notices) (notices_of register notices))
    go true rest = (refl, rest)
    go false rest = rest
are_changes register (Refused feeder place line left_out ∷ notices) = are_changes register notices
are_changes register (Broke feeder broken line ∷ notices) = are_changes register notices
are_changes register (Ended feeder elements ∷ notices) = are_changes register notices

pub less_said : (all left : List Notice) → AreChanges all → LessPairs says_fails all left → LessPairs change_fails (filter_map change_said all) (filter_map change_said left)
less_said _ _ are nothing = nothing
less_said _ _ are (kept (Changed feeder place line change) less) = kept change (less_said _ _ are.1 less)
less_said _ _ are (kept (Refused feeder place line left_out) less) = less_said _ _ are.1 less
less_said _ _ are (kept (Broke feeder broken line) less) = less_said _ _ are.1 less
less_said _ _ are (kept (Ended feeder elements) less) = less_said _ _ are.1 less
less_said _ _ are (healed (Changed feeder place line change) (Changed other later other_line next) fail hold less) = healed change next fail hold (less_said _ _ are.1.1 less)
less_said _ _ are (healed (Changed feeder place line change) (Refused other later other_line left_out) fail hold less) = absurd (let is = are.1.0 in cc)
less_said _ _ are (healed (Changed feeder place line change) (Broke other broken other_line) fail hold less) = absurd (let is = are.1.0 in cc)
less_said _ _ are (healed (Changed feeder place line change) (Ended other elements) fail hold less) = absurd (let is = are.1.0 in cc)
less_said _ _ are (healed (Refused feeder place line left_out) next fail hold less) = absurd (cc)
less_said _ _ are (healed (Broke feeder broken line) next fail hold less) = absurd (cc)
less_said _ _ are (healed (Ended feeder elements) next fail hold less) = absurd (cc)

pub same_shard : (a register n : ℕ) → (a == register) ≡ true → (a % n == register % n) ≡ true
same_shard a register n is =
    let e : a ≡ register = grind (arith, nat_tests) in
    let f : a % n ≡ register % n = ap (λ (k : ℕ). k % n) e in grind (arith, nat_tests)

on_one : (n register feeder place line : ℕ) (change : VerdictChange) (notices : List Notice) (b t : Bool) → (change.register.0 == register) ≡ b → (change.register.0 % n == register % n) ≡ t → (b ≡ true → t ≡ true)
    → changes_on register (changes_in n (register % n) notices) ≡ filter_map change_said (notices_of register notices)
    → changes_on register (changes_in n (register % n) (Changed feeder place line change ∷ notices)) ≡ filter_map change_said (notices_of register (Changed feeder place line change ∷ notices))
on_one n register feeder place line change notices true true is within sub rest = rw (within, is) (ap (λ (l : List VerdictChange). change ∷ l) rest)
on_one n register feeder place line change notices true false is within sub rest = absurd (let no = sub refl in cc)
on_one n register feeder place line change notices false true is within sub rest = rw (within, is) rest
on_one n register feeder place line change notices false false is within sub rest = rw (within, is) rest

pub on_said : (n register : ℕ) (notices : List Notice) → changes_on register (changes_in n (register % n) notices) ≡ filter_map change_said (notices_of register notices)
on_said n register [] = refl
on_said n register (Changed feeder place line change ∷ notices) =
    on_one n register feeder place line change notices (change.register.0 == register) (change.register.0 % n == register % n) refl refl (same_shard change.register.0 register n) (on_said n register notices)
on_said n register (Refused feeder place line left_out ∷ notices) = on_said n register notices
on_said n register (Broke feeder broken line ∷ notices) = on_said n register notices
on_said n register (Ended feeder elements ∷ notices) = on_said n register notices

pub settled_of : (tower : TowerModel) (terms : Terms) (left : List (Option (List ℕ))) (closed : List ClosedShard) (logs : List Log) (old new : Option (List ℕ))
    → (watched : IsWatched tower terms left closed logs false old new) → 0 < terms.shards → (register : ℕ)
    → (changes : List VerdictChange) × AreVerdictChanges (plan_of_run tower terms.shards watched.traces) (journal_of closed (register % terms.shards)) changes
    × LessPairs change_fails (changes_on register changes) (changes_on register (changes_in terms.shards (register % terms.shards) watched.notices))
settled_of tower terms left closed logs old new watched some register =
    let at = register % terms.shards in (
      changes_in terms.shards at watched.told,
      told_all tower terms left closed logs old new watched at (omega arith),
      rw (on_said terms.shards register watched.told, on_said terms.shards register watched.notices)
          (less_said (notices_of register watched.told) (notices_of register watched.notices) (are_changes register watched.told) (watched.settled.by_register register)),
    )

pub told_at_once : (tower : TowerModel) (terms : Terms) (left : List (Option (List ℕ))) (closed : List ClosedShard) (logs : List Log) (old new : Option (List ℕ))
    → (watched : IsWatched tower terms left closed logs false old new) → terms.settle ≡ 0 → (at : ℕ) → at < terms.shards
    → AreVerdictChanges (plan_of_run tower terms.shards watched.traces) (journal_of closed at) (changes_in terms.shards at watched.notices)
told_at_once tower terms left closed logs old new watched none at within =
    subst (λ (notices : List Notice). AreVerdictChanges (plan_of_run tower terms.shards watched.traces) (journal_of closed at) (changes_in terms.shards at notices))
    (watched.settled.at_once none) (told_all tower terms left closed logs old new watched at within)
