-- What a run leaves of its traces, by the closed journals.
use Rattle.std.proofs.Common.{◌≡◌, inr, ℕ, zero, suc, ◌+◌, ◌<◌, List, [], ◌∷◌, Option, length, get_or, map, refl, sym, ap, subst, ◌∙◌, arith}
use Rattle.std.specs.Prelude.{Contains}
use Rattle.std.specs.List.{AllByRecursion, range_with_len}
use Rattle.std.proofs.lemmas.List.{length-map}
use Rattle.std.proofs.lemmas.List.Elements.{Contains-get_or, recursion_from_All}
use Rattle.tower_file.specs.Contents.{TowerModel}
use Rattle.jepsen_form.specs.declared.item.MomentField.{MomentField}
use Rattle.shards.specs.Plain.{plain_numbered}
use Rattle.shards.specs.Plan.{Plan, plan_of}
use Rattle.shards.specs.Pass.{IsPassOf, PassModel, new_pass, own_entries}
use Rattle.shards.specs.Merge.{entries_of}
use Rattle.shards.specs.Closing.{AreComplete, AreItsPasses, ClosedShard, IsClosed, IsUnfinished, journal_of}
use Rattle.shards.specs.declared.fault.ShardFault.{ShardFault}
use Rattle.shards.specs.declared.fault.ShardFault.TheVariants as faults
use Rattle.feeders.specs.declared.outcome.FeederOutcome.{FeederOutcome}
use Rattle.logs.specs.declared.log.Log.{Log}
use Rattle.logs.specs.Doings.{entered_in}
use Rattle.feeders.specs.declared.fault.RunFault.{RunFault}
use Rattle.feeders.specs.Ending.{IsEndedAtClose, MayEnd, ended_by}
use Rattle.feeders.specs.Progress.{AreFedBy, AreReadAndFed, IsFed, IsReadAndFed}
use Rattle.feeders.specs.Readers.{AreReadOf}
use Rattle.logs.specs.Run.{EachNumbered, IsRun, IsTraced, plan_of_run}
use Rattle.logs.specs.Start.{first_start}
use Rattle.feeders.specs.Setting.{setting_of}

-- the entries of a pass's feeder in the journal of a shard read as those that the pass submitted there
abbrev IsMergedAt : List ClosedShard → ℕ → PassModel → Type 0
IsMergedAt closed at pass = map plain_numbered (entries_of pass.feeder (journal_of closed at)) ≡ map plain_numbered (own_entries pass at)

abbrev IsMergedBelow : ℕ → List ClosedShard → FeederOutcome → Type 0
IsMergedBelow shards closed fed = (at : ℕ) → at < shards → IsMergedAt closed at fed.pass

merged_each : (shards : ℕ) (closed : List ClosedShard) (outcomes : List FeederOutcome)
    → ((at : ℕ) → at < shards → AllByRecursion (IsMergedAt closed at) (map (λ fed. fed.pass) outcomes)) → AllByRecursion (IsMergedBelow shards closed) outcomes
merged_each shards closed [] merged = tt
merged_each shards closed (fed ∷ outcomes) merged = (λ at below. (merged at below).0, merged_each shards closed outcomes (λ at below. (merged at below).1))

merged_of : (plan : Plan) (closed : List ClosedShard) (outcomes : List FeederOutcome) → IsClosed plan (map (λ fed. fed.pass) outcomes) closed → AllByRecursion (IsMergedBelow plan.shards closed) outcomes
merged_of plan closed outcomes is = merged_each plan.shards closed outcomes
    (λ at below. recursion_from_All (IsMergedAt closed at) (map (λ fed. fed.pass) outcomes) (is.finished at (omega (arith, is.many))).merge.of_each)

module _ {X : Type 0} (of : X → List ℕ) (plan : Plan) (tower : TowerModel) (chosen : MomentField) (closed : List ClosedShard) where
  one_traced : (feeder : ℕ) (trace : List ℕ) (fed : FeederOutcome) → IsFed (setting_of plan tower chosen (first_start feeder)) trace fed → IsMergedBelow plan.shards closed fed
      → IsTraced plan tower chosen closed feeder trace fed.log
  one_traced feeder trace fed is merged = record {
    items = is.items;
    are = is.are;
    doings = is.done.doings;
    done = is.done.done;
    entries = λ at below. subst
        (λ (number : ℕ). map plain_numbered (entries_of number (journal_of closed at)) ≡ map plain_numbered (entered_in plan.shards feeder at is.done.doings))
        is.done.feeder_is
        (merged at below ∙ ap (map plain_numbered) (is.done.own at below));
  }

  each_traced : (number : ℕ) (traces : List X) (outcomes : List FeederOutcome)
      → AreFedBy (λ feeder trace fed. IsFed (setting_of plan tower chosen (first_start feeder)) (of trace) fed) (map (new_pass plan) (range_with_len number (length traces))) traces outcomes → AllByRecursion (IsMergedBelow plan.shards closed) outcomes
      → EachNumbered (IsTraced plan tower chosen closed) number (map of traces) (map (λ fed. fed.log) outcomes)
  each_traced number [] [] are merged = tt
  each_traced number [] (fed ∷ outcomes) are merged = absurd are
  each_traced number (trace ∷ traces) [] are merged = absurd are
  each_traced number (trace ∷ traces) (fed ∷ outcomes) are merged = (one_traced number (of trace) fed are.0 merged.0, each_traced (number + 1) traces outcomes are.1 merged.1)

-- a run: an auditor gave passes, traces were fed with them, and the auditor was closed
pub run_of : {X : Type 0} (of : X → List ℕ) (plan : Plan) (tower : TowerModel) (chosen : MomentField) (shards : ℕ) (traces : List X) (opened : List PassModel) (outcomes : List FeederOutcome) (passes : List PassModel) (logs : List Log) (closed : List ClosedShard)
    → plan ≡ plan_of 0 tower shards (length traces) → opened ≡ map (new_pass plan) (range_with_len 0 (length traces)) → AreFedBy (λ feeder trace fed. IsFed (setting_of plan tower chosen (first_start feeder)) (of trace) fed) opened traces outcomes
    → passes ≡ map (λ fed. fed.pass) outcomes → logs ≡ map (λ fed. fed.log) outcomes → IsClosed plan passes closed
    → IsRun tower chosen shards (map of traces) closed logs
run_of {X} of plan tower chosen shards traces opened outcomes passes logs closed opening fresh_ones fed passes_are logs_are is =
    let same : plan ≡ plan_of_run tower shards (map of traces) = opening ∙ ap (plan_of 0 tower shards) (sym (length-map traces of)) in
    let traced : EachNumbered (IsTraced plan tower chosen closed) 0 (map of traces) (map (λ (fed : FeederOutcome). fed.log) outcomes) =
    each_traced of plan tower chosen closed 0 traces outcomes (subst (λ (ps : List PassModel). AreFedBy (λ feeder trace fed. IsFed (setting_of plan tower chosen (first_start feeder)) (of trace) fed) ps traces outcomes) fresh_ones fed)
    (merged_of plan closed outcomes (subst (λ (ps : List PassModel). IsClosed plan ps closed) passes_are is)) in
    record {
      passes = passes;
      finished = subst (λ (p : Plan). IsClosed p passes closed) same is;
      traced = subst (λ (p : Plan). EachNumbered (IsTraced p tower chosen closed) 0 (map of traces) logs) same
          (subst (EachNumbered (IsTraced plan tower chosen closed) 0 (map of traces)) (sym logs_are) traced);
    }

-- a run of a lone feeder: what was read of its reader was fed, and its registers were closed
pub run_alone : (plan : Plan) (tower : TowerModel) (chosen : MomentField) (shards : ℕ) (left : Option (List ℕ)) (pass : PassModel) (log : Log) (logs : List Log) (closed : List ClosedShard)
    → plan ≡ plan_of 0 tower shards 1 → IsReadAndFed (setting_of plan tower chosen (first_start 0)) left (record { pass = pass; log = log })
    → logs ≡ log ∷ [] → IsClosed plan (pass ∷ []) closed
    → (traces : List (List ℕ)) × AreReadOf (left ∷ []) logs traces × IsRun tower chosen shards traces closed logs
run_alone plan tower chosen shards left pass log logs closed opening fed logs_are is =
    let outcome : FeederOutcome = record { pass = pass; log = log } in
    let traces : List (List ℕ) = fed.trace ∷ [] in (
      traces,
      subst (λ (ls : List Log). AreReadOf (left ∷ []) ls traces) (sym logs_are) (fed.of, tt),
      run_of (λ (trace : List ℕ). trace) plan tower chosen shards traces (map (new_pass plan) (range_with_len 0 1)) (outcome ∷ []) (pass ∷ []) logs closed opening refl (fed.is_fed, tt) refl logs_are is,
    )

module _ {X : Type 0} (of : X → List ℕ) (plan : Plan) (tower : TowerModel) (chosen : MomentField) where
  as_many : (number : ℕ) (traces : List X) (outcomes : List FeederOutcome) → AreFedBy (λ feeder trace fed. IsFed (setting_of plan tower chosen (first_start feeder)) (of trace) fed) (map (new_pass plan) (range_with_len number (length traces))) traces outcomes → length outcomes ≡ length traces
  as_many number [] [] are = refl
  as_many number [] (fed ∷ outcomes) are = absurd are
  as_many number (trace ∷ traces) [] are = absurd are
  as_many number (trace ∷ traces) (fed ∷ outcomes) are = ap suc (as_many (number + 1) traces outcomes are.1)

  -- each pass is the auditor's, and its feeder is its place
  passed_at : (number : ℕ) (traces : List X) (outcomes : List FeederOutcome) → AreFedBy (λ feeder trace fed. IsFed (setting_of plan tower chosen (first_start feeder)) (of trace) fed) (map (new_pass plan) (range_with_len number (length traces))) traces outcomes
      → (i : ℕ) (d : PassModel) → i < length (map (λ fed. fed.pass) outcomes) → IsPassOf plan (get_or (map (λ fed. fed.pass) outcomes) i d) × ((get_or (map (λ fed. fed.pass) outcomes) i d).feeder ≡ number + i)
  passed_at number [] [] are i d below = absurd (omega arith)
  passed_at number [] (fed ∷ outcomes) are i d below = absurd are
  passed_at number (trace ∷ traces) [] are i d below = absurd are
  passed_at number (trace ∷ traces) (fed ∷ outcomes) are zero d below = (are.0.done.of_plan, are.0.done.feeder_is ∙ omega arith)
  passed_at number (trace ∷ traces) (fed ∷ outcomes) are (suc i) d below =
      let rest : IsPassOf plan (get_or (map (λ (fed : FeederOutcome). fed.pass) outcomes) i d) × ((get_or (map (λ (fed : FeederOutcome). fed.pass) outcomes) i d).feeder ≡ number + 1 + i) = passed_at (number + 1) traces outcomes are.1 i d (omega arith) in
      (rest.0, rest.1 ∙ omega arith)

  its_passes : (traces : List X) (outcomes : List FeederOutcome) → AreFedBy (λ feeder trace fed. IsFed (setting_of plan tower chosen (first_start feeder)) (of trace) fed) (map (new_pass plan) (range_with_len 0 (length traces))) traces outcomes → AreItsPasses plan (map (λ fed. fed.pass) outcomes)
  its_passes traces outcomes are = record {
    each = λ k d below. (passed_at 0 traces outcomes are k d below).0;
    apart = λ i j d lesser below same.
        let first = (passed_at 0 traces outcomes are i d (omega arith)).1 in
        let second = (passed_at 0 traces outcomes are j d below).1 in
        omega (arith, first, second, same, lesser);
  }

  complete : (traces : List X) (outcomes : List FeederOutcome) → plan.feeders ≡ length traces → AreFedBy (λ feeder trace fed. IsFed (setting_of plan tower chosen (first_start feeder)) (of trace) fed) (map (new_pass plan) (range_with_len 0 (length traces))) traces outcomes → AreComplete plan.feeders (map (λ fed. fed.pass) outcomes)
  complete traces outcomes many are feeder below =
      let passes : List PassModel = map (λ (fed : FeederOutcome). fed.pass) outcomes in
      let within : feeder < length passes = omega (arith, length-map outcomes (λ (fed : FeederOutcome). fed.pass), as_many 0 traces outcomes are) in
      let there : Contains passes (get_or passes feeder (new_pass plan 0)) = Contains-get_or passes feeder (new_pass plan 0) within in
      (there.0, get_or passes feeder (new_pass plan 0), there.1, there.2, (passed_at 0 traces outcomes are feeder (new_pass plan 0) within).1 ∙ omega arith)

closing_ends : (plan : Plan) (passes : List PassModel) (fault : ShardFault) → AreItsPasses plan passes → AreComplete plan.feeders passes → IsUnfinished plan plan.feeders passes fault → MayEnd plan (ended_by fault)
closing_ends plan passes faults.UnknownRegister its all is = absurd is.fault_is
closing_ends plan passes faults.Memory its all is = tt
closing_ends plan passes (faults.JournalBehind at seen found) its all is = inr (passes, is)
closing_ends plan passes (faults.PassMissing feeder) its all is = is.fault_is.1.1 (all feeder is.fault_is.1.0)
closing_ends plan passes (faults.Stranger at feeder number) its all is = (passes, is)
closing_ends plan passes faults.ForeignPass its all is = is.fault_is its

-- why an auditor may fail to close that is given its own passes, one for each feeder
pub may_end : {X : Type 0} (of : X → List ℕ) (plan : Plan) (tower : TowerModel) (chosen : MomentField) (traces : List X) (opened : List PassModel) (outcomes : List FeederOutcome) (passes : List PassModel) (ended : RunFault)
    → plan.feeders ≡ length traces → opened ≡ map (new_pass plan) (range_with_len 0 (length traces)) → AreFedBy (λ feeder trace fed. IsFed (setting_of plan tower chosen (first_start feeder)) (of trace) fed) opened traces outcomes
    → passes ≡ map (λ fed. fed.pass) outcomes → IsEndedAtClose plan passes ended → MayEnd plan ended
may_end {X} of plan tower chosen traces opened outcomes passes ended many fresh_ones fed passes_are is =
    let are : AreFedBy (λ feeder trace fed. IsFed (setting_of plan tower chosen (first_start feeder)) (of trace) fed) (map (new_pass plan) (range_with_len 0 (length traces))) traces outcomes = subst (λ (ps : List PassModel). AreFedBy (λ feeder trace fed. IsFed (setting_of plan tower chosen (first_start feeder)) (of trace) fed) ps traces outcomes) fresh_ones fed in
    subst (MayEnd plan) (sym is.2)
    (closing_ends plan passes is.0
    (subst (AreItsPasses plan) (sym passes_are) (its_passes of plan tower chosen traces outcomes are))
    (subst (AreComplete plan.feeders) (sym passes_are) (complete of plan tower chosen traces outcomes many are)) is.1)

-- the traces that were read of these readers, each of which was fed
pub record WereRead (plan : Plan) (tower : TowerModel) (chosen : MomentField) (passes : List PassModel) (lefts : List (Option (List ℕ))) (outcomes : List FeederOutcome) : Type 0 where
  pub traces : List (List ℕ)
  pub are_read : AreReadOf lefts (map (λ fed. fed.log) outcomes) traces
  pub are_fed : AreFedBy (λ feeder trace fed. IsFed (setting_of plan tower chosen (first_start feeder)) trace fed) passes traces outcomes
  pub many : length traces ≡ length lefts

pub read_of : (plan : Plan) (tower : TowerModel) (chosen : MomentField) (passes : List PassModel) (lefts : List (Option (List ℕ))) (outcomes : List FeederOutcome)
    → AreReadAndFed plan tower chosen passes lefts outcomes → WereRead plan tower chosen passes lefts outcomes
read_of plan tower chosen [] [] [] are = record { traces = []; are_read = tt; are_fed = tt; many = refl }
read_of plan tower chosen (pass ∷ passes) (left ∷ lefts) (fed ∷ outcomes) are =
    let rest = read_of plan tower chosen passes lefts outcomes are.1 in
    record { traces = are.0.trace ∷ rest.traces; are_read = (are.0.of, rest.are_read); are_fed = (are.0.is_fed, rest.are_fed); many = ap suc rest.many }
read_of plan tower chosen [] [] (fed ∷ outcomes) are = absurd are
read_of plan tower chosen [] (left ∷ lefts) [] are = absurd are
read_of plan tower chosen [] (left ∷ lefts) (fed ∷ outcomes) are = absurd are
read_of plan tower chosen (pass ∷ passes) [] [] are = absurd are
read_of plan tower chosen (pass ∷ passes) [] (fed ∷ outcomes) are = absurd are
read_of plan tower chosen (pass ∷ passes) (left ∷ lefts) [] are = absurd are
