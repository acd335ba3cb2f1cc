-- What a pass has after an edit was entered, and after a question was answered.
use Rattle.std.proofs.Common.{◌≡◌, ◌≢◌, ℕ, ◌<◌, ◌%◌, ◌==◌, List, [], ◌∷◌, ◌++◌, length, Option, Some, None, Bool, true, false, refl, sym, ap, subst, ◌∙◌, arith, append-nil, if◌then◌else◌}
use Rattle.std.specs.Prelude.{IfSome, option_to_list}
use Rattle.std.proofs.lemmas.Bool.{eqb-true, eqb-false}
use Rattle.std.proofs.lemmas.List.{length-set}
use Rattle.intervals.specs.declared.edit.Edit.{Edit}
use Rattle.intervals.specs.declared.operation.RegId.{RegId}
use Rattle.shards.specs.declared.entry.Answer.{Answer}
use Rattle.shards.specs.declared.entry.NumberedEntry.{NumberedEntry}
use Rattle.shards.specs.declared.entry.Receipt.{Receipt}
use Rattle.shards.specs.Plan.{Plan}
use Rattle.shards.specs.Pass.{HasEntry, IsSightOf, PassModel, last_in, own_entries, with_own, with_seen}
use Rattle.shards.specs.Steps.{IsLive, IsSubmitted, entered as with_entry, entry_of, last_entry, numbered_entry}
use Rattle.shards.specs.Journal.{count_by}
use Rattle.logs.specs.Doings.{Doing, IsAnsweredAfter, answered, entered, own_after}
use Rattle.logs.specs.Start.{Start}
use Rattle.feeders.proofs.Doing.{IsTold}

-- an entry comes after those of its shard, and the other shards keep theirs
told_on : (old : PassModel) (at n : ℕ) (known : NumberedEntry) (same : Bool) → (at == n) ≡ same
    → (own_entries (with_own old at known) at ≡ own_entries old at ++ known ∷ [])
    → (n ≢ at → own_entries (with_own old at known) n ≡ own_entries old n)
    → own_entries (with_own old at known) n ≡ own_entries old n ++ option_to_list (if at == n then Some known else None)
told_on old at n known true is own others = rw is (subst (λ (k : ℕ). own_entries (with_own old at known) k ≡ own_entries old k ++ known ∷ []) (eqb-true at n is) own)
told_on old at n known false is own others = rw is (others (λ same. eqb-false at n is (sym same)) ∙ sym (append-nil (own_entries old n)))

told_with_own : (shards : ℕ) (old : PassModel) (register : RegId) (known : NumberedEntry) → 0 < shards → length old.own ≡ shards
    → ((pass : PassModel) (at : ℕ) (one : NumberedEntry) → at < length pass.own → own_entries (with_own pass at one) at ≡ own_entries pass at ++ one ∷ [])
    → ((pass : PassModel) (at other : ℕ) (one : NumberedEntry) → other ≢ at → own_entries (with_own pass at one) other ≡ own_entries pass other)
    → (at : ℕ) → own_entries (with_own old (register.0 % shards) known) at ≡ own_entries old at ++ option_to_list (if register.0 % shards == at then Some known else None)
told_with_own shards old register known some many own others at =
    told_on old (register.0 % shards) at known (register.0 % shards == at) refl
    (own old (register.0 % shards) known (omega arith))
    (others old (register.0 % shards) at known)

-- an edit that was entered
pub told_entered : (plan : Plan) (old new : PassModel) (register : RegId) (edit : Edit) (receipt : Receipt) → 0 < plan.shards
    → IsSubmitted plan old register edit receipt
    → new ≡ with_entry old register edit receipt
    → ((pass : PassModel) (at : ℕ) (one : NumberedEntry) → at < length pass.own → own_entries (with_own pass at one) at ≡ own_entries pass at ++ one ∷ [])
    → ((pass : PassModel) (at other : ℕ) (one : NumberedEntry) → other ≢ at → own_entries (with_own pass at one) other ≡ own_entries pass other)
    → IsTold plan.shards (entered register edit receipt.number receipt.reply) old new
told_entered plan old new register edit receipt some submitted is own others =
    let known : NumberedEntry = numbered_entry receipt.number (entry_of old.feeder register edit receipt.reply) in
    let here : new ≡ with_own old (register.0 % plan.shards) known = is ∙ ap (λ (at : ℕ). with_own old at known) submitted.shard in
    record {
      feeder_is = ap (λ (p : PassModel). p.feeder) here;
      many = ap (λ (p : PassModel). length p.own) here ∙ length-set old.own (register.0 % plan.shards) (own_entries old (register.0 % plan.shards) ++ known ∷ []);
      sight = λ p is_sight. (
        ap (λ (pass : PassModel). pass.seen.auditor) here ∙ is_sight.0,
        ap (λ (pass : PassModel). length pass.seen.farthest) here ∙ length-set old.seen.farthest (register.0 % plan.shards) (Some known) ∙ is_sight.1,
      );
      own = λ at within. ap (λ (p : PassModel). own_entries p at) here ∙ told_with_own plan.shards old register known some submitted.of_plan.1 own others at;
    }

pub feeder_seen : (pass : PassModel) (at : ℕ) (known : Option NumberedEntry) → (with_seen pass at known).feeder ≡ pass.feeder
feeder_seen pass at None = refl
feeder_seen pass at (Some known) = refl

sight_seen : (plan : Plan) (pass : PassModel) (at : ℕ) (known : Option NumberedEntry) → IsSightOf plan pass.seen → IsSightOf plan (with_seen pass at known).seen
sight_seen plan pass at None is = is
sight_seen plan pass at (Some known) is = (is.0, length-set pass.seen.farthest at (Some known) ∙ is.1)

-- a question that was answered
pub told_answered : (plan : Plan) (old new : PassModel) (register : RegId) (answer : Answer)
    → IsLive plan old new register.0 answer
    → ((pass : PassModel) (at other : ℕ) (known : Option NumberedEntry) → ((with_seen pass at known).own ≡ pass.own) × (own_entries (with_seen pass at known) other ≡ own_entries pass other))
    → IsTold plan.shards (answered register answer) old new
told_answered plan old new register answer live seen = record {
  feeder_is = ap (λ (p : PassModel). p.feeder) live.seen ∙ feeder_seen old (register.0 % plan.shards) (last_entry live.journal);
  many = ap (λ (p : PassModel). length p.own) live.seen ∙ ap length (seen old (register.0 % plan.shards) 0 (last_entry live.journal)).0;
  sight = λ p is. subst (λ (pass : PassModel). IsSightOf p pass.seen) (sym live.seen) (sight_seen p old (register.0 % plan.shards) (last_entry live.journal) is);
  own = λ at within. ap (λ (p : PassModel). own_entries p at) live.seen ∙ (seen old (register.0 % plan.shards) at (last_entry live.journal)).1 ∙ sym (append-nil (own_entries old at));
}

pub answered_after : (plan : Plan) (old new : PassModel) (register : RegId) (answer : Answer) → 0 < plan.shards
    → IsLive plan old new register.0 answer
    → (start : Start) (doings : List Doing) → old.feeder ≡ start.feeder → ((at : ℕ) → at < plan.shards → own_entries old at ≡ own_after plan.shards start at doings)
    → IsAnsweredAfter plan start doings (answered register answer)
answered_after plan old new register answer some live start doings feeder own = record {
  journal = live.journal;
  of_shard = live.of_shard;
  standing = live.standing;
  own = ap (λ (f : ℕ). count_by f live.journal) (sym feeder) ∙ live.keeping.count ∙ ap length (own (register.0 % plan.shards) (omega arith));
  last = subst (λ (known : List NumberedEntry). IfSome (last_in known) (HasEntry live.journal)) (own (register.0 % plan.shards) (omega arith)) live.keeping.last;
}
