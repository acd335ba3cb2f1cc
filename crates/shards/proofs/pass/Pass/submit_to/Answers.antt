use Rattle.std.proofs.Common.{◌≡◌, ◌<◌, ◌∙◌, [], ◌∷◌, ◌++◌, map, length, set, refl, sym, ap, subst, arith}
use Rattle.std.specs.Prelude.{IfSome, Result, Ok, Err, OnErr}
use Rattle.std.proofs.lemmas.List.{length-map}
use Rattle.shards.specs.Pass.{HasEntry, PassModel, last_in, own_entries, with_own}
use Rattle.shards.specs.Steps.{entry_of, numbered_entry}
use Rattle.shards.proofs.InStep.{entered_by, in_step_noted, noted, own_in, passed}
use Rattle.shards.proofs.Rows.{entries_of, reserved, same_entries}
use Rattle.shards.proofs.pass.Pass.submit_to.Goals as goal

-- what holds whether or not a result is an error
always : {T E Q : Type 0} (result : Result T E) → Q → OnErr result Q
always (Ok x) holds = tt
always (Err e) holds = holds

pub invariant_of-self : goal.invariant_of-self
invariant_of-self g c =
    rw (reserved c.self.inside.feeder c.self.inside.own.items c.args.shard.now.at c.index_mut.result.now c.reserve.new.self c.index_mut.ensures.value c.reserve.ensures.whole c.reserve.ensures.rows)
    c.self.invariant

pub returns-in_err-reserve-clause-err : goal.returns-in_err-reserve-clause-err
returns-in_err-reserve-clause-err g c =
    always c.from_residual.result (
      refl,
      ap (passed c.self.inside.feeder c.self.inside.seen)
          (reserved c.self.inside.feeder c.self.inside.own.items c.args.shard.now.at c.index_mut.result.now c.reserve.new.self c.index_mut.ensures.value c.reserve.ensures.whole c.reserve.ensures.rows)
          ∙ c.self.view_is,
    )

pub invariant_of-self-in_err-receipt : goal.invariant_of-self-in_err-receipt
invariant_of-self-in_err-receipt g c =
    rw (reserved c.self.inside.feeder c.self.inside.own.items c.args.shard.now.at c.index_mut.result.now c.reserve.new.self c.index_mut.ensures.value c.reserve.ensures.whole c.reserve.ensures.rows)
    c.self.invariant

pub returns-in_err-receipt-clause-err : goal.returns-in_err-receipt-clause-err
returns-in_err-receipt-clause-err g c =
    always c.from_residual-in_err-receipt.result (
      c.in_err-receipt.ensures.err,
      ap (passed c.self.inside.feeder c.self.inside.seen)
          (reserved c.self.inside.feeder c.self.inside.own.items c.args.shard.now.at c.index_mut.result.now c.reserve.new.self c.index_mut.ensures.value c.reserve.ensures.whole c.reserve.ensures.rows)
          ∙ c.self.view_is,
    )

pub invariant_of-self-2 : goal.invariant_of-self-2
invariant_of-self-2 g c =
    let f = entries_of c.self.inside.feeder in
    let at = c.args.shard.now.at in
    let known = numbered_entry c.in_ok-receipt.receipt.number (entry_of c.self.inside.feeder c.args.register c.args.edit.now c.in_ok-receipt.receipt.reply) in
    let within : at < length c.self.inside.own.items = omega (arith, length-map c.self.inside.own.items f, ap (λ (pass : PassModel). length pass.own) c.self.view_is, c.requires.pass.1, c.requires.kept.here) in
    let own : map f (set (set c.self.inside.own.items at c.reserve.new.self) at c.add.new.self) ≡ set (map f c.self.inside.own.items) at (own_in (map f c.self.inside.own.items) at ++ known ∷ []) =
    noted f c.self.inside.own.items at c.index_mut.result.now c.reserve.new.self c.index_mut-2.result.now c.add.new.self known within c.index_mut.ensures.value
    (same_entries c.self.inside.feeder _ _ _ _ c.reserve.ensures.whole c.reserve.ensures.rows) c.index_mut-2.ensures.value c.add.ensures in
    rw (own, c.see.ensures)
    (in_step_noted (map f c.self.inside.own.items) c.self.inside.seen.farthest at known c.args.shard.now.entries c.self.invariant (omega (arith, length-map c.self.inside.own.items f, within))
    (subst (λ (pass : PassModel). IfSome (last_in (own_entries pass at)) (HasEntry c.args.shard.now.entries)) (sym c.self.view_is) c.requires.keeping.last)
    c.in_ok-receipt.ensures.receipt.1)

pub returns-clause-told : goal.returns-clause-told
returns-clause-told g c =
    let f = entries_of c.self.inside.feeder in
    let at = c.args.shard.now.at in
    let receipt = c.in_ok-receipt.receipt in
    let known = numbered_entry receipt.number (entry_of c.self.inside.feeder c.args.register c.args.edit.now receipt.reply) in
    let within : at < length c.self.inside.own.items = omega (arith, length-map c.self.inside.own.items f, ap (λ (pass : PassModel). length pass.own) c.self.view_is, c.requires.pass.1, c.requires.kept.here) in
    entered_by c.self.inside.feeder (map f c.self.inside.own.items) _ c.self.inside.seen c.see.new.self at known
    (noted f c.self.inside.own.items at c.index_mut.result.now c.reserve.new.self c.index_mut-2.result.now c.add.new.self known within c.index_mut.ensures.value
    (same_entries c.self.inside.feeder _ _ _ _ c.reserve.ensures.whole c.reserve.ensures.rows) c.index_mut-2.ensures.value c.add.ensures)
    c.see.ensures
    ∙ ap (λ (pass : PassModel). with_own pass at (numbered_entry receipt.number (entry_of pass.feeder c.args.register c.args.edit.now receipt.reply))) c.self.view_is
    ∙ ap (λ k. with_own c.args.self.now k (numbered_entry receipt.number (entry_of c.args.self.now.feeder c.args.register c.args.edit.now receipt.reply))) (sym c.in_ok-receipt.ensures.receipt.0)
