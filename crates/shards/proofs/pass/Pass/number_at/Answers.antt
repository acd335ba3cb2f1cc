use Rattle.std.proofs.Common.{◌∙◌, List, sym, ap}
use Rattle.std.specs.Prelude.{option_map}
use Rattle.std.specs.List.{slice_get}
use Rattle.shards.specs.declared.entry.NumberedEntry.{NumberedEntry}
use Rattle.shards.specs.Pass.{PassModel, own_entries}
use Rattle.shards.proofs.InStep.{own_got, own_past}
use Rattle.shards.proofs.Rows.{entries_of}
use Rattle.shards.proofs.pass.Pass.number_at.Goals as goal

pub returns-in-Some-clause-number : goal.returns-in-Some-clause-number
returns-in-Some-clause-number c =
    c.number.ensures c.self.inside.feeder
    ∙ ap (λ (own : List NumberedEntry). option_map (λ (known : NumberedEntry). known.number) (slice_get own c.args.place))
    (sym (own_got (entries_of c.self.inside.feeder) c.self.inside.own.items c.args.shard c.in-Some.own.now (rw c.deref.ensures.value at c.in-Some.ensures.lookup.3.0) (rw c.deref.ensures.value at c.in-Some.ensures.lookup.1))
    ∙ ap (λ (pass : PassModel). own_entries pass c.args.shard) c.self.view_is)

pub returns-in-None-clause-number : goal.returns-in-None-clause-number
returns-in-None-clause-number c =
    ap (λ (own : List NumberedEntry). option_map (λ (known : NumberedEntry). known.number) (slice_get own c.args.place))
    (sym (own_past (entries_of c.self.inside.feeder) c.self.inside.own.items c.args.shard (rw c.deref.ensures.value at c.in-None.ensures.lookup.3))
    ∙ ap (λ (pass : PassModel). own_entries pass c.args.shard) c.self.view_is)
