use Rattle.std.proofs.Common.{◌∙◌, List, sym, ap}
use Rattle.std.specs.List.{slice_get}
use Rattle.shards.specs.declared.entry.NumberedEntry.{NumberedEntry}
use Rattle.shards.specs.Pass.{PassModel, own_entries}
use Rattle.shards.proofs.InStep.{own_got, own_past}
use Rattle.shards.proofs.Rows.{entries_of}
use Rattle.shards.proofs.pass.Pass.entry_at.Goals as goal

pub returns-in-Some-clause-entry : goal.returns-in-Some-clause-entry
returns-in-Some-clause-entry c =
    c.entry.ensures
    ∙ ap (λ (own : List NumberedEntry). slice_get own c.args.place)
    (sym (own_got (entries_of c.self.inside.feeder) c.self.inside.own.items c.args.shard c.in-Some.own.now (rw c.deref.ensures.value at c.in-Some.ensures.lookup.3.0) (rw c.deref.ensures.value at c.in-Some.ensures.lookup.1))
    ∙ ap (λ (pass : PassModel). own_entries pass c.args.shard) c.self.view_is)

pub returns-in-None-clause-entry : goal.returns-in-None-clause-entry
returns-in-None-clause-entry c =
    ap (λ (own : List NumberedEntry). slice_get own c.args.place)
    (sym (own_past (entries_of c.self.inside.feeder) c.self.inside.own.items c.args.shard (rw c.deref.ensures.value at c.in-None.ensures.lookup.3))
    ∙ ap (λ (pass : PassModel). own_entries pass c.args.shard) c.self.view_is)
