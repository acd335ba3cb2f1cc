use Rattle.std.proofs.Common.{◌∙◌, ◌+◌, [], ℕ, List, Option, refl, subst, sym, take}
use Rattle.edn_reader.specs.declared.fault.EdnFault.{EdnFault}
use Rattle.keys.specs.Named.{AreNamesAfter, NamesAfter, none}
use Rattle.command_parts.proofs.NamedIn.{one_more}
use Rattle.command_parts.proofs.naming.add_traces.Goals as goal

pub loop-name-init : goal.loop-name-init
loop-name-init g c = record {
  named = λ texts held. subst (λ (faults : List (Option EdnFault)). AreNamesAfter c.args.named.now [] faults c.args.named.now) (sym c.new-faults.ensures.items) none;
  stays = refl;
}

pub loop-name-preserved : goal.loop-name-preserved
loop-name-preserved g c =
    let so_far = c.loop-name.invariant in
    let before = c.args.named.now in
    let between = c.loop-name.named in
    let after = c.add_text.new.named in
    let one = c.in-Ok.ensures in
    let i = c.loop-name.name-index in
    let is = subst (λ (text : List ℕ). NamesAfter between text one.0 after) c.deref.ensures.value one.1 in
    record {
      named = λ texts held.
          subst (λ (faults : List (Option EdnFault)). AreNamesAfter before (take (i + 1) texts) faults after) (sym one.2)
          (one_more (g.F.Files.held c.args.files.now) (g.F.Files.held c.loop-name.files) c.args.traces.now texts before between after c.loop-name.faults.items one.0 c.in_ok-text.text.items i _ c.loop-name-test.true so_far.stays
          c.in_ok-text.ensures.held is held (so_far.named texts held));
      stays = c.read_file.ensures.stays ∙ so_far.stays;
    }
