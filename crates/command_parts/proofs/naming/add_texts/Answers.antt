use Rattle.std.proofs.Common.{◌+◌, [], List, Option, map, subst, sym, take}
use Rattle.edn_reader.specs.declared.fault.EdnFault.{EdnFault}
use Rattle.keys.specs.Named.{AreNamesAfter, none}
use Rattle.command_parts.proofs.NamedIn.{one_more_text}
use Rattle.command_parts.proofs.naming.add_texts.Goals as goal

pub loop-text-init : goal.loop-text-init
loop-text-init c = subst (λ (faults : List (Option EdnFault)). AreNamesAfter c.args.named.now [] faults c.args.named.now) (sym c.new-faults.ensures.items) none

pub loop-text-preserved : goal.loop-text-preserved
loop-text-preserved c =
    let i = c.loop-text.text-index in
    let one = c.in_ok-add_text.ensures in
    subst (λ (faults : List (Option EdnFault)). AreNamesAfter c.args.named.now (take (i + 1) (map (λ text. text.now) c.args.texts.now)) faults c.add_text.new.named) (sym one.2)
    (one_more_text c.args.texts.now c.args.named.now c.loop-text.named c.add_text.new.named c.loop-text.faults.items one.0 i _ c.loop-text-test.true one.1 c.loop-text.invariant)
