-- what is named is what the first texts name
use Rattle.std.proofs.Common.{map, take}
use Rattle.keys.specs.Named.{AreNamesAfter}
use Rattle.command_parts.proofs.naming.add_texts.Given as goal

abbrev pub invariant-loop-text : goal.invariant-loop-text
invariant-loop-text l = AreNamesAfter l.fn.named (take l.text-index (map (λ text. text.now) l.texts)) l.faults.items l.named
