-- what is named is what the traces of the first names name, where their bytes are known
use Rattle.std.proofs.Common.{◌≡◌, ℕ, List, map, take}
use Rattle.keys.specs.Named.{AreNamesAfter}
use Rattle.command_parts.specs.Files.{AreHeld}
use Rattle.command_parts.proofs.naming.add_traces.Given as goal

abbrev pub invariant-loop-name : goal.invariant-loop-name
invariant-loop-name g l = record {
  named : (texts : List (List ℕ)) → AreHeld (g.F.Files.held l.fn.files) (map (λ name. name.now) l.traces) texts → AreNamesAfter l.fn.named (take l.name-index texts) l.faults.items l.named;
  stays : g.F.Files.held l.files ≡ g.F.Files.held l.fn.files;
}
