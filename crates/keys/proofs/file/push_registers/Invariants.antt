-- the lines of the registers of the first numbers are added
use Rattle.std.proofs.Common.{◌≡◌, ◌++◌, ◌≤◌, length, take}
use Rattle.std.specs.Prelude.{flat_map}
use Rattle.keys.specs.File.{register_entry}
use Rattle.keys.specs.Named.{registers_named}
use Rattle.keys.proofs.file.push_registers.Given as goal

abbrev pub invariant-loop-number : goal.invariant-loop-number
invariant-loop-number l = record {
  within : l.number ≤ length (registers_named l.named);
  added : l.text.items ≡ l.initial.text.items ++ flat_map (register_entry l.claim) (take l.number (registers_named l.named));
}
