use Rattle.std.proofs.Common.{rules}
use Rattle.std.proofs.lemmas.List.Sorted.{IsPermutation-refl}
use Rattle.zones.specs.Examples.{reads_of_nil, write_alone, read_after, read_within, never_ended, never_ended_and_read}
use Rattle.zones.proofs.laws.worked_orders.Goals as goal

pub returns : goal.returns
returns c = record {
  reads_of_nil = record { each_once = IsPermutation-refl reads_of_nil; keeps = search rules; reads = search rules };
  write = record { each_once = IsPermutation-refl write_alone; keeps = search rules; reads = search rules };
  read_after = record { each_once = IsPermutation-refl read_after; keeps = search rules; reads = search rules };
  read_within = record { each_once = IsPermutation-refl read_within; keeps = search rules; reads = search rules };
  never_ended = record { each_once = IsPermutation-refl never_ended; keeps = search rules; reads = search rules };
  never_ended_and_read = record { each_once = IsPermutation-refl never_ended_and_read; keeps = search rules; reads = search rules };
}
