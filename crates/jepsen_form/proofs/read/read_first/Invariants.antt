use Rattle.edn_reader.specs.Flat.{IsOf, flat_left}
use Rattle.jepsen_form.proofs.Loops.{Noted}
use Rattle.jepsen_form.proofs.read.read_first.Given as goal

abbrev pub invariant-loop-key : goal.invariant-loop-key
invariant-loop-key l = record {
  of : IsOf l.bytes l.place l.map;
  noted : Noted l.map l.field l.form;
}

abbrev pub decreases-loop-key : goal.decreases-loop-key
decreases-loop-key l = flat_left l.map
