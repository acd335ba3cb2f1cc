-- the output, what it has, and the terms
use Rattle.watch.proofs.run.watch_readers.Given as goal

abbrev pub ghosts-watch_in : goal.ghosts-watch_in
ghosts-watch_in g a = record {
  output = a.output.out.ghost_name;
  before = g.W.Write.contents a.output.out.now;
  registers = a.start.tower.now.registers;
  terms = a.start.terms;
}
