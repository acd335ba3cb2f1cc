-- the registers so far are those that the elements gone over give
use Rattle.edn_reader.specs.Lent.{members_left}
use Rattle.tower_file.specs.Form.{IsRegister}
use Rattle.tower_file.specs.Reading.{with_register}
use Rattle.tower_file.proofs.Loops.{After}
use Rattle.tower_file.proofs.register.read_registers.Given as goal

abbrev pub invariant-loop-element : goal.invariant-loop-element
invariant-loop-element l = After IsRegister (with_register l.level l.first) l.view l.fn.registers l.left l.registers

abbrev pub decreases-loop-element : goal.decreases-loop-element
decreases-loop-element l = members_left l.left
