use Rattle.jepsen_form.proofs.Registers.{names_below}
use Rattle.jepsen_form.proofs.laws.items_name_registers_of_the_tower.Goals as goal

pub returns : goal.returns
returns c = names_below
