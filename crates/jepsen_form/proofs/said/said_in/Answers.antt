use Rattle.std.proofs.Common.{None, Some}
use Rattle.edn_reader.specs.Lent.{piece_of}
use Rattle.jepsen_form.proofs.UnderValues.{no_vector, of_vector}
use Rattle.jepsen_form.proofs.said.said_in.Goals as goal

pub returns-in_default : goal.returns-in_default
returns-in_default c = no_vector (piece_of c.args.element.now) c.in_default.ensures.members

pub returns-in-Some-the_two : goal.returns-in-Some-the_two
returns-in-Some-the_two c =
    of_vector (piece_of c.args.element.now) c.in-Some.vector (Some (piece_of c.in-Some-the_two.name, piece_of c.in-Some-the_two.value)) c.in-Some.ensures.members.0 c.in-Some.ensures.members.1 c.in-Some-the_two.ensures

pub returns-in-None : goal.returns-in-None
returns-in-None c = of_vector (piece_of c.args.element.now) c.in-Some.vector None c.in-Some.ensures.members.0 c.in-Some.ensures.members.1 c.in-None.ensures
