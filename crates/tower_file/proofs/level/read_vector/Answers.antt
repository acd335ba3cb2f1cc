use Rattle.edn_reader.specs.Lent.{piece_of}
use Rattle.edn_reader.specs.Given.{seen}
use Rattle.tower_file.specs.Form.{IsRegister, IsLevel}
use Rattle.tower_file.proofs.Vectors.{needed_once, vector_shows, no_vector}
use Rattle.tower_file.proofs.level.read_vector.Goals as goal

pub returns-in-Some-clause-registers : goal.returns-in-Some-clause-registers
returns-in-Some-clause-registers c given h =
    vector_shows IsRegister c.args.name (piece_of c.in_ok-needed.field-0) c.in-Some.view (seen c.args.field.now) given c.in_ok-needed.ensures c.in-Some.ensures.members.0 c.in-Some.ensures.members.1 h

pub returns-in-Some-clause-levels : goal.returns-in-Some-clause-levels
returns-in-Some-clause-levels c given h =
    vector_shows IsLevel c.args.name (piece_of c.in_ok-needed.field-0) c.in-Some.view (seen c.args.field.now) given c.in_ok-needed.ensures c.in-Some.ensures.members.0 c.in-Some.ensures.members.1 h

pub returns-in-Some-clause-vector : goal.returns-in-Some-clause-vector
returns-in-Some-clause-vector c = (
  piece_of c.in_ok-needed.field-0,
  needed_once c.args.name (seen c.args.field.now) (piece_of c.in_ok-needed.field-0) c.in_ok-needed.ensures,
  λ members left. (c.in-Some.ensures.members.1 members).1 left,
)

pub returns-in-None-clause-registers : goal.returns-in-None-clause-registers
returns-in-None-clause-registers c given h other =
    no_vector IsRegister c.args.name (piece_of c.in_ok-needed.field-0) (seen c.args.field.now) given c.in_ok-needed.ensures c.in-None.ensures.members h

pub returns-in-None-clause-levels : goal.returns-in-None-clause-levels
returns-in-None-clause-levels c given h other =
    no_vector IsLevel c.args.name (piece_of c.in_ok-needed.field-0) (seen c.args.field.now) given c.in_ok-needed.ensures c.in-None.ensures.members h
