use Rattle.std.proofs.Common.{List, Some, None, ap, ◌∙◌}
use Rattle.tower_file.specs.Contents.{Register, number_of}
use Rattle.tower_file.proofs.Names.{number_is}
use Rattle.tower_file.proofs.registers.Registers.find.Goals as goal

pub returns-in-Some : goal.returns-in-Some
returns-in-Some c =
    number_is c.self.inside.by_name.entries c.args.name.now (Some c.in-Some.number) c.in-Some.ensures.index
    ∙ ap (λ (registers : List Register). number_of registers c.args.name.now) c.self.view_is

pub returns-in-None : goal.returns-in-None
returns-in-None c =
    number_is c.self.inside.by_name.entries c.args.name.now None c.in-None.ensures.index
    ∙ ap (λ (registers : List Register). number_of registers c.args.name.now) c.self.view_is
