use Rattle.words.proofs.Commands.{asks_command}
use Rattle.words.proofs.words.command_of.Goals as goal

pub returns-clause-asks : goal.returns-clause-asks
returns-clause-asks c =
    let found = c.in-Some.ensures in
    asks_command c.args.matches.now c.in-Some.found.now c.in-Some.name.now _ found.name found.rows c.other_command.ensures.asks
