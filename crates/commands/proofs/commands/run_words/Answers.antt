use Rattle.std.proofs.Common.{map, refl}
use Rattle.words.specs.Words.{asked}
use Rattle.commands.proofs.Endings.{untouched}
use Rattle.commands.proofs.commands.run_words.Goals as goal

pub returns-in-Ok-clause-quiet : goal.returns-in-Ok-clause-quiet
returns-in-Ok-clause-quiet g c = rw (c.in-Ok.ensures.asks) c.run_command.ensures.quiet

pub returns-in-Err-clause-whole : goal.returns-in-Err-clause-whole
returns-in-Err-clause-whole g c = λ other. untouched (asked (map g.S.AsStr.text c.args.words.now)) (g.F.Files.held c.args.files.now) (g.W.Write.contents c.args.out.now) _ refl
