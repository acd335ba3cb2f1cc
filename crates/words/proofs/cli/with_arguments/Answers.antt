use Rattle.clap.specs.Words.{app_of}
use Rattle.words.specs.declared.argument.Argument.TheVariants.{Tower}
use Rattle.words.specs.Entries.{entry_rule, with_arguments}
use Rattle.words.proofs.Lines.{next_argument}
use Rattle.words.proofs.cli.with_arguments.Goals as goal

pub loop-argument-preserved : goal.loop-argument-preserved
loop-argument-preserved c = λ is_open local.
    let before = c.loop-argument.invariant is_open local in
    let added = c.in_ok-arg.ensures is_open in
    next_argument c.loop-argument.line c.in_ok-line.line c.in_ok-arg.arg (entry_rule c.entry.result.now) c.args.arguments.now c.loop-argument.argument-index Tower
    (with_arguments (app_of c.args.line) c.args.arguments.now) c.loop-argument-test.true before.0 before.1 added.0 added.1 c.entry.ensures c.in_ok-line.ensures
