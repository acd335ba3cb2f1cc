use Rattle.std.proofs.Common.{map}
use Rattle.watch.proofs.Concluding.{is_watched, is_whole}
use Rattle.watch.proofs.run.watch_in.Goals as goal

pub returns-clause-watched : goal.returns-clause-watched
returns-clause-watched g c =
    is_watched c.concluded.result c.run_told-run.result c.args.start.tower.now c.args.start.terms g.B.Beginning.terms (map g.S.Read.remaining c.args.readers.items) g.B.Beginning.registers
    c.end-told.result.state c.as_slice.result.now g.B.Beginning.before (g.W.Write.contents c.end-told.result.output.out.now)
    c.requires.registers c.requires.terms c.run_told-run.ensures.run c.concluded.ensures.run c.concluded.ensures.told c.concluded.ensures.end c.concluded.ensures.settled c.concluded.ensures.state
    c.is_ok-finished.result c.is_ok-finished.ensures.value (rw (c.as_slice.ensures.value) c.end-told.ensures.all)

pub returns-clause-whole : goal.returns-clause-whole
returns-clause-whole g c =
    is_whole c.concluded.result c.args.start.terms g.B.Beginning.terms c.args.start.tower.now.registers g.B.Beginning.registers
    c.end-told.result.state c.as_slice.result.now g.B.Beginning.before (g.W.Write.contents c.end-told.result.output.out.now)
    c.requires.registers c.requires.terms c.concluded.ensures.write c.is_ok-finished.result (rw (c.as_slice.ensures.value) c.end-told.ensures.all)
