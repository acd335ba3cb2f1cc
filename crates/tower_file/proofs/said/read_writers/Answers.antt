use Rattle.std.proofs.Common.{sym, ◌∙◌}
use Rattle.std.proofs.lemmas.Result.{err_from_is_err_and}
use Rattle.edn_reader.specs.Lent.{piece_of}
use Rattle.edn_reader.specs.Given.{seen}
use Rattle.tower_file.proofs.Vectors.{no_writers}
use Rattle.tower_file.proofs.said.read_writers.Goals as goal

pub returns-in_err-processes_of-in-Some : goal.returns-in_err-processes_of-in-Some
returns-in_err-processes_of-in-Some c given h =
    let p = err_from_is_err_and c.from_residual-in_err-processes_of-in-Some.result c.from_residual-in_err-processes_of-in-Some.ensures.1 in
    rw (p.1, p.2) (λ other. no_writers (piece_of c.in_ok-element.element) c.in-Some.view c.in_err-processes_of-in-Some.field-0.0 (seen c.args.field.now) given c.in_ok-element.ensures
    (sym c.is_keyword.ensures ∙ c.if-is_keyword.false) c.in-Some.ensures.members.0 c.in-Some.ensures.members.1 (λ pieces left. c.in_err-processes_of-in-Some.ensures pieces left other) h)
