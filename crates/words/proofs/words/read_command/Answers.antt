use Rattle.std.proofs.Common.{◌≡◌, ◌∙◌, inl, inr, ap, sym, refl, map, option_map}
use Rattle.clap.specs.Words.{App, app_of, takes}
use Rattle.clap.specs.Faults.{fault_of, is_simple_and_free}
use Rattle.words.specs.Words.{asked_of, command_line}
use Rattle.words.proofs.Commands.{asks}
use Rattle.words.proofs.words.read_command.Goals as goal

pub returns-in-Err-clause-passes : goal.returns-in-Err-clause-passes
returns-in-Err-clause-passes g c =
    let line_is : app_of c.in_ok-line.line ≡ command_line = c.in_ok-line.ensures refl in
    λ taken. inr (c.in-Err.ensures.passes (ap (λ (a : App). takes a (map g.S.AsStr.text c.args.words.now)) line_is ∙ taken))

pub returns-in-Some-clause-asks : goal.returns-in-Some-clause-asks
returns-in-Some-clause-asks g c =
    let line_is : app_of c.in_ok-line.line ≡ command_line = c.in_ok-line.ensures refl in
    asks c.in-Ok.matches (app_of c.in_ok-line.line) (map g.S.AsStr.text c.args.words.now) c.in-Ok.ensures.ok.2 line_is
    ∙ sym c.in_ok-command.ensures.asks ∙ ap (option_map asked_of) c.in-Some.is

pub returns-in-Some-clause-refuses : goal.returns-in-Some-clause-refuses
returns-in-Some-clause-refuses g c =
    let line_is : app_of c.in_ok-line.line ≡ command_line = c.in_ok-line.ensures refl in
    sym (ap (λ (a : App). fault_of a (map g.S.AsStr.text c.args.words.now)) line_is)
    ∙ c.in-Ok.ensures.kinds (ap is_simple_and_free line_is ∙ refl)

pub returns-clause-passes : goal.returns-clause-passes
returns-clause-passes g c =
    let line_is : app_of c.in_ok-line.line ≡ command_line = c.in_ok-line.ensures refl in
    λ taken. inl (asks c.in-Ok.matches (app_of c.in_ok-line.line) (map g.S.AsStr.text c.args.words.now) c.in-Ok.ensures.ok.2 line_is
    ∙ sym c.in_ok-command.ensures.asks ∙ ap (option_map asked_of) c.in-None.is)
