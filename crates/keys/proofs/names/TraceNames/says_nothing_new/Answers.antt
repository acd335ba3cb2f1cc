use Rattle.std.proofs.Common.{◌≡◌, ◌∙◌, ◌||◌, Some, None, true, false, refl, sym}
use Rattle.std.specs.Prelude.{is_none, is_some}
use Rattle.keys.proofs.Keeping.{none_by, tells}
use Rattle.keys.proofs.names.TraceNames.says_nothing_new.Goals as goal

pub returns-then-is_some : goal.returns-then-is_some
returns-then-is_some c =
    let first = c.in-Some.first_writer.now in
    let written : is_some first ≡ true = sym c.is_some.ensures ∙ c.if-is_some.true in
    let both : (is_some first || is_none c.args.writer) ≡ true = rw written refl in
    tells c.args.name.now c.args.writer c.self.inside.by_name.entries c.self.inside.first_writer c.args.self.now (Some first) c.is_some.result c.self.view_is c.in-Some.ensures.value (c.if-is_some.true ∙ sym both)

pub returns-else-is_some : goal.returns-else-is_some
returns-else-is_some c =
    let first = c.in-Some.first_writer.now in
    let unwritten : is_some first ≡ false = sym c.is_some.ensures ∙ c.if-is_some.false in
    let second : (is_some first || is_none c.args.writer) ≡ is_none c.args.writer = rw unwritten refl in
    tells c.args.name.now c.args.writer c.self.inside.by_name.entries c.self.inside.first_writer c.args.self.now (Some first) c.is_none.result c.self.view_is c.in-Some.ensures.value (none_by c.args.writer c.is_none.result c.is_none.ensures ∙ sym second)

pub returns-in-None : goal.returns-in-None
returns-in-None c = tells c.args.name.now c.args.writer c.self.inside.by_name.entries c.self.inside.first_writer c.args.self.now None false c.self.view_is c.in-None.ensures.value refl
