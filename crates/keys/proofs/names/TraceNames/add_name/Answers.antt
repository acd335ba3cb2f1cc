use Rattle.std.proofs.Common.{◌≡◌, ◌∙◌, refl, rules, sym}
use Rattle.keys.proofs.Keeping.{put_named, stays}
use Rattle.keys.proofs.names.TraceNames.add_name.Goals as goal

pub returns-then-says_nothing_new : goal.returns-then-says_nothing_new
returns-then-says_nothing_new c = rw (stays c.args.name.now c.args.writer c.args.self.now.registers (sym c.says_nothing_new.ensures ∙ c.if-says_nothing_new.true)) refl

pub returns : goal.returns
returns c =
    let key = c.extend_from_slice.new.self in
    let name_is : key.items ≡ c.args.name.now = search rules in
    put_named key c.args.name.now c.args.writer c.self.inside.by_name.entries c.insert.new.self.entries c.self.inside.first_writer c.args.self.now c.self.view_is name_is
    (sym c.says_nothing_new.ensures ∙ c.if-says_nothing_new.false) c.in_ok-insert.ensures.entries
