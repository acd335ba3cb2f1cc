use Rattle.std.proofs.Common.{◌≤◌, ◌++◌, ◌∷◌, [], List, length, sym, ap, subst, map, ◌∙◌}
use Rattle.std.proofs.lemmas.List.Elements.{All-push}
use Rattle.tower_file.specs.Contents.{Register, number_of}
use Rattle.tower_file.specs.Views.{kept_register, AreKnown}
use Rattle.tower_file.proofs.Names.{pushed, map_pushed, Entries, Is_known, pushed_room}
use Rattle.tower_file.proofs.registers.Registers.push.Goals as goal

pub returns-clause-ok : goal.returns-clause-ok
returns-clause-ok c =
    let entries = c.self.inside.by_name.entries in
    let is_new = ap (λ (registers : List Register). number_of registers c.args.name.items) c.self.view_is ∙ c.requires.new in
    ap (map kept_register) (c.in_ok-insert.ensures.entries ∙ pushed entries c.args.name c.args.entry is_new)
    ∙ map_pushed entries c.args.name c.args.entry
    ∙ ap (λ (registers : List Register). registers ++ kept_register (c.args.name, c.args.entry) ∷ []) c.self.view_is

pub invariant_of-self-2 : goal.invariant_of-self-2
invariant_of-self-2 c =
    let entries = c.self.inside.by_name.entries in
    let is_new = ap (λ (registers : List Register). number_of registers c.args.name.items) c.self.view_is ∙ c.requires.new in
    let is = c.in_ok-insert.ensures.entries ∙ pushed entries c.args.name c.args.entry is_new in (
      subst (λ (es : Entries). length es ≤ 65536) (sym is) (pushed_room entries (c.args.name, c.args.entry) c.args.self.now c.self.view_is c.requires.room),
      subst AreKnown (sym is) (All-push Is_known entries (c.args.name, c.args.entry) c.self.invariant.1 c.requires.known),
    )
