use Rattle.std.proofs.Common.{◌≡◌, List, drop, length, false, ap, subst, sym, ◌∙◌, take_at}
use Rattle.watch.specs.declared.settling.FeederProgress.{FeederProgress}
use Rattle.watch.specs.declared.teller.TellerState.TheVariants.{Going}
use Rattle.watch.specs.Due.{advanced_at, has_due, most_of}
use Rattle.watch.proofs.InTurn.{advanced_in_turn, due_in_turn, length_advanced}
use Rattle.watch.proofs.Telling.{told_due_by}
use Rattle.watch.proofs.teller.Teller.advance.Goals as goal

pub invariant_of-self : goal.invariant_of-self
invariant_of-self g c =
    let is = c.self.invariant in
    let inside = c.self.inside in
    let wrote = c.write_due-self-inside in
    let going : inside.state ≡ Going = ap (λ m. m.state) c.self.view_is ∙ c.goes_on.ensures.0 c.if-not-goes_on.false in
    let noted : c.note_advance.new.progress ≡ advanced_at inside.progress.items c.args.feeder c.args.by =
    c.note_advance.ensures ∙ ap (λ (p : List FeederProgress). advanced_at p c.args.feeder c.args.by) c.as_mut_slice.ensures.value in
    let many : length c.note_advance.new.progress ≡ inside.progress.len =
    ap (length {A = FeederProgress}) noted ∙ length_advanced inside.progress.items c.args.feeder c.args.by ∙ sym inside.progress.ok.0 in (
      told_due_by g.B.Beginning.terms g.B.Beginning.registers g.B.Beginning.before inside.printer wrote.new.self inside.told.items inside.held.items wrote.new.held.items inside.state wrote.result going is.0 wrote.ensures.written,
      λ on. subst (λ (l : List FeederProgress). has_due wrote.new.held.items l ≡ false) c.as_slice.ensures.value (wrote.ensures.none on),
      λ on after alone.
          due_in_turn (most_of g.B.Beginning.terms.settle after) c.as_slice.result.now inside.held.items wrote.new.held.items wrote.ensures.due
          (advanced_in_turn g.B.Beginning.terms.settle inside.progress.items c.args.feeder c.args.by inside.held.items (is.2 going) after
          (sym noted ∙ sym (take_at c.note_advance.new.progress (drop (length c.note_advance.new.progress) inside.progress.items) inside.progress.len many) ∙ alone)),
    )
