use Rattle.std.proofs.Common.{◌≡◌, List, [], ◌∷◌, false, ap, refl, subst, sym, ◌∙◌}
use Rattle.watch.specs.declared.settling.FeederProgress.{FeederProgress}
use Rattle.watch.specs.declared.teller.TellerState.TheVariants.{Going}
use Rattle.watch.specs.Due.{has_due, held_notices, most_of}
use Rattle.watch.specs.Teller.{HasTold}
use Rattle.watch.proofs.Advancing.{due_by, due_none, held_by}
use Rattle.watch.proofs.InTurn.{due_in_turn, held_in_turn, none_due}
use Rattle.watch.proofs.Telling.{told_due_by, told_more}
use Rattle.watch.proofs.teller.Teller.tell.Goals as goal
use Rattle.watch.proofs.teller.Teller.tell.Goals.{then-is_going, else-is_going}

pub invariant_of-self : goal.invariant_of-self
invariant_of-self g c =
    let is = c.self.invariant in
    let inside = c.self.inside in
    let taken = c.take-state in
    let going : inside.state ≡ Going = ap (λ m. m.state) c.self.view_is ∙ c.goes_on.ensures.0 c.if-not-goes_on.false in
    let took = told_more g.B.Beginning.terms g.B.Beginning.registers g.B.Beginning.before inside.printer taken.new.self inside.told.items (held_notices inside.held.items) taken.new.told.items (held_notices taken.new.held.items)
    c.args.notice inside.state taken.result going is.0 taken.ensures.told taken.ensures.written in
    elim c.if-is_going.branch [
      | then-is_going w ↦
          let wrote = w.write_due-self-inside in
          let goes = c.is_going.ensures.0 w.if-is_going.true in
          rw (w.self-inside-is, w.self-is) (
            told_due_by g.B.Beginning.terms g.B.Beginning.registers g.B.Beginning.before taken.new.self wrote.new.self taken.new.told.items taken.new.held.items wrote.new.held.items taken.result wrote.result
                goes took wrote.ensures.written,
            λ on. subst (λ (l : List FeederProgress). has_due wrote.new.held.items l ≡ false) w.as_slice-then-is_going.ensures.value (wrote.ensures.none on),
            λ on one alone.
                due_in_turn (most_of g.B.Beginning.terms.settle one) w.as_slice-then-is_going.result.now taken.new.held.items wrote.new.held.items wrote.ensures.due
                (held_in_turn g.B.Beginning.terms.settle c.as_slice.result.now one c.args.notice inside.held.items taken.new.held.items (c.as_slice.ensures.value ∙ alone) (is.2 going one alone)
                (taken.ensures.held (rw goes tt))),
          )
      | else-is_going w ↦
          rw (w.self-inside-is, w.self-is) (took, λ on. absurd (let h = c.is_going.ensures.1 on in let f = w.if-is_going.false in cc), λ on. absurd (let h = c.is_going.ensures.1 on in let f = w.if-is_going.false in cc))
    ]

pub returns-clause-soon : goal.returns-clause-soon
returns-clause-soon g c =
    let is = c.self.invariant in
    let inside = c.self.inside in
    let progress = ap (λ m. m.progress) c.self.view_is in
    let held = ap (λ m. m.held) c.self.view_is in
    let state = ap (λ m. m.state) c.self.view_is in
    λ going one alone.
    let on : inside.state ≡ Going = state ∙ going in
    let own : inside.progress.items ≡ one ∷ [] = progress ∙ alone in
    rw (sym progress, sym held) (none_due g.B.Beginning.terms.settle inside.progress.items one inside.held.items own (is.2 on one own) (is.1 on))

pub returns-clause-held : goal.returns-clause-held
returns-clause-held g c =
    let inside = c.self.inside in
    let taken = c.take-state in
    let progress = ap (λ m. m.progress) c.self.view_is in
    let held = ap (λ m. m.held) c.self.view_is in
    let from = held_by c.args.self.now.progress c.as_slice.result.now g.B.Beginning.terms.settle c.args.notice c.args.self.now.held inside.held.items taken.new.held.items (c.as_slice.ensures.value ∙ progress) held in
    elim c.if-is_going.branch [
      | then-is_going w ↦
          let wrote = w.write_due-self-inside in
          λ going has. rw (w.self-inside-is) (
            taken.new.held.items,
            from (taken.ensures.held (rw (c.is_going.ensures.0 w.if-is_going.true) tt)),
            due_by c.args.self.now.progress w.as_slice-then-is_going.result.now taken.new.held.items wrote.new.held.items (w.as_slice-then-is_going.ensures.value ∙ progress) wrote.ensures.due,
          )
      | else-is_going w ↦
          λ going has. rw (w.self-inside-is) (
            taken.new.held.items,
            from (taken.ensures.held (subst HasTold w.self-is has)),
            due_none c.args.self.now.progress taken.new.held.items taken.new.held.items refl,
          )
    ]
