-- the subject has what the tower says of the register and what its book has
use Rattle.std.proofs.Common.{◌≡◌, ◌∙◌, List, ap, subst, sym}
use Rattle.std.specs.Prelude.{IfSome}
use Rattle.std.specs.List.{slice_get}
use Rattle.phrases.specs.Names.{register_name}
use Rattle.intervals.specs.declared.operation.OpId.{OpId}
use Rattle.intervals.specs.Table.{ops_in_slots}
use Rattle.show_command.specs.Drawn.{IsDrawnOrder, IsInitialOf}
use Rattle.show_command.proofs.Subjects.{is_named, is_unnamed, is_said_at_first, nothing_is_said}
use Rattle.show_command.proofs.picture.subject_of.Goals.{in-Some, in-None, in-Some-claim, in-None-claim}
use Rattle.show_command.proofs.picture.subject_of.Goals as goal

pub returns : goal.returns
returns c =
    let registers = c.args.tower.now.registers in
    let slot = slice_get registers c.args.id.0 in
    let name : c.match-name.result.now ≡ register_name registers c.args.id = elim c.match-name.branch [
      | in-Some w ↦ rw w.result-is (is_named slot w.in-Some.name.now w.in-Some.ensures)
      | in-None w ↦ rw w.result-is (is_unnamed slot w.in-None.ensures)
    ] in
    let initial : IfSome slot (λ register. IsInitialOf register.claim c.match-claim.result) = elim c.match-claim.branch [
      | in-Some-claim w ↦ rw w.result-is (is_said_at_first slot w.in-Some-claim.claim.now w.in-Some-claim.ensures.claim)
      | in-None-claim w ↦ nothing_is_said slot c.match-claim.result w.in-None-claim.ensures.claim
    ] in
    record {
      name = name;
      kind = c.kind.ensures;
      initial = initial;
      ops = ap ops_in_slots c.deref.ensures.value ∙ c.requires.slots;
      witness = c.witness.ensures.witness;
      none = c.witness.ensures.none;
      order = subst (λ (ids : List OpId). IsDrawnOrder c.args.book.now ids) (sym c.deref-2.ensures.value) c.requires.order;
      in_doubt = c.is_doubted.ensures;
    }
