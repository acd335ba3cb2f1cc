use Rattle.std.proofs.Common.{sym, ◌∙◌}
use Rattle.edn_reader.specs.Lent.{piece_of}
use Rattle.tower_file.specs.Located.{is_wrong}
use Rattle.tower_file.proofs.Locating.{wrong_on, wrong_found, wrong_ends}
use Rattle.tower_file.proofs.locate.first_wrong.Goals as goal

pub returns-then-is_wrong : goal.returns-then-is_wrong
returns-then-is_wrong c =
    wrong_found (is_wrong c.args.fault c.args.first c.args.registers.now) (piece_of c.args.whole.now) c.args.view c.loop-element.left c.next.new.self c.in-Some.element
    c.loop-element.invariant c.in-Some.ensures.member (sym c.is_wrong.ensures ∙ c.if-is_wrong.true)

pub loop-element-preserved : goal.loop-element-preserved
loop-element-preserved c =
    wrong_on (is_wrong c.args.fault c.args.first c.args.registers.now) (piece_of c.args.whole.now) c.args.view c.loop-element.left c.next.new.self c.in-Some.element
    c.loop-element.invariant c.in-Some.ensures.member (sym c.is_wrong.ensures ∙ c.if-is_wrong.false)

pub returns : goal.returns
returns c =
    wrong_ends (is_wrong c.args.fault c.args.first c.args.registers.now) (piece_of c.args.whole.now) c.args.view c.loop-element.left c.next.new.self
    c.loop-element.invariant c.in_default.ensures.member
