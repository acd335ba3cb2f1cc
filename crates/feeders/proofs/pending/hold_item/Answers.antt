use Rattle.std.proofs.Common.{sym, subst, refl, ◌∙◌}
use Rattle.jepsen_form.specs.Item.{IsItem}
use Rattle.feeders.proofs.Lending.{read_unlent}
use Rattle.feeders.proofs.pending.hold_item.Goals as goal

pub returns-then-is_lent-clause-read : goal.returns-then-is_lent-clause-read
returns-then-is_lent-clause-read g c piece text is =
    let tower = c.args.site.tower.now in
    let field = c.args.site.field in (
      subst (IsItem tower field piece) (sym c.from_page-then-is_lent.ensures)
          (c.one_item.ensures.elsewhere tower field piece c.args.item c.in_ok-page.page is (c.in_ok-page.ensures ∙ sym text)),
      refl,
    )

pub returns-clause-read : goal.returns-clause-read
returns-clause-read g c piece text is = (
  c.args.item,
  is,
  c.in_ok-step.ensures.last,
  c.pair.ensures.place,
  c.pair.ensures.log,
  λ plan. read_unlent plan c.args.progress.now c.pair.new.self c.args.item c.in_ok-step.step c.unlent.result (sym c.is_lent.ensures ∙ c.if-is_lent.false) c.unlent.ensures c.in_ok-step.ensures.paired,
)
