use Rattle.std.proofs.Common.{Option, Some, sym, subst}
use Rattle.intervals.specs.declared.ordered_index.Spot.{Spot}
use Rattle.intervals.specs.Terms.{terms_of}
use Rattle.safe_regular.specs.RowItems.{IsExchanged, IsFreeFor, HasItemAt}
use Rattle.safe_regular.proofs.Exchanged.{is_exchanged_itself, no_item, some_new}
use Rattle.safe_regular.proofs.row_items.change_item.Goals as goal

pub exchange-requires-clause-room : goal.exchange-requires-clause-room
exchange-requires-clause-room c some =
    let item_is = c.item_of-item.ensures c.requires.judged.shelved c.requires.judged.ids c.requires.listed in
    c.requires.change.room (some_new (terms_of c.args.claim.now) c.args.table.now.ops c.args.new.now c.item_of-item.result item_is some)

pub exchange-requires-clause-taken : goal.exchange-requires-clause-taken
exchange-requires-clause-taken c = subst (λ (s : Option Spot). HasItemAt s c.args.line.now.items) (sym c.spot_of-spot.ensures) c.requires.change.taken

pub exchange-requires-clause-apart : goal.exchange-requires-clause-apart
exchange-requires-clause-apart c =
    let item_is = c.item_of-item.ensures c.requires.judged.shelved c.requires.judged.ids c.requires.listed in
    subst (λ (s : Option Spot). IsFreeFor s c.item_of-item.result c.args.line.now.items) (sym c.spot_of-spot.ensures) (c.requires.change.apart c.item_of-item.result item_is)

pub returns-then-not-keeps_its_cover-clause-changed : goal.returns-then-not-keeps_its_cover-clause-changed
returns-then-not-keeps_its_cover-clause-changed c =
    let item_is = c.item_of-item.ensures c.requires.judged.shelved c.requires.judged.ids c.requires.listed in
    record {
      item = c.item_of-item.result;
      is = item_is;
      exchanged = subst (λ (s : Option Spot). IsExchanged s c.item_of-item.result c.args.line.now.items c.exchange.new.line.items) c.spot_of-spot.ensures c.exchange.ensures.exchanged;
    }

pub returns-then-not-keeps_its_cover-clause-free : goal.returns-then-not-keeps_its_cover-clause-free
returns-then-not-keeps_its_cover-clause-free c none =
    let item_is = c.item_of-item.ensures c.requires.judged.shelved c.requires.judged.ids c.requires.listed in
    c.exchange.ensures.free (no_item (terms_of c.args.claim.now) c.args.table.now.ops c.args.new.now c.item_of-item.result item_is none)

pub returns-else-not-keeps_its_cover-clause-changed : goal.returns-else-not-keeps_its_cover-clause-changed
returns-else-not-keeps_its_cover-clause-changed c =
    let kept = c.requires.change.kept (c.keeps_its_cover.ensures c.if-not-keeps_its_cover.false) in
    record { item = Some kept.item; is = kept.is; exchanged = is_exchanged_itself _ kept.item c.args.line.now.items c.requires.change.order kept.present kept.place }
