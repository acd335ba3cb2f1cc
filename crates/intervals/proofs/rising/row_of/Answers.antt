use Rattle.std.proofs.Common.{◌≡◌, ◌<◌, ◌-◌, List, None, Option, length, drop, rules, subst, arith}
use Rattle.std.specs.declared.cmp.Ordering.TheVariants.{Less, Equal, Greater}
use Rattle.std.specs.List.{HoldsAt}
use Rattle.std.specs.List.Sorted.{IsNonDecreasingBy, IsPartitionPoint}
use Rattle.std.specs.Ordering.{ordering_index}
use Rattle.std.proofs.lemmas.List.{length-drop, take_all}
use Rattle.std.proofs.lemmas.List.Sorted.{answers_always}
use Rattle.intervals.proofs.RisingRows.{found_from, none_from}
use Rattle.intervals.proofs.rising.row_of.Goals as goal

-- the closure gives the row's key
pub returns-in-Ok-clause-first : goal.returns-in-Ok-clause-first
returns-in-Ok-clause-first g c =
    let rows = c.args.rows.now in
    let from = c.start_for-from.result in
    let whole = take_all (length rows - from) (drop from rows) (omega (arith, length-drop from rows)) in
    let found = c.in-Ok.ensures.position (λ row. row.0) (answers_always _ _ _ (λ f a r g called. search rules)) in
    found_from g.K.PartialEq.eq g.K.Ord.cmp g.met.K.Ord.total g.met.K.Ord.matches_eq rows c.requires c.args.key from c.in-Ok.place
    (subst (λ (xs : List (g.row.K.Denot × Option g.row.V.Denot)). c.in-Ok.place < length xs) whole c.in-Ok.ensures.bound)
    (subst (λ (xs : List (g.row.K.Denot × Option g.row.V.Denot)). HoldsAt (λ row. g.K.Ord.cmp row.0 c.args.key ≡ Equal) xs c.in-Ok.place) whole found)

pub returns-in-Err-clause-none : goal.returns-in-Err-clause-none
returns-in-Err-clause-none g c e =
    let rows = c.args.rows.now in
    let from = c.start_for-from.result in
    let whole = take_all (length rows - from) (drop from rows) (omega (arith, length-drop from rows)) in
    let found = c.in-Err.ensures.position (λ row. row.0) (answers_always _ _ _ (λ f a r g called. search rules)) in
    none_from g.K.PartialEq.eq g.K.Ord.cmp g.met.K.Ord.total g.met.K.Ord.matches_eq rows c.requires c.args.key from c.in-Err.field-0 (c.args.key, None) c.start_for-from.ensures.less c.start_for-from.ensures.within
    (subst (λ (xs : List (g.row.K.Denot × Option g.row.V.Denot)). IsNonDecreasingBy (λ row. ordering_index (g.K.Ord.cmp row.0 c.args.key)) xs → IsPartitionPoint (λ row. g.K.Ord.cmp row.0 c.args.key ≡ Less) (λ row. g.K.Ord.cmp row.0 c.args.key ≡ Greater) xs c.in-Err.field-0) whole found)
