use Rattle.std.proofs.Common.{subst}
use Rattle.intervals.specs.declared.claim.Kind.{Kind}
use Rattle.intervals.specs.Kind.{Keeps}
use Rattle.intervals.specs.Terms.{unedited}
use Rattle.intervals.specs.Refusal.{standing}
use Rattle.zones.specs.AtFirst.{start_of}
use Rattle.register_book.proofs.Excluding.{excluding, excluded, unwritten_known}
use Rattle.register_book.proofs.laws.a_witness_excludes_every_arrangement.Goals as goal

pub returns-clause-excluding : goal.returns-clause-excluding
returns-clause-excluding c = λ claim ops witness kind h.
    excluding claim ops kind
    (λ r e.
    let (known, first) = unwritten_known claim ops r e in
    let f = c.first_unwritten_ended_first.ensures.first claim.initial ops r first in (known, f.present, f.holds))
    (λ a b e. ((c.first_split_ended_first.ensures.first claim ops a b e).0, c.first_split_ended_first.ensures.split claim ops a b e))
    (λ r w e. let f = c.first_early_ended_first.ensures.first ops r w e in (f.0.present, f.1, f.2))
    (λ a b x d first. c.one_first_crossing.ensures.crossing (start_of claim ops) ops a b x d (c.one_first_crossing.ensures.start claim ops a b x d first)) witness h

pub returns-clause-excludes : goal.returns-clause-excludes
returns-clause-excludes c = λ claim ops witness values h.
    let each = c.one_fault_excludes_every_arrangement.ensures in
    excluded claim ops _ (each.unwritten claim ops) (each.split claim ops) (λ r w. each.early claim ops r w values) (λ a b c' d. each.crossing claim ops a b c' d values) witness h

pub returns-clause-after_edits : goal.returns-clause-after_edits
returns-clause-after_edits c = λ claim edits witness kind h holds.
    let each = c.one_fault_excludes_every_arrangement.ensures in
    let held = standing (unedited claim) edits in
    let values = (c.edits_keep_operations_apart.ensures.apart claim edits).values kind in
    excluded held.claim held.ops _ (each.unwritten held.claim held.ops) (each.split held.claim held.ops) (λ r w. each.early held.claim held.ops r w values) (λ a b c' d. each.crossing held.claim held.ops a b c' d values) witness h
    (subst (λ (k : Kind). Keeps k held.claim held.ops) kind holds)
