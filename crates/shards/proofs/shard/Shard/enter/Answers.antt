use Rattle.std.proofs.Common.{◌≡◌, ℕ, ◌/◌, ◌<◌, ◌≤◌, ◌∙◌, List, [], ◌∷◌, ◌++◌, refl, ap, subst, length, arith}
use Rattle.std.specs.Prelude.{IfSome, option_to_list}
use Rattle.shards.specs.declared.entry.VerdictChange.{VerdictChange}
use Rattle.shards.specs.declared.entry.Entry.{Entry}
use Rattle.shards.specs.Journal.{count_by}
use Rattle.shards.specs.Shard.{IsVerdictChangeTo}
use Rattle.shards.specs.Steps.{entry_of}
use Rattle.shards.proofs.Journals.{count_at_most}
use Rattle.shards.proofs.Changed.{change_of, changes_push}
use Rattle.shards.proofs.Kept.{slot_within, count_of_feeder, answered_by, kept_push}
use Rattle.shards.proofs.shard.Shard.enter.Goals as goal

pub index_mut-book-requires : goal.index_mut-book-requires
index_mut-book-requires g c =
    let within : c.args.register.0 / c.args.self.now.shards < length c.args.self.now.books.items = slot_within g.O.Opening.plan c.args.self.now c.args.register.0 c.requires.kept c.requires.here c.requires.known in
    omega (arith, within, c.args.self.now.books.ok.0)

pub overflow_add-index_mut : goal.overflow_add-index_mut
overflow_add-index_mut g c =
    let is : c.index_mut.result.now ≡ count_by c.args.feeder c.args.self.now.entries = count_of_feeder g.O.Opening.plan c.args.self.now c.args.feeder c.index_mut.result.now c.requires.kept c.requires.feeder c.index_mut.ensures.value in
    let most : count_by c.args.feeder c.args.self.now.entries ≤ length c.args.self.now.entries = count_at_most c.args.feeder c.args.self.now.entries in
    let many : c.args.self.now.many ≡ length c.args.self.now.entries = c.requires.kept.many in
    omega (arith, is, most, many)

pub returns-clause-change : goal.returns-clause-change
returns-clause-change g c =
    change_of g.O.Opening.plan c.args.self.now (entry_of c.args.feeder c.args.register c.args.edit.now c.in_ok-reply.reply) c.index_mut-book.result.now c.apply.new.self c.holds-held.result c.change_to-change.result
    c.requires.kept c.requires.here c.requires.known c.index_mut-book.ensures.value c.in_ok-reply.ensures.reply c.in_ok-reply.ensures.after c.holds-held.ensures
    (subst (λ (n : ℕ). IfSome c.change_to-change.result (IsVerdictChangeTo c.apply.new.self c.args.register n c.holds-held.result)) c.requires.kept.many c.change_to-change.ensures.change)
    c.change_to-change.ensures.none

pub returns-clause-kept : goal.returns-clause-kept
returns-clause-kept g c =
    let entry = entry_of c.args.feeder c.args.register c.args.edit.now c.in_ok-reply.reply in
    kept_push g.O.Opening.plan c.args.self.now _ entry c.index_mut-book.result.now c.apply.new.self c.index_mut.result.now
    c.requires.kept c.requires.here c.requires.known c.requires.feeder c.index_mut-book.ensures.value c.in_ok-reply.ensures.reply c.index_mut.ensures.value
    refl refl c.add.ensures c.in_ok-reply.ensures.after refl refl
    (changes_push g.O.Opening.plan c.args.self.now.entries c.args.self.now.changes.items entry c.change_to-change.result _ _
    (returns-clause-change g c) c.requires.kept.changes c.add.ensures
    (c.note.ensures ∙ ap (λ (told : List VerdictChange). told ++ option_to_list c.change_to-change.result) c.reserve.ensures.items))
    (omega arith)
    refl (λ keeps. c.keep.ensures.journal keeps ∙ ap (λ (journal : List Entry). journal ++ entry ∷ []) c.make_room.ensures.same.0)
    (λ notes. c.keep.ensures.by notes.0 (omega (arith, notes.1, c.len-feeders.ensures)) ∙ ap (λ (by : List ℕ). by ++ c.args.feeder ∷ []) c.make_room.ensures.same.1)

pub returns-clause-answered : goal.returns-clause-answered
returns-clause-answered g c =
    answered_by g.O.Opening.plan c.args.self.now (entry_of c.args.feeder c.args.register c.args.edit.now c.in_ok-reply.reply) c.index_mut-book.result.now c.requires.kept c.requires.here c.requires.known c.index_mut-book.ensures.value c.in_ok-reply.ensures.reply
