use Rattle.std.proofs.Common.{rules, ◌≡◌, ◌∙◌, ℕ, List, Option, Vec, length, map, subst, sym, vec_len}
use Rattle.std.proofs.lemmas.List.{length-map}
use Rattle.std.specs.declared.alloc.Global.{Global}
use Rattle.logs.specs.declared.log.Log.{Log}
use Rattle.places.specs.Copied.{AreCopiesOf}
use Rattle.command_parts.specs.Kept.{AreTracesKept}
use Rattle.command_parts.proofs.judging.judge_copied.Goals as goal

pub returns-clause-kept : goal.returns-clause-kept
returns-clause-kept g c =
    let lefts = map g.S.Read.remaining c.args.readers.items in
    let kept = c.in_ok-into_kept.field-0 in
    let readers : length c.args.readers.items ≡ vec_len c.args.readers = search rules in
    let as_many : vec_len kept ≡ length kept.items = search rules in
    let many : length lefts ≡ length kept.items = length-map c.args.readers.items g.S.Read.remaining ∙ readers ∙ sym c.len.ensures ∙ sym c.in_ok-copies.ensures ∙ sym c.in_ok-into_kept.ensures.many ∙ as_many in
    let copies = subst (λ (texts : List (Option (List ℕ))). AreCopiesOf texts kept.items) c.requires.texts c.in_ok-into_kept.ensures.copies in
    subst (λ (logs : List Log). AreTracesKept lefts logs (map (λ (text : Vec ℕ Global). text.items) c.in_ok-texts.texts.items)) c.as_slice.ensures.value (c.in_ok-texts.ensures lefts many copies)
