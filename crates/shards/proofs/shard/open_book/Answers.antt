use Rattle.std.proofs.Common.{List, [], ◌∷◌, ◌++◌, Option, sym, ap, ◌∙◌}
use Rattle.register_book.specs.BookModel.{BookModel, claimed_of}
use Rattle.std.specs.Prelude.{map, option_map, option_to_list}
use Rattle.std.proofs.lemmas.List.{append-nil, map-append}
use Rattle.std.proofs.lemmas.Option.{slice_get-map}
use Rattle.intervals.specs.Terms.{ClaimModel, RegisterState, unedited}
use Rattle.shards.proofs.shard.open_book.Goals as goal

pub returns-in_default-clause-books : goal.returns-in_default-clause-books
returns-in_default-clause-books c =
    sym (ap (λ (claim : Option ClaimModel). map claimed_of c.args.books.now.items ++ option_to_list (option_map unedited claim))
    (slice_get-map (λ register. register.claim) c.args.tower.now.registers c.args.id.0 ∙ sym c.in_default.ensures.claim)
    ∙ append-nil (map claimed_of c.args.books.now.items))

pub returns-in_ok-push-clause-books : goal.returns-in_ok-push-clause-books
returns-in_ok-push-clause-books c =
    ap (map claimed_of) c.in_ok-push.ensures.items
    ∙ map-append claimed_of c.args.books.now.items (c.in_ok-new.field-0 ∷ [])
    ∙ ap (λ (more : List RegisterState). map claimed_of c.args.books.now.items ++ more)
    (ap (λ (held : BookModel). claimed_of held ∷ []) c.in_ok-new.ensures.made
    ∙ sym (ap (λ (claim : Option ClaimModel). option_to_list (option_map unedited claim))
    (slice_get-map (λ register. register.claim) c.args.tower.now.registers c.args.id.0 ∙ sym c.in-Some.ensures.claim)))
