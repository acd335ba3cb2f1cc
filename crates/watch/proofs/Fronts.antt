-- What notices give, as the front of all that they are to give.
use Rattle.std.proofs.Common.{◌≡◌, ◌≢◌, ℕ, suc, ◌<◌, Bool, true, false, List, [], ◌∷◌, ◌++◌, Option, Some, None, length, get_or, take, drop, refl, sym, ap, ◌∙◌}
use Rattle.std.specs.Prelude.{filter_map}
use Rattle.std.specs.Option.{option_to_list}
use Rattle.std.proofs.Math.Seq.{split_at, take-suc}
use Rattle.std.proofs.lemmas.List.{append-nil, append_assoc, append_cancel_left}
use Rattle.std.proofs.lemmas.List.Elements.{filter_map-append}
use Rattle.logs.specs.declared.notice.Notice.{Notice}
use Rattle.watch.specs.Noted.{IsToldOf}

first_given : {A : Type 0} (gives : Notice → Option A) (notice : Notice) (after : List Notice) (found : Option A) → gives notice ≡ found
    → filter_map gives (notice ∷ after) ≡ option_to_list found ++ filter_map gives after
first_given gives notice after (Some one) is = search (is)
first_given gives notice after None is = search (is)

-- what notices give from one on
given_from : {A : Type 0} (gives : Notice → Option A) (notices : List Notice) (place : ℕ) (d : Notice) → place < length notices
    → filter_map gives notices ≡ filter_map gives (take place notices) ++ (option_to_list (gives (get_or notices place d)) ++ filter_map gives (drop (suc place) notices))
given_from {A} gives notices place d within =
    ap (filter_map gives) (split_at notices place d within)
    ∙ filter_map-append gives (take place notices) (get_or notices place d ∷ drop (suc place) notices)
    ∙ ap (λ (l : List A). filter_map gives (take place notices) ++ l) (first_given gives (get_or notices place d) (drop (suc place) notices) (gives (get_or notices place d)) refl)

pub other_given : {A : Type 0} (gives : Notice → Option A) (notices : List Notice) (own rest : List A) (place : ℕ) (d : Notice) → place < length notices
    → own ≡ filter_map gives (take place notices) ++ rest → ((more : List A) → rest ≢ option_to_list (gives (get_or notices place d)) ++ more)
    → (more : List A) → own ≢ filter_map gives notices ++ more
other_given {A} gives notices own rest place d within so_far other more same =
    let front = filter_map gives (take place notices) in
    let one = option_to_list (gives (get_or notices place d)) in
    let after = filter_map gives (drop (suc place) notices) in
    other (after ++ more)
    (append_cancel_left front rest (one ++ (after ++ more))
    (sym so_far ∙ same ∙ ap (λ (l : List A). l ++ more) (given_from gives notices place d within) ∙ append_assoc front (one ++ after) more ∙ ap (λ (l : List A). front ++ l) (append_assoc one after more)))

pub none_told : {A : Type 0} (stopped : Bool) (told own : List A) → ((more : List A) → own ≢ told ++ more) → IsToldOf stopped told own → ⊥
none_told true told own none is = none is.0 is.1
none_told false told own none is = none [] (is ∙ sym (append-nil told))

-- what notices give up to one more
given_push : {A : Type 0} (gives : Notice → Option A) (notices : List Notice) (place : ℕ) (d : Notice) → place < length notices
    → filter_map gives (take (suc place) notices) ≡ filter_map gives (take place notices) ++ option_to_list (gives (get_or notices place d))
given_push {A} gives notices place d within =
    ap (filter_map gives) (take-suc notices place d within)
    ∙ filter_map-append gives (take place notices) (get_or notices place d ∷ [])
    ∙ ap (λ (l : List A). filter_map gives (take place notices) ++ l)
    (first_given gives (get_or notices place d) [] (gives (get_or notices place d)) refl ∙ append-nil (option_to_list (gives (get_or notices place d))))

pub given_next : {A : Type 0} (gives : Notice → Option A) (notices : List Notice) (own rest more : List A) (place next : ℕ) (d : Notice) → place < length notices → suc place ≡ next
    → own ≡ filter_map gives (take place notices) ++ rest → rest ≡ option_to_list (gives (get_or notices place d)) ++ more
    → own ≡ filter_map gives (take next notices) ++ more
given_next {A} gives notices own rest more place next d within up so_far one =
    so_far
    ∙ ap (λ (l : List A). filter_map gives (take place notices) ++ l) one
    ∙ sym (append_assoc (filter_map gives (take place notices)) (option_to_list (gives (get_or notices place d))) more)
    ∙ ap (λ (l : List A). l ++ more) (sym (given_push gives notices place d within) ∙ ap (λ (k : ℕ). filter_map gives (take k notices)) up)
