-- The summary of a list of stretches is the join of the summaries of its parts.
use Rattle.std.proofs.Common.{◌≡◌, ◌∙◌, Bool, false, not, ◌||◌, List, [], ◌∷◌, ◌++◌, sym, ap}
use Rattle.std.specs.Prelude.{All}
use Rattle.std.specs.List.{list_any}
use Rattle.std.proofs.lemmas.List.Elements.{All-nil, All-cons}
use Rattle.std.proofs.lemmas.List.Folds.{list_any-append}
use Rattle.zone_tree.specs.declared.stretch.Stretch.{Stretch}
use Rattle.zone_tree.specs.declared.stretch_summary.StretchSummary.{StretchSummary}
use Rattle.zone_tree.specs.StretchLook.{is_read_early, has_no_write}
use Rattle.zone_tree.specs.StretchSummary.{join_stretches, one_stretch, summary_of_stretches}
use Rattle.zone_tree.proofs.Summaries.{or_clear, or_false}

-- where no stretch passes, each fails
pub none_passes : (p : Stretch → Bool) (stretches : List Stretch) → list_any p stretches ≡ false → All (λ s. p s ≡ false) stretches
none_passes p [] e = All-nil (λ s. p s ≡ false)
none_passes p (s ∷ stretches) e =
    let parts = (or_clear (p s) (list_any p stretches)).0 e in
    All-cons (λ s. p s ≡ false) s stretches parts.0 (none_passes p stretches parts.1)

pub summary_of_one : (s : Stretch) → one_stretch s ≡ summary_of_stretches (s ∷ [])
summary_of_one s =
    ap {B = StretchSummary} (λ (w : Bool). record { writeless = w; early = s.written }) (sym (or_false (not s.written)))
    ∙ ap {B = StretchSummary} (λ (e : Bool). record { writeless = not s.written || false; early = e }) (sym (or_false s.written))

of_both : (xs ys : List Stretch) → join_stretches (summary_of_stretches xs) (summary_of_stretches ys) ≡ summary_of_stretches (xs ++ ys)
of_both xs ys =
    ap {B = StretchSummary} (λ (w : Bool). record { writeless = w; early = list_any is_read_early xs || list_any is_read_early ys }) (sym (list_any-append has_no_write xs ys))
    ∙ ap {B = StretchSummary} (λ (e : Bool). record { writeless = list_any has_no_write (xs ++ ys); early = e }) (sym (list_any-append is_read_early xs ys))

pub summary_of_joined : (s t : StretchSummary) (xs ys : List Stretch) → s ≡ summary_of_stretches xs → t ≡ summary_of_stretches ys → join_stretches s t ≡ summary_of_stretches (xs ++ ys)
summary_of_joined s t xs ys e f = ap (λ (x : StretchSummary). join_stretches x t) e ∙ (ap (join_stretches (summary_of_stretches xs)) f ∙ of_both xs ys)
