use Rattle.std.proofs.Common.{◌≡◌, ◌≤◌, ◌<◌, ◌+◌, ◌++◌, List, ℕ, length, vec_len, map, slice_index_or, slice_set, sym, ap, ◌∙◌, arith, rules}
use Rattle.std.proofs.Math.ListN.{drop_of_length-le}
use Rattle.std.proofs.lemmas.List.{append-nil, length-map}
use Rattle.watch.specs.declared.settling.FeederProgress.{FeederProgress}
use Rattle.records.specs.Run.{at_most_u64}
use Rattle.watch.proofs.Advancing.{none_until, set_until}
use Rattle.watch.proofs.settling.until_settled.Goals as goal
use Rattle.watch.proofs.settling.until_settled.Goals.{then-own-len, else-own-len}

pub returns : goal.returns
returns c =
    let progress = c.args.progress.now in
    let settle = c.args.settle in
    let items = c.loop-one.until.items in
    let all : items ≡ map (λ (one : FeederProgress). at_most_u64 (one.taken + settle)) progress =
    sym (append-nil items) ∙ ap (λ (l : List FeederProgress). items ++ map (λ (one : FeederProgress). at_most_u64 (one.taken + settle)) l) (sym (drop_of_length-le progress c.loop-one-test.false)) ∙ c.loop-one.invariant in
    let long : length items ≡ length progress = ap (length {A = ℕ}) all ∙ length-map progress (λ (one : FeederProgress). at_most_u64 (one.taken + settle)) in
    let many : length items ≡ vec_len c.loop-one.until = search rules in
    elim c.if-own-len.branch [
      | then-own-len w ↦
          let own = w.saturating_add-then-own-len.result in
          let within : c.args.feeder < length progress = omega (arith, long, many, c.len.ensures, w.if-own-len.true) in
          ap (λ v. v.items) w.until-is ∙ ap (λ (l : List ℕ). slice_set l c.args.feeder own) all
          ∙ set_until progress settle c.args.feeder w.index.result.now own within
          (w.saturating_add-then-own-len.ensures ∙ ap (λ (n : ℕ). at_most_u64 (n + 1)) (w.index.ensures ∙ ap (λ (l : List ℕ). slice_index_or l c.args.feeder w.index.result.now) all))
      | else-own-len w ↦
          let past : length progress ≤ c.args.feeder = omega (arith, long, many, c.len.ensures, w.if-own-len.false) in
          ap (λ v. v.items) w.until-is ∙ all ∙ none_until progress settle c.args.feeder past
    ]
