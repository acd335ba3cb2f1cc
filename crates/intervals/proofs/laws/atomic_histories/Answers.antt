use Rattle.std.proofs.Common.{[], ◌∷◌, refl, rules}
use Rattle.intervals.proofs.laws.atomic_histories.Goals as goal

pub returns : goal.returns
returns c = record {
  write_after_read = record {
    each_once = record { moves = (0, 1) ∷ []; below = search rules; is = refl };
    keeps = search rules;
    reads = (refl, (tt, (refl, tt)));
  };
  by_beginning = λ order. let reads = order.reads in cc;
  new_before_old = λ order. let reads = order.reads in cc;
  old_before_new = λ order. let reads = order.reads in cc;
}
