use Rattle.std.proofs.Common.{◌≡◌, true, false, None, sym, subst}
use Rattle.std.specs.Prelude.{option_map}
use Rattle.read_tree.specs.Items.{spot_of_item, cover_of, is_uncovered}
use Rattle.read_tree.proofs.Firsts.{none_first, none_short}
use Rattle.read_tree.proofs.Told.{that_cover, all_right, first_of, IsFirstOf}
use Rattle.read_tree.proofs.laws.short_reads_are_told.Goals as goal

pub returns : goal.returns
returns g = record {
  none = λ items order right r c present read is.
      subst (λ d. is_uncovered (option_map cover_of d) r ≡ false) (sym (that_cover items (spot_of_item r) c order is)) (all_right None items r order right present read);
  found = λ items r order found.
      let first = subst (IsFirstOf None items) found (first_of None items order) in (
        first.0.present,
        first.0.read,
        λ c is. subst (λ d. is_uncovered (option_map cover_of d) r ≡ true) (sym (that_cover items (spot_of_item r) c order is)) first.0.uncovered,
        λ other c present read is uncovered. first.1 other present read (subst (λ d. is_uncovered (option_map cover_of d) other ≡ true) (that_cover items (spot_of_item other) c order is) uncovered),
      );
  some = λ items. (none_first None items, none_short None items);
}
