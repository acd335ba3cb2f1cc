-- Where two zones conflict there is a first conflict.
use Rattle.std.proofs.Common.{◌≡◌, ◌⊎◌, inl, inr, Bool, true, false, List, [], ◌∷◌, ◌++◌, Option, Some, None, refl, sym, subst}
use Rattle.std.specs.Prelude.{◌&&◌}
use Rattle.std.proofs.lemmas.Bool.{cases_Bool, and_parts, and_from, both_ways}
use Rattle.std.proofs.lemmas.List.{append-nil, append_assoc}
use Rattle.std.proofs.lemmas.List.Elements.{All-nil}
use Rattle.zone_tree.specs.declared.zone.Zone.{Zone}
use Rattle.zone_tree.specs.Edge.{edge_before}
use Rattle.zone_tree.specs.Zone.{IsForward, least_end, greatest_begin, Conflicts}
use Rattle.zone_tree.specs.Conflict.{IsClean, KeepsClearOfForward, IsFirstConflict}
use Rattle.zone_tree.specs.Order.{StandInOrder}
use Rattle.summary_tree.proofs.Pairs.{pairs_nil}
use Rattle.zone_tree.proofs.Farthest.{farther_of, IsFarthest, Meets, farthest_push, clear_push, clean_where_clear, order_front}

abbrev conflict : Zone → Zone → Bool
conflict a b = edge_before (least_end a) (greatest_begin b) && edge_before (least_end b) (greatest_begin a)

meets_by : (found z : Zone) → (conflict found z ≡ true) ⊎ (conflict found z ≡ false) → Meets (Some found) z ⊎ (¬ Meets (Some found) z)
meets_by found z (inl e) = inl (and_parts (edge_before (least_end found) (greatest_begin z)) (edge_before (least_end z) (greatest_begin found)) e)
meets_by found z (inr e) = inr (λ c. both_ways (conflict found z) e (and_from (edge_before (least_end found) (greatest_begin z)) (edge_before (least_end z) (greatest_begin found)) c.0 c.1))

pub meets : (found : Option Zone) (z : Zone) → Meets found z ⊎ (¬ Meets found z)
meets None z = inr (λ c. absurd c)
meets (Some found) z = meets_by found z (cases_Bool (conflict found z))

abbrev Found : List Zone → Type 0
Found zones = (first second : Zone) × IsFirstConflict zones first second

-- the zone is the first that conflicts with an earlier forward one
met : (found : Option Zone) (front back : List Zone) (z : Zone) → KeepsClearOfForward front → IsFarthest found front → Meets found z → Found (front ++ z ∷ back)
met None front back z clear farthest c = absurd c
met (Some found) front back z clear farthest c = (
  found,
  z,
  record {
    earlier = front;
    later = back;
    parts = refl;
    clear = clear;
    farthest = farthest;
    conflict = c;
  },
)

-- the other zones of the list, one after another
look_after : (found : Option Zone) (front back : List Zone) (z : Zone) → KeepsClearOfForward front → IsFarthest found front → Meets found z ⊎ (¬ Meets found z) → (¬ Meets found z → KeepsClearOfForward (front ++ z ∷ back) ⊎ Found (front ++ z ∷ back)) → KeepsClearOfForward (front ++ z ∷ back) ⊎ Found (front ++ z ∷ back)
look_after found front back z clear farthest (inl c) go_on = inr (met found front back z clear farthest c)
look_after found front back z clear farthest (inr n) go_on = go_on n

look : (found : Option Zone) (front back : List Zone) → StandInOrder (front ++ back) → KeepsClearOfForward front → IsFarthest found front → KeepsClearOfForward (front ++ back) ⊎ Found (front ++ back)
look found front [] order clear farthest = inl (subst KeepsClearOfForward (sym (append-nil front)) clear)
look found front (z ∷ back) order clear farthest =
    let same : (front ++ z ∷ []) ++ back ≡ front ++ z ∷ back = append_assoc front (z ∷ []) back in
    let stand = subst StandInOrder (sym same) order in
    look_after found front back z clear farthest (meets found z)
    (λ n. subst (λ zones. KeepsClearOfForward zones ⊎ Found zones) same
    (look (farther_of found z) (front ++ z ∷ []) back stand
    (clear_push found front z (order_front (front ++ z ∷ []) back stand) farthest n clear)
    (farthest_push found front z farthest)))

found_by : (zones : List Zone) → StandInOrder zones → ¬ IsClean zones → KeepsClearOfForward zones ⊎ Found zones → Found zones
found_by zones order conflict (inl clear) = absurd (conflict ((clean_where_clear zones order).1 clear))
found_by zones order conflict (inr found) = found

pub first_found : (zones : List Zone) → StandInOrder zones → ¬ IsClean zones → (first second : Zone) × IsFirstConflict zones first second
first_found zones order conflict =
    found_by zones order conflict (look None [] zones order (pairs_nil (λ earlier later. IsForward earlier → ¬ Conflicts earlier later)) (All-nil (λ z. ¬ IsForward z)))
