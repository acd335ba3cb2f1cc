-- An exchange of two zones for two others where one of them stays, or both do.
use Rattle.std.proofs.Common.{◌≡◌, ◌<◌, ◌≤◌, ◌⊎◌, inl, inr, List, Option, None, refl, arith}
use Rattle.std.specs.Prelude.{IsSome}
use Rattle.zone_tree.specs.declared.zone.Zone.{Zone}
use Rattle.zone_tree.specs.Order.{ZoneContents}
use Rattle.zones.specs.Moves.{AreChanges, AreExchanged, IsNew, KeepsRoom, IsThere, with, without}
use Rattle.zones.specs.Zoned.{CanExchange, CanMove, NeedsNoRoom, zone_shape}

module _ (before after : Option Zone × Option Zone) where
  both : AreChanges before after before after
  both = record { one = inl refl; other = inl refl }

  pub can_move_both : (tree : ZoneContents) → CanExchange tree before after → CanMove tree before after
  can_move_both tree can = can before after both

  pub none_moved : before.0 ≡ after.0 → before.1 ≡ after.1 → (zones : List Zone) → AreExchanged zone_shape before after zones zones
  none_moved e f zones = record {
    gone = (None, None);
    come = (None, None);
    changes = record { one = inr (e, refl); other = inr (f, refl) };
    moves = refl;
  }

  -- the second zone stays
  module _ (stays : before.1 ≡ after.1) where
    first_alone : AreChanges before after (before.0, None) (after.0, None)
    first_alone = record { one = inl refl; other = inr (stays, refl) }

    pub first_has_room : (tree : ZoneContents) → CanExchange tree before after → IsSome after.0 → (0 < tree.free) ⊎ IsThere tree.zones before.0
    first_has_room tree can is = by_room (can (before.0, None) (after.0, None) first_alone).room
      where
        by_room : (2 ≤ tree.free) ⊎ KeepsRoom tree.zones (before.0, None) (after.0, None) → (0 < tree.free) ⊎ IsThere tree.zones before.0
        by_room (inl two) = inl (omega (arith, two))
        by_room (inr keeps) = inr (keeps.one is)

    pub first_is_new : (tree : ZoneContents) → CanExchange tree before after → IsNew zone_shape (without zone_shape before.0 tree.zones) after.0
    first_is_new tree can = (can (before.0, None) (after.0, None) first_alone).new.first

    pub first_moved : (zones result : List Zone) → result ≡ with zone_shape after.0 (without zone_shape before.0 zones) → AreExchanged zone_shape before after zones result
    first_moved zones result is = record {
      gone = (before.0, None);
      come = (after.0, None);
      changes = first_alone;
      moves = is;
    }

    pub first_keeps_room : (zones : List Zone) → NeedsNoRoom zones before after → IsSome after.0 → IsThere zones before.0
    first_keeps_room zones needs = (needs (before.0, None) (after.0, None) first_alone).one

  -- the first zone stays
  module _ (stays : before.0 ≡ after.0) where
    second_alone : AreChanges before after (None, before.1) (None, after.1)
    second_alone = record { one = inr (stays, refl); other = inl refl }

    none_comes : {P : Type 0} (zones : List Zone) → KeepsRoom zones (None, before.1) (None, after.1) → IsSome after.1 → P
    none_comes zones keeps is = absurd (let e : after.1 ≡ None = keeps.other in let f = rw e at is in cc)

    pub second_has_room : (tree : ZoneContents) → CanExchange tree before after → IsSome after.1 → (0 < tree.free) ⊎ IsThere tree.zones before.1
    second_has_room tree can is = by_room (can (None, before.1) (None, after.1) second_alone).room
      where
        by_room : (2 ≤ tree.free) ⊎ KeepsRoom tree.zones (None, before.1) (None, after.1) → (0 < tree.free) ⊎ IsThere tree.zones before.1
        by_room (inl two) = inl (omega (arith, two))
        by_room (inr keeps) = none_comes tree.zones keeps is

    pub second_is_new : (tree : ZoneContents) → CanExchange tree before after → IsNew zone_shape (without zone_shape before.1 tree.zones) after.1
    second_is_new tree can = (can (None, before.1) (None, after.1) second_alone).new.second

    pub second_moved : (zones result : List Zone) → result ≡ with zone_shape after.1 (without zone_shape before.1 zones) → AreExchanged zone_shape before after zones result
    second_moved zones result is = record {
      gone = (None, before.1);
      come = (None, after.1);
      changes = second_alone;
      moves = is;
    }

    pub second_keeps_room : (zones : List Zone) → NeedsNoRoom zones before after → IsSome after.1 → IsThere zones before.1
    second_keeps_room zones needs = none_comes zones (needs (None, before.1) (None, after.1) second_alone)
