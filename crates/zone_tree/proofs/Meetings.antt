-- The first zone that conflicts with an earlier forward one, found in the zones before a node's, there or after it.
use Rattle.std.proofs.Common.{◌≡◌, ◌∙◌, true, false, List, [], ◌∷◌, ◌++◌, Option, Some, None, refl, sym, ap, append_assoc}
use Rattle.std.proofs.lemmas.Bool.{both_ways}
use Rattle.zone_tree.specs.declared.zone.Zone.{Zone}
use Rattle.zone_tree.specs.declared.summary.ZoneSummary.{ZoneSummary}
use Rattle.zone_tree.specs.Summary.{one_zone, join_zones, summary_of_zones}
use Rattle.zone_tree.specs.Look.{IsFirstMeeting, IsMetFirst}
use Rattle.zone_tree.proofs.Summaries.{none_after, join_assoc, summary_around}

-- the summary of those seen and then the zones around one
pub seen_around : (seen : ZoneSummary) (xs : List Zone) (z : Zone) (ys : List Zone) → join_zones seen (summary_of_zones (xs ++ z ∷ ys)) ≡ join_zones (join_zones (join_zones seen (summary_of_zones xs)) (one_zone z)) (summary_of_zones ys)
seen_around seen xs z ys =
    ap (join_zones seen) (summary_around xs z ys)
    ∙ sym (join_assoc seen (summary_of_zones xs) (join_zones (one_zone z) (summary_of_zones ys)))
    ∙ sym (join_assoc (join_zones seen (summary_of_zones xs)) (one_zone z) (summary_of_zones ys))

meeting_left : (seen : ZoneSummary) (xs : List Zone) (z : Zone) (ys : List Zone) (w : Zone) → IsFirstMeeting seen xs w → IsFirstMeeting seen (xs ++ z ∷ ys) w
meeting_left seen xs z ys w is = record {
  earlier = is.earlier;
  later = is.later ++ z ∷ ys;
  parts = ap (λ zs. zs ++ z ∷ ys) is.parts ∙ append_assoc is.earlier (w ∷ is.later) (z ∷ ys);
  clear = is.clear;
  meets = is.meets;
}

meeting_here : (seen : ZoneSummary) (xs : List Zone) (z : Zone) (ys : List Zone) → (join_zones seen (summary_of_zones xs)).conflict ≡ false → (join_zones (join_zones seen (summary_of_zones xs)) (one_zone z)).conflict ≡ true → IsFirstMeeting seen (xs ++ z ∷ ys) z
meeting_here seen xs z ys clear meets = record { earlier = xs; later = ys; parts = refl; clear = clear; meets = meets }

meeting_right : (seen : ZoneSummary) (xs : List Zone) (z : Zone) (ys : List Zone) (w : Zone) → IsFirstMeeting (join_zones (join_zones seen (summary_of_zones xs)) (one_zone z)) ys w → IsFirstMeeting seen (xs ++ z ∷ ys) w
meeting_right seen xs z ys w is = record {
  earlier = xs ++ z ∷ is.earlier;
  later = is.later;
  parts = ap (λ zs. xs ++ z ∷ zs) is.parts ∙ sym (append_assoc xs (z ∷ is.earlier) (w ∷ is.later));
  clear = ap (λ (s : ZoneSummary). s.conflict) (seen_around seen xs z is.earlier) ∙ is.clear;
  meets = ap (λ (s : ZoneSummary). (join_zones s (one_zone w)).conflict) (seen_around seen xs z is.earlier) ∙ is.meets;
}

-- what is found, or not, in each part is what is found in the whole
pub met_empty : (seen : ZoneSummary) → seen.conflict ≡ false → IsMetFirst seen [] None
met_empty seen clear = ap (λ (s : ZoneSummary). s.conflict) (none_after seen) ∙ clear

pub met_none : (seen : ZoneSummary) (zones : List Zone) → (join_zones seen (summary_of_zones zones)).conflict ≡ false → IsMetFirst seen zones None
met_none seen zones clear = clear

pub met_left : (seen : ZoneSummary) (xs : List Zone) (z : Zone) (ys : List Zone) (found : Option Zone) → (join_zones seen (summary_of_zones xs)).conflict ≡ true → IsMetFirst seen xs found → IsMetFirst seen (xs ++ z ∷ ys) found
met_left seen xs z ys None meets clear = absurd (both_ways (join_zones seen (summary_of_zones xs)).conflict clear meets)
met_left seen xs z ys (Some w) meets is = meeting_left seen xs z ys w is

pub met_here : (seen : ZoneSummary) (xs : List Zone) (z : Zone) (ys : List Zone) → (join_zones seen (summary_of_zones xs)).conflict ≡ false → (join_zones (join_zones seen (summary_of_zones xs)) (one_zone z)).conflict ≡ true → IsMetFirst seen (xs ++ z ∷ ys) (Some z)
met_here seen xs z ys clear meets = meeting_here seen xs z ys clear meets

pub met_right : (seen : ZoneSummary) (xs : List Zone) (z : Zone) (ys : List Zone) (found : Option Zone) → IsMetFirst (join_zones (join_zones seen (summary_of_zones xs)) (one_zone z)) ys found → IsMetFirst seen (xs ++ z ∷ ys) found
met_right seen xs z ys None clear = ap (λ (s : ZoneSummary). s.conflict) (seen_around seen xs z ys) ∙ clear
met_right seen xs z ys (Some w) is = meeting_right seen xs z ys w is
