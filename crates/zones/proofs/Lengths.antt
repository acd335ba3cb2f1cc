-- How many zones there are after some went and came, and how many digits that number has.
use Rattle.std.proofs.Common.{◌≡◌, ◌⊎◌, inl, inr, ℕ, suc, ◌+◌, ◌*◌, ◌^◌, ◌<◌, ◌≤◌, Bool, true, false, not, cond, List, [], ◌∷◌, length, Option, Some, None, refl, sym, ap, ◌∙◌, arith, length-append}
use Rattle.std.specs.Prelude.{Contains, filter, is_some}
use Rattle.std.proofs.lemmas.Bool.{both_ways, false_from_ne_true}
use Rattle.std.proofs.lemmas.Int.Digits.{length-digits_of-le}
use Rattle.zone_tree.specs.declared.zone.Zone.{Zone}
use Rattle.zone_tree.specs.Digits.{binary_digits}
use Rattle.zone_tree.specs.Edge.{edge_before, same_edge}
use Rattle.zone_tree.specs.Order.{zones_below, zones_above}
use Rattle.zone_tree.proofs.EdgeOrder.{Decides-same_edge, not_both_ways}
use Rattle.zones.specs.Moves.{KeepsRoom, IsThere, moved, with, without}
use Rattle.zones.specs.Zoned.{zone_shape}
use Rattle.zones.proofs.Members.{contains_cases, in_none}

digits_up : ((n : ℕ) → n < 2 ^ binary_digits n) → (m n : ℕ) → m ≤ n → binary_digits m ≤ binary_digits n
digits_up zones_above m n le = omega (arith, length-digits_of-le 2 (binary_digits n) m (omega arith) (omega (arith, zones_above n, le)))

length_filter : {X : Type 0} (p : X → Bool) (xs : List X) → length (filter p xs) ≤ length xs
length_filter p [] = omega arith
length_filter p (x ∷ xs) = by_cases (p x) (length_filter p xs)
  where
    by_cases : (t : Bool) → length (filter p xs) ≤ length xs → length (cond t (x ∷ filter p xs) (filter p xs)) ≤ suc (length xs)
    by_cases true h = omega (arith, h)
    by_cases false h = omega (arith, h)

two_filters : {X : Type 0} (p q : X → Bool) (xs : List X) → ((x : X) → p x ≡ true → q x ≡ false) → length (filter p xs) + length (filter q xs) ≤ length xs
two_filters p q [] apart = omega arith
two_filters p q (x ∷ xs) apart = by_cases (p x) (q x) (apart x) (two_filters p q xs apart)
  where
    by_cases : (s t : Bool) → (s ≡ true → t ≡ false) → length (filter p xs) + length (filter q xs) ≤ length xs
        → length (cond s (x ∷ filter p xs) (filter p xs)) + length (cond t (x ∷ filter q xs) (filter q xs)) ≤ suc (length xs)
    by_cases true true n h = absurd (let e = n refl in cc)
    by_cases true false n h = omega (arith, h)
    by_cases false true n h = omega (arith, h)
    by_cases false false n h = omega (arith, h)

length_without : (found : Option Zone) (zones : List Zone) → length (without zone_shape found zones) ≤ length zones
length_without None zones = omega arith
length_without (Some zone) zones = length_filter (λ z. not (same_edge z.left zone.left)) zones

length_with : (found : Option Zone) (zones : List Zone) → length (with zone_shape found zones) ≤ length zones + 1
length_with None zones = omega arith
length_with (Some zone) zones =
    let less = zones_below zone.left zones in
    let more = zones_above zone.left zones in
    omega (arith, length-append less (zone ∷ more), two_filters (λ z. edge_before z.left zone.left) (λ z. edge_before zone.left z.left) zones (λ z t. false_from_ne_true (edge_before zone.left z.left) (not_both_ways z.left zone.left t)))

-- without one of its elements a list is shorter
length_filter_less : {X : Type 0} (p : X → Bool) (xs : List X) (x : X) → Contains xs x → p x ≡ false → length (filter p xs) + 1 ≤ length xs
length_filter_less p [] x h f = absurd (in_none x h)
length_filter_less p (y ∷ xs) x h f = by_cases (p y) refl (contains_cases y xs x h) (λ k. length_filter_less p xs x k f)
  where
    by_cases : (t : Bool) → p y ≡ t → (y ≡ x) ⊎ Contains xs x → (Contains xs x → length (filter p xs) + 1 ≤ length xs) → length (cond t (y ∷ filter p xs) (filter p xs)) + 1 ≤ suc (length xs)
    by_cases true t (inl e) later = absurd (let g : p x ≡ true = ap p (sym e) ∙ t in both_ways (p x) f g)
    by_cases true t (inr k) later = omega (arith, later k)
    by_cases false t h later = omega (arith, length_filter p xs)

length_gone : (found : Option Zone) (zones : List Zone) → IsThere zones found → length (without zone_shape found zones) + 1 ≤ length zones
length_gone None zones present = absurd present
length_gone (Some zone) zones present =
    length_filter_less (λ z. not (same_edge z.left zone.left)) zones zone present (ap not ((Decides-same_edge zone.left zone.left).1 refl))

-- where no more zones come than go there are no more
pub kept_length : (gone come : Option Zone × Option Zone) (zones result : List Zone) → KeepsRoom zones gone come → result ≡ moved zone_shape gone come zones → length result ≤ length zones
kept_length gone come zones result keeps is = by_cases come.0 refl
  where
    once : List Zone
    once = without zone_shape gone.0 zones

    twice : List Zone
    twice = without zone_shape gone.1 once

    one : result ≡ with zone_shape come.0 twice
    one = is ∙ ap (λ (c : Option Zone). with zone_shape c (with zone_shape come.0 twice)) keeps.other

    by_cases : (c : Option Zone) → come.0 ≡ c → length result ≤ length zones
    by_cases None e =
        let none : result ≡ twice = one ∙ ap (λ (c : Option Zone). with zone_shape c twice) e in
        omega (arith, ap length none, length_without gone.1 once, length_without gone.0 zones)
    by_cases (Some zone) e =
        let present : IsThere zones gone.0 = keeps.one (ap is_some e) in
        omega (arith, ap length one, length_with come.0 twice, length_without gone.1 once, length_gone gone.0 zones present)

-- where a zone goes that is there and nothing comes there are fewer
pub gone_length : (gone come : Option Zone × Option Zone) (zones result : List Zone) → IsThere zones gone.0 → come.0 ≡ None → come.1 ≡ None → result ≡ moved zone_shape gone come zones → length result + 1 ≤ length zones
gone_length gone come zones result present first second is =
    let once = without zone_shape gone.0 zones in
    let twice = without zone_shape gone.1 once in
    let none : result ≡ twice =
    is
    ∙ (ap (λ (c : Option Zone). with zone_shape c (with zone_shape come.0 twice)) second ∙ ap (λ (c : Option Zone). with zone_shape c twice) first)
    in
    omega (arith, ap length none, length_without gone.1 once, length_gone gone.0 zones present)

-- there are two more zones at most
pub more_length : (gone come : Option Zone × Option Zone) (zones result : List Zone) → result ≡ moved zone_shape gone come zones → length result ≤ length zones + 2
more_length gone come zones result is =
    let once = without zone_shape gone.0 zones in
    let twice = without zone_shape gone.1 once in
    omega (
      arith,
      ap length is,
      length_with come.1 (with zone_shape come.0 twice),
      length_with come.0 twice,
      length_without gone.1 once,
      length_without gone.0 zones,
    )

-- the steps of four calls, of which two take a zone out and then two put one in
pub four_steps : ((n : ℕ) → n < 2 ^ binary_digits n) → (gone come : Option Zone × Option Zone) (zones : List Zone) (s0 s1 s2 s3 s4 : ℕ)
    → s1 ≤ s0 + (2 * binary_digits (length zones) + 1)
    → s2 ≤ s1 + (2 * binary_digits (length (without zone_shape gone.0 zones)) + 1)
    → s3 ≤ s2 + (2 * binary_digits (length (without zone_shape gone.1 (without zone_shape gone.0 zones))) + 1)
    → s4 ≤ s3 + (2 * binary_digits (length (with zone_shape come.0 (without zone_shape gone.1 (without zone_shape gone.0 zones)))) + 1)
    → s4 ≤ s0 + 4 * (2 * binary_digits (length zones + 1) + 1)
four_steps zones_above gone come zones s0 s1 s2 s3 s4 a b c d =
    let once = without zone_shape gone.0 zones in
    let twice = without zone_shape gone.1 once in
    let more = with zone_shape come.0 twice in
    let fewer = length_without gone.0 zones in
    let fewest = length_without gone.1 once in
    let most = length_with come.0 twice in
    omega (
      arith,
      a,
      b,
      c,
      d,
      digits_up zones_above (length zones) (length zones + 1) (omega arith),
      digits_up zones_above (length once) (length zones + 1) (omega (arith, fewer)),
      digits_up zones_above (length twice) (length zones + 1) (omega (arith, fewer, fewest)),
      digits_up zones_above (length more) (length zones + 1) (omega (arith, fewer, fewest, most)),
    )

-- the steps of one call, and of one that takes a zone out and one that puts one in
pub one_call : ((n : ℕ) → n < 2 ^ binary_digits n) → (zones : List Zone) (s0 s1 : ℕ) → s1 ≤ s0 + (2 * binary_digits (length zones) + 1) → s1 ≤ s0 + 4 * (2 * binary_digits (length zones + 1) + 1)
one_call zones_above zones s0 s1 a = omega (arith, a, digits_up zones_above (length zones) (length zones + 1) (omega arith))

pub two_calls : ((n : ℕ) → n < 2 ^ binary_digits n) → (gone : Option Zone) (zones : List Zone) (s0 s1 s2 : ℕ)
    → s1 ≤ s0 + (2 * binary_digits (length zones) + 1)
    → s2 ≤ s1 + (2 * binary_digits (length (without zone_shape gone zones)) + 1)
    → s2 ≤ s0 + 4 * (2 * binary_digits (length zones + 1) + 1)
two_calls zones_above gone zones s0 s1 s2 a b =
    let once = without zone_shape gone zones in
    let fewer = length_without gone zones in
    omega (
      arith,
      a,
      b,
      digits_up zones_above (length zones) (length zones + 1) (omega arith),
      digits_up zones_above (length once) (length zones + 1) (omega (arith, fewer)),
    )
