-- What a look-up in the two indexes says.
use Rattle.std.proofs.Common.{◌≡◌, ◌≢◌, ◌≤◌, ◌<◌, ◌⊎◌, inl, inr, ℕ, Bool, true, false, not, ◌&&◌, List, Option, Some, None, refl, ap, subst, arith}
use Rattle.std.specs.Prelude.{Contains, MatchOption, is_some}
use Rattle.std.proofs.lemmas.Bool.{cases_lt}
use Rattle.intervals.specs.declared.operation.Op.{Op}
use Rattle.intervals.specs.declared.operation.OpId.{OpId}
use Rattle.intervals.specs.declared.operation.Moment.{Moment}
use Rattle.intervals.specs.declared.operation.Value.{Value}
use Rattle.intervals.specs.declared.ordered_index.OrderedIndex.{OrderedIndex}
use Rattle.intervals.specs.Judging.{end_number}
use Rattle.intervals.specs.Operation.{IsJudgedRead, is_write, value_of}
use Rattle.intervals.specs.OrderedIndex.{id_at, spot_of}
use Rattle.zones.specs.declared.index.IndexKind.TheVariants.{Ends, Begins}
use Rattle.zones.specs.Members.{BeginsLastOf, EndsFirstOf, HasNoRead}
use Rattle.zones.specs.Index.{IsShelfOf, at_last}
use Rattle.zones.proofs.Members.{all_from}
use Rattle.zones.proofs.Rows.{begun, ended}

-- a judged read is no write and has an end
pub has_end : (r : Op) → IsJudgedRead r → (end : Moment) × (is_write r ≡ false) × (r.end ≡ Some end)
has_end r h = by_parts (is_write r) r.end h
  where
    by_parts : (w : Bool) (end : Option Moment) → (not w && is_some end) ≡ true → (m : Moment) × (w ≡ false) × (end ≡ Some m)
    by_parts true end e = absurd (cc)
    by_parts false None e = absurd (cc)
    by_parts false (Some m) e = (m, refl, refl)

pub is_judged_read-from : (r : Op) → is_write r ≡ false → is_some r.end ≡ true → IsJudgedRead r
is_judged_read-from r w e = rw (w, e) refl

not_less : (a b : ℕ) → ¬ (a < b) → b ≤ a
not_less a b n = by_cases (cases_lt a b)
  where
    by_cases : (a < b) ⊎ (b ≤ a) → b ≤ a
    by_cases (inl lt) = absurd (n lt)
    by_cases (inr le) = le

module _ (ops : List Op) (value : Value) (shelf : OrderedIndex) where
  module _ (row : IsShelfOf Ends ops shelf) where
    ends_there : (r : Op) (end : Moment) → Contains ops r → is_write r ≡ false → value_of r.act ≡ value → r.end ≡ Some end → id_at shelf (spot_of value end) ≡ Some r.id
    ends_there r end h w same e = subst (λ (v : Value). id_at shelf (spot_of v end) ≡ Some r.id) same (row.there r (spot_of (value_of r.act) end) h (rw (w, e) refl))

    first_is : (end : Moment) (id : OpId) → id_at shelf (spot_of value end) ≡ Some id → ((m : Moment) → 0 ≤ m.0 → m.0 < end.0 → id_at shelf (spot_of value m) ≡ None) → EndsFirstOf ops value end id
    first_is end id e none =
        let (op, h, named, s) = row.back (spot_of value end) id e in
        let (w, same, f) = ended op (spot_of value end) s in
        record {
          read = op;
          present = h;
          judged = is_judged_read-from op w (ap is_some f);
          same = same;
          named = named;
          ended = f;
          first = all_from (λ r. IsJudgedRead r → value_of r.act ≡ value → end.0 ≤ end_number r) ops (λ r k j own.
              let (m, t, g) = has_end r j in
              rw g (not_less m.0 end.0 (λ lt. let there = ends_there r m k t own g in let gone = none m (omega arith) lt in absurd (cc))));
        }

    pub first_found : (found : Option (Moment × OpId)) → MatchOption found
        ((m : Moment) → 0 ≤ m.0 → id_at shelf (spot_of value m) ≡ None)
        (λ found. (0 ≤ found.0.0) × (id_at shelf (spot_of value found.0) ≡ Some found.1) × ((m : Moment) → 0 ≤ m.0 → m.0 < found.0.0 → id_at shelf (spot_of value m) ≡ None))
        → MatchOption found (HasNoRead ops value) (λ found. EndsFirstOf ops value found.0 found.1)
    first_found None none = all_from (λ r. IsJudgedRead r → value_of r.act ≢ value) ops (λ r h j same.
        let (m, w, e) = has_end r j in
        let there = ends_there r m h w same e in
        let gone = none m (omega arith) in
        absurd (cc))
    first_found (Some (end, id)) is = first_is end id is.1 is.2

  module _ (row : IsShelfOf Begins ops shelf) where
    begins_there : (r : Op) → Contains ops r → IsJudgedRead r → value_of r.act ≡ value → id_at shelf (spot_of value r.begin) ≡ Some r.id
    begins_there r h j same =
        let (m, w, e) = has_end r j in
        subst (λ (v : Value). id_at shelf (spot_of v r.begin) ≡ Some r.id) same (row.there r (spot_of (value_of r.act) r.begin) h (rw (w, e) refl))

    -- no read began after the greatest moment
    none_past : (r : Op) → Contains ops r → IsJudgedRead r → value_of r.act ≡ value → r.begin.0 ≤ at_last.0
    none_past r h j same = row.in_time (spot_of value r.begin) r.id (begins_there r h j same)

    last_is : (begin : Moment) (id : OpId) → id_at shelf (spot_of value begin) ≡ Some id → ((m : Moment) → begin.0 < m.0 → m.0 ≤ at_last.0 → id_at shelf (spot_of value m) ≡ None) → BeginsLastOf ops value begin id
    last_is begin id e none =
        let (op, h, named, s) = row.back (spot_of value begin) id e in
        let (w, same, f, ends) = begun op (spot_of value begin) s in
        record {
          read = op;
          present = h;
          judged = is_judged_read-from op w ends;
          same = same;
          named = named;
          began = f;
          last = all_from (λ r. IsJudgedRead r → value_of r.act ≡ value → r.begin.0 ≤ begin.0) ops (λ r k j own.
              not_less begin.0 r.begin.0 (λ lt. let there = begins_there r k j own in let gone = none r.begin lt (none_past r k j own) in absurd (cc)));
        }

    pub last_found : (found : Option (Moment × OpId)) → MatchOption found
        ((m : Moment) → m.0 ≤ at_last.0 → id_at shelf (spot_of value m) ≡ None)
        (λ found. (found.0.0 ≤ at_last.0) × (id_at shelf (spot_of value found.0) ≡ Some found.1) × ((m : Moment) → found.0.0 < m.0 → m.0 ≤ at_last.0 → id_at shelf (spot_of value m) ≡ None))
        → MatchOption found (HasNoRead ops value) (λ found. BeginsLastOf ops value found.0 found.1)
    last_found None none = all_from (λ r. IsJudgedRead r → value_of r.act ≢ value) ops (λ r h j same.
        let there = begins_there r h j same in
        let gone = none r.begin (none_past r h j same) in
        absurd (cc))
    last_found (Some (begin, id)) is = last_is begin id is.1 is.2
