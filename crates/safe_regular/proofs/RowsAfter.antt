-- The rows after an edit, and the verdict that they give.
use Rattle.std.proofs.Common.{◌≡◌, ◌↔◌, ℕ, ◌<◌, ◌≤◌, ◌⊎◌, inl, inr, true, false, ◌&&◌, ◌==◌, List, length, Option, Some, None, refl, sym, ap, subst, ◌∙◌, get_or, eqb-true, eq-eqb, arith}
use Rattle.std.specs.Prelude.{Contains, IsTrue, Vec}
use Rattle.std.specs.declared.alloc.Global.{Global}
use Rattle.std.specs.Option.{option_map_or}
use Rattle.std.proofs.lemmas.Bool.{and_parts, both_ways, cases_lt, cases_eq}
use Rattle.std.proofs.lemmas.Bool.Decides.{same_from_decides}
use Rattle.std.proofs.lemmas.List.{get_or_default}
use Rattle.std.proofs.lemmas.List.Elements.{Contains-get_or}
use Rattle.intervals.specs.declared.operation.Op.{Op}
use Rattle.intervals.specs.declared.operation.OpId.{OpId}
use Rattle.intervals.specs.declared.operation.Moment.{Moment}
use Rattle.intervals.specs.Edit.{found_by, op_of}
use Rattle.intervals.specs.Judging.{end_number, first_wrong, is_wrong_read}
use Rattle.intervals.specs.Operation.{IsJudgedRead, is_judged_read, same_id}
use Rattle.intervals.specs.Terms.{ClaimModel}
use Rattle.intervals.proofs.Ids.{Decides-same_id_is, found_again, found_present, same_id-refl}
use Rattle.safe_regular.specs.declared.judged.JudgedRead.{JudgedRead}
use Rattle.safe_regular.specs.declared.judged.JudgedReads.{JudgedReads}
use Rattle.safe_regular.specs.Change.{IsChangeOf}
use Rattle.safe_regular.specs.First.{IsFirstEnded}
use Rattle.safe_regular.specs.Held.{AreOneWriters}
use Rattle.safe_regular.specs.Rows.{AreJudged, AreJudgedAgain, AreKept, AreRising, HasRow, IsEndOf, IsNoneWrong, IsPutFor, IsJudgedBy, IsWrongAt, is_wrong_row}
use Rattle.safe_regular.specs.Seen.{LeavesAlone}
use Rattle.safe_regular.proofs.First.{first_wrong_is}
use Rattle.safe_regular.proofs.Members.{distinct_ends}
use Rattle.safe_regular.proofs.Rows.{end_at, kept_rising}
use Rattle.safe_regular.proofs.Seen.{left_alone}

-- the operation found by an id has that id
pub id_is : (a b : OpId) → same_id a b ≡ true → b ≡ a
id_is a b t = sym ((Decides-same_id_is a b).0 t)

judged_where_wrong : (claim : ClaimModel) (ops : List Op) (r : Op) → is_wrong_read claim ops r ≡ true → IsJudgedRead r
judged_where_wrong claim ops r wrong = (and_parts (is_judged_read r) _ wrong).0

module _ (claim : ClaimModel) (ops : List Op) where
  -- the read that makes a row wrong
  pub read_of : (row : JudgedRead) → is_wrong_row claim ops row ≡ true → (r : Op) × (op_of ops row.id ≡ Some r) × (end_number r ≡ row.end.0) × (is_wrong_read claim ops r ≡ true)
  read_of row wrong = by_found (op_of ops row.id) refl wrong
    where
      by_found : (o : Option Op) → op_of ops row.id ≡ o → option_map_or (λ op. (end_number op == row.end.0) && is_wrong_read claim ops op) o false ≡ true → (r : Op) × (op_of ops row.id ≡ Some r) × (end_number r ≡ row.end.0) × (is_wrong_read claim ops r ≡ true)
      by_found None e wrong = absurd (cc)
      by_found (Some r) e wrong = let parts = and_parts (end_number r == row.end.0) (is_wrong_read claim ops r) wrong in (r, e, eqb-true (end_number r) row.end.0 parts.0, parts.1)

  -- the row of a judged read of the list
  module _ (apart : AreOneWriters claim ops) where
    pub row_as : (row : JudgedRead) (r : Op) → Contains ops r → row.id ≡ r.id → row.end.0 ≡ end_number r → is_wrong_row claim ops row ≡ is_wrong_read claim ops r
    row_as row r present id end =
        let found : op_of ops row.id ≡ Some r = found_again ops (Some row.id) r apart.kept.ids present (subst (λ (i : OpId). same_id r.id i ≡ true) (sym id) (same_id-refl r.id)) in
        rw (found, eq-eqb (end_number r) row.end.0 (sym end)) refl

    -- what the rows say: which read is the first wrong one, or that none is wrong
    module _ (reads : JudgedReads) (are : AreJudged claim ops reads) where
      abbrev rows : List JudgedRead
      rows = reads.rows.items

      wrong_following : (r : Op) → Contains ops r → IsTrue (is_wrong_read claim ops r) → (x : JudgedRead) × (h : Contains rows x) × (x.end.0 ≡ end_number r) × (reads.first ≤ h.0)
      wrong_following r present wrong =
          let (x, x_in, end, id) = are.there r present (judged_where_wrong claim ops r wrong) in
          let is_wrong : x.wrong ≡ true = are.right x x_in ∙ row_as x r present id end ∙ wrong in (
            x,
            x_in,
            end,
            elim (cases_lt x_in.0 reads.first) [
              | inl before ↦ absurd (both_ways x.wrong (ap (λ (y : JudgedRead). y.wrong) (sym x_in.2) ∙ are.front x_in.0 x before x_in.1) is_wrong)
              | inr following ↦ following
            ],
          )

      pub none_told : length rows ≤ reads.first → first_wrong claim ops ≡ None
      none_told all =
          first_wrong_is claim ops (distinct_ends ops apart.kept.moments) None
          (λ r present wrong. let (x, x_in, end, following) = wrong_following r present wrong in let within = x_in.1 in absurd (omega (arith, all, within, following)))

      pub first_told : (row : JudgedRead) → reads.first < length rows → ((d : JudgedRead) → get_or rows reads.first d ≡ row) → found_by ops (Some row.id) ≡ first_wrong claim ops
      first_told row within at =
          let present : Contains rows row = (reads.first, within, at row) in
          let is_wrong : is_wrong_row claim ops row ≡ true = sym (are.right row present) ∙ ap (λ (y : JudgedRead). y.wrong) (sym (at row)) ∙ are.first row within in
          let (r, found, end, wrong) = read_of row is_wrong in
          let first : IsFirstEnded claim ops r = record {
            present = (found_present ops (Some row.id) r found).0;
            wrong = wrong;
            first = λ other other_present other_wrong.
                let (x, x_in, x_end, following) = wrong_following other other_present other_wrong in
                let own = end_at rows x x_in row in
                let is = ap (λ (y : JudgedRead). y.end.0) (at row) in
                elim (cases_eq reads.first x_in.0) [
                  | inl same ↦ let moved = ap (λ (n : ℕ). (get_or rows n row).end.0) same in omega (arith, own, is, moved, end, x_end)
                  | inr ne ↦ let less = are.rising reads.first x_in.0 row (omega (arith, ne, following)) x_in.1 in omega (arith, own, is, less, end, x_end)
                ];
          } in
          found ∙ sym (first_wrong_is claim ops (distinct_ends ops apart.kept.moments) (Some r) first)

      pub is_none_told : (first_wrong claim ops ≡ None) ↔ (length rows ≤ reads.first)
      is_none_told = (by_place, none_told)
        where
          by_place : first_wrong claim ops ≡ None → length rows ≤ reads.first
          by_place none = elim (cases_lt reads.first (length rows)) [
            | inr past ↦ past
            | inl within ↦
                let spare : JudgedRead = record { end = record { 0 = 0 }; id = record { feeder = 0; event = 0 }; wrong = false } in
                let row : JudgedRead = get_or rows reads.first spare in
                let present : Contains rows row = Contains-get_or rows reads.first spare within in
                let is_wrong : is_wrong_row claim ops row ≡ true = sym (are.right row present) ∙ are.first spare within in
                let (r, found, end, wrong) = read_of row is_wrong in
                let told = first_told row within (λ d. get_or_default rows reads.first d spare within) in
                absurd (cc (none, told, found))
          ]

-- the rows after an edit
module _ (claim : ClaimModel) (ops after : List Op) (old new : Option Op) (change : IsChangeOf claim ops after old new) where
  -- a row of neither operation, whose read the edit leaves alone, has its verdict still
  module _ (row : JudgedRead) (not_old : ¬ IsEndOf old row.end.0) (not_new : ¬ IsEndOf new row.end.0)
      (alone : (r : Op) → Contains change.others r → IsJudgedRead r → end_number r ≡ row.end.0 → LeavesAlone r old new) where
    wrong_after : is_wrong_row claim ops row ≡ true → is_wrong_row claim after row ≡ true
    wrong_after wrong =
        let (r, found, end, is) = read_of claim ops row wrong in
        let judged = judged_where_wrong claim ops r is in
        let (present, id) = found_present ops (Some row.id) r found in
        elim (change.was r present) [
          | inl among ↦
              row_as claim after change.apart_after row r (change.in_after r (inl among)) (id_is r.id row.id id) (sym end)
              ∙ sym (left_alone claim ops after old new change r among judged (alone r among judged end)) ∙ is
          | inr e ↦ absurd (not_old (subst (λ (o : Option Op). IsEndOf o row.end.0) (sym e) (judged, end)))
        ]

    wrong_before : is_wrong_row claim after row ≡ true → is_wrong_row claim ops row ≡ true
    wrong_before wrong =
        let (r, found, end, is) = read_of claim after row wrong in
        let judged = judged_where_wrong claim after r is in
        let (present, id) = found_present after (Some row.id) r found in
        elim (change.is r present) [
          | inl among ↦
              row_as claim ops change.apart_before row r (change.in_before r (inl among)) (id_is r.id row.id id) (sym end)
              ∙ left_alone claim ops after old new change r among judged (alone r among judged end) ∙ is
          | inr e ↦ absurd (not_new (subst (λ (o : Option Op). IsEndOf o row.end.0) (sym e) (judged, end)))
        ]

    row_alike : is_wrong_row claim ops row ≡ is_wrong_row claim after row
    row_alike = same_from_decides (is_wrong_row claim ops row) (is_wrong_row claim after row) ((λ t. t), (λ t. t)) (wrong_before, wrong_after)

  module _ (reads : JudgedReads) (are : AreJudged claim ops reads) (number : ℕ)
      (alone : (r : Op) → r.begin.0 ≤ reads.latest.0 → end_number r < number → LeavesAlone r old new)
      (put ended judged : List JudgedRead) (is_put : IsPutFor new reads.rows.items put)
      (ends : AreJudgedAgain claim after (λ n. IsEndOf old n ⊎ IsEndOf new n) put ended) (rest : AreJudgedAgain claim after (λ n. number ≤ n) ended judged) where
    as_before : (row : JudgedRead) → Contains reads.rows.items row → ¬ (number ≤ row.end.0) → ¬ (IsEndOf old row.end.0 ⊎ IsEndOf new row.end.0) → IsJudgedBy claim after row
    as_before row present low not =
        are.right row present
        ∙ row_alike row (λ e. not (inl e)) (λ e. not (inr e))
        (λ r among judges end. alone r (are.latest r (change.in_before r (inl among)) judges) (elim (cases_lt row.end.0 number) [ inl lt ↦ omega (arith, lt, end) | inr ge ↦ absurd (low ge) ]))

    pub right_after : (row : JudgedRead) → Contains judged row → IsJudgedBy claim after row
    right_after row present = elim (rest.each row present) [
      | inl right ↦ right
      | inr late ↦ elim (ends.each row late.0) [
        | inl right ↦ right
        | inr middle ↦ elim is_put [
          | inl new_row ↦
              let (x, o, is, judges, end, id, puts) = new_row in
              elim (puts.only row middle.0) [
                | inl e ↦ absurd (middle.1 (inr (subst (λ (p : Option Op). IsEndOf p row.end.0) (sym is) (judges, sym end ∙ ap (λ (y : JudgedRead). y.end.0) (sym e)))))
                | inr stood ↦ as_before row stood late.1 middle.1
              ]
          | inr same ↦ as_before row (subst (λ (l : List JudgedRead). Contains l row) (sym same.0) middle.0) late.1 middle.1
        ]
      ]
    ]

    row_stays : (number : ℕ) (id : OpId) → HasRow put number id → HasRow judged number id
    row_stays n id has =
        let (x, x_in, end, own) = has in
        let (y, y_in, y_end, y_id) = ends.kept x x_in in
        let (z, z_in, z_end, z_id) = rest.kept y y_in in
        (z, z_in, z_end ∙ y_end ∙ end, z_id ∙ y_id ∙ own)

    pub there_after : (r : Op) → Contains after r → IsJudgedRead r → HasRow judged (end_number r) r.id
    there_after r present judges = row_stays (end_number r) r.id (elim (change.is r present) [
      | inl among ↦
          let (x, x_in, end, id) = are.there r (change.in_before r (inl among)) judges in
          elim is_put [
            | inl new_row ↦
                let (row, o, is, o_judges, o_end, o_id, puts) = new_row in
                (x, puts.kept x x_in (λ e. change.not_new r o among is (distinct_ends after change.apart_after.kept.moments r o present (change.in_after o (inr is)) judges o_judges (sym end ∙ e ∙ o_end))), end, id)
            | inr same ↦ (x, subst (λ (l : List JudgedRead). Contains l x) same.0 x_in, end, id)
          ]
      | inr new_is ↦ elim is_put [
        | inl new_row ↦
            let (row, o, is, o_judges, o_end, o_id, puts) = new_row in
            let one : o ≡ r = cc in
            (row, puts.put, o_end ∙ ap end_number one, o_id ∙ ap (λ (p : Op). p.id) one)
        | inr same ↦ absurd (same.1 (end_number r) (subst (λ (p : Option Op). IsEndOf p (end_number r)) (sym new_is) (judges, refl)))
      ]
    ])

    pub latest_after : (latest : ℕ) → reads.latest.0 ≤ latest → ((o : Op) → new ≡ Some o → IsJudgedRead o → o.begin.0 ≤ latest) → (r : Op) → Contains after r → IsJudgedRead r → r.begin.0 ≤ latest
    latest_after latest later of_new r present judges = elim (change.is r present) [
      | inl among ↦ let up = are.latest r (change.in_before r (inl among)) judges in omega (arith, up, later)
      | inr is ↦ of_new r is judges
    ]

-- the rows are right after the four steps of a change
pub judged_after : (claim : ClaimModel) (ops after : List Op) (old new : Option Op) (change : IsChangeOf claim ops after old new) (reads put ended judged last : JudgedReads) → AreJudged claim ops reads
    → (number : ℕ) → ((r : Op) → r.begin.0 ≤ reads.latest.0 → end_number r < number → LeavesAlone r old new)
    → AreRising put.rows.items → IsPutFor new reads.rows.items put.rows.items → IsNoneWrong put.first put.rows.items → reads.latest.0 ≤ put.latest.0 → ((o : Op) → new ≡ Some o → IsJudgedRead o → o.begin.0 ≤ put.latest.0)
    → AreKept put ended → (AreOneWriters claim after → AreRising put.rows.items → AreJudgedAgain claim after (λ n. IsEndOf old n ⊎ IsEndOf new n) put.rows.items ended.rows.items)
    → AreKept ended judged → (AreOneWriters claim after → AreRising ended.rows.items → AreJudgedAgain claim after (λ n. number ≤ n) ended.rows.items judged.rows.items)
    → last.rows ≡ judged.rows → last.latest ≡ judged.latest → (IsNoneWrong judged.first judged.rows.items → IsNoneWrong last.first last.rows.items) → IsWrongAt last.first last.rows.items
    → AreJudged claim after last
judged_after claim ops after old new change reads put ended judged last are number alone put_rising is_put put_front later put_latest ends_kept ends rest_kept rest same_rows same_latest found_front found_first =
    let ended_rising = kept_rising put ended ends_kept put_rising in
    let ends_are = ends change.apart_after put_rising in
    let rest_are = rest change.apart_after ended_rising in
    let items : last.rows.items ≡ judged.rows.items = ap (λ (v : Vec JudgedRead Global). v.items) same_rows in
    record {
      rising = subst AreRising (sym items) (kept_rising ended judged rest_kept ended_rising);
      there = λ r present judges. subst (λ (l : List JudgedRead). HasRow l (end_number r) r.id) (sym items)
          (there_after claim ops after old new change reads are number alone put.rows.items ended.rows.items judged.rows.items is_put ends_are rest_are r present judges);
      right = λ row present. right_after claim ops after old new change reads are number alone put.rows.items ended.rows.items judged.rows.items is_put ends_are rest_are row
          (subst (λ (l : List JudgedRead). Contains l row) items present);
      latest = let same : last.latest.0 ≡ put.latest.0 = ap (λ (m : Moment). m.0) (same_latest ∙ rest_kept.latest ∙ ends_kept.latest) in
          latest_after claim ops after old new change reads are number alone put.rows.items ended.rows.items judged.rows.items is_put ends_are rest_are last.latest.0 (omega (arith, same, later))
          (λ o is judges. let le = put_latest o is judges in omega (arith, same, le));
      front = found_front (rest_kept.front (ends_kept.front put_front));
      first = found_first;
    }
