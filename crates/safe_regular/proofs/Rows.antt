-- Rows that are put in, found and judged again.
use Rattle.std.proofs.Common.{◌≡◌, ◌≢◌, ℕ, ◌+◌, ◌-◌, ◌<◌, ◌≤◌, ◌⊎◌, inl, inr, false, List, length, refl, sym, ap, subst, ◌∙◌, get_or, arith}
use Rattle.std.specs.Prelude.{Contains}
use Rattle.std.specs.List.{insert}
use Rattle.std.proofs.lemmas.Bool.{cases_eq, cases_lt, cases_order}
use Rattle.std.proofs.Math.ListN.{set}
use Rattle.std.proofs.lemmas.List.{get_or-set_same, get_or-set_other, get_or_default, length-set}
use Rattle.std.proofs.lemmas.List.Edits.{length-insert, get_or-insert_below, get_or-insert_at, get_or-insert_above}
use Rattle.std.specs.List.Sorted.{IsNonDecreasingBy}
use Rattle.intervals.specs.declared.operation.Op.{Op}
use Rattle.intervals.specs.Terms.{ClaimModel}
use Rattle.safe_regular.specs.declared.judged.JudgedRead.{JudgedRead}
use Rattle.safe_regular.specs.declared.judged.JudgedReads.{JudgedReads}
use Rattle.safe_regular.specs.Rows.{AreJudgedAgain, AreKept, AreRising, EndFrom, IsNoneWrong, IsPlaceOf, IsPut, IsJudgedBy}

abbrev pub end_in : List JudgedRead → ℕ → JudgedRead → ℕ
end_in rows k d = (get_or rows k d).end.0

end_is : (x y : JudgedRead) → x ≡ y → x.end.0 ≡ y.end.0
end_is x y e = ap (λ (r : JudgedRead). r.end.0) e

wrong_is : (x y : JudgedRead) → x ≡ y → x.wrong ≡ y.wrong
wrong_is x y e = ap (λ (r : JudgedRead). r.wrong) e

-- rows that rise do not fall (the order that a binary search asks for)
pub non_decreasing : (rows : List JudgedRead) → AreRising rows → IsNonDecreasingBy (λ (r : JudgedRead). r.end.0) rows
non_decreasing rows up i j d le lt = elim (cases_eq i j) [
  | inl e ↦ let same = ap (λ (n : ℕ). end_in rows n d) e in omega (arith, same)
  | inr ne ↦ let more = up i j d (omega (arith, le, ne)) lt in omega (arith, more)
]

-- the end at the place of a row is that of the row
pub end_at : (rows : List JudgedRead) (x : JudgedRead) (h : Contains rows x) (d : JudgedRead) → end_in rows h.0 d ≡ x.end.0
end_at rows x h d = end_is (get_or rows h.0 d) x (get_or_default rows h.0 d x h.1 ∙ h.2)

-- another row in the place of one
module _ (rows : List JudgedRead) (place : ℕ) (row : JudgedRead) (lt : place < length rows) where
  pub set_ends : ((d : JudgedRead) → end_in rows place d ≡ row.end.0) → (k : ℕ) (d : JudgedRead) → end_in (set rows place row) k d ≡ end_in rows k d
  set_ends same k d = elim (cases_eq k place) [
    | inl e ↦
        ap (λ (n : ℕ). end_in (set rows place row) n d) e ∙ end_is (get_or (set rows place row) place d) row (get_or-set_same rows place row d lt) ∙ sym (same d)
        ∙ ap (λ (n : ℕ). end_in rows n d) (sym e)
    | inr ne ↦ end_is (get_or (set rows place row) k d) (get_or rows k d) (get_or-set_other rows place k row d ne)
  ]

  pub set_none_wrong : (first first' : ℕ) → first' ≤ first → (row.wrong ≡ false) ⊎ (first' ≤ place) → IsNoneWrong first rows → IsNoneWrong first' (set rows place row)
  set_none_wrong first first' le ok none i d low within = elim (cases_eq i place) [
    | inl e ↦ elim ok [
      | inl right ↦ ap (λ (n : ℕ). (get_or (set rows place row) n d).wrong) e ∙ wrong_is (get_or (set rows place row) place d) row (get_or-set_same rows place row d lt) ∙ right
      | inr before ↦ absurd (omega (arith, e, before, low))
    ]
    | inr ne ↦
        let long = length-set rows place row in
        wrong_is (get_or (set rows place row) i d) (get_or rows i d) (get_or-set_other rows place i row d ne) ∙ none i d (omega (arith, low, le)) (omega (arith, within, long))
  ]

  pub set_cases : (x : JudgedRead) → Contains (set rows place row) x → (x ≡ row) ⊎ ((k : ℕ) × (k < length rows) × (get_or rows k x ≡ x) × (k ≢ place))
  set_cases x h = elim (cases_eq h.0 place) [
    | inl e ↦ inl (sym h.2 ∙ ap (λ (n : ℕ). get_or (set rows place row) n x) e ∙ get_or-set_same rows place row x lt)
    | inr ne ↦
        let long = length-set rows place row in let in_set = h.1 in
        inr (h.0, omega (arith, in_set, long), sym (get_or-set_other rows place h.0 row x ne) ∙ h.2, ne)
  ]

  pub set_present : Contains (set rows place row) row
  set_present = (place, (let long = length-set rows place row in omega (arith, lt, long)), get_or-set_same rows place row row lt)

  pub set_kept : (x : JudgedRead) → (h : Contains rows x) → h.0 ≢ place → Contains (set rows place row) x
  set_kept x h ne = (h.0, (let long = length-set rows place row in let within = h.1 in omega (arith, within, long)), get_or-set_other rows place h.0 row x ne ∙ h.2)

  pub set_put : ((d : JudgedRead) → end_in rows place d ≡ row.end.0) → IsPut row rows (set rows place row)
  set_put same = record {
    put = set_present;
    kept = λ x h other. set_kept x h (λ e. other (sym (end_at rows x h x) ∙ ap (λ (n : ℕ). end_in rows n x) e ∙ same x));
    only = λ x h. elim (set_cases x h) [ inl e ↦ inl e | inr at ↦ inr (at.0, at.1, at.2) ];
  }

  -- a row with its verdict, in the place of one of its end and id
  pub set_judged : (claim : ClaimModel) (ops : List Op) (number : ℕ) → AreRising rows → ((d : JudgedRead) → end_in rows place d ≡ number) → row.end.0 ≡ number → ((d : JudgedRead) → row.id ≡ (get_or rows place d).id) → IsJudgedBy claim ops row
      → AreJudgedAgain claim ops (λ n. n ≡ number) rows (set rows place row)
  set_judged claim ops number up there end_same id_same right = record {
    kept = λ x h. elim (cases_eq h.0 place) [
      | inl e ↦ (
        row,
        set_present,
        end_same ∙ sym (there x) ∙ ap (λ (n : ℕ). end_in rows n x) (sym e) ∙ end_at rows x h x,
        id_same x ∙ ap (λ (n : ℕ). (get_or rows n x).id) (sym e) ∙ ap (λ (r : JudgedRead). r.id) h.2,
      )
      | inr ne ↦ (x, set_kept x h ne, refl, refl)
    ];
    each = λ y h. elim (set_cases y h) [
      | inl e ↦ inl (subst (IsJudgedBy claim ops) (sym e) right)
      | inr at ↦ inr (
        (at.0, at.1, at.2),
        λ same. elim (cases_order at.0 place) [
          | inl e ↦ at.3 e
          | inr (inl before) ↦ let less = up at.0 place y before lt in let is = there y in let own = end_at rows y (at.0, at.1, at.2) y in omega (arith, less, is, own, same)
          | inr (inr following) ↦ let less = up place at.0 y following at.1 in let is = there y in let own = end_at rows y (at.0, at.1, at.2) y in omega (arith, less, is, own, same)
        ],
      )
    ];
  }

-- one row more at a place
module _ (rows : List JudgedRead) (place : ℕ) (row : JudgedRead) (le : place ≤ length rows) where
  abbrev more : List JudgedRead
  more = insert rows place row

  placed : (k : ℕ) (d : JudgedRead)
      → ((k < place) × (get_or more k d ≡ get_or rows k d)) ⊎ (((k ≡ place) × (get_or more k d ≡ row)) ⊎ ((place < k) × (get_or more k d ≡ get_or rows (k - 1) d)))
  placed k d = elim (cases_order k place) [
    | inl e ↦ inr (inl (e, ap (λ (j : ℕ). get_or more j d) e ∙ get_or-insert_at rows place row d le))
    | inr (inl before) ↦ inl (before, get_or-insert_below rows place row d k before le)
    | inr (inr following) ↦
        let back : k ≡ k - 1 + 1 = omega (arith, following) in
        inr (inr (following, ap (λ (j : ℕ). get_or more j d) back ∙ get_or-insert_above rows place row d (k - 1) (omega (arith, following)) le))
  ]

  pub insert_rising : AreRising rows → ((k : ℕ) (d : JudgedRead) → k < place → end_in rows k d < row.end.0) → ((k : ℕ) (d : JudgedRead) → place ≤ k → k < length rows → row.end.0 < end_in rows k d) → AreRising more
  insert_rising up before following i j d lt within =
      let long = length-insert rows place row le in
      elim (placed i d) [
        | inl a ↦ elim (placed j d) [
          | inl b ↦ let ea = end_is _ _ a.1 in let eb = end_is _ _ b.1 in let bj = b.0 in let less = up i j d lt (omega (arith, bj, le)) in omega (arith, ea, eb, less)
          | inr (inl b) ↦ let ea = end_is _ _ a.1 in let eb = end_is _ _ b.1 in let less = before i d a.0 in omega (arith, ea, eb, less)
          | inr (inr b) ↦ let ea = end_is _ _ a.1 in let eb = end_is _ _ b.1 in let ai = a.0 in let bj = b.0 in let less = up i (j - 1) d (omega (arith, ai, bj)) (omega (arith, within, long, bj)) in omega (arith, ea, eb, less)
        ]
        | inr (inl a) ↦ elim (placed j d) [
          | inl b ↦ absurd (let ai = a.0 in let bj = b.0 in omega (arith, ai, bj, lt))
          | inr (inl b) ↦ absurd (let ai = a.0 in let bj = b.0 in omega (arith, ai, bj, lt))
          | inr (inr b) ↦ let ea = end_is _ _ a.1 in let eb = end_is _ _ b.1 in let ai = a.0 in let bj = b.0 in let less = following (j - 1) d (omega (arith, bj)) (omega (arith, within, long, bj)) in omega (arith, ea, eb, less)
        ]
        | inr (inr a) ↦ elim (placed j d) [
          | inl b ↦ absurd (let ai = a.0 in let bj = b.0 in omega (arith, ai, bj, lt))
          | inr (inl b) ↦ absurd (let ai = a.0 in let bj = b.0 in omega (arith, ai, bj, lt))
          | inr (inr b) ↦ let ea = end_is _ _ a.1 in let eb = end_is _ _ b.1 in let ai = a.0 in let bj = b.0 in let less = up (i - 1) (j - 1) d (omega (arith, ai, bj, lt)) (omega (arith, within, long, bj)) in omega (arith, ea, eb, less)
        ]
      ]

  -- where a row that is not wrong is put in, none before the first wrong one is wrong; there may be one more of them
  pub insert_none_wrong : row.wrong ≡ false → (first first' : ℕ) → ((place ≤ first) × (first' ≤ first + 1)) ⊎ ((first < place) × (first' ≡ first)) → IsNoneWrong first rows → IsNoneWrong first' more
  insert_none_wrong right first first' where_is none i d low within =
      let long = length-insert rows place row le in
      elim (placed i d) [
        | inl a ↦ wrong_is _ _ a.1 ∙ none i d (elim where_is [ inl p ↦ (let ai = a.0 in let le0 = p.0 in omega (arith, ai, le0)) | inr q ↦ (let same = q.1 in omega (arith, low, same)) ]) (let ai = a.0 in omega (arith, ai, le))
        | inr (inl a) ↦ wrong_is _ _ a.1 ∙ right
        | inr (inr a) ↦
            wrong_is _ _ a.1
            ∙ none (i - 1) d (elim where_is [
              | inl p ↦ (let ai = a.0 in let up = p.1 in omega (arith, ai, up, low))
              | inr q ↦ absurd (let ai = a.0 in let same = q.1 in let lt = q.0 in omega (arith, ai, same, lt, low))
            ])
            (let ai = a.0 in omega (arith, ai, within, long))
      ]

  pub insert_put : IsPut row rows more
  insert_put = record {
    put = (place, (let long = length-insert rows place row le in omega (arith, long, le)), get_or-insert_at rows place row row le);
    kept = λ x h _. elim (cases_lt h.0 place) [
      | inl lt ↦ (h.0, (let long = length-insert rows place row le in let within = h.1 in omega (arith, long, within)), get_or-insert_below rows place row x h.0 lt le ∙ h.2)
      | inr ge ↦ (h.0 + 1, (let long = length-insert rows place row le in let within = h.1 in omega (arith, long, within)), get_or-insert_above rows place row x h.0 ge le ∙ h.2)
    ];
    only = λ x h. elim (placed h.0 x) [
      | inl a ↦ inr (h.0, (let ai = a.0 in omega (arith, ai, le)), sym a.1 ∙ h.2)
      | inr (inl a) ↦ inl (sym h.2 ∙ a.1)
      | inr (inr a) ↦ inr (h.0 - 1, (let ai = a.0 in let within = h.1 in let long = length-insert rows place row le in omega (arith, ai, within, long)), sym a.1 ∙ h.2)
    ];
  }

-- a place is that of a moment, by the ends of the rows beside it
pub place_here : (number : ℕ) (rows : List JudgedRead) (at : ℕ) → at ≤ length rows → AreRising rows → EndFrom number rows at → ((d : JudgedRead) → 0 < at → end_in rows (at - 1) d < number) → IsPlaceOf number rows at
place_here number rows at le up from below = record {
  within = le;
  before = λ k d lt. elim (cases_eq k (at - 1)) [
    | inl e ↦ let less = below d (omega (arith, lt)) in let same = ap (λ (n : ℕ). end_in rows n d) e in omega (arith, less, same)
    | inr ne ↦ let less = below d (omega (arith, lt)) in let rise = up k (at - 1) d (omega (arith, ne, lt)) (omega (arith, le, lt)) in omega (arith, less, rise)
  ];
  following = from;
}

pub from_one_before : (number : ℕ) (rows : List JudgedRead) (at : ℕ) → 0 < at → ((d : JudgedRead) → number ≤ end_in rows (at - 1) d) → EndFrom number rows at → EndFrom number rows (at - 1)
from_one_before number rows at some here from k d ge lt = elim (cases_eq k (at - 1)) [
  | inl e ↦ let up = here d in let same = ap (λ (n : ℕ). end_in rows n d) e in omega (arith, up, same)
  | inr ne ↦ from k d (omega (arith, ge, ne)) lt
]

-- where the row at the place of an end has another end, the rows from there on end later
pub after_place : (number : ℕ) (rows : List JudgedRead) (place : ℕ) → AreRising rows → IsPlaceOf number rows place → ((d : JudgedRead) → place < length rows → end_in rows place d ≢ number) → (k : ℕ) (d : JudgedRead) → place ≤ k → k < length rows → number < end_in rows k d
after_place number rows place up is none k d ge lt =
    let first = is.following place d (omega arith) (omega (arith, ge, lt)) in
    let other = none d (omega (arith, ge, lt)) in
    elim (cases_eq k place) [
      | inl e ↦ let same = ap (λ (n : ℕ). end_in rows n d) e in omega (arith, first, other, same)
      | inr ne ↦ let rise = up place k d (omega (arith, ge, ne)) lt in omega (arith, first, rise)
    ]

-- judging again
module _ (claim : ClaimModel) (ops : List Op) where
  -- where no row has an end with P, nothing is to be judged
  pub judged_none : (P : ℕ → Type 0) (rows : List JudgedRead) → ((y : JudgedRead) → Contains rows y → ¬ P y.end.0) → AreJudgedAgain claim ops P rows rows
  judged_none P rows none = record { kept = λ x h. (x, h, refl, refl); each = λ y h. inr (h, none y h) }

  pub judged_both : (P Q : ℕ → Type 0) (a b c : List JudgedRead) → AreJudgedAgain claim ops P a b → AreJudgedAgain claim ops Q b c → AreJudgedAgain claim ops (λ n. P n ⊎ Q n) a c
  judged_both P Q a b c one two = record {
    kept = λ x h. let (y, y_in, end, id) = one.kept x h in let (z, z_in, end2, id2) = two.kept y y_in in (z, z_in, end2 ∙ end, id2 ∙ id);
    each = λ z h. elim (two.each z h) [
      | inl right ↦ inl right
      | inr old ↦ elim (one.each z old.0) [
        | inl right ↦ inl right
        | inr older ↦ inr (older.0, λ either. elim either [ inl p ↦ older.1 p | inr q ↦ old.1 q ])
      ]
    ];
  }

  pub judged_those : (P Q : ℕ → Type 0) (a b : List JudgedRead) → AreJudgedAgain claim ops P a b → ((y : JudgedRead) → Contains a y → Q y.end.0 → P y.end.0) → AreJudgedAgain claim ops Q a b
  judged_those P Q a b is weaker = record {
    kept = is.kept;
    each = λ y h. elim (is.each y h) [ inl right ↦ inl right | inr old ↦ inr (old.0, λ q. old.1 (weaker y old.0 q)) ];
  }

pub kept_both : (a b c : JudgedReads) → AreKept a b → AreKept b c → AreKept a c
kept_both a b c one two = record {
  len = two.len ∙ one.len;
  ends = λ k d. two.ends k d ∙ one.ends k d;
  front = λ h. two.front (one.front h);
  latest = two.latest ∙ one.latest;
  room = λ h. two.room (one.room h);
}

pub kept_rising : (a b : JudgedReads) → AreKept a b → AreRising a.rows.items → AreRising b.rows.items
kept_rising a b kept up i j d lt within =
    let ei = kept.ends i d in let ej = kept.ends j d in let long = kept.len in
    let less = up i j d lt (omega (arith, within, long)) in omega (arith, ei, ej, less)

-- the rows from one on: that row, and those after it
module _ (a b : JudgedReads) (kept : AreKept a b) (up : AreRising a.rows.items) (number at : ℕ) (lt : at < length a.rows.items) (is : IsPlaceOf number a.rows.items at) (d : JudgedRead) where
  abbrev here : ℕ
  here = end_in a.rows.items at d

  abbrev rows : List JudgedRead
  rows = a.rows.items

  pub here_is : (e : JudgedRead) → end_in rows at e ≡ here
  here_is e = end_is _ _ (get_or_default rows at e d lt)

  pub place_next : IsPlaceOf (here + 1) b.rows.items (at + 1)
  place_next = record {
    within = let long = kept.len in omega (arith, long, lt);
    before = λ k e low.
        let same = kept.ends k e in let own = here_is e in
        elim (cases_eq k at) [
          | inl eq ↦ let moved = ap (λ (n : ℕ). end_in rows n e) eq in omega (arith, same, own, moved)
          | inr ne ↦ let less = up k at e (omega (arith, low, ne)) lt in omega (arith, same, own, less)
        ];
    following = λ k e ge within.
        let same = kept.ends k e in let own = here_is e in let long = kept.len in
        let less = up at k e (omega (arith, ge)) (omega (arith, within, long)) in omega (arith, same, own, less);
  }

  pub one_or_after : (y : JudgedRead) → Contains rows y → number ≤ y.end.0 → (y.end.0 ≡ here) ⊎ (here + 1 ≤ y.end.0)
  one_or_after y h ge = elim (cases_order h.0 at) [
    | inl e ↦ inl (sym (end_at rows y h y) ∙ ap (λ (n : ℕ). end_in rows n y) e ∙ here_is y)
    | inr (inl before) ↦ absurd (let less = is.before h.0 y before in let own = end_at rows y h y in omega (arith, less, own, ge))
    | inr (inr following) ↦ let less = up at h.0 y following h.1 in let own = end_at rows y h y in let it = here_is y in inr (omega (arith, less, own, it))
  ]

-- the rows from one on are judged where that row is, and then those after it
pub judged_from : (claim : ClaimModel) (ops : List Op) (a b c : JudgedReads) → AreKept a b → AreRising a.rows.items → (number at : ℕ) → at < length a.rows.items → IsPlaceOf number a.rows.items at → (d : JudgedRead)
    → AreJudgedAgain claim ops (λ n. n ≡ end_in a.rows.items at d) a.rows.items b.rows.items → AreJudgedAgain claim ops (λ n. end_in a.rows.items at d + 1 ≤ n) b.rows.items c.rows.items
    → AreJudgedAgain claim ops (λ n. number ≤ n) a.rows.items c.rows.items
judged_from claim ops a b c kept up number at lt is d one rest =
    judged_those claim ops (λ n. (n ≡ end_in a.rows.items at d) ⊎ (end_in a.rows.items at d + 1 ≤ n)) (λ n. number ≤ n) a.rows.items c.rows.items
    (judged_both claim ops (λ n. n ≡ end_in a.rows.items at d) (λ n. end_in a.rows.items at d + 1 ≤ n) a.rows.items b.rows.items c.rows.items one rest)
    (λ y h ge. one_or_after a b kept up number at lt is d y h ge)

-- for a place within the rows the default does not matter
pub at_default : (rows : List JudgedRead) (k : ℕ) (d e : JudgedRead) → k < length rows → end_in rows k d ≡ end_in rows k e
at_default rows k d e lt = end_is _ _ (get_or_default rows k d e lt)

-- where the row at the place of an end has another end, no row has that end
pub none_there : (number : ℕ) (rows : List JudgedRead) (place : ℕ) → AreRising rows → IsPlaceOf number rows place → ((d : JudgedRead) → place < length rows → end_in rows place d ≢ number) → (y : JudgedRead) → Contains rows y → y.end.0 ≢ number
none_there number rows place up is none y h e = elim (cases_lt h.0 place) [
  | inl before ↦ let less = is.before h.0 y before in let own = end_at rows y h y in omega (arith, less, own, e)
  | inr following ↦ let more = after_place number rows place up is none h.0 y following h.1 in let own = end_at rows y h y in omega (arith, more, own, e)
]
