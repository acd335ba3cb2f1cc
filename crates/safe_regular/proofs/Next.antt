-- After which moments an edit leaves the next write as it was.
use Rattle.std.proofs.Common.{◌≡◌, ℕ, zero, suc, ◌<◌, ◌≤◌, ◌⊎◌, inl, inr, Bool, true, false, ap, List, [], ◌∷◌, Option, Some, None, refl, sym, subst, arith}
use Rattle.std.specs.Prelude.{Contains}
use Rattle.std.proofs.lemmas.Bool.{cases_lt}
use Rattle.intervals.specs.declared.operation.Op.{Op}
use Rattle.intervals.specs.Operation.{IsWrite, is_write}
use Rattle.safe_regular.specs.LookUp.{BeginsFrom, IsFirstWrite, IsFirstWriteOf}
use Rattle.safe_regular.specs.Change.{IsAmong}

-- from each moment on there is a first write or none
module _ (n : ℕ) where
  first_with : (a : Op) (ops : List Op) (found : Option Op) → IsFirstWriteOf (BeginsFrom n) ops found → (next : Option Op) × IsFirstWriteOf (BeginsFrom n) (a ∷ ops) next
  first_with a ops found is = by_write (is_write a) refl
    where
      following : (x : Op) → Contains ops x → Contains (a ∷ ops) x
      following x h = (suc h.0, omega (arith, h.1), h.2)

      cases : (x : Op) → Contains (a ∷ ops) x → (a ≡ x) ⊎ Contains ops x
      cases x (zero, lt, e) = inl e
      cases x (suc k, lt, e) = inr (k, omega (arith, lt), e)

      kept : (found : Option Op) → IsFirstWriteOf (BeginsFrom n) ops found → (IsWrite a → n ≤ a.begin.0 → (f : Op) × (found ≡ Some f) × (f.begin.0 ≤ a.begin.0)) → IsFirstWriteOf (BeginsFrom n) (a ∷ ops) found
      kept None none first = λ w present write from. elim (cases w present) [
        | inl same ↦ let f = first (subst IsWrite (sym same) write) (subst (λ (o : Op). n ≤ o.begin.0) (sym same) from) in absurd (cc)
        | inr later ↦ none w later write from
      ]
      kept (Some f) is first = record {
        present = following f is.present;
        write = is.write;
        fits = is.fits;
        first = λ w present write from. elim (cases w present) [
          | inl same ↦ let (g, e, le) = first (subst IsWrite (sym same) write) (subst (λ (o : Op). n ≤ o.begin.0) (sym same) from) in
              let same_first : f ≡ g = cc in subst (λ (o : Op). f.begin.0 ≤ o.begin.0) same (subst (λ (o : Op). o.begin.0 ≤ a.begin.0) (sym same_first) le)
          | inr later ↦ is.first w later write from
        ];
      }

      itself : IsWrite a → n ≤ a.begin.0 → ((w : Op) → Contains ops w → IsWrite w → n ≤ w.begin.0 → a.begin.0 ≤ w.begin.0) → IsFirstWriteOf (BeginsFrom n) (a ∷ ops) (Some a)
      itself write from least = record {
        present = (0, omega arith, refl);
        write = write;
        fits = from;
        first = λ w present w_writes w_from. elim (cases w present) [
          | inl same ↦ subst (λ (o : Op). a.begin.0 ≤ o.begin.0) same (omega arith)
          | inr later ↦ least w later w_writes w_from
        ];
      }

      by_found : IsWrite a → n ≤ a.begin.0 → (found : Option Op) → IsFirstWriteOf (BeginsFrom n) ops found → (next : Option Op) × IsFirstWriteOf (BeginsFrom n) (a ∷ ops) next
      by_found write from None none = (Some a, itself write from (λ w present w_writes w_from. absurd (none w present w_writes w_from)))
      by_found write from (Some f) is = elim (cases_lt a.begin.0 f.begin.0) [
        | inl lt ↦ (Some a, itself write from (λ w present w_writes w_from. let le : f.begin.0 ≤ w.begin.0 = is.first w present w_writes w_from in omega (arith, lt, le)))
        | inr le ↦ (Some f, kept (Some f) is (λ w_writes w_from. (f, refl, le)))
      ]

      by_write : (t : Bool) → is_write a ≡ t → (next : Option Op) × IsFirstWriteOf (BeginsFrom n) (a ∷ ops) next
      by_write false f = (found, kept found is (λ write from. absurd (cc)))
      by_write true t = elim (cases_lt a.begin.0 n) [
        | inl lt ↦ (found, kept found is (λ write from. absurd (omega (arith, lt, from))))
        | inr from ↦ by_found t from found is
      ]

  pub some_first : (ops : List Op) → (next : Option Op) × IsFirstWriteOf (BeginsFrom n) ops next
  some_first [] = (None, λ w present write from. absurd (omega (arith, present.1)))
  some_first (a ∷ ops) = let (found, is) = some_first ops in first_with a ops found is

-- an edit: the others stay, one operation may go and one may come
module _ (ops others after : List Op) (old new : Option Op)
    (before_cases : (x : Op) → Contains ops x → IsAmong others old x) (in_before : (x : Op) → IsAmong others old x → Contains ops x)
    (after_cases : (x : Op) → Contains after x → IsAmong others new x) (in_after : (x : Op) → IsAmong others new x → Contains after x) where
  -- after the edit, the writes that begin before m begin before n
  abbrev pub AllBelow : ℕ → ℕ → Type 0
  AllBelow n m = (u : Op) → Contains after u → IsWrite u → u.begin.0 < m → u.begin.0 < n

  -- where the optional write begins at n or later, some write begins between n and it
  abbrev pub IsApartFrom : Option Op → ℕ → Type 0
  IsApartFrom one n = (o : Op) → one ≡ Some o → IsWrite o → n ≤ o.begin.0 → ¬ AllBelow n o.begin.0

  module _ (n : ℕ) (old_apart : IsApartFrom old n) (new_apart : IsApartFrom new n) where
    pub next_after : (next : Option Op) → IsFirstWriteOf (BeginsFrom n) ops next → IsFirstWriteOf (BeginsFrom n) after next
    next_after None none = λ v present write from. elim (after_cases v present) [
      | inl among ↦ none v (in_before v (inl among)) write from
      | inr is ↦ new_apart v is write from (λ u u_present u_writes lt. elim (after_cases u u_present) [
        | inl among ↦ elim (cases_lt u.begin.0 n) [ inl below ↦ below | inr above ↦ absurd (none u (in_before u (inl among)) u_writes above) ]
        | inr same ↦ absurd (let e : v ≡ u = cc in let begins : v.begin.0 ≡ u.begin.0 = ap (λ (o : Op). o.begin.0) e in omega (arith, lt, begins))
      ])
    ]
    next_after (Some f) is = by_first (before_cases f is.present)
      where
        -- none of the others begins between n and f
        none_between : (u : Op) → Contains others u → IsWrite u → u.begin.0 < f.begin.0 → u.begin.0 < n
        none_between u among write lt = elim (cases_lt u.begin.0 n) [
          | inl below ↦ below
          | inr above ↦ absurd (let le : f.begin.0 ≤ u.begin.0 = is.first u (in_before u (inl among)) write above in omega (arith, lt, le))
        ]

        -- the new one does not begin there either
        new_between : (v : Op) → new ≡ Some v → IsWrite v → n ≤ v.begin.0 → f.begin.0 ≤ v.begin.0
        new_between v new_is write from = elim (cases_lt v.begin.0 f.begin.0) [
          | inl before ↦ absurd (new_apart v new_is write from (λ u u_present u_writes lt. elim (after_cases u u_present) [
            | inl among ↦ none_between u among u_writes (omega (arith, lt, before))
            | inr same ↦ absurd (let e : v ≡ u = cc in let begins : v.begin.0 ≡ u.begin.0 = ap (λ (o : Op). o.begin.0) e in omega (arith, lt, begins))
          ]))
          | inr following ↦ following
        ]

        by_first : IsAmong others old f → IsFirstWrite (BeginsFrom n) after f
        by_first (inl among) = record {
          present = in_after f (inl among);
          write = is.write;
          fits = is.fits;
          first = λ v present write from. elim (after_cases v present) [
            | inl v_among ↦ is.first v (in_before v (inl v_among)) write from
            | inr new_is ↦ new_between v new_is write from
          ];
        }
        by_first (inr old_is) = absurd (old_apart f old_is is.write is.fits (λ u present write lt. elim (after_cases u present) [
          | inl among ↦ none_between u among write lt
          | inr new_is ↦ elim (cases_lt u.begin.0 n) [ inl below ↦ below | inr above ↦ absurd (let le : f.begin.0 ≤ u.begin.0 = new_between u new_is write above in omega (arith, lt, le)) ]
        ]))

    pub next_before : (next : Option Op) → IsFirstWriteOf (BeginsFrom n) after next → IsFirstWriteOf (BeginsFrom n) ops next
    next_before None none = λ v present write from. elim (before_cases v present) [
      | inl among ↦ none v (in_after v (inl among)) write from
      | inr old_is ↦ old_apart v old_is write from (λ u u_present u_writes lt. elim (cases_lt u.begin.0 n) [ inl below ↦ below | inr above ↦ absurd (none u u_present u_writes above) ])
    ]
    next_before (Some f) is = by_first (after_cases f is.present)
      where
        none_between : (u : Op) → Contains after u → IsWrite u → u.begin.0 < f.begin.0 → u.begin.0 < n
        none_between u present write lt = elim (cases_lt u.begin.0 n) [
          | inl below ↦ below
          | inr above ↦ absurd (let le : f.begin.0 ≤ u.begin.0 = is.first u present write above in omega (arith, lt, le))
        ]

        by_first : IsAmong others new f → IsFirstWrite (BeginsFrom n) ops f
        by_first (inr new_is) = absurd (new_apart f new_is is.write is.fits none_between)
        by_first (inl among) = record {
          present = in_before f (inl among);
          write = is.write;
          fits = is.fits;
          first = λ v present write from. elim (before_cases v present) [
            | inl v_among ↦ is.first v (in_after v (inl v_among)) write from
            | inr old_is ↦ elim (cases_lt v.begin.0 f.begin.0) [
              | inl lt ↦ absurd (old_apart v old_is write from (λ u u_present u_writes u_lt. none_between u u_present u_writes (omega (arith, u_lt, lt))))
              | inr le ↦ le
            ]
          ];
        }
