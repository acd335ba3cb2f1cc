-- The field that a keyword names is the only one whose keyword it is.
use Rattle.std.proofs.Common.{◌≡◌, ◌⊎◌, inl, inr, ℕ, Bool, true, false, cond, List, Option, Some, None, refl, sym, subst, length}
use Rattle.std.specs.Prelude.{codes, ◌==◌}
use Rattle.std.specs.Str.{bytes_eq}
use Rattle.std.proofs.lemmas.Slice.Eq.{bytes_eq-Decides}
use Rattle.edn_reader.specs.Grammar.{ElementModel}
use Rattle.jepsen_form.specs.declared.fault.FormField.{FormField}
use Rattle.jepsen_form.specs.declared.item.MomentField.{MomentField}
use Rattle.jepsen_form.specs.declared.item.MomentField.TheVariants.{Index, Time}
use Rattle.jepsen_form.specs.Fields.{Fields, moment_key}
use Rattle.jepsen_form.specs.Form.{noted, field_of, with_more}

tested : (word key : List ℕ) (t : Bool) → bytes_eq word key ≡ t → (word ≡ key) ⊎ (bytes_eq word key ≡ false)
tested word key true e = inl ((bytes_eq-Decides word key).0 e)
tested word key false e = inr e

same_or_not : (word key : List ℕ) → (word ≡ key) ⊎ (bytes_eq word key ≡ false)
same_or_not word key = tested word key (bytes_eq word key) refl

abbrev Noted : MomentField → Fields → ElementModel → List ℕ → Type 0
Noted chosen found value word = noted chosen found (Some word) value ≡ with_more (field_of chosen word) found value

none_too : (t : Bool) (other : Option FormField) → other ≡ None → cond t None other ≡ None
none_too true other e = refl
none_too false other e = e

of_none : (chosen : MomentField) (found : Fields) (value : ElementModel) (word : List ℕ) → bytes_eq word (moment_key chosen) ≡ false → bytes_eq word (codes ":process") ≡ false → bytes_eq word (codes ":type") ≡ false → bytes_eq word (codes ":f") ≡ false → bytes_eq word (codes ":value") ≡ false → bytes_eq word (codes ":edit") ≡ false → bytes_eq word (codes ":of") ≡ false → bytes_eq word (codes ":begin") ≡ false → bytes_eq word (codes ":end") ≡ false → bytes_eq word (codes ":ask") ≡ false → bytes_eq word (codes ":register") ≡ false → bytes_eq word (codes ":kind") ≡ false → Noted chosen found value word
of_none chosen found value word not_moment not_process not_type not_f not_value not_edit not_of not_begin not_end not_ask not_register not_kind =
    let nothing : cond (length word == 2) None (cond (length word == 3) None (cond (length word == 4) None (cond (length word == 5) None (cond (length word == 6) None (cond (length word == 8) None (cond (length word == 9) None None)))))) ≡ None =
    none_too (length word == 2) _ (none_too (length word == 3) _ (none_too (length word == 4) _ (none_too (length word == 5) _ (none_too (length word == 6) _ (none_too (length word == 8) _ (none_too (length word == 9) None refl)))))) in
    rw (not_moment, not_process, not_type, not_f, not_value, not_edit, not_of, not_begin, not_end, not_ask, not_register, not_kind, nothing) refl

of_each : (chosen : MomentField) (found : Fields) (value : ElementModel) → Noted chosen found value (moment_key chosen) → Noted chosen found value (codes ":process") → Noted chosen found value (codes ":type") → Noted chosen found value (codes ":f") → Noted chosen found value (codes ":value") → Noted chosen found value (codes ":edit") → Noted chosen found value (codes ":of") → Noted chosen found value (codes ":begin") → Noted chosen found value (codes ":end") → Noted chosen found value (codes ":ask") → Noted chosen found value (codes ":register") → Noted chosen found value (codes ":kind") → (word : List ℕ) → Noted chosen found value word
of_each chosen found value is_moment is_process is_type is_f is_value is_edit is_of is_begin is_end is_ask is_register is_kind word =
    elim (same_or_not word (moment_key chosen)) [
      | inl e ↦ subst (Noted chosen found value) (sym e) is_moment
      | inr not_moment ↦
          elim (same_or_not word (codes ":process")) [
            | inl e ↦ subst (Noted chosen found value) (sym e) is_process
            | inr not_process ↦
                elim (same_or_not word (codes ":type")) [
                  | inl e ↦ subst (Noted chosen found value) (sym e) is_type
                  | inr not_type ↦
                      elim (same_or_not word (codes ":f")) [
                        | inl e ↦ subst (Noted chosen found value) (sym e) is_f
                        | inr not_f ↦
                            elim (same_or_not word (codes ":value")) [
                              | inl e ↦ subst (Noted chosen found value) (sym e) is_value
                              | inr not_value ↦
                                  elim (same_or_not word (codes ":edit")) [
                                    | inl e ↦ subst (Noted chosen found value) (sym e) is_edit
                                    | inr not_edit ↦
                                        elim (same_or_not word (codes ":of")) [
                                          | inl e ↦ subst (Noted chosen found value) (sym e) is_of
                                          | inr not_of ↦
                                              elim (same_or_not word (codes ":begin")) [
                                                | inl e ↦ subst (Noted chosen found value) (sym e) is_begin
                                                | inr not_begin ↦
                                                    elim (same_or_not word (codes ":end")) [
                                                      | inl e ↦ subst (Noted chosen found value) (sym e) is_end
                                                      | inr not_end ↦
                                                          elim (same_or_not word (codes ":ask")) [
                                                            | inl e ↦ subst (Noted chosen found value) (sym e) is_ask
                                                            | inr not_ask ↦
                                                                elim (same_or_not word (codes ":register")) [
                                                                  | inl e ↦ subst (Noted chosen found value) (sym e) is_register
                                                                  | inr not_register ↦
                                                                      elim (same_or_not word (codes ":kind")) [
                                                                        | inl e ↦ subst (Noted chosen found value) (sym e) is_kind
                                                                        | inr not_kind ↦
                                                                            of_none chosen found value word not_moment not_process not_type not_f not_value not_edit not_of not_begin not_end not_ask not_register not_kind
                                                                      ]
                                                                ]
                                                          ]
                                                    ]
                                              ]
                                        ]
                                  ]
                            ]
                      ]
                ]
          ]
    ]

of_word : (chosen : MomentField) (found : Fields) (value : ElementModel) (word : List ℕ) → Noted chosen found value word
of_word Index found value word = of_each Index found value refl refl refl refl refl refl refl refl refl refl refl refl word
of_word Time found value word = of_each Time found value refl refl refl refl refl refl refl refl refl refl refl refl word

pub noted_under : (chosen : MomentField) (found : Fields) (word : List ℕ) (value : ElementModel) → noted chosen found (Some word) value ≡ with_more (field_of chosen word) found value
noted_under chosen found word value = of_word chosen found value word
