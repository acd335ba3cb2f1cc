-- Records are one where their fields are.
use Rattle.std.proofs.Common.{◌≡◌, ◌∙◌, ℕ, Bool, true, Option, ap}
use Rattle.intervals.specs.declared.operation.Value.{Value}
use Rattle.intervals.specs.Operation.{same_value}
use Rattle.intervals.proofs.Agreement.{Decides-same_value}
use Rattle.read_tree.specs.declared.item.Cover.{Cover}
use Rattle.read_tree.specs.declared.summary.Prefix.{Prefix}
use Rattle.read_tree.specs.declared.summary.ReadSummary.{ReadSummary}

pub same_itself : (a b : Value) → a ≡ b → same_value a b ≡ true
same_itself a b e = (Decides-same_value a b).1 e

abbrev cover : Value → ℕ → Bool → Cover
cover v r b = record { value = v; reach = r; by_value = b }

pub one_cover : (a b : Cover) → a.reach ≡ b.reach → a.by_value ≡ b.by_value → same_value a.value b.value ≡ true → a ≡ b
one_cover a b e f g =
    ap (λ (v : Value). cover v a.reach a.by_value) ((Decides-same_value a.value b.value).0 g)
    ∙ ap (λ (n : ℕ). cover b.value n a.by_value) e
    ∙ ap (λ (t : Bool). cover b.value b.reach t) f

abbrev prefix : Value → ℕ → ℕ → Prefix
prefix v m n = record { value = v; far = m; other = n }

pub one_prefix : (a b : Prefix) → a.far ≡ b.far → a.other ≡ b.other → same_value a.value b.value ≡ true → a ≡ b
one_prefix a b e f g =
    ap (λ (v : Value). prefix v a.far a.other) ((Decides-same_value a.value b.value).0 g)
    ∙ ap (λ (n : ℕ). prefix b.value n a.other) e
    ∙ ap (λ (n : ℕ). prefix b.value b.far n) f

abbrev summary : Prefix → Option Cover → Bool → ℕ → ReadSummary
summary p c t n = record { prefix = p; last = c; uncovered = t; least = n }

pub one_summary : (a b : ReadSummary) → a.least ≡ b.least → a.uncovered ≡ b.uncovered → a.prefix ≡ b.prefix → a.last ≡ b.last → a ≡ b
one_summary a b e f g h =
    ap (λ (p : Prefix). summary p a.last a.uncovered a.least) g
    ∙ ap (λ (c : Option Cover). summary b.prefix c a.uncovered a.least) h
    ∙ ap (λ (t : Bool). summary b.prefix b.last t a.least) f
    ∙ ap (λ (n : ℕ). summary b.prefix b.last b.uncovered n) e
