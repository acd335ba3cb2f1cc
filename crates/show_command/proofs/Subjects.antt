-- The name of a register, its value at first and its order are those of its tower and its book.
use Rattle.std.proofs.Common.{◌≡◌, ◌∷◌, Bool, true, false, List, [], ℕ, Option, Some, None, if◌then◌else◌, rules, refl, ap, subst}
use Rattle.std.specs.Prelude.{◌↔◌, IfSome, IsNone, filter, option_map, Vec}
use Rattle.std.specs.declared.alloc.Global.{Global}
use Rattle.std.specs.Option.{option_map_or}
use Rattle.intervals.specs.declared.claim.Claim.{Claim}
use Rattle.intervals.specs.declared.claim.Initial.{Initial}
use Rattle.intervals.specs.declared.claim.Kind.TheVariants.{Atomic}
use Rattle.intervals.specs.declared.operation.Op.{Op}
use Rattle.intervals.specs.declared.operation.OpId.{OpId}
use Rattle.intervals.specs.Kind.{Holds}
use Rattle.intervals.specs.Table.{ops_in_slots}
use Rattle.intervals.specs.Terms.{terms_of}
use Rattle.zones.specs.AtFirst.{with_start}
use Rattle.zones.specs.Turn.{IsOrder}
use Rattle.register_book.specs.BookModel.{BookModel, claimed_of}
use Rattle.tower_file.specs.Contents.{Register}
use Rattle.show_command.specs.Drawn.{IsInitialOf, IsDrawnOrder, drawn_ops, is_drawn, is_drawn_slot}

pub is_named : (slot : Option Register) (name : List ℕ) → Some name ≡ option_map (λ register. register.name) slot → name ≡ option_map_or (λ register. register.name) slot []
is_named None name found = search rules
is_named (Some register) name found = search rules

pub is_unnamed : (slot : Option Register) → None ≡ option_map (λ register. register.name) slot → [] ≡ option_map_or (λ register. register.name) slot []
is_unnamed None found = refl
is_unnamed (Some register) found = search rules

pub is_said_at_first : (slot : Option Register) (claim : Claim) → Some (terms_of claim) ≡ option_map (λ register. register.claim) slot → IfSome slot (λ register. IsInitialOf register.claim claim.initial)
is_said_at_first None claim found = tt
is_said_at_first (Some register) claim found = search rules

pub nothing_is_said : (slot : Option Register) (initial : Initial) → None ≡ option_map (λ register. register.claim) slot → IfSome slot (λ register. IsInitialOf register.claim initial)
nothing_is_said None initial found = tt
nothing_is_said (Some register) initial found = search rules

an_order_of : (book : BookModel) (ids : Vec OpId Global) → IsOrder (with_start (claimed_of book)) book.ops ids.items → IsNone (Some ids) ↔ ¬ ((book.claim.kind ≡ Atomic) × Holds (claimed_of book)) → IsDrawnOrder book ids.items
an_order_of book ids order none = record { explains = λ holds. order; none = λ fails. absurd (let h = none.1 fails in cc) }

pub an_order : (book : BookModel) (found : Option (Vec OpId Global)) (ids : Vec OpId Global) → found ≡ Some ids
    → IfSome found (λ ids. IsOrder (with_start (claimed_of book)) book.ops ids.items) → IsNone found ↔ ¬ ((book.claim.kind ≡ Atomic) × Holds (claimed_of book)) → IsDrawnOrder book ids.items
an_order book found ids is order none = an_order_of book ids
    (subst (λ (found : Option (Vec OpId Global)). IfSome found (λ ids. IsOrder (with_start (claimed_of book)) book.ops ids.items)) is order)
    (subst (λ (found : Option (Vec OpId Global)). IsNone found ↔ ¬ ((book.claim.kind ≡ Atomic) × Holds (claimed_of book))) is none)

pub no_order : (book : BookModel) (found : Option (Vec OpId Global)) → found ≡ None → IsNone found ↔ ¬ ((book.claim.kind ≡ Atomic) × Holds (claimed_of book)) → IsDrawnOrder book []
no_order book None is none = record { explains = λ holds. absurd (none.0 refl holds); none = λ fails. refl }
no_order book (Some ids) is none = search rules

-- the operations of the slots that are drawn are those that are drawn
pub drawn_in_slots : (all : Bool) (slots : List (Option Op)) → ops_in_slots (filter (is_drawn_slot all) slots) ≡ drawn_ops all (ops_in_slots slots)
drawn_in_slots all [] = refl
drawn_in_slots all (None ∷ slots) = drawn_in_slots all slots
drawn_in_slots all (Some op ∷ slots) = by_test (is_drawn all op) (drawn_in_slots all slots)
  where
    by_test : (test : Bool) → ops_in_slots (filter (is_drawn_slot all) slots) ≡ drawn_ops all (ops_in_slots slots)
        → ops_in_slots (if test then Some op ∷ filter (is_drawn_slot all) slots else filter (is_drawn_slot all) slots) ≡ (if test then op ∷ drawn_ops all (ops_in_slots slots) else drawn_ops all (ops_in_slots slots))
    by_test true rest = ap (λ (ops : List Op). op ∷ ops) rest
    by_test false rest = rest
