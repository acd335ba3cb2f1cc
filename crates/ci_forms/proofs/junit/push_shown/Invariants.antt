-- the operations so far and those of the slots that are left are those of all
use Rattle.std.proofs.Common.{◌≡◌, ◌++◌, drop, string_bytes}
use Rattle.std.specs.List.{flat_map}
use Rattle.register_book.specs.Fault.{ops_in_roles}
use Rattle.ci_forms.specs.Facts.{facts_of}
use Rattle.ci_forms.specs.Junit.{shown_text}
use Rattle.ci_forms.proofs.junit.push_shown.Given as goal

abbrev pub invariant-loop-slot : goal.invariant-loop-slot
invariant-loop-slot l = string_bytes l.text ++ flat_map (shown_text (facts_of l.run)) (ops_in_roles (drop l.slot-index l.slots)) ≡ string_bytes l.fn.text ++ flat_map (shown_text (facts_of l.fn.run)) (ops_in_roles l.fn.slots)
