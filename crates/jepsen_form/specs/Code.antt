-- The codes of the faults of an element's form, as users see them.
use Rattle.std.specs.Prelude.{ℕ, List, codes}
use Rattle.jepsen_form.specs.declared.fault.FormFault.{FormFault}
use Rattle.jepsen_form.specs.declared.fault.FormFault.TheVariants.{NotAMap, MissingField, DuplicateField, BadType, UnsupportedF, BadValue, BadMoment, NoRegister}

-- the code of a fault of an element's form, as it is printed: F1 to F8
abbrev pub form_fault_code : FormFault → List ℕ
form_fault_code NotAMap = codes "F1"
form_fault_code (MissingField field) = codes "F2"
form_fault_code (DuplicateField field) = codes "F3"
form_fault_code BadType = codes "F4"
form_fault_code UnsupportedF = codes "F5"
form_fault_code BadValue = codes "F6"
form_fault_code BadMoment = codes "F7"
form_fault_code NoRegister = codes "F8"
