-- What the program has found in a map so far; for private clauses alone.
use Rattle.std.specs.Prelude.{ℕ, Bool, true, false, ◌==◌, List, length, Option, Some, None, codes, if◌then◌else◌}
use Rattle.std.specs.Str.{bytes_eq}
use Rattle.edn_reader.specs.Grammar.{ElementModel}
use Rattle.edn_reader.specs.Lent.{piece_of}
use Rattle.edn_reader.specs.Given.{Given, Missing, one_more, seen}
use Rattle.jepsen_form.specs.declared.item.MomentField.{MomentField}
use Rattle.jepsen_form.specs.declared.fault.FormField.{FormField}
use Rattle.jepsen_form.specs.declared.fault.FormField.TheVariants as fields
use Rattle.jepsen_form.specs.declared.form.EventFields.{EventFields}
use Rattle.jepsen_form.specs.declared.said.ParsedValue.{ParsedValue}
use Rattle.jepsen_form.specs.declared.said.ParsedValue.TheVariants as variants
use Rattle.jepsen_form.specs.Fields.{Fields, moment_key, UnderValue, NoValue, AValue, NamedValue, ManyValues}

-- the fields that an `EventFields` has found so far
abbrev pub seen_all : EventFields → Fields
seen_all form = record {
  process = seen form.process;
  stage = seen form.stage;
  action = seen form.action;
  value = seen form.value;
  moment = seen form.moment;
  edit = seen form.edit;
  of = seen form.of;
  begin = seen form.begin;
  end = seen form.end;
  ask = seen form.ask;
  register = seen form.register;
  claimed = seen form.claimed;
}

-- the fields before any pair of a map: each is missing
abbrev pub nothing : Fields
nothing = record {
  process = Missing;
  stage = Missing;
  action = Missing;
  value = Missing;
  moment = Missing;
  edit = Missing;
  of = Missing;
  begin = Missing;
  end = Missing;
  ask = Missing;
  register = Missing;
  claimed = Missing;
}

-- what is under a key once one more value is, where the test that the value is under this key holds
abbrev pub more_if : Bool → Given ElementModel → ElementModel → Given ElementModel
more_if true found value = one_more found value
more_if false found value = found

-- the test that an optional keyword is there and is this one
abbrev pub is_key : List ℕ → Option (List ℕ) → Bool
is_key keyword None = false
is_key keyword (Some word) = bytes_eq word keyword

-- the fields after one more pair of a map, by the keyword that its key is, or none, and by its value
abbrev pub noted : MomentField → Fields → Option (List ℕ) → ElementModel → Fields
noted chosen found key value = record {
  process = more_if (is_key (codes ":process") key) found.process value;
  stage = more_if (is_key (codes ":type") key) found.stage value;
  action = more_if (is_key (codes ":f") key) found.action value;
  value = more_if (is_key (codes ":value") key) found.value value;
  moment = more_if (is_key (moment_key chosen) key) found.moment value;
  edit = more_if (is_key (codes ":edit") key) found.edit value;
  of = more_if (is_key (codes ":of") key) found.of value;
  begin = more_if (is_key (codes ":begin") key) found.begin value;
  end = more_if (is_key (codes ":end") key) found.end value;
  ask = more_if (is_key (codes ":ask") key) found.ask value;
  register = more_if (is_key (codes ":register") key) found.register value;
  claimed = more_if (is_key (codes ":kind") key) found.claimed value;
}

-- this field where a test holds, else none
abbrev only_if : Bool → FormField → Option FormField
only_if is field = if is then Some field else None

-- this field where a test holds, else another optional field
abbrev first_if : Bool → FormField → Option FormField → Option FormField
first_if is field other = if is then Some field else other

-- the field that a keyword names, or none; after the moment's one, only the few of the keyword's length are compared
abbrev pub field_of : MomentField → List ℕ → Option FormField
field_of chosen word =
    if bytes_eq word (moment_key chosen) then Some fields.Moment
    else if length word == 2 then only_if (bytes_eq word (codes ":f")) fields.Action
    else if length word == 3 then only_if (bytes_eq word (codes ":of")) fields.Of
    else if length word == 4 then first_if (bytes_eq word (codes ":end")) fields.End (only_if (bytes_eq word (codes ":ask")) fields.Ask)
    else if length word == 5 then first_if (bytes_eq word (codes ":type")) fields.Stage (first_if (bytes_eq word (codes ":edit")) fields.Edit (only_if (bytes_eq word (codes ":kind")) fields.Claimed))
    else if length word == 6 then first_if (bytes_eq word (codes ":value")) fields.Value (only_if (bytes_eq word (codes ":begin")) fields.Begin)
    else if length word == 8 then only_if (bytes_eq word (codes ":process")) fields.Process
    else if length word == 9 then only_if (bytes_eq word (codes ":register")) fields.Register
    else None

-- the fields with one more value under an optional one of them
abbrev pub with_more : Option FormField → Fields → ElementModel → Fields
with_more None found value = found
with_more (Some fields.Process) found value = record found { process = one_more found.process value }
with_more (Some fields.Stage) found value = record found { stage = one_more found.stage value }
with_more (Some fields.Action) found value = record found { action = one_more found.action value }
with_more (Some fields.Value) found value = record found { value = one_more found.value value }
with_more (Some fields.Moment) found value = record found { moment = one_more found.moment value }
with_more (Some fields.Edit) found value = record found { edit = one_more found.edit value }
with_more (Some fields.Of) found value = record found { of = one_more found.of value }
with_more (Some fields.Begin) found value = record found { begin = one_more found.begin value }
with_more (Some fields.End) found value = record found { end = one_more found.end value }
with_more (Some fields.Ask) found value = record found { ask = one_more found.ask value }
with_more (Some fields.Register) found value = record found { register = one_more found.register value }
with_more (Some fields.Claimed) found value = record found { claimed = one_more found.claimed value }

-- what the program found under `:value`, as an `UnderValue`
abbrev pub under_value : ParsedValue → UnderValue
under_value variants.Nothing = NoValue
under_value (variants.Plain value) = AValue (piece_of value)
under_value (variants.Named name value) = NamedValue (piece_of name) (piece_of value)
under_value variants.Repeated = ManyValues
