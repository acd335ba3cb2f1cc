-- What a record says: its symbols.
use Rattle.std.specs.Prelude.{ℕ, Bool, List, map}
use Rattle.std.specs.Fmt.{decimal, signed_decimal}
use Rattle.records.specs.declared.token.RecordToken.{RecordToken}
use Rattle.records.specs.declared.token.RecordToken.TheVariants.{BeginRecord, EndRecord, BeginList, EndList, Key, Word, Text, Id, Place, Number, Integer, Flag, Nothing}

-- a token of a record, with the bytes of its words and texts
pub data Symbol : Type 0 where
  begin_record : Symbol
  end_record : Symbol
  begin_list : Symbol
  end_list : Symbol
  key : List ℕ → Symbol
  word : List ℕ → Symbol
  text : List ℕ → Symbol
  place : ℕ → ℕ → Symbol
  number : List ℕ → Symbol
  flag : Bool → Symbol
  nothing : Symbol

-- what a token says; of a number its digits
abbrev pub symbol_of : RecordToken → Symbol
symbol_of BeginRecord = begin_record
symbol_of EndRecord = end_record
symbol_of BeginList = begin_list
symbol_of EndList = end_list
symbol_of (Key name) = key name.now
symbol_of (Word name) = word name.now
symbol_of (Text bytes) = text bytes.now
symbol_of (Id id) = place id.feeder id.event
symbol_of (Place feeder event) = place feeder event
symbol_of (Number n) = number (decimal n)
symbol_of (Integer n) = number (signed_decimal n)
symbol_of (Flag b) = flag b
symbol_of Nothing = nothing

-- what some tokens say
abbrev pub symbols_of : List RecordToken → List Symbol
symbols_of tokens = map symbol_of tokens
