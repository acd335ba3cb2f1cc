-- The lines and the bytes of elements in records.
use Rattle.std.specs.Prelude.{ℕ, List, [], ◌∷◌, Option, Some, None, codes}
use Rattle.std.specs.Fmt.{decimal}
use Rattle.intervals.specs.declared.claim.Holder.{Holder}
use Rattle.intervals.specs.declared.claim.Holder.TheVariants as holders
use Rattle.places.specs.declared.location.Location.{Location}
use Rattle.places.specs.Spots.{PlacesModel, located}
use Rattle.records.specs.Symbol.{Symbol, begin_record, end_record, key, nothing, number}

-- a number that may not be known; nothing where it is not
abbrev pub known_symbol : Option ℕ → Symbol
known_symbol None = nothing
known_symbol (Some n) = number (decimal n)

-- the line of an element; nothing where it is not known
abbrev pub line_symbol : Option Location → Symbol
line_symbol None = nothing
line_symbol (Some spot) = number (decimal spot.place.line)

-- the first byte of an element; nothing where it is not known
abbrev pub byte_symbol : Option Location → Symbol
byte_symbol None = nothing
byte_symbol (Some spot) = number (decimal spot.start)

-- the line of an element and its first byte, under their names
unfoldable pub spot_symbols : Option Location → List Symbol
spot_symbols spot = key (codes "line") ∷ line_symbol spot ∷ key (codes "byte") ∷ byte_symbol spot ∷ []

-- the line of an element and its first byte as a record; nothing where they are not known
abbrev pub spot_record : Option Location → List Symbol
spot_record None = nothing ∷ []
spot_record (Some spot) =
    begin_record ∷ key (codes "line") ∷ number (decimal spot.place.line) ∷ key (codes "byte") ∷ number (decimal spot.start) ∷ end_record ∷ []

-- where the element is that holds a value: the invocation of the operation; none for the register as it was at first
abbrev pub holder_spot : PlacesModel → Holder → Option Location
holder_spot places (holders.Op id) = located places id.feeder id.event
holder_spot places holders.Initial = None

-- where the elements of these are, each as a record
abbrev pub holder_record : PlacesModel → Holder → List Symbol
holder_record places holder = spot_record (holder_spot places holder)
