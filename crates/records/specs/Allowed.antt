-- The values that a wrong read might have returned.
use Rattle.std.specs.Prelude.{Bool, true, false, List, [], ◌∷◌, ◌++◌, Option, Some, None, codes, map, if◌then◌else◌}
use Rattle.intervals.specs.declared.claim.Kind.{Kind}
use Rattle.intervals.specs.declared.claim.Kind.TheVariants.{Safe, Regular, Atomic}
use Rattle.intervals.specs.declared.operation.Op.{Op}
use Rattle.intervals.specs.declared.operation.Value.{Value}
use Rattle.intervals.specs.Operation.{value_of}
use Rattle.records.specs.declared.allowed.Allowed.{Allowed}
use Rattle.records.specs.declared.allowed.ValueSource.{ValueSource}
use Rattle.records.specs.declared.allowed.ValueSource.TheVariants as sources
use Rattle.places.specs.declared.location.Location.{Location}
use Rattle.places.specs.Spots.{PlacesModel, located}
use Rattle.records.specs.Spot.{spot_symbols}
use Rattle.records.specs.Symbol.{Symbol, begin_record, end_record, key, place, word}
use Rattle.records.specs.Value.{value_symbol}

-- the value of a write, with the write as its source
abbrev pub of_write : Op → Allowed
of_write write = record { value = value_of write.act; source = sources.Write write.id }

-- the initial value
abbrev pub of_initial : Value → Allowed
of_initial value = record { value = value; source = sources.Initial }

-- the values of the domain
abbrev pub of_domain : List Value → List Allowed
of_domain values = map (λ value. record { value = value; source = sources.Domain }) values

-- the value of the last write that precedes the read, or the initial value where none does
abbrev pub of_last : Value → Option Op → Allowed
of_last initial None = of_initial initial
of_last initial (Some write) = of_write write

-- a read that overlaps a write may return any value of the domain: so it is on a safe register
abbrev pub may_return_any : Kind → List Op → Bool
may_return_any Safe [] = false
may_return_any Safe (write ∷ over) = true
may_return_any Regular over = false
may_return_any Atomic over = false

-- the values that a wrong read might have returned, by the last write that precedes it and the writes that overlap it
abbrev pub allowed_by : Kind → Value → List Value → Option Op → List Op → List Allowed
allowed_by kind initial domain last over =
    if may_return_any kind over
    then of_domain domain ++ of_initial initial ∷ []
    else of_last initial last ∷ map of_write over

-- where a value comes from: the id of its write, or the word `initial` or `domain`
abbrev pub source_symbol : ValueSource → Symbol
source_symbol (sources.Write id) = place id.feeder id.event
source_symbol sources.Initial = word (codes "initial")
source_symbol sources.Domain = word (codes "domain")

-- where the element is that a value comes from: the invocation of its write; none where it comes from no write
abbrev pub source_spot : PlacesModel → ValueSource → Option Location
source_spot places (sources.Write id) = located places id.feeder id.event
source_spot places sources.Initial = None
source_spot places sources.Domain = None

-- a value that might have been returned, and where it comes from
abbrev pub value_fields : Allowed → List Symbol
value_fields allowed = key (codes "value") ∷ value_symbol allowed.value ∷ key (codes "id") ∷ source_symbol allowed.source ∷ []

-- the record of a value that might have been returned
abbrev pub allowed_symbols : PlacesModel → Allowed → List Symbol
allowed_symbols places allowed =
    (begin_record ∷ []) ++ value_fields allowed ++ spot_symbols (source_spot places allowed.source) ++ end_record ∷ []
