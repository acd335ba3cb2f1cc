-- Where the elements of several texts are.
use Rattle.std.specs.Prelude.{◌≡◌, ℕ, List, [], Option, map, option_map, unwrap_or}
use Rattle.std.specs.List.{AllZip, slice_get}
use Rattle.edn_reader.specs.Fault.{AreElementsBefore}
use Rattle.edn_reader.specs.Grammar.{ElementModel}
use Rattle.places.specs.declared.location.Location.{Location}
use Rattle.places.specs.LineColumn.{place_of_byte}
use Rattle.places.specs.Location.{element_spot}

-- some texts, and spots in each
pub record PlacesModel : Type 0 where
  pub texts : List (List ℕ)
  pub spots : List (List Location)

-- the spots are those of the elements of a text, or of those before its fault, by number
abbrev pub AreSpotsOf : List ℕ → List Location → Type 0
AreSpotsOf text spots = (pieces : List ElementModel) × AreElementsBefore text pieces × (spots ≡ map (element_spot text) pieces)

-- the spots in each text are those of its elements
abbrev pub HasSpots : PlacesModel → Type 0
HasSpots places = AllZip AreSpotsOf places.texts places.spots

-- the spot of an element, by the number of its text and its number there; none where it is not known
abbrev pub located : PlacesModel → ℕ → ℕ → Option Location
located places text number = slice_get (unwrap_or (slice_get places.spots text) []) number

-- the line of a byte of the text of this number, or that of its end where there is no such byte; none where there is no
-- such text
abbrev pub line_of_byte : PlacesModel → ℕ → ℕ → Option ℕ
line_of_byte places text byte = option_map (λ bytes. (place_of_byte bytes byte).line) (slice_get places.texts text)
