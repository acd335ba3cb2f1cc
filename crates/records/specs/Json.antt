-- A record in JSON.
use Rattle.std.specs.Prelude.{ℕ, List, map}
use Rattle.json.specs.Token as json
use Rattle.json.specs.Print.{print}
use Rattle.phrases.specs.Names.{place_text, printed}
use Rattle.records.specs.Symbol.{Symbol, begin_record, end_record, begin_list, end_list, key, word, text, place, number, flag, nothing}

-- a token of a record as a token of JSON
abbrev pub json_token : Symbol → json.Token
json_token begin_record = json.begin_object
json_token end_record = json.end_object
json_token begin_list = json.begin_array
json_token end_list = json.end_array
json_token (key name) = json.key name
json_token (word name) = json.string name
json_token (text bytes) = json.string (printed bytes)
json_token (place feeder event) = json.string (place_text feeder event)
json_token (number digits) = json.number digits
json_token (flag b) = json.boolean b
json_token nothing = json.null

-- a record in JSON: no blanks, and the shortest escapes
abbrev pub json_text : List Symbol → List ℕ
json_text symbols = print (map json_token symbols)
