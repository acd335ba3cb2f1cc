-- Names, ids and words as they are printed.
use Rattle.std.specs.Prelude.{ℕ, Bool, List, [], ◌++◌, map, codes, nat_lt, if◌then◌else◌, encode_utf8_all}
use Rattle.std.specs.Option.{option_map_or}
use Rattle.std.specs.List.{slice_get}
use Rattle.std.specs.Fmt.{decimal}
use Rattle.bstr.specs.Utf8.{lossy_chars}
use Rattle.intervals.specs.declared.claim.Kind.{Kind}
use Rattle.intervals.specs.declared.claim.Kind.TheVariants.{Safe, Regular, Atomic}
use Rattle.intervals.specs.declared.operation.OpId.{OpId}
use Rattle.intervals.specs.declared.operation.RegId.{RegId}
use Rattle.tower_file.specs.Contents.{Register}

-- a character as it is printed: one below U+0020 becomes a space
abbrev pub printed_char : ℕ → ℕ
printed_char c = if nat_lt c 32 then 32 else c

-- a name or a lent text as it is printed, in UTF-8: bytes that are no UTF-8 become U+FFFD
abbrev pub printed : List ℕ → List ℕ
printed text = encode_utf8_all (map printed_char (lossy_chars text))

-- a kind as it is printed: safe, regular or atomic
abbrev pub kind_word : Kind → List ℕ
kind_word Safe = codes "safe"
kind_word Regular = codes "regular"
kind_word Atomic = codes "atomic"

-- a verdict as it is printed: holds or fails
abbrev pub verdict_word : Bool → List ℕ
verdict_word holds = if holds then codes "holds" else codes "fails"

-- a place in a trace as it is printed: the number of the trace, a colon, and the place of the element in it
abbrev pub place_text : ℕ → ℕ → List ℕ
place_text feeder event = decimal feeder ++ codes ":" ++ decimal event

-- an operation's id as it is printed: the number of its trace, a colon, and the place of its invocation
abbrev pub id_text : OpId → List ℕ
id_text id = place_text id.feeder id.event

-- the name of a register, empty where there is none of that number
abbrev pub register_name : List Register → RegId → List ℕ
register_name registers id = option_map_or (λ register. register.name) (slice_get registers id.0) []
