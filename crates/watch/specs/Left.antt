-- What is left to be noted of a trace.
use Rattle.std.specs.Prelude.{Bool, true, false, List, [], ◌∷◌, ◌++◌, option_map, filter_map}
use Rattle.std.specs.Option.{option_to_list}
use Rattle.watch.specs.declared.noted.Left.{Left}
use Rattle.watch.specs.Noted.{Note, note_of_break, note_of_line}
use Rattle.watch.specs.Noted.Note.{Ended}

-- the end of a trace, as far as it is left
abbrev pub end_left : Bool → List Note
end_left true = []
end_left false = Ended ∷ []

-- what is left to be noted of a trace: refusals, where it broke, and its end
abbrev pub notes_left : Left → List Note
notes_left left = filter_map note_of_line left.lines.now ++ option_to_list (option_map note_of_break left.broken) ++ end_left left.ended
