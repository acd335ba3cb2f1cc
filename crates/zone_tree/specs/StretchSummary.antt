-- What each node keeps of the stretches below it, so that a look-up knows its way.
use Rattle.std.specs.Prelude.{not, ◌||◌, List}
use Rattle.std.specs.List.{list_any}
use Rattle.zone_tree.specs.declared.stretch.Stretch.{Stretch}
use Rattle.zone_tree.specs.declared.stretch_summary.StretchSummary.{StretchSummary}
use Rattle.zone_tree.specs.StretchLook.{is_read_early, has_no_write}

-- the summary of one stretch
abbrev pub one_stretch : Stretch → StretchSummary
one_stretch s = record { writeless = not s.written; early = s.written }

-- the summary of two lists of stretches, one after the other, by the summaries of both
abbrev pub join_stretches : StretchSummary → StretchSummary → StretchSummary
join_stretches s t = record { writeless = s.writeless || t.writeless; early = s.early || t.early }

-- the summary of a list of stretches: whether one of them is writeless, and whether one is early
abbrev pub summary_of_stretches : List Stretch → StretchSummary
summary_of_stretches stretches = record { writeless = list_any has_no_write stretches; early = list_any is_read_early stretches }
