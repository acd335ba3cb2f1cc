-- What is found in a tower file.
use Rattle.std.specs.Prelude.{◌≡◌, ℕ, List, [], ◌∷◌, Option, Some, None, Vec}
use Rattle.std.specs.declared.alloc.Global.{Global}
use Rattle.tower_file.specs.declared.fault.TowerFault.{TowerFault}
use Rattle.lint.specs.declared.finding.Amiss.TheVariants.{Tower}
use Rattle.lint.specs.declared.finding.Problem.{Problem}
use Rattle.lint.specs.declared.finding.TraceFindings.{TraceFindings}
use Rattle.places.specs.declared.location.Location.{Location}
use Rattle.places.specs.LineColumn.{place_of_byte}
use Rattle.places.specs.Location.{spot_of_byte}

-- the spot of these bytes; that of the first byte of the text where none are given
abbrev pub spot_of_span : List ℕ → Option (ℕ × ℕ) → Location
spot_of_span text (Some span) = record { start = span.0; end = span.1; place = place_of_byte text span.0 }
spot_of_span text None = spot_of_byte text 0

-- what is found is of one file, with these findings and notes
pub record IsOneFile (findings notes : Vec Problem Global) (traces : List TraceFindings) : Type 0 where
  pub one : TraceFindings
  pub traces_are : traces ≡ one ∷ []
  pub findings_are : one.findings ≡ findings
  pub notes_are : one.notes ≡ notes

-- what is found is of one file, with one finding and no note: the fault of a tower file, at these bytes
pub record IsOneFault (text : List ℕ) (fault : TowerFault) (span : Option (ℕ × ℕ)) (traces : List TraceFindings) : Type 0 where
  pub one : TraceFindings
  pub traces_are : traces ≡ one ∷ []
  pub found : one.findings.items ≡ record { what = Tower fault; spot = spot_of_span text span } ∷ []
  pub alone : one.notes.items ≡ []

-- what is found is of one file, and is nothing but notes
pub record HasNotesAlone (traces : List TraceFindings) : Type 0 where
  pub one : TraceFindings
  pub traces_are : traces ≡ one ∷ []
  pub none : one.findings.items ≡ []
