-- A line for each finding, as editors read them.
use Rattle.std.specs.Prelude.{ℕ, List, [], ◌∷◌, ◌++◌, codes}
use Rattle.std.specs.List.{flat_map}
use Rattle.lint.specs.declared.finding.Problem.{Problem}
use Rattle.lint.specs.declared.finding.TraceFindings.{TraceFindings}
use Rattle.lint.specs.declared.source.SourceText.{SourceText}
use Rattle.lint.specs.Head.{finding_head_text, position_text}

-- the line of a finding: where it is, and what it says
abbrev pub short_line : List ℕ → Problem → List ℕ
short_line name finding = position_text name finding.spot ++ codes ": " ++ finding_head_text finding.what ++ 10 ∷ []

-- a line for each finding of one file, in order
abbrev pub short_lines : List ℕ → List Problem → List ℕ
short_lines name findings = flat_map (short_line name) findings

-- the lines of all files, in order: for each file those of its findings, and then those of its notes
abbrev pub short_text : List SourceText → List TraceFindings → List ℕ
short_text [] traces = []
short_text (source ∷ sources) [] = []
short_text (source ∷ sources) (trace ∷ traces) = short_lines source.name.now trace.findings.items ++ short_lines source.name.now trace.notes.items ++ short_text sources traces
