-- Where headings and sentences are in SVG and HTML.
use Rattle.std.specs.Prelude.{ℕ, List, ◌++◌, codes}
use Rattle.show.specs.Escape.{element_text}

-- what a picture says to those who do not see it: its heading as title, its sentences as description
abbrev pub spoken_text : List ℕ → List ℕ → List ℕ
spoken_text heading caption = element_text (codes "<title>") heading (codes "</title>\n") ++ element_text (codes "<desc>") caption (codes "</desc>\n")

-- the heading above a picture
abbrev pub heading_text : List ℕ → List ℕ
heading_text heading = element_text (codes "<g class=\"paper\"><text class=\"title\" x=\"16\" y=\"24\">") heading (codes "</text></g>\n")

-- the heading of a register on a page
abbrev pub part_head_text : List ℕ → List ℕ
part_head_text heading = element_text (codes "<summary>") heading (codes "</summary>\n")

-- what the report says of a register, on a page
abbrev pub quoted_text : List ℕ → List ℕ
quoted_text report = element_text (codes "<pre>") report (codes "</pre>\n")
