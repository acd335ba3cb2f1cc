-- the text so far and the lines of the parts that are left are the lines of all
use Rattle.std.proofs.Common.{◌≡◌, ◌++◌, drop, string_bytes}
use Rattle.std.specs.List.{flat_map}
use Rattle.texts.specs.Printing.{list_text}
use Rattle.texts.proofs.listed.push_parts.Given as goal

abbrev pub invariant-loop-part : goal.invariant-loop-part
invariant-loop-part l = string_bytes l.text ++ flat_map (λ part. list_text part.now) (drop l.part-index l.parts) ≡ string_bytes l.fn.text ++ flat_map (λ part. list_text part.now) l.fn.parts
