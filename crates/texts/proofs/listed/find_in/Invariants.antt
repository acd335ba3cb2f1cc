-- what is found among the parts that are left is what is found among all
use Rattle.std.proofs.Common.{◌≡◌, drop}
use Rattle.texts.specs.Codes.{entry_among}
use Rattle.texts.proofs.Parts.{entries_of}
use Rattle.texts.proofs.listed.find_in.Given as goal

abbrev pub invariant-loop-part : goal.invariant-loop-part
invariant-loop-part l = entry_among l.by_name (entries_of (drop l.part-index l.parts)) l.word ≡ entry_among l.fn.by_name (entries_of l.fn.parts) l.word
