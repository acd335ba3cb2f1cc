-- what is found among the entries that are left is what is found among all
use Rattle.std.proofs.Common.{◌≡◌, drop}
use Rattle.texts.specs.Codes.{entry_among}
use Rattle.texts.proofs.listed.find_among.Given as goal

abbrev pub invariant-loop-entry : goal.invariant-loop-entry
invariant-loop-entry l = entry_among l.by_name (drop l.entry-index l.entries) l.word ≡ entry_among l.fn.by_name l.fn.entries l.word
