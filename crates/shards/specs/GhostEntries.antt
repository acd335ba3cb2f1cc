-- The entries of a list that is there in proofs alone; for private clauses alone.
use Rattle.std.specs.Prelude.{List, [], ◌∷◌, ◌++◌}
use Rattle.shards.specs.declared.entry.Entry.{Entry}
use Rattle.shards.specs.declared.ghost_entries.EntryChain.{EntryChain, Empty, Last'}

-- the entries of a chain, in order
abbrev pub entries_in : EntryChain → List Entry
entries_in Empty = []
entries_in (Last' rest before entry) = entries_in before ++ entry ∷ []
