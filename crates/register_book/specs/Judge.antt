-- What the judge of a register holds; no public clause uses these words.
use Rattle.std.specs.Prelude.{◌≡◌, ◌≢◌, ◌+◌, ◌-◌, ◌^◌, ℕ, min, List, Option, Some, None}
use Rattle.register_book.specs.BookModel.{BookModel}
use Rattle.intervals.specs.declared.operation.Op.{Op}
use Rattle.intervals.specs.declared.operation.OpId.{OpId}
use Rattle.intervals.specs.declared.claim.Kind.TheVariants.{Atomic}
use Rattle.intervals.specs.Edit.{op_of}
use Rattle.register_book.specs.declared.judge.Judge.{Judge}
use Rattle.register_book.specs.declared.judge.Judge.TheVariants.{One, Many}

-- what a judge holds: the claim, the operations that stand, and the steps of its tree of zones, or 0 without one
abbrev pub held_by : Judge → BookModel
held_by (One judge) = record { claim = judge.claim; ops = judge.ops; steps = 0 }
held_by (Many clusters) = record { claim = clusters.claim; ops = clusters.ops; steps = clusters.steps }

-- what a book keeps: the claim and the operations of its judge, and the steps of this judge and of those that are gone,
-- together at most 2^64 - 1
abbrev pub kept_by : Judge → ℕ → BookModel
kept_by judge gone = record (held_by judge) { steps = min (gone + (held_by judge).steps) (2 ^ 64 - 1) }

-- the judge keeps room for no operation (none is prepared)
abbrev pub HasNonePrepared : Judge → Type 0
HasNonePrepared (One judge) = judge.prepared ≡ None
HasNonePrepared (Many clusters) = clusters.prepared ≡ None

-- the judge is the one for the claimed kind: `Many` where that is atomic, else `One`
abbrev pub IsOfItsKind : Judge → Type 0
IsOfItsKind (One judge) = judge.claim.kind ≢ Atomic
IsOfItsKind (Many clusters) = clusters.claim.kind ≡ Atomic

-- two optional operations as a pair, or none where one is missing
abbrev pub both_of : Option Op → Option Op → Option (Op × Op)
both_of (Some a) (Some b) = Some (a, b)
both_of a b = None

-- the operations of an optional pair of ids, or none where there is no pair or an id is not found
abbrev pub pair_by : List Op → Option (OpId × OpId) → Option (Op × Op)
pair_by ops None = None
pair_by ops (Some (a, b)) = both_of (op_of ops a) (op_of ops b)
