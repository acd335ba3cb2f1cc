use Rattle.std.proofs.Common.{◌≡◌, ℕ, ◌≤◌, ◌+◌, true, List, length, Option, Some, None, refl, arith}
use Rattle.std.specs.Prelude.{IfSome, IsSome, is_some}
use Rattle.intervals.specs.declared.operation.Op.{Op}
use Rattle.intervals.specs.Terms.{ClaimModel, terms_of}
use Rattle.read_tree.specs.Items.{ReadContents}
use Rattle.safe_regular.specs.declared.judged.JudgedReads.{JudgedReads}
use Rattle.safe_regular.specs.Change.{more_by}
use Rattle.safe_regular.specs.Held.{AreReadsBy, HasReadRoomBy}
use Rattle.safe_regular.specs.Rows.{AreJudged}
use Rattle.safe_regular.proofs.reads.Reads.change.Goals as goal

-- the tree has room for the items of the operations after the edit
has_room : (free before after : ℕ) (new : Option Op) → before + 1 ≤ free → (IsSome new → before + 2 ≤ free) → after ≤ before + more_by new → after + 1 ≤ free
has_room free before after None room more count = omega (arith, room, count)
has_room free before after (Some op) room more count = let two = more refl in omega (arith, two, count)

rows_serve : (claim : ClaimModel) (ops listed : List Op) (new : Option Op) (line : ReadContents) (before after : Option JudgedReads) → is_some before ≡ true → is_some after ≡ true → AreReadsBy before line claim ops → (IsSome new → HasReadRoomBy before line ops)
    → length listed ≤ length ops + more_by new → (IfSome before (AreJudged claim ops) → IfSome after (AreJudged claim listed)) → AreReadsBy after line claim listed
rows_serve claim ops listed new line None after some some_after are room count then = absurd (cc)
rows_serve claim ops listed new line (Some rows) None some some_after are room count then = absurd (cc)
rows_serve claim ops listed new line (Some rows) (Some judged) some some_after (are, empty, places) room count then =
    (then are, empty, has_room line.free (length ops) (length listed) new places (λ is. (room is).1) count)

pub returns-else-is_none-2-clause-reads : goal.returns-else-is_none-2-clause-reads
returns-else-is_none-2-clause-reads c =
    let (ops, change, are, room) = c.requires.change in
    rows_serve (terms_of c.args.claim.now) ops c.args.table.now.ops c.args.new.now c.args.self.now.line c.args.self.now.judged c.judge_again.new.judged c.if-is_none.ensures c.if-is_none-2.ensures are room change.count
    (c.judge_again.ensures.judged ops change)
