-- What an edit makes of the operations that stand and of the claim.
use Rattle.std.specs.Prelude.{Bool, true, false, not, List, [], ◌∷◌, ◌++◌, map, filter, find, Option, Some, None, option_map, unwrap_or, if◌then◌else◌}
use Rattle.intervals.specs.declared.operation.Op.{Op}
use Rattle.intervals.specs.declared.operation.OpId.{OpId}
use Rattle.intervals.specs.declared.operation.Act.{Act}
use Rattle.intervals.specs.declared.operation.Act.TheVariants.{Read, Write}
use Rattle.intervals.specs.declared.operation.OpParts.{OpParts}
use Rattle.intervals.specs.declared.operation.Value.{Value}
use Rattle.intervals.specs.declared.edit.Change.{Change}
use Rattle.intervals.specs.declared.edit.Lent.{Lent}
use Rattle.intervals.specs.declared.edit.Lent.TheVariants.{Answer, Amendment}
use Rattle.intervals.specs.declared.edit.Edit.{Edit}
use Rattle.intervals.specs.declared.edit.Edit.TheVariants.{Append, Amend, Withdraw, Claim}
use Rattle.intervals.specs.Operation.{same_id}
use Rattle.intervals.specs.Terms.{ClaimModel}

-- the act with the optional value in place of its own, or as it is where there is none
abbrev pub act_with : Act → Option Value → Act
act_with act None = act
act_with (Read old) (Some new) = Read new
act_with (Write old) (Some new) = Write new

-- the parts of an operation with the text of a change as its answer, or as its amendment
abbrev pub parts_with : OpParts → Lent → OpParts
parts_with parts (Answer text) = record parts { answer = Some text }
parts_with parts (Amendment text) = record parts { amendment = Some text }

-- the operation with the value, the beginning and the end that the change gives in place of its own, and with the text
-- of the change; an end may be given as none
abbrev pub changed : Op → Change → Op
changed op change = record op {
  act = act_with op.act change.value;
  begin = unwrap_or change.begin op.begin;
  end = unwrap_or change.end op.end;
  parts = parts_with op.parts change.lent;
}

-- the first operation of the list that has this id, or none
abbrev pub op_of : List Op → OpId → Option Op
op_of ops id = find (λ op. same_id op.id id) ops

-- the operation after the change where it has this id, else as it is
abbrev pub amended : OpId → Change → Op → Op
amended id change op = if same_id op.id id then changed op change else op

-- the operations after an accepted edit: an append adds one at the end, an amendment replaces one in place, a
-- withdrawal takes one out, and a claim changes nothing
abbrev pub edited : List Op → Edit → List Op
edited ops (Append op) = ops ++ op ∷ []
edited ops (Amend id change) = map (amended id change) ops
edited ops (Withdraw id) = filter (λ op. not (same_id op.id id)) ops
edited ops (Claim kind) = ops

-- the operation that the edit makes: the appended one, or the amended one as it is afterwards; or none
abbrev pub new_op : List Op → Edit → Option Op
new_op ops (Append op) = Some op
new_op ops (Amend id change) = option_map (λ op. changed op change) (op_of ops id)
new_op ops (Withdraw id) = None
new_op ops (Claim kind) = None

-- the id of the operation that the edit appends, changes or takes out; none where the edit is a claim
abbrev pub edit_id : Edit → Option OpId
edit_id (Append op) = Some op.id
edit_id (Amend id change) = Some id
edit_id (Withdraw id) = Some id
edit_id (Claim kind) = None

-- whether the edit is a claim, which sets the claimed kind
abbrev pub is_claim : Edit → Bool
is_claim (Append op) = false
is_claim (Amend id change) = false
is_claim (Withdraw id) = false
is_claim (Claim kind) = true

-- whether the operation has the optional id; false where there is none
abbrev pub has_id : Option OpId → Op → Bool
has_id None op = false
has_id (Some id) op = same_id op.id id

-- the first operation of the list that has the optional id, or none
abbrev pub found_by : List Op → Option OpId → Option Op
found_by ops None = None
found_by ops (Some id) = op_of ops id

-- the claim after an accepted edit: with another kind where the edit is a claim, else as before
abbrev pub claim_after : ClaimModel → Edit → ClaimModel
claim_after claim (Append op) = claim
claim_after claim (Amend id change) = claim
claim_after claim (Withdraw id) = claim
claim_after claim (Claim kind) = record claim { kind = kind }
