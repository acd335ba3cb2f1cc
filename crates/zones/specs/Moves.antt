-- What an edit takes out of a tree and puts in, where each item is of a value. For private clauses alone.
use Rattle.std.specs.Prelude.{◌≡◌, ◌⊎◌, Bool, Contains, List, Option, Some, None, IsSome, IsSomeAnd, IfSome}
use Rattle.intervals.specs.declared.operation.Value.{Value}
use Rattle.summary_tree.specs.Order.{HasNoneAt, with_item, without_item}

-- what the items of a tree are: the key of each, the order of keys and when two are one, the value of each, and which
-- items may be there
pub record Shape (T K : Type 0) : Type 1 where
  pub key : T → K
  pub before : K → K → Bool
  pub same : K → K → Bool
  pub value : T → Value
  pub MayStand : T → Type 0

-- the items without the one that has the key of the optional item
abbrev pub without : {T K : Type 0} → Shape T K → Option T → List T → List T
without shape None items = items
without shape (Some item) items = without_item shape.key shape.same (shape.key item) items

-- the items and the optional item, in its place by key
abbrev pub with : {T K : Type 0} → Shape T K → Option T → List T → List T
with shape None items = items
with shape (Some item) items = with_item shape.key shape.before item items

-- the items once two optional ones are taken out and two optional ones are put in
abbrev pub moved : {T K : Type 0} → Shape T K → Option T × Option T → Option T × Option T → List T → List T
moved shape gone come items = with shape come.1 (with shape come.0 (without shape gone.1 (without shape gone.0 items)))

-- there is an item, and the list has it
abbrev pub IsThere : {T : Type 0} → List T → Option T → Type 0
IsThere items found = IsSomeAnd found (Contains items)

-- the optional item may be there, and none has its key
pub record IsNew {T K : Type 0} (shape : Shape T K) (items : List T) (found : Option T) : Type 0 where
  pub key : IfSome found (λ item. HasNoneAt shape.key (shape.key item) items)
  pub may_stand : IfSome found shape.MayStand

-- what comes is new (`IsNew`) once what goes is out, and the second also once the first is in
pub record AreNew {T K : Type 0} (shape : Shape T K) (items : List T) (gone come : Option T × Option T) : Type 0 where
  pub first : IsNew shape (without shape gone.1 (without shape gone.0 items)) come.0
  pub second : IsNew shape (with shape come.0 (without shape gone.1 (without shape gone.0 items))) come.1

-- at most one item comes, and only where one goes that is there
pub record KeepsRoom {T : Type 0} (items : List T) (gone come : Option T × Option T) : Type 0 where
  pub one : IsSome come.0 → IsThere items gone.0
  pub other : come.1 ≡ None

-- what goes and what comes between an optional item before and one after: both, or nothing where they are equal
abbrev pub IsChangeAt : {T : Type 0} → Option T → Option T → Option T × Option T → Type 0
IsChangeAt before after change = (change ≡ (before, after)) ⊎ ((before ≡ after) × (change ≡ (None, None)))

-- what goes and what comes between two optional items before and two after: of each both, or nothing where they are
-- equal
pub record AreChanges {T : Type 0} (before after gone come : Option T × Option T) : Type 0 where
  pub one : IsChangeAt before.0 after.0 (gone.0, come.0)
  pub other : IsChangeAt before.1 after.1 (gone.1, come.1)

-- the result has two optional items in the place of two others; one that is equal before and after may have stayed
pub record AreExchanged {T K : Type 0} (shape : Shape T K) (before after : Option T × Option T) (items result : List T) : Type 0 where
  pub gone : Option T × Option T
  pub come : Option T × Option T
  pub changes : AreChanges before after gone come
  pub moves : result ≡ moved shape gone come items
