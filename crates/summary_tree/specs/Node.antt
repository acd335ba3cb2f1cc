-- The nodes of a tree of boxes: how each is seen, and what holds of it.
use Rattle.std.specs.Prelude.{◌≡◌, Bool, ◌+◌, ◌<◌, max, List, ◌∷◌, ◌++◌, Option, Some, None, Box}
use Rattle.std.specs.declared.alloc.Global.{Global}
use Rattle.summary_tree.specs.declared.node.Node.{Node}
use Rattle.summary_tree.specs.Order.{AreInOrder, item_at}
use Rattle.summary_tree.specs.Layers.{Layers, no_layers, DifferByAtMost, IsLow, with_first, joined}

-- the items of a node from left to right: those of its left side, its own, those of its right side
abbrev pub items_of : {T S : Type 0} → Node T S → List T
items_of n = n.left.items ++ n.item ∷ n.right.items

-- the summary of a node, made of its item and the summaries of its sides
abbrev pub summary_around : {T S : Type 0} → (T → S) → (S → S → S) → Node T S → S
summary_around one join n = joined join n.left.summary (with_first one join n.item n.right.summary)

-- how a tree is seen that has this optional node at its top
abbrev pub layers_of : {T S : Type 0} → Option (Box (Node T S) Global) → Layers T S
layers_of None = no_layers
layers_of (Some top) = record { items = items_of top.value; height = top.value.height; summary = Some top.value.summary }

-- the height is 1 more than that of the higher side and less than 256, the heights of the sides differ by at most 1,
-- and the summary is made of those of the sides
pub record IsRightNode {T S : Type 0} (one : T → S) (join : S → S → S) (n : Node T S) : Type 0 where
  pub height : n.height ≡ max n.left.height n.right.height + 1
  pub fits : n.height < 256
  pub near : DifferByAtMost 1 n.left.height n.right.height
  pub made : n.summary ≡ summary_around one join n

-- the node's height and summary are right (`IsRightNode`), it is low (`IsLow`), and its summary is one of its items
pub record IsBalancedNode {T S : Type 0} (one : T → S) (join : S → S → S) (IsOf : S → List T → Type 0) (n : Node T S) : Type 0 where
  pub right : IsRightNode one join n
  pub low : IsLow (items_of n) n.height
  pub summary : IsOf n.summary (items_of n)

-- the optional node at the top is balanced (`IsBalancedNode`)
abbrev pub IsBalanced : {T S : Type 0} → (T → S) → (S → S → S) → (S → List T → Type 0) → Option (Box (Node T S) Global) → Type 0
IsBalanced one join IsOf None = Unit {0}
IsBalanced one join IsOf (Some top) = IsBalancedNode one join IsOf top.value

-- the node has nothing on its sides
pub record IsAlone {T S : Type 0} (n : Node T S) : Type 0 where
  pub left : n.left ≡ no_layers
  pub right : n.right ≡ no_layers

-- the node has nothing on its sides, its item is the first of the items, and `others` are the rest of them
pub record HasTakenFirst {T S : Type 0} (n : Node T S) (items others : List T) : Type 0 where
  pub alone : IsAlone n
  pub parts : items ≡ n.item ∷ others

-- the node has nothing on its sides, and its item is the one of key k
pub record HasTakenItem {K T S : Type 0} (key : T → K) (same : K → K → Bool) (n : Node T S) (k : K) (items : List T) : Type 0 where
  pub alone : IsAlone n
  pub item : item_at key same k items ≡ Some n.item

-- the items on each side of the node are in order
pub record HasSidesInOrder {K T S : Type 0} (key : T → K) (before : K → K → Bool) (n : Node T S) : Type 0 where
  pub left : AreInOrder key before n.left.items
  pub right : AreInOrder key before n.right.items

-- the node is at the top of a tree of these items, and its summary is one of them
pub record IsTop {T S : Type 0} (IsOf : S → List T → Type 0) (n : Node T S) (items : List T) : Type 0 where
  pub all : items ≡ items_of n
  pub summary : IsOf n.summary items

-- a node keeps its height and its summary
pub record KeepsNode {T S : Type 0} (old new : Node T S) : Type 0 where
  pub height : new.height ≡ old.height
  pub summary : new.summary ≡ old.summary
