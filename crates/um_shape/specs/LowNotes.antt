-- Each type and each note is at most 400 high, as in each formed program: what the code's functions ask for.
-- Source: this project's own limits.
use Rattle.std.specs.Prelude.{◌≤◌, All, Option, Some, None}
use Rattle.um_tree.specs.TypeTree.{NoteTree}
use Rattle.um_tree.specs.ProgramTree.{RecordTree, FunctionTree}
use Rattle.um_tree.specs.Heights.{greatest_height}
use Rattle.um_tree.specs.TreeHeights.{type_tree_height, note_tree_height}
use Rattle.um_tree.specs.ExprTree.{ExprTree, ExprTrees, truth, number, local, call, negate, not_expr, pown, arith}
use Rattle.um_tree.specs.ExprTree.{compare, both, either, if, bind, split, nil, list_expr, cons, record_expr, field}
use Rattle.um_tree.specs.ExprTree.{none, more}

abbrev mutual
  pub HasLowNotes : ExprTree → Type 0
  HasLowNotes (truth at b) = Unit {0}
  HasLowNotes (number at c n) = Unit {0}
  HasLowNotes (local at k) = Unit {0}
  HasLowNotes (call at j es) = HaveLowNotes es
  HasLowNotes (negate at a) = HasLowNotes a
  HasLowNotes (not_expr at a) = HasLowNotes a
  HasLowNotes (pown at a k) = HasLowNotes a
  HasLowNotes (arith at op a b) = HasLowNotes a × HasLowNotes b
  HasLowNotes (compare at sign a b) = HasLowNotes a × HasLowNotes b
  HasLowNotes (both at a b) = HasLowNotes a × HasLowNotes b
  HasLowNotes (either at a b) = HasLowNotes a × HasLowNotes b
  HasLowNotes (if at c a b) = HasLowNotes c × HasLowNotes a × HasLowNotes b
  HasLowNotes (bind at a b) = HasLowNotes a × HasLowNotes b
  HasLowNotes (split at l a b) = HasLowNotes l × HasLowNotes a × HasLowNotes b
  HasLowNotes (nil at n) = note_tree_height n ≤ greatest_height
  HasLowNotes (list_expr at es) = HaveLowNotes es
  HasLowNotes (cons at a b) = HasLowNotes a × HasLowNotes b
  HasLowNotes (record_expr at r es) = HaveLowNotes es
  HasLowNotes (field at r k a) = HasLowNotes a

  pub HaveLowNotes : ExprTrees → Type 0
  HaveLowNotes none = Unit {0}
  HaveLowNotes (more e es) = HasLowNotes e × HaveLowNotes es

abbrev pub HasLowFields : RecordTree → Type 0
HasLowFields d = All (λ f. type_tree_height f.type ≤ greatest_height) d.fields

abbrev pub HasLowResult : Option NoteTree → Type 0
HasLowResult None = Unit {0}
HasLowResult (Some n) = note_tree_height n ≤ greatest_height

pub record IsLow (f : FunctionTree) : Type 0 where
  pub params : All (λ n. note_tree_height n ≤ greatest_height) f.params
  pub result : HasLowResult f.result
  pub body : HasLowNotes f.body
