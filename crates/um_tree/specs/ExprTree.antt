-- Expressions as pure trees. The first part of each is its place in the text.
-- Source: this project's own expressions, after the F# specification.
use Rattle.std.specs.Prelude.{ℕ, Bool, List, [], ◌∷◌, ℤ}
use Rattle.um_frac.specs.declared.number.Frac.{Frac}
use Rattle.um_tree.specs.TypeTree.{NoteTree, note_tree}
use Rattle.um_tree.specs.declared.note.UnitNote.{UnitNote}
use Rattle.um_tree.specs.declared.expression.Arith.{Arith}
use Rattle.um_tree.specs.declared.expression.Sign.{Sign}
use Rattle.um_tree.specs.declared.expression.Expr.{Expr, fold-Expr}
use Rattle.um_tree.specs.declared.expression.Exprs.{Exprs, fold-Exprs}
use Rattle.um_tree.specs.declared.expression.Node.TheOpen.{Node-F, Expr-F, Exprs-F}

mutual
  pub data ExprTree : Type 0 where
    -- `true` and `false`
    truth : ℕ → Bool → ExprTree
    -- a number with its unit note
    number : ℕ → Frac → UnitNote → ExprTree
    -- the k-th variable of the scope
    local : ℕ → ℕ → ExprTree
    -- a call of the function of this number
    call : ℕ → ℕ → ExprTrees → ExprTree
    negate : ℕ → ExprTree → ExprTree
    not_expr : ℕ → ExprTree → ExprTree
    -- a whole power
    pown : ℕ → ExprTree → ℤ → ExprTree
    arith : ℕ → Arith → ExprTree → ExprTree → ExprTree
    compare : ℕ → Sign → ExprTree → ExprTree → ExprTree
    both : ℕ → ExprTree → ExprTree → ExprTree
    either : ℕ → ExprTree → ExprTree → ExprTree
    -- a condition and its two arms
    if : ℕ → ExprTree → ExprTree → ExprTree → ExprTree
    -- `let`: the second part has one more variable
    bind : ℕ → ExprTree → ExprTree → ExprTree
    -- `match` on a list: the last part has two more variables, head and tail
    split : ℕ → ExprTree → ExprTree → ExprTree → ExprTree
    -- the empty list of a written type
    nil : ℕ → NoteTree → ExprTree
    list_expr : ℕ → ExprTrees → ExprTree
    cons : ℕ → ExprTree → ExprTree → ExprTree
    -- a value of the record of this number, field by field
    record_expr : ℕ → ℕ → ExprTrees → ExprTree
    -- the field of the second number, of a value of the record of the first
    field : ℕ → ℕ → ℕ → ExprTree → ExprTree

  pub data ExprTrees : Type 0 where
    none : ExprTrees
    more : ExprTree → ExprTrees → ExprTrees

abbrev pub in_order : List ExprTree → ExprTrees
in_order [] = none
in_order (e ∷ es) = more e (in_order es)

abbrev pub node_tree : Node-F (ℕ → ExprTree) ExprTree ExprTrees → ℕ → ExprTree
node_tree (Node-F.Bool b) at = truth at b
node_tree (Node-F.Num c n) at = number at c n
node_tree (Node-F.Local k) at = local at k
node_tree (Node-F.Call f es) at = call at f es
node_tree (Node-F.Neg a) at = negate at a.value
node_tree (Node-F.Not a) at = not_expr at a.value
node_tree (Node-F.Pow a k) at = pown at a.value k
node_tree (Node-F.Arith op a b) at = arith at op a.value b.value
node_tree (Node-F.Compare s a b) at = compare at s a.value b.value
node_tree (Node-F.And a b) at = both at a.value b.value
node_tree (Node-F.Or a b) at = either at a.value b.value
node_tree (Node-F.If c a b) at = if at c.value a.value b.value
node_tree (Node-F.Let a b) at = bind at a.value b.value
node_tree (Node-F.Match l a b) at = split at l.value a.value b.value
node_tree (Node-F.Nil n) at = nil at (note_tree n)
node_tree (Node-F.List es) at = list_expr at es
node_tree (Node-F.Cons a b) at = cons at a.value b.value
node_tree (Node-F.Rec r es) at = record_expr at r es
node_tree (Node-F.Field r k a) at = field at r k a.value

abbrev pub placed_tree : Expr-F (ℕ → ExprTree) ExprTree ExprTrees → ExprTree
placed_tree e = e.node e.at

abbrev pub listed_trees : Exprs-F (ℕ → ExprTree) ExprTree ExprTrees → ExprTrees
listed_trees es = in_order es.items.items

-- the tree that an expression stands for
abbrev pub expr_tree : Expr → ExprTree
expr_tree = fold-Expr (ℕ → ExprTree) ExprTree ExprTrees node_tree placed_tree listed_trees

abbrev pub expr_trees : Exprs → ExprTrees
expr_trees = fold-Exprs (ℕ → ExprTree) ExprTree ExprTrees node_tree placed_tree listed_trees
