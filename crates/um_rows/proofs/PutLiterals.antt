-- Expressions with the choice put into the units of their literals. Where the literals are closed nothing changes.
use Rattle.std.proofs.Common.{◌≡◌, ℕ, refl, ap}
use Rattle.um_units.specs.PowerMap.{PowerMap, replace}
use Rattle.um_units.proofs.Replacement.{replace-closed}
use Rattle.um_tree.specs.declared.note.UnitNote.{UnitNote}
use Rattle.um_tree.specs.declared.note.UnitNote.TheVariants.{Hole, Written}
use Rattle.um_tree.specs.ExprTree.{ExprTree, ExprTrees, truth, number, local, call, negate, not_expr, pown, arith, compare, both, either, if, bind, split, nil, list_expr, cons, record_expr, field, none, more}
use Rattle.um_units.specs.Variables.{IsClosed}
use Rattle.um_tree.specs.Laws.{LiteralsAreClosed, UnitNoteHas, ExprsHave}

module _ (choice : ℕ → PowerMap) where
  abbrev pub put_literal : UnitNote → UnitNote
  put_literal Hole = Hole
  put_literal (Written u) = Written (replace choice u)

  abbrev mutual
    pub put_literals : ExprTree → ExprTree
    put_literals (truth at b) = truth at b
    put_literals (number at c n) = number at c (put_literal n)
    put_literals (local at k) = local at k
    put_literals (call at j es) = call at j (all_put_literals es)
    put_literals (negate at a) = negate at (put_literals a)
    put_literals (not_expr at a) = not_expr at (put_literals a)
    put_literals (pown at a i) = pown at (put_literals a) i
    put_literals (arith at op a b) = arith at op (put_literals a) (put_literals b)
    put_literals (compare at sign a b) = compare at sign (put_literals a) (put_literals b)
    put_literals (both at a b) = both at (put_literals a) (put_literals b)
    put_literals (either at a b) = either at (put_literals a) (put_literals b)
    put_literals (if at c a b) = if at (put_literals c) (put_literals a) (put_literals b)
    put_literals (bind at a b) = bind at (put_literals a) (put_literals b)
    put_literals (split at l a b) = split at (put_literals l) (put_literals a) (put_literals b)
    put_literals (nil at n) = nil at n
    put_literals (list_expr at es) = list_expr at (all_put_literals es)
    put_literals (cons at a b) = cons at (put_literals a) (put_literals b)
    put_literals (record_expr at r es) = record_expr at r (all_put_literals es)
    put_literals (field at r k a) = field at r k (put_literals a)

    pub all_put_literals : ExprTrees → ExprTrees
    all_put_literals none = none
    all_put_literals (more e es) = more (put_literals e) (all_put_literals es)

  same_literal : (n : UnitNote) → UnitNoteHas IsClosed n → put_literal n ≡ n
  same_literal Hole h = refl
  same_literal (Written u) h = ap Written (replace-closed choice u h)

  mutual
    pub same_literals : (e : ExprTree) → LiteralsAreClosed e → put_literals e ≡ e
    same_literals (truth at b) h = refl
    same_literals (number at c n) h = ap (number at c) (same_literal n h)
    same_literals (local at k) h = refl
    same_literals (call at j es) h = ap (call at j) (all_same_literals es h)
    same_literals (negate at a) h = ap (negate at) (same_literals a h)
    same_literals (not_expr at a) h = ap (not_expr at) (same_literals a h)
    same_literals (pown at a i) h = ap (λ x. pown at x i) (same_literals a h)
    same_literals (arith at op a b) h = let x = same_literals a h.0 in let y = same_literals b h.1 in λ i. arith at op (x i) (y i)
    same_literals (compare at sign a b) h = let x = same_literals a h.0 in let y = same_literals b h.1 in λ i. compare at sign (x i) (y i)
    same_literals (both at a b) h = let x = same_literals a h.0 in let y = same_literals b h.1 in λ i. both at (x i) (y i)
    same_literals (either at a b) h = let x = same_literals a h.0 in let y = same_literals b h.1 in λ i. either at (x i) (y i)
    same_literals (if at c a b) h = let z = same_literals c h.0 in let x = same_literals a h.1 in let y = same_literals b h.2 in λ i. if at (z i) (x i) (y i)
    same_literals (bind at a b) h = let x = same_literals a h.0 in let y = same_literals b h.1 in λ i. bind at (x i) (y i)
    same_literals (split at l a b) h = let z = same_literals l h.0 in let x = same_literals a h.1 in let y = same_literals b h.2 in λ i. split at (z i) (x i) (y i)
    same_literals (nil at n) h = refl
    same_literals (list_expr at es) h = ap (list_expr at) (all_same_literals es h)
    same_literals (cons at a b) h = let x = same_literals a h.0 in let y = same_literals b h.1 in λ i. cons at (x i) (y i)
    same_literals (record_expr at r es) h = ap (record_expr at r) (all_same_literals es h)
    same_literals (field at r k a) h = ap (field at r k) (same_literals a h)

    pub all_same_literals : (es : ExprTrees) → ExprsHave (λ u. Unit {0}) IsClosed es → all_put_literals es ≡ es
    all_same_literals none h = refl
    all_same_literals (more e es) h = let x = same_literals e h.0 in let ys = all_same_literals es h.1 in λ i. more (x i) (ys i)
