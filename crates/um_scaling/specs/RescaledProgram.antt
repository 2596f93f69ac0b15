-- When a program is another one rescaled: both are equal but for the literals with a written unit, each of which is the
-- other's times the factor of its unit.
-- Source: Kennedy (1997): constants are rescaled by the factor of their unit.
use Rattle.std.specs.Prelude.{◌≡◌, List, [], ◌∷◌}
use Rattle.um_frac.specs.declared.number.Frac.{Frac}
use Rattle.um_tree.specs.declared.note.UnitNote.{UnitNote}
use Rattle.um_tree.specs.declared.note.UnitNote.TheVariants.{Hole, Written}
use Rattle.um_tree.specs.ExprTree.{ExprTree, ExprTrees, truth, number, local, call, negate, not_expr, pown, arith}
use Rattle.um_tree.specs.ExprTree.{compare, both, either, if, bind, split, nil, list_expr, cons, record_expr, field}
use Rattle.um_tree.specs.ExprTree.{none, more}
use Rattle.um_tree.specs.ProgramTree.{FunctionTree, ProgramTree}
use Rattle.um_scaling.specs.Rescaling.{Rescaling, factor, IsScaled}

module _ (r : Rescaling) where
  -- a zero with a hole stays
  abbrev pub RescaledNumber : Frac → UnitNote → Frac → Type 0
  RescaledNumber c Hole d = d ≡ c
  RescaledNumber c (Written u) d = IsScaled (factor r u) c d

  abbrev mutual
    -- the second expression is the first one rescaled
    pub RescaledExpr : ExprTree → ExprTree → Type 0
    RescaledExpr (truth at b) y = y ≡ truth at b
    RescaledExpr (number at c n) y = (d : Frac) × RescaledNumber c n d × (y ≡ number at d n)
    RescaledExpr (local at k) y = y ≡ local at k
    RescaledExpr (call at j es) y = (fs : ExprTrees) × RescaledExprs es fs × (y ≡ call at j fs)
    RescaledExpr (negate at a) y = (x : ExprTree) × RescaledExpr a x × (y ≡ negate at x)
    RescaledExpr (not_expr at a) y = (x : ExprTree) × RescaledExpr a x × (y ≡ not_expr at x)
    RescaledExpr (pown at a k) y = (x : ExprTree) × RescaledExpr a x × (y ≡ pown at x k)
    RescaledExpr (arith at op a b) y =
        (x z : ExprTree) × RescaledExpr a x × RescaledExpr b z × (y ≡ arith at op x z)
    RescaledExpr (compare at sign a b) y =
        (x z : ExprTree) × RescaledExpr a x × RescaledExpr b z × (y ≡ compare at sign x z)
    RescaledExpr (both at a b) y = (x z : ExprTree) × RescaledExpr a x × RescaledExpr b z × (y ≡ both at x z)
    RescaledExpr (either at a b) y = (x z : ExprTree) × RescaledExpr a x × RescaledExpr b z × (y ≡ either at x z)
    RescaledExpr (if at c a b) y =
        (w x z : ExprTree) × RescaledExpr c w × RescaledExpr a x × RescaledExpr b z × (y ≡ if at w x z)
    RescaledExpr (bind at a b) y = (x z : ExprTree) × RescaledExpr a x × RescaledExpr b z × (y ≡ bind at x z)
    RescaledExpr (split at l a b) y =
        (w x z : ExprTree) × RescaledExpr l w × RescaledExpr a x × RescaledExpr b z × (y ≡ split at w x z)
    RescaledExpr (nil at n) y = y ≡ nil at n
    RescaledExpr (list_expr at es) y = (fs : ExprTrees) × RescaledExprs es fs × (y ≡ list_expr at fs)
    RescaledExpr (cons at a b) y = (x z : ExprTree) × RescaledExpr a x × RescaledExpr b z × (y ≡ cons at x z)
    RescaledExpr (record_expr at k es) y = (fs : ExprTrees) × RescaledExprs es fs × (y ≡ record_expr at k fs)
    RescaledExpr (field at m k a) y = (x : ExprTree) × RescaledExpr a x × (y ≡ field at m k x)

    -- expression by expression
    pub RescaledExprs : ExprTrees → ExprTrees → Type 0
    RescaledExprs none ys = ys ≡ none
    RescaledExprs (more e es) ys =
        (x : ExprTree) × (xs : ExprTrees) × RescaledExpr e x × RescaledExprs es xs × (ys ≡ more x xs)

  -- a function with another body
  abbrev pub RescaledFunction : FunctionTree → FunctionTree → Type 0
  RescaledFunction f g = (x : ExprTree) × RescaledExpr f.body x × (g ≡ record f { body = x })

  abbrev pub RescaledFunctions : List FunctionTree → List FunctionTree → Type 0
  RescaledFunctions [] gs = gs ≡ []
  RescaledFunctions (f ∷ fs) gs =
      (h : FunctionTree) × (hs : List FunctionTree) × RescaledFunction f h × RescaledFunctions fs hs × (gs ≡ h ∷ hs)

  pub record IsRescaled (p q : ProgramTree) : Type 0 where
    pub bases : q.bases ≡ p.bases
    pub records : q.records ≡ p.records
    pub functions : RescaledFunctions p.functions q.functions
