-- A program with its literals rescaled, by numbers in range; and the first literal, in the order of the text, that is
-- not.
-- Source: Kennedy (1997). The range is this project's own. That such a program is the rescaled one is a law of this
-- crate.
use Rattle.std.specs.Prelude.{ℕ, List, [], ◌∷◌, map, Option, Some, None}
use Rattle.std.specs.Option.{option_and_then, option_or, unwrap_or}
use Rattle.std.specs.Result.{result_ok}
use Rattle.um_frac.specs.declared.number.Frac.{Frac}
use Rattle.um_frac.specs.Arithmetic.{product_of}
use Rattle.um_tree.specs.declared.note.UnitNote.{UnitNote}
use Rattle.um_tree.specs.declared.note.UnitNote.TheVariants.{Hole, Written}
use Rattle.um_tree.specs.ExprTree.{ExprTree, ExprTrees, truth, number, local, call, negate, not_expr, pown, arith}
use Rattle.um_tree.specs.ExprTree.{compare, both, either, if, bind, split, nil, list_expr, cons, record_expr, field}
use Rattle.um_tree.specs.ExprTree.{none, more}
use Rattle.um_tree.specs.ProgramTree.{FunctionTree, ProgramTree}
use Rattle.um_scale.specs.Sizes.{factor_within}

-- the number times the factor of its written unit, if each step is a number in range; a zero with a hole stays
abbrev pub rescaled_number : List Frac → Frac → UnitNote → Option Frac
rescaled_number cs c Hole = Some c
rescaled_number cs c (Written u) = option_and_then (λ f. result_ok (product_of c f)) (factor_within cs u)

-- the place, if there is no number
abbrev pub misfit_at : ℕ → Option Frac → Option ℕ
misfit_at at None = Some at
misfit_at at (Some d) = None

module _ (cs : List Frac) where
  abbrev mutual
    -- the place of the first literal of which no rescaled number is in range
    pub misfit : ExprTree → Option ℕ
    misfit (truth at b) = None
    misfit (number at c n) = misfit_at at (rescaled_number cs c n)
    misfit (local at k) = None
    misfit (call at j es) = first_misfit es
    misfit (negate at a) = misfit a
    misfit (not_expr at a) = misfit a
    misfit (pown at a k) = misfit a
    misfit (arith at op a b) = option_or (misfit a) (misfit b)
    misfit (compare at sign a b) = option_or (misfit a) (misfit b)
    misfit (both at a b) = option_or (misfit a) (misfit b)
    misfit (either at a b) = option_or (misfit a) (misfit b)
    misfit (if at c a b) = option_or (misfit c) (option_or (misfit a) (misfit b))
    misfit (bind at a b) = option_or (misfit a) (misfit b)
    misfit (split at l a b) = option_or (misfit l) (option_or (misfit a) (misfit b))
    misfit (nil at n) = None
    misfit (list_expr at es) = first_misfit es
    misfit (cons at a b) = option_or (misfit a) (misfit b)
    misfit (record_expr at r es) = first_misfit es
    misfit (field at r k a) = misfit a

    pub first_misfit : ExprTrees → Option ℕ
    first_misfit none = None
    first_misfit (more e es) = option_or (misfit e) (first_misfit es)

  abbrev mutual
    -- each literal rescaled, if its number is in range
    pub rescaled : ExprTree → ExprTree
    rescaled (truth at b) = truth at b
    rescaled (number at c n) = number at (unwrap_or (rescaled_number cs c n) c) n
    rescaled (local at k) = local at k
    rescaled (call at j es) = call at j (all_rescaled es)
    rescaled (negate at a) = negate at (rescaled a)
    rescaled (not_expr at a) = not_expr at (rescaled a)
    rescaled (pown at a k) = pown at (rescaled a) k
    rescaled (arith at op a b) = arith at op (rescaled a) (rescaled b)
    rescaled (compare at sign a b) = compare at sign (rescaled a) (rescaled b)
    rescaled (both at a b) = both at (rescaled a) (rescaled b)
    rescaled (either at a b) = either at (rescaled a) (rescaled b)
    rescaled (if at c a b) = if at (rescaled c) (rescaled a) (rescaled b)
    rescaled (bind at a b) = bind at (rescaled a) (rescaled b)
    rescaled (split at l a b) = split at (rescaled l) (rescaled a) (rescaled b)
    rescaled (nil at n) = nil at n
    rescaled (list_expr at es) = list_expr at (all_rescaled es)
    rescaled (cons at a b) = cons at (rescaled a) (rescaled b)
    rescaled (record_expr at r es) = record_expr at r (all_rescaled es)
    rescaled (field at r k a) = field at r k (rescaled a)

    pub all_rescaled : ExprTrees → ExprTrees
    all_rescaled none = none
    all_rescaled (more e es) = more (rescaled e) (all_rescaled es)

  abbrev pub rescaled_function : FunctionTree → FunctionTree
  rescaled_function f = record f { body = rescaled f.body }

  abbrev pub misfit_in : List FunctionTree → Option ℕ
  misfit_in [] = None
  misfit_in (f ∷ fs) = option_or (misfit f.body) (misfit_in fs)

  abbrev pub rescaled_program : ProgramTree → ProgramTree
  rescaled_program p = record p { functions = map rescaled_function p.functions }
