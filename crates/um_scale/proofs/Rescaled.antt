-- A program without a misfit and the program with its literals rescaled: the second is the first one rescaled.
use Rattle.std.proofs.Common.{◌≡◌, refl, sym, ap, ℕ, List, [], ◌∷◌, map, Option, Some, None}
use Rattle.std.specs.Option.{option_or, unwrap_or}
use Rattle.um_frac.specs.declared.number.Frac.{Frac}
use Rattle.um_tree.specs.declared.note.UnitNote.{UnitNote}
use Rattle.um_tree.specs.declared.note.UnitNote.TheVariants.{Hole, Written}
use Rattle.um_tree.specs.ExprTree.{ExprTree, ExprTrees, truth, number, local, call, negate, not_expr, pown, arith, compare, both, either, if, bind, split, nil, list_expr, cons, record_expr, field, none, more}
use Rattle.um_tree.specs.ProgramTree.{FunctionTree, ProgramTree}
use Rattle.um_scaling.specs.RescaledProgram.{RescaledNumber, RescaledExpr, RescaledExprs, RescaledFunctions, IsRescaled}
use Rattle.um_scale.specs.Sizes.{AreSizes, sizes}
use Rattle.um_scale.specs.RescaledLiterals.{rescaled_number, misfit_at, misfit, first_misfit, rescaled, all_rescaled, rescaled_function, misfit_in, rescaled_program}
use Rattle.um_scale.proofs.SizeFactors.{number_exact}

pub neither : {A : Type 0} (x y : Option A) → option_or x y ≡ None → (x ≡ None) × (y ≡ None)
neither None y e = (refl, e)
neither (Some z) y e = absurd cc

module _ (cs : List Frac) (above : AreSizes cs) where
  pub number_scaled : (at : ℕ) (c : Frac) (n : UnitNote) (o : Option Frac) → rescaled_number cs c n ≡ o → misfit_at at o ≡ None → RescaledNumber (sizes cs) c n (unwrap_or o c)
  number_scaled at c n None e h = absurd cc
  number_scaled at c Hole (Some d) e h = let same : c ≡ d = cc e in sym same
  number_scaled at c (Written u) (Some d) e h = number_exact cs above u c d e

  abbrev Fits : ExprTree → Type 0
  Fits e = misfit cs e ≡ None

  mutual
    expr_rescaled : (e : ExprTree) → Fits e → RescaledExpr (sizes cs) e (rescaled cs e)
    expr_rescaled (truth at b) h = refl
    expr_rescaled (number at c n) h = (unwrap_or (rescaled_number cs c n) c, number_scaled at c n (rescaled_number cs c n) refl h, refl)
    expr_rescaled (local at k) h = refl
    expr_rescaled (call at j es) h = (all_rescaled cs es, exprs_rescaled es h, refl)
    expr_rescaled (negate at a) h = (rescaled cs a, expr_rescaled a h, refl)
    expr_rescaled (not_expr at a) h = (rescaled cs a, expr_rescaled a h, refl)
    expr_rescaled (pown at a k) h = (rescaled cs a, expr_rescaled a h, refl)
    expr_rescaled (arith at op a b) h = let w = neither (misfit cs a) (misfit cs b) h in (rescaled cs a, rescaled cs b, expr_rescaled a w.0, expr_rescaled b w.1, refl)
    expr_rescaled (compare at sign a b) h = let w = neither (misfit cs a) (misfit cs b) h in (rescaled cs a, rescaled cs b, expr_rescaled a w.0, expr_rescaled b w.1, refl)
    expr_rescaled (both at a b) h = let w = neither (misfit cs a) (misfit cs b) h in (rescaled cs a, rescaled cs b, expr_rescaled a w.0, expr_rescaled b w.1, refl)
    expr_rescaled (either at a b) h = let w = neither (misfit cs a) (misfit cs b) h in (rescaled cs a, rescaled cs b, expr_rescaled a w.0, expr_rescaled b w.1, refl)
    expr_rescaled (if at c a b) h =
        let w = neither (misfit cs c) (option_or (misfit cs a) (misfit cs b)) h in
        let v = neither (misfit cs a) (misfit cs b) w.1 in
        (rescaled cs c, rescaled cs a, rescaled cs b, expr_rescaled c w.0, expr_rescaled a v.0, expr_rescaled b v.1, refl)
    expr_rescaled (bind at a b) h = let w = neither (misfit cs a) (misfit cs b) h in (rescaled cs a, rescaled cs b, expr_rescaled a w.0, expr_rescaled b w.1, refl)
    expr_rescaled (split at l a b) h =
        let w = neither (misfit cs l) (option_or (misfit cs a) (misfit cs b)) h in
        let v = neither (misfit cs a) (misfit cs b) w.1 in
        (rescaled cs l, rescaled cs a, rescaled cs b, expr_rescaled l w.0, expr_rescaled a v.0, expr_rescaled b v.1, refl)
    expr_rescaled (nil at n) h = refl
    expr_rescaled (list_expr at es) h = (all_rescaled cs es, exprs_rescaled es h, refl)
    expr_rescaled (cons at a b) h = let w = neither (misfit cs a) (misfit cs b) h in (rescaled cs a, rescaled cs b, expr_rescaled a w.0, expr_rescaled b w.1, refl)
    expr_rescaled (record_expr at r es) h = (all_rescaled cs es, exprs_rescaled es h, refl)
    expr_rescaled (field at r k a) h = (rescaled cs a, expr_rescaled a h, refl)

    exprs_rescaled : (es : ExprTrees) → first_misfit cs es ≡ None → RescaledExprs (sizes cs) es (all_rescaled cs es)
    exprs_rescaled none h = refl
    exprs_rescaled (more e es) h = let w = neither (misfit cs e) (first_misfit cs es) h in (rescaled cs e, all_rescaled cs es, expr_rescaled e w.0, exprs_rescaled es w.1, refl)

  functions_rescaled : (fs : List FunctionTree) → misfit_in cs fs ≡ None → RescaledFunctions (sizes cs) fs (map (rescaled_function cs) fs)
  functions_rescaled [] h = refl
  functions_rescaled (f ∷ fs) h =
      let w = neither (misfit cs f.body) (misfit_in cs fs) h in
      (rescaled_function cs f, map (rescaled_function cs) fs, (rescaled cs f.body, expr_rescaled f.body w.0, refl), functions_rescaled fs w.1, refl)

  pub program_rescaled : (p : ProgramTree) → misfit_in cs p.functions ≡ None → IsRescaled (sizes cs) p (rescaled_program cs p)
  program_rescaled p h = record { bases = refl; records = refl; functions = functions_rescaled p.functions h }

pub functions_mapped : {A : Type 0} (cs : List Frac) (f : A → FunctionTree) (xs : List A) → map (rescaled_function cs) (map f xs) ≡ map (λ x. rescaled_function cs (f x)) xs
functions_mapped cs f [] = refl
functions_mapped cs f (x ∷ xs) = ap (λ gs. rescaled_function cs (f x) ∷ gs) (functions_mapped cs f xs)
