-- What is told of expressions one after another: what is left when the first ones were looked at.
use Rattle.std.proofs.Common.{◌≡◌, refl, sym, ap, subst, ◌∙◌, ℕ, zero, suc, ◌+◌, ◌<◌, ◌≤◌, List, [], ◌∷◌, ◌++◌, map, drop, length, get_or, Result, Ok, Err, arith}
use Rattle.std.proofs.lemmas.List.{append_assoc, append-nil, map-append, drop_more}
use Rattle.um_tree.specs.TypeTree.{ShapeTree}
use Rattle.um_tree.specs.ExprTree.{ExprTrees, none, more, expr_tree, in_order}
use Rattle.um_tree.specs.Shapes.{ShapeSignature}
use Rattle.um_tree.specs.declared.expression.Expr.{Expr}
use Rattle.um_mismatch.specs.Mismatch.{Told}
use Rattle.um_mismatch.specs.ShapeDetails.{then, told, all_told}
use Rattle.um_mismatch.specs.FlatShapes.{flat_shape, flat_shapes}
use Rattle.um_mismatch.specs.declared.flat.FlatShape.{FlatShape}
use Rattle.um_mismatch.specs.declared.mismatch.Stop.{Stop}
use Rattle.um_mismatch.specs.declared.mismatch.Stop.TheVariants as stop
use Rattle.um_mismatch.specs.Answers.{IsTold}
use Rattle.um_mismatch.proofs.Stopping.{stops_first}

-- the shapes found, with these before them
abbrev pub after_these : List ShapeTree → Result (List ShapeTree) Told → Result (List ShapeTree) Told
after_these ss (Ok ts) = Ok (ss ++ ts)
after_these ss (Err e) = Err e

-- the expressions from the i-th on
abbrev pub from : List Expr → ℕ → ExprTrees
from es i = in_order (map expr_tree (drop i es))

pub from_more : (es : List Expr) (i : ℕ) (e : Expr) → i < length es → e ≡ get_or es i e → from es i ≡ more (expr_tree e) (from es (i + 1))
from_more es i e h s = ap (λ xs. in_order (map expr_tree xs)) (drop_more es i e h) ∙ ap (λ y. more (expr_tree y) (from es (i + 1))) (sym s)

pub from_end : (es : List Expr) (i : ℕ) → length es ≤ i → from es i ≡ none
from_end [] zero h = refl
from_end [] (suc i) h = refl
from_end (x ∷ es) zero h = absurd (omega (arith, h))
from_end (x ∷ es) (suc i) h = from_end es i (omega (arith, h))

stops_after : (ss : List ShapeTree) (m : Result (List ShapeTree) Told) (s : Stop) → IsTold m s → IsTold (after_these ss m) s
stops_after ss m (stop.Told t) h = ap (after_these ss) h
stops_after ss m stop.NoMemory h = tt

one_more : (ss : List ShapeTree) (s : ShapeTree) (m : Result (List ShapeTree) Told) → after_these ss (then m (λ ts. Ok (s ∷ ts))) ≡ after_these (ss ++ s ∷ []) m
one_more ss s (Ok ts) = ap Ok (sym (append_assoc ss (s ∷ []) ts))
one_more ss s (Err e) = refl

-- the first i expressions have these shapes, and the scope is as it was
pub record IsLeft (function : ℕ) (records : List (List ShapeTree)) (callees : List ShapeSignature) (vars : List FlatShape) (es : List Expr) (i : ℕ) (shapes scope : List FlatShape) : Type 0 where
  pub whole : all_told function records callees (flat_shapes vars) (from es 0) ≡ after_these (flat_shapes shapes) (all_told function records callees (flat_shapes vars) (from es i))
  pub same_scope : scope ≡ vars

module _ (function : ℕ) (records : List (List ShapeTree)) (callees : List ShapeSignature) (vars : List FlatShape) where
  abbrev seen : ExprTrees → Result (List ShapeTree) Told
  seen es = all_told function records callees (flat_shapes vars) es

  pub left_first : (es : List Expr) → IsLeft function records callees vars es 0 [] vars
  left_first es = record { whole = none_before (seen (from es 0)); same_scope = refl } where
    none_before : (m : Result (List ShapeTree) Told) → m ≡ after_these [] m
    none_before (Ok ts) = refl
    none_before (Err e) = refl

  -- what is told of the next one stops the whole, or is one more shape
  pub left_stops : (es : List Expr) (i : ℕ) (e : Expr) (shapes scope : List FlatShape) (s : Stop) → i < length es → e ≡ get_or es i e → IsLeft function records callees vars es i shapes scope → IsTold (told function records callees (flat_shapes scope) (expr_tree e)) s → IsTold (seen (from es 0)) s
  left_stops es i e shapes scope s h g l f =
      subst (λ m. IsTold m s) (sym (l.whole ∙ ap (λ r. after_these (flat_shapes shapes) (seen r)) (from_more es i e h g))) (stops_after (flat_shapes shapes) _ s (stops_first _ _ s (subst (λ vs. IsTold (told function records callees (flat_shapes vs) (expr_tree e)) s) l.same_scope f)))

  pub left_next : (es : List Expr) (i : ℕ) (e : Expr) (shapes scope other : List FlatShape) (f : FlatShape) → i < length es → e ≡ get_or es i e → IsLeft function records callees vars es i shapes scope → told function records callees (flat_shapes scope) (expr_tree e) ≡ Ok (flat_shape f) → other ≡ scope → IsLeft function records callees vars es (i + 1) (shapes ++ f ∷ []) other
  left_next es i e shapes scope other f h g l told_is same = record {
    whole =
        l.whole
        ∙ ap (λ r. after_these (flat_shapes shapes) (seen r)) (from_more es i e h g)
        ∙ ap (λ m. after_these (flat_shapes shapes) (then m (λ s. then (seen (from es (i + 1))) (λ ss. Ok (s ∷ ss))))) (ap (λ vs. told function records callees (flat_shapes vs) (expr_tree e)) (sym l.same_scope) ∙ told_is)
        ∙ one_more (flat_shapes shapes) (flat_shape f) (seen (from es (i + 1)))
        ∙ ap (λ ss. after_these ss (seen (from es (i + 1)))) (sym (map-append flat_shape shapes (f ∷ [])));
    same_scope = same ∙ l.same_scope;
  }

  pub left_last : (es : List Expr) (i : ℕ) (shapes scope : List FlatShape) → length es ≤ i → IsLeft function records callees vars es i shapes scope → seen (in_order (map expr_tree es)) ≡ Ok (flat_shapes shapes)
  left_last es i shapes scope h l =
      l.whole ∙ ap (λ r. after_these (flat_shapes shapes) (seen r)) (from_end es i h) ∙ ap Ok (append-nil (flat_shapes shapes))
