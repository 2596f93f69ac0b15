-- What is found of expressions one after another: what is left when the first ones were looked at.
use Rattle.std.proofs.Common.{◌≡◌, refl, sym, ap, subst, ◌∙◌, ℕ, zero, suc, ◌+◌, ◌<◌, ◌≤◌, List, [], ◌∷◌, ◌++◌, map, drop, length, get_or, Result, Ok, Err, arith}
use Rattle.std.proofs.lemmas.List.{append_assoc, append-nil, map-append, drop_more}
use Rattle.um_tree.specs.TypeTree.{ShapeTree}
use Rattle.um_tree.specs.ExprTree.{ExprTrees, none, more, expr_tree, in_order}
use Rattle.um_tree.specs.Shapes.{ShapeSignature}
use Rattle.um_tree.specs.declared.expression.Expr.{Expr}
use Rattle.um_shape.specs.LowNotes.{HasLowNotes, HaveLowNotes}
use Rattle.um_shape.specs.RecordShapes.{RecordShape}
use Rattle.um_shape.specs.FirstFault.{ShapeFault, then, found, all_found}
use Rattle.um_shape.specs.FlatShapes.{flat_shape, flat_shapes}
use Rattle.um_shape.specs.declared.flat.FlatShape.{FlatShape}
use Rattle.um_shape.specs.declared.stop.ShapeStop.{ShapeStop}
use Rattle.um_shape.specs.declared.stop.ShapeStop.TheVariants as stop
use Rattle.um_shape.specs.Stops.{IsFoundFault}
use Rattle.um_shape.proofs.Stopping.{stops_first}

-- the shapes found, with these before them
abbrev pub after_these : List ShapeTree → Result (List ShapeTree) ShapeFault → Result (List ShapeTree) ShapeFault
after_these ss (Ok ts) = Ok (ss ++ ts)
after_these ss (Err e) = Err e

-- the expressions from the i-th on
abbrev pub from : List Expr → ℕ → ExprTrees
from es i = in_order (map expr_tree (drop i es))

pub from_more : (es : List Expr) (i : ℕ) (e : Expr) → i < length es → e ≡ get_or es i e → from es i ≡ more (expr_tree e) (from es (i + 1))
from_more es i e h s = ap (λ xs. in_order (map expr_tree xs)) (drop_more es i e h) ∙ ap (λ y. more (expr_tree y) (from es (i + 1))) (sym s)

pub from_end : (es : List Expr) (i : ℕ) → length es ≤ i → from es i ≡ none
from_end [] zero h = refl
from_end [] (suc i) h = refl
from_end (x ∷ es) zero h = absurd (omega (arith, h))
from_end (x ∷ es) (suc i) h = from_end es i (omega (arith, h))

stops_after : (ss : List ShapeTree) (m : Result (List ShapeTree) ShapeFault) (s : ShapeStop) → IsFoundFault m s → IsFoundFault (after_these ss m) s
stops_after ss m (stop.Shape at) h = ap (after_these ss) h
stops_after ss m (stop.Depth at) h = ap (after_these ss) h
stops_after ss m stop.NoMemory h = tt

one_more : (ss : List ShapeTree) (s : ShapeTree) (m : Result (List ShapeTree) ShapeFault) → after_these ss (then m (λ ts. Ok (s ∷ ts))) ≡ after_these (ss ++ s ∷ []) m
one_more ss s (Ok ts) = ap Ok (sym (append_assoc ss (s ∷ []) ts))
one_more ss s (Err e) = refl

-- the first i expressions have these shapes, and the scope is as it was
pub record IsLeft (records : List RecordShape) (callees : List ShapeSignature) (vars : List FlatShape) (es : List Expr) (i : ℕ) (shapes scope : List FlatShape) : Type 0 where
  pub whole : all_found records callees (flat_shapes vars) (from es 0) ≡ after_these (flat_shapes shapes) (all_found records callees (flat_shapes vars) (from es i))
  pub low : HaveLowNotes (from es i)
  pub same_scope : scope ≡ vars

module _ (records : List RecordShape) (callees : List ShapeSignature) (vars : List FlatShape) where
  abbrev seen : ExprTrees → Result (List ShapeTree) ShapeFault
  seen es = all_found records callees (flat_shapes vars) es

  pub left_first : (es : List Expr) → HaveLowNotes (in_order (map expr_tree es)) → IsLeft records callees vars es 0 [] vars
  left_first es h = record { whole = none_before (seen (from es 0)); low = h; same_scope = refl } where
    none_before : (m : Result (List ShapeTree) ShapeFault) → m ≡ after_these [] m
    none_before (Ok ts) = refl
    none_before (Err e) = refl

  pub low_at : (es : List Expr) (i : ℕ) (e : Expr) → i < length es → e ≡ get_or es i e → HaveLowNotes (from es i) → HasLowNotes (expr_tree e) × HaveLowNotes (from es (i + 1))
  low_at es i e h s l = subst HaveLowNotes (from_more es i e h s) l

  -- what is found of the next one stops the whole, or is one more shape
  pub left_stops : (es : List Expr) (i : ℕ) (e : Expr) (shapes scope : List FlatShape) (s : ShapeStop) → i < length es → e ≡ get_or es i e → IsLeft records callees vars es i shapes scope → IsFoundFault (found records callees (flat_shapes scope) (expr_tree e)) s → IsFoundFault (seen (from es 0)) s
  left_stops es i e shapes scope s h g l f =
      subst (λ m. IsFoundFault m s) (sym (l.whole ∙ ap (λ r. after_these (flat_shapes shapes) (seen r)) (from_more es i e h g))) (stops_after (flat_shapes shapes) _ s (stops_first _ _ s (subst (λ vs. IsFoundFault (found records callees (flat_shapes vs) (expr_tree e)) s) l.same_scope f)))

  pub left_next : (es : List Expr) (i : ℕ) (e : Expr) (shapes scope other : List FlatShape) (f : FlatShape) → i < length es → e ≡ get_or es i e → IsLeft records callees vars es i shapes scope → found records callees (flat_shapes scope) (expr_tree e) ≡ Ok (flat_shape f) → other ≡ scope → IsLeft records callees vars es (i + 1) (shapes ++ f ∷ []) other
  left_next es i e shapes scope other f h g l found_is same = record {
    whole =
        l.whole
        ∙ ap (λ r. after_these (flat_shapes shapes) (seen r)) (from_more es i e h g)
        ∙ ap (λ m. after_these (flat_shapes shapes) (then m (λ s. then (seen (from es (i + 1))) (λ ss. Ok (s ∷ ss))))) (ap (λ vs. found records callees (flat_shapes vs) (expr_tree e)) (sym l.same_scope) ∙ found_is)
        ∙ one_more (flat_shapes shapes) (flat_shape f) (seen (from es (i + 1)))
        ∙ ap (λ ss. after_these ss (seen (from es (i + 1)))) (sym (map-append flat_shape shapes (f ∷ [])));
    low = (low_at es i e h g l.low).1;
    same_scope = same ∙ l.same_scope;
  }

  pub left_last : (es : List Expr) (i : ℕ) (shapes scope : List FlatShape) → length es ≤ i → IsLeft records callees vars es i shapes scope → seen (in_order (map expr_tree es)) ≡ Ok (flat_shapes shapes)
  left_last es i shapes scope h l =
      l.whole ∙ ap (λ r. after_these (flat_shapes shapes) (seen r)) (from_end es i h) ∙ ap Ok (append-nil (flat_shapes shapes))
