-- The expressions of a list in a body, one after another.
use Rattle.std.proofs.Common.{◌≡◌, ℕ, List, [], ◌∷◌, refl, ap, sym, subst, Ok, Err}
use Rattle.um_tree.specs.ExprTree.{ExprTree, ExprTrees, in_order, more}
use Rattle.um_tree.specs.RawTree.{ExprSyntax, FieldPart, exprs_in_order, fields_in_order}
use Rattle.um_measures.specs.declared.stop.NameStop.{NameStop}
use Rattle.um_names.specs.declared.callable.Callable.{Callable}
use Rattle.um_measures.specs.Faults.{Found, and_then, each}
use Rattle.um_measures.specs.Stops.{IsFirst}
use Rattle.um_measures.specs.Known.{Known}
use Rattle.um_measures.specs.Scopes.{Scope}
use Rattle.um_names.specs.ExprNames.{resolved_expr, resolved_exprs, resolved_parts}
use Rattle.um_measures.proofs.Firsts.{first_and_then}

step : (r : Found ExprTree) (rest : Found ExprTrees) (all : Found (List ExprTree)) → rest ≡ and_then all (λ bs. Ok (in_order bs))
    → and_then r (λ a. and_then rest (λ bs. Ok (more a bs))) ≡ and_then (and_then r (λ y. and_then all (λ ys. Ok (y ∷ ys)))) (λ bs. Ok (in_order bs))
step (Err f) rest all e = refl
step (Ok a) rest (Ok ys) e = ap (λ q. and_then q (λ bs. Ok (more a bs))) e
step (Ok a) rest (Err f) e = ap (λ q. and_then q (λ bs. Ok (more a bs))) e

module _ (known : Known) (variables : List (List ℕ)) (callables : List Callable) (scope : Scope) where
  pub exprs_each : (ts : List ExprSyntax) → resolved_exprs known variables callables scope (exprs_in_order ts) ≡ and_then (each (resolved_expr known variables callables scope) ts) (λ bs. Ok (in_order bs))
  exprs_each [] = refl
  exprs_each (t ∷ ts) = step (resolved_expr known variables callables scope t) (resolved_exprs known variables callables scope (exprs_in_order ts)) (each (resolved_expr known variables callables scope) ts) (exprs_each ts)

  pub parts_each : (fs : List FieldPart) → resolved_parts known variables callables scope (fields_in_order fs) ≡ and_then (each (λ p. resolved_expr known variables callables scope p.part) fs) (λ bs. Ok (in_order bs))
  parts_each [] = refl
  parts_each (f ∷ fs) = step (resolved_expr known variables callables scope f.part) (resolved_parts known variables callables scope (fields_in_order fs)) (each (λ p. resolved_expr known variables callables scope p.part) fs) (parts_each fs)

  pub exprs_first : (ts : List ExprSyntax) (stop : NameStop) → IsFirst (each (resolved_expr known variables callables scope) ts) stop → IsFirst (resolved_exprs known variables callables scope (exprs_in_order ts)) stop
  exprs_first ts stop h = subst (λ (r : Found ExprTrees). IsFirst r stop) (sym (exprs_each ts)) (first_and_then (each (resolved_expr known variables callables scope) ts) (λ bs. Ok (in_order bs)) stop h)

  pub parts_first : (fs : List FieldPart) (stop : NameStop) → IsFirst (each (λ p. resolved_expr known variables callables scope p.part) fs) stop → IsFirst (resolved_parts known variables callables scope (fields_in_order fs)) stop
  parts_first fs stop h = subst (λ (r : Found ExprTrees). IsFirst r stop) (sym (parts_each fs)) (first_and_then (each (λ p. resolved_expr known variables callables scope p.part) fs) (λ bs. Ok (in_order bs)) stop h)
