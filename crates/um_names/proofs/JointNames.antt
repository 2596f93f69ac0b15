-- The names of a node of two parts are those of its parts.
use Rattle.std.proofs.Common.{◌≡◌, ℕ, refl, ap, sym, subst, ◌∙◌, Ok, Err}
use Rattle.um_tree.specs.ExprTree.{ExprTree, arith, compare, both, either, cons}
use Rattle.um_tree.specs.RawTree.{ExprSyntax}
use Rattle.um_measures.specs.declared.stop.NameStop.{NameStop}
use Rattle.um_measures.specs.Faults.{Found, and_then}
use Rattle.um_measures.specs.Stops.{IsFirst}
use Rattle.um_measures.specs.Scopes.{Scope}
use Rattle.um_measures.proofs.Firsts.{first_and_then}
use Rattle.um_names.specs.declared.known.Tables.{Tables}
use Rattle.um_names.specs.declared.node.Body.{Body}
use Rattle.um_names.specs.declared.joint.Joint.{Joint}
use Rattle.um_names.specs.declared.joint.Joint.TheVariants.{Arith, Compare, And, Or, Cons}
use Rattle.um_names.specs.Bodies.{found_both, resolved_in}
use Rattle.um_names.specs.Joints.{joint_syntax, joint_tree}

both_then : (r s : Found ExprTree) (make : ExprTree → ExprTree → ExprTree)
    → and_then r (λ e. and_then s (λ f. Ok (make e f))) ≡ and_then (found_both r s) (λ p. Ok (make p.0 p.1))
both_then (Err f) s make = refl
both_then (Ok e) (Err g) make = refl
both_then (Ok e) (Ok f) make = refl

module _ (t : Tables) (b : Body) (scope : Scope) (at : ℕ) (x y : ExprSyntax) where
  joint_is : (j : Joint) → resolved_in t b scope (joint_syntax j at x y)
      ≡ and_then (found_both (resolved_in t b scope x) (resolved_in t b scope y)) (λ p. Ok (joint_tree j at p.0 p.1))
  joint_is (Arith op) = both_then (resolved_in t b scope x) (resolved_in t b scope y) (arith at op)
  joint_is (Compare sign) = both_then (resolved_in t b scope x) (resolved_in t b scope y) (compare at sign)
  joint_is And = both_then (resolved_in t b scope x) (resolved_in t b scope y) (both at)
  joint_is Or = both_then (resolved_in t b scope x) (resolved_in t b scope y) (either at)
  joint_is Cons = both_then (resolved_in t b scope x) (resolved_in t b scope y) (cons at)

  pub joint_found : (j : Joint) (e f : ExprTree) → resolved_in t b scope x ≡ Ok e → resolved_in t b scope y ≡ Ok f
      → resolved_in t b scope (joint_syntax j at x y) ≡ Ok (joint_tree j at e f)
  joint_found j e f first second =
      joint_is j
      ∙ ap (λ r. and_then (found_both r (resolved_in t b scope y)) (λ p. Ok (joint_tree j at p.0 p.1))) first
      ∙ ap (λ s. and_then (found_both (Ok e) s) (λ p. Ok (joint_tree j at p.0 p.1))) second

  pub joint_first : (j : Joint) (stop : NameStop) → IsFirst (found_both (resolved_in t b scope x) (resolved_in t b scope y)) stop
      → IsFirst (resolved_in t b scope (joint_syntax j at x y)) stop
  joint_first j stop h =
      subst (λ (r : Found ExprTree). IsFirst r stop) (sym (joint_is j))
      (first_and_then (found_both (resolved_in t b scope x) (resolved_in t b scope y)) (λ p. Ok (joint_tree j at p.0 p.1)) stop h)
