-- Lists of expressions.
use Rattle.std.proofs.Common.{◌≡◌, refl, ap, List, [], ◌∷◌, map}
use Rattle.um_frac.specs.declared.number.Frac.{Frac}
use Rattle.um_tree.specs.ExprTree.{ExprTree, in_order, more}
use Rattle.um_scale.specs.RescaledLiterals.{rescaled, all_rescaled}

pub all_rescaled-in_order : {A : Type 0} (cs : List Frac) (f : A → ExprTree) (xs : List A) → all_rescaled cs (in_order (map f xs)) ≡ in_order (map (λ x. rescaled cs (f x)) xs)
all_rescaled-in_order cs f [] = refl
all_rescaled-in_order cs f (x ∷ xs) = ap (more (rescaled cs (f x))) (all_rescaled-in_order cs f xs)
