-- How many arguments there are.
use Rattle.std.proofs.Common.{◌≡◌, List, [], ◌∷◌, map, length, refl, ap, suc}
use Rattle.um_tree.specs.RawTree.{ExprSyntax, exprs_in_order}
use Rattle.um_sites.specs.Sites.{count_exprs}

pub count_is : {A : Type 0} (v : A → ExprSyntax) (es : List A) → count_exprs (exprs_in_order (map v es)) ≡ length es
count_is v [] = refl
count_is v (e ∷ es) = ap suc (count_is v es)
