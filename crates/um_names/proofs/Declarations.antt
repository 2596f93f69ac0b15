-- Loops over the parts of declarations.
use Rattle.std.proofs.Common.{◌≡◌, ℕ, true, false, List, [], ◌∷◌, ◌++◌, cond, ap, sym, ◌∙◌, Err}
use Rattle.um_tree.specs.RawTree.{VarSyntax}
use Rattle.um_measures.specs.Faults.{Found, and_then, twice, unless_taken}
use Rattle.um_measures.specs.Known.{is_among}
use Rattle.um_names.specs.Resolution.{resolved_parameters}

pub parameters_next : (whole : Found (List (List ℕ))) (names more : List (List ℕ)) (v : VarSyntax) (rest vs : List VarSyntax) → whole ≡ resolved_parameters names rest → rest ≡ v ∷ vs → is_among names v.name ≡ false
    → more ≡ cond (is_among names v.name) names (names ++ v.name ∷ []) → whole ≡ resolved_parameters more vs
parameters_next whole names more v rest vs h e absent m =
    h ∙ ap (resolved_parameters names) e ∙ ap (λ b. and_then (unless_taken b v.at) (λ _. resolved_parameters (names ++ v.name ∷ []) vs)) absent
    ∙ ap (λ (ns : List (List ℕ)). resolved_parameters ns vs) (sym (m ∙ ap (λ b. cond b names (names ++ v.name ∷ [])) absent))

pub parameters_stop : (whole : Found (List (List ℕ))) (names : List (List ℕ)) (v : VarSyntax) (rest vs : List VarSyntax) → whole ≡ resolved_parameters names rest → rest ≡ v ∷ vs → is_among names v.name ≡ true → whole ≡ Err (twice v.at)
parameters_stop whole names v rest vs h e known =
    h ∙ ap (resolved_parameters names) e ∙ ap (λ b. and_then (unless_taken b v.at) (λ _. resolved_parameters (names ++ v.name ∷ []) vs)) known
