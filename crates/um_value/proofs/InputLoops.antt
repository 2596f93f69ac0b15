-- Inputs that are made one after another.
use Rattle.std.proofs.Common.{◌≡◌, List, [], ◌∷◌, ◌++◌, refl, sym, ap, ◌∙◌}
use Rattle.um_tree.specs.ValueTree.{InputTree, InputTrees, no_inputs, more_inputs, inputs_in_order}

-- these, and then the others
abbrev pub inputs_behind : List InputTree → InputTrees → InputTrees
inputs_behind [] rest = rest
inputs_behind (i ∷ is) rest = more_inputs i (inputs_behind is rest)

pub behind_none : (is : List InputTree) → inputs_behind is no_inputs ≡ inputs_in_order is
behind_none [] = refl
behind_none (i ∷ is) = ap (more_inputs i) (behind_none is)

pub behind_one : (is : List InputTree) (i : InputTree) (rest : InputTrees) → inputs_behind (is ++ i ∷ []) rest ≡ inputs_behind is (more_inputs i rest)
behind_one [] i rest = refl
behind_one (j ∷ is) i rest = ap (more_inputs j) (behind_one is i rest)

-- one more input
pub input_made : (whole rest : InputTrees) (old new : List InputTree) (i j : InputTree) → whole ≡ inputs_behind old (more_inputs j rest) → i ≡ j → new ≡ old ++ i ∷ [] → whole ≡ inputs_behind new rest
input_made whole rest old new i j so_far same pushed =
    so_far ∙ sym (behind_one old j rest) ∙ ap (λ (k : InputTree). inputs_behind (old ++ k ∷ []) rest) (sym same) ∙ ap (λ (is : List InputTree). inputs_behind is rest) (sym pushed)
