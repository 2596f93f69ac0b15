-- Lists of inputs and of values.
use Rattle.std.proofs.Common.{◌≡◌, refl, ap, List, [], ◌∷◌, map}
use Rattle.um_tree.specs.ValueTree.{InputTree, without_units, without_units_each, inputs_in_order, values_in_order, more_values}

pub without_units_each-in_order : {A : Type 0} (f : A → InputTree) (xs : List A) → without_units_each (inputs_in_order (map f xs)) ≡ values_in_order (map (λ x. without_units (f x)) xs)
without_units_each-in_order f [] = refl
without_units_each-in_order f (x ∷ xs) = ap (more_values (without_units (f x))) (without_units_each-in_order f xs)
