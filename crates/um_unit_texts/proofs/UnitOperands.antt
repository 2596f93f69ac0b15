-- Juxtapositions with one unit text more.
use Rattle.std.proofs.Common.{◌≡◌, max, List, [], ◌∷◌, ◌++◌, map, arith}
use Rattle.um_tree.specs.declared.raw.RawUnit.{RawUnit}
use Rattle.um_tree.specs.RawTree.{unit_syntax, units_in_order}
use Rattle.um_tree.specs.Heights.{unit_height, tallest_unit}

pub tallest_more : (us : List RawUnit) (u : RawUnit)
    → tallest_unit (units_in_order (map unit_syntax (us ++ u ∷ []))) ≡ max (tallest_unit (units_in_order (map unit_syntax us))) (unit_height (unit_syntax u))
tallest_more [] u = omega arith
tallest_more (v ∷ us) u = let e = tallest_more us u in omega (arith, e)
