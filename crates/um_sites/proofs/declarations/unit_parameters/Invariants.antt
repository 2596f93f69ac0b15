use Rattle.std.proofs.Common.{◌≡◌, ◌++◌, [], map, take, drop}
use Rattle.um_tree.specs.RawTree.{var_syntax}
use Rattle.um_sites.specs.Sites.{told_each, variable_after}
use Rattle.um_sites.proofs.declarations.unit_parameters.Given as goal

abbrev pub invariant-loop-i : goal.invariant-loop-i
invariant-loop-i l =
    l.told.items ++ told_each (variable_after l.asked.fault) (map var_syntax (take l.i l.variables)) (map var_syntax (drop l.i l.variables))
    ≡ l.fn.told.items ++ told_each (variable_after l.asked.fault) [] (map var_syntax l.variables)
