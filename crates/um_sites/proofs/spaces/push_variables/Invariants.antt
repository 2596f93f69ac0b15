use Rattle.std.proofs.Common.{◌≡◌, ◌++◌, map, take}
use Rattle.um_tree.specs.RawTree.{var_syntax}
use Rattle.um_sites.specs.Spaces.{variable_named}
use Rattle.um_sites.proofs.spaces.push_variables.Given as goal

abbrev pub invariant-loop-variable : goal.invariant-loop-variable
invariant-loop-variable l = l.names.items ≡ l.initial.names.items ++ map variable_named (map var_syntax (take l.variable-index l.variables))
