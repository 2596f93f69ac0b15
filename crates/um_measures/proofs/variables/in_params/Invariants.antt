use Rattle.std.proofs.Common.{◌≡◌, map, drop}
use Rattle.std.specs.List.{flat_map}
use Rattle.um_tree.specs.RawTree.{param_syntax}
use Rattle.um_measures.specs.Variables.{first_occurrences, type_variables}
use Rattle.um_measures.proofs.variables.in_params.Given as goal

abbrev pub invariant-loop-param : goal.invariant-loop-param
invariant-loop-param l = first_occurrences l.fn.names (flat_map (λ p. type_variables p.type) (map param_syntax l.params)) ≡ first_occurrences l.names (flat_map (λ p. type_variables p.type) (map param_syntax (drop l.param-index l.params)))
