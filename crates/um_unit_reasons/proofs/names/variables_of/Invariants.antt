use Rattle.std.proofs.Common.{◌≡◌, [], map, drop}
use Rattle.um_tree.specs.RawTree.{var_syntax}
use Rattle.um_measures.specs.Variables.{first_occurrences}
use Rattle.um_unit_reasons.proofs.names.variables_of.Given as goal

abbrev pub invariant-loop-variable : goal.invariant-loop-variable
invariant-loop-variable l = first_occurrences [] (map (λ v. v.name) (map var_syntax l.function.units.items.items)) ≡ first_occurrences l.parameters (map (λ v. v.name) (map var_syntax (drop l.variable-index l.function.units.items.items)))
