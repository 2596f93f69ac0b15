use Rattle.std.proofs.Common.{◌≡◌, ◌++◌, map, take}
use Rattle.std.specs.List.{flat_map}
use Rattle.um_tree.specs.RawTree.{param_syntax}
use Rattle.um_sites.specs.Spaces.{parameter_named}
use Rattle.um_sites.proofs.spaces.push_parameters.Given as goal

abbrev pub invariant-loop-parameter : goal.invariant-loop-parameter
invariant-loop-parameter l = l.names.items ≡ l.initial.names.items ++ flat_map parameter_named (map param_syntax (take l.parameter-index l.parameters))
