use Rattle.std.proofs.Common.{◌≡◌, map, drop}
use Rattle.um_tree.specs.RawTree.{var_syntax}
use Rattle.um_names.specs.Resolution.{resolved_parameters}
use Rattle.um_names.proofs.parts.add_unit_parameters.Given as goal

abbrev pub invariant-loop-var : goal.invariant-loop-var
invariant-loop-var l = resolved_parameters l.fn.names (map var_syntax l.raw) ≡ resolved_parameters l.names (map var_syntax (drop l.var-index l.raw))
