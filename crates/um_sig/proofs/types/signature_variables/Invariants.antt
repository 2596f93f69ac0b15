use Rattle.std.proofs.Common.{◌≡◌, map, drop}
use Rattle.std.specs.List.{flat_map}
use Rattle.um_tree.specs.RawTree.{type_syntax}
use Rattle.um_measures.specs.Variables.{first_occurrences, type_variables}
use Rattle.um_sig.specs.SignatureNames.{signature_variables}
use Rattle.um_sig.proofs.types.signature_variables.Given as goal

abbrev pub invariant-loop-ty : goal.invariant-loop-ty
invariant-loop-ty l = signature_variables (map type_syntax l.raw) ≡ first_occurrences l.names (flat_map type_variables (map type_syntax (drop l.ty-index l.raw)))
