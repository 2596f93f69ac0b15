use Rattle.std.proofs.Common.{map}
use Rattle.um_tree.specs.TypeTree.{type_tree}
use Rattle.um_tree.specs.ProgramTree.{scheme_tree}
use Rattle.um_sig.specs.Instances.{scheme_types}
use Rattle.um_sig.proofs.MatchingSteps.{AreTypesMatchedUpTo}
use Rattle.um_sig.proofs.conformity.match_types.Given as goal

abbrev pub invariant-loop-i : goal.invariant-loop-i
invariant-loop-i l = AreTypesMatchedUpTo l.bases l.scheme.vars (scheme_types (scheme_tree l.scheme)) (map type_tree l.types) l.i l.solver
