use Rattle.std.proofs.Common.{◌≡◌, ◌++◌, take, map}
use Rattle.um_units.specs.declared.Atom.TheVariants.{Var}
use Rattle.um_units.specs.PowerMap.{atom}
use Rattle.um_tree.specs.TypeTree.{num_type, type_tree}
use Rattle.um_proof.proofs.renaming.add_variables.Given as goal

abbrev pub invariant-loop-variable : goal.invariant-loop-variable
invariant-loop-variable l = map type_tree l.items.items ≡ map type_tree l.initial.items.items ++ map (λ k. num_type (atom (Var k))) (take l.variable-index l.held)
