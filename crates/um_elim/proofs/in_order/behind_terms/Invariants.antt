use Rattle.std.proofs.Common.{take}
use Rattle.um_tree.specs.Scheme.{FirstComeInOrder}
use Rattle.um_elim.proofs.RenamedUnits.{term_variables}
use Rattle.um_elim.proofs.in_order.behind_terms.Given as goal

abbrev pub invariant-loop-term : goal.invariant-loop-term
invariant-loop-term l = FirstComeInOrder l.initial.last (term_variables (take l.term-index l.terms)) l.last
