use Rattle.std.proofs.Common.{rules, inl, inr, ◌≡◌, ◌++◌, ◌+◌, ap}
use Rattle.um_tree.specs.declared.raw.RawUnit.{the_lemmas}
use Rattle.um_tree.specs.RawTree.{unit_syntax}
use Rattle.um_measures.specs.Variables.{first_occurrences, unit_variables, all_unit_variables}
use Rattle.um_measures.proofs.UnitLoops.{units_from, units_from_more}
use Rattle.um_measures.proofs.Occurrences.{both_occur, occur_next}
use Rattle.um_measures.proofs.variables.+unit_variables.Goals as goal

pub in_unit-returns-in_ok-in_unit-in-Times-2 : goal.in_unit-returns-in_ok-in_unit-in-Times-2
in_unit-returns-in_ok-in_unit-in-Times-2 t c =
    let g : c.in_unit-in-Times.new.names ≡ first_occurrences c.args.names.now (unit_variables (unit_syntax c.in-Times.u.value) ++ unit_variables (unit_syntax c.in-Times.v.value)) =
    both_occur c.args.names.now c.in_unit.new.names c.in_unit-in-Times.new.names (unit_variables (unit_syntax c.in-Times.u.value)) (unit_variables (unit_syntax c.in-Times.v.value))
    (rw c.deref-in-Times.ensures at c.in_ok-in_unit-in-Times.ensures) (rw c.deref-in-Times-2.ensures at c.in_ok-in_unit-in-Times-2.ensures) in
    elim c.in-Times.is [ inl e ↦ search (rules, the_lemmas, g, e) | inr e ↦ search (rules, the_lemmas, g, e) ]

pub in_units-loop-i-preserved : goal.in_units-loop-i-preserved
in_units-loop-i-preserved t c =
    let us = c.args.units.now in
    let i = c.loop-i.i in
    let x = c.index-units-i.result in
    occur_next (first_occurrences c.args.names.now (all_unit_variables (units_from unit_syntax us 0))) c.loop-i.names c.in_unit.new.names (all_unit_variables (units_from unit_syntax us i)) (unit_variables (unit_syntax x)) (all_unit_variables (units_from unit_syntax us (i + 1)))
    c.loop-i.invariant (ap all_unit_variables (units_from_more unit_syntax us i x c.loop-i-test.true c.index-units-i.is)) c.in_ok-in_unit.ensures
