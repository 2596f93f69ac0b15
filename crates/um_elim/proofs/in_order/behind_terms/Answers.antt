use Rattle.std.proofs.Common.{subst}
use Rattle.std.proofs.lemmas.List.{take_all}
use Rattle.um_units.specs.declared.Term.{Term}
use Rattle.um_tree.specs.Scheme.{atom_variables, FirstComeInOrder}
use Rattle.um_elim.proofs.RenamedUnits.{term_variables}
use Rattle.um_elim.proofs.NumberedAlready.{in_order_grows}
use Rattle.um_elim.proofs.in_order.behind_terms.Goals as goal

pub loop-term-preserved : goal.loop-term-preserved
loop-term-preserved c =
    in_order_grows (λ (t : Term). atom_variables t.atom) c.args.terms.now c.loop-term.term-index _ c.loop-term-test.true c.args.next c.loop-term.last c.in_ok-last.last c.loop-term.invariant c.in_ok-last.ensures

pub returns : goal.returns
returns c =
    subst (λ ts. FirstComeInOrder c.args.next (term_variables ts) c.loop-term.last) (take_all c.loop-term.term-index c.args.terms.now c.loop-term-test.false) c.loop-term.invariant
