use Rattle.std.proofs.Common.{subst}
use Rattle.std.specs.Prelude.{IfSome}
use Rattle.um_tree.specs.Scheme.{FirstComeInOrder}
use Rattle.um_elim.proofs.RenamedUnits.{term_variables}
use Rattle.um_elim.proofs.in_order.behind_unit.Goals as goal

pub returns : goal.returns
returns c = subst (λ ts. IfSome c.behind_terms.result (FirstComeInOrder c.args.next (term_variables ts))) c.terms.ensures.terms c.behind_terms.ensures
