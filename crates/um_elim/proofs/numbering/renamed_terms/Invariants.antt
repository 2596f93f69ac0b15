use Rattle.std.proofs.Common.{◌≡◌, take, map}
use Rattle.um_elim.specs.Order.{placed_term, with_variables}
use Rattle.um_elim.proofs.RenamedUnits.{term_variables}
use Rattle.um_elim.proofs.numbering.renamed_terms.Given as goal

abbrev pub invariant-loop-term : goal.invariant-loop-term
invariant-loop-term l = record {
  order : l.order ≡ with_variables l.initial.order (term_variables (take l.term-index l.terms));
  out : l.out.items ≡ map (placed_term l.order) (take l.term-index l.terms);
}
