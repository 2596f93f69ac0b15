use Rattle.std.proofs.Common.{◌<◌}
use Rattle.um_units.specs.declared.Term.{Term}
use Rattle.um_tree.specs.Scheme.{atom_variables}
use Rattle.um_elim.specs.Order.{placed_term}
use Rattle.um_elim.proofs.GrowingOrder.{All-at, order_grows, items_grow, term_stays}
use Rattle.um_elim.proofs.numbering.renamed_terms.Goals as goal

pub renamed_term-requires : goal.renamed_term-requires
renamed_term-requires c = All-at (λ k. k < 4294967295) (λ (t : Term). atom_variables t.atom) c.args.terms.now c.loop-term.term-index _ c.loop-term-test.true c.requires

pub loop-term-preserved : goal.loop-term-preserved
loop-term-preserved c = record {
  order = order_grows (λ (t : Term). atom_variables t.atom) placed_term term_stays c.args.order.now c.args.terms.now c.loop-term.term-index _ c.loop-term-test.true c.loop-term.order c.renamed_term.new.order c.loop-term.invariant.order c.in_ok-renamed_term.ensures.order;
  out = items_grow (λ (t : Term). atom_variables t.atom) placed_term term_stays c.args.order.now c.args.terms.now c.loop-term.term-index _ c.loop-term-test.true c.loop-term.order c.renamed_term.new.order c.loop-term.out.items c.push.new.self.items c.in_ok-renamed_term.field-0 c.loop-term.invariant.order c.in_ok-renamed_term.ensures.order c.loop-term.invariant.out c.in_ok-push.ensures.items c.in_ok-renamed_term.ensures.renamed;
}
