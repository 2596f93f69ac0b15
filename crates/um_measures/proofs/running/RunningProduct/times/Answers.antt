use Rattle.std.proofs.Common.{get_or, pos, sym, subst}
use Rattle.std.proofs.lemmas.Result.{err_from_is_err_and}
use Rattle.um_units.specs.declared.Atom.TheVariants.{Base}
use Rattle.um_units.specs.declared.Term.{Term}
use Rattle.um_measures.specs.RunningPowers.{ArePowersOf}
use Rattle.um_measures.proofs.RunningProducts.{terms-more, powers-push, range-left, product-whole, fits-whole}
use Rattle.um_measures.proofs.running.RunningProduct.times.Goals as goal

abbrev none : Term
none = record { atom = Base 0; power = pos 0 }

pub loop-term-preserved : goal.loop-term-preserved
loop-term-preserved c =
    let us = c.terms-factors.result.now in
    let i = c.loop-term.term-index in
    let now = c.loop-term.terms.items in
    let inv = c.loop-term.invariant in
    record {
      terms = terms-more c.self.inside.terms.items now c.push.new.self.items us i none c.loop-term-test.true inv.terms c.in_ok-push.ensures.items;
      powers =
          subst (ArePowersOf c.raise.new.powers) (sym c.in_ok-push.ensures.items)
          (powers-push c.loop-term.powers c.raise.new.powers now (get_or us i none) inv.powers c.in_ok-raise.ensures.exact c.in_ok-raise.ensures.range);
    }

pub returns-in_err-raise-clause-range : goal.returns-in_err-raise-clause-range
returns-in_err-raise-clause-range c =
    let p = err_from_is_err_and c.from_residual.result c.from_residual.ensures.1 in
    let inv = c.loop-term.invariant in
    rw (p.1, p.2)
    (range-left c.loop-term.powers c.self.inside.terms.items c.loop-term.terms.items c.terms-factors.result.now c.args.self c.args.unit.now c.loop-term.term-index none c.in_err-raise.field-0.0 c.self.view_is c.terms-factors.ensures.terms inv.powers inv.terms c.loop-term-test.true c.in_err-raise.ensures.range)

pub returns-clause-exact : goal.returns-clause-exact
returns-clause-exact c =
    product-whole c.self.inside.terms.items c.loop-term.terms.items c.terms-factors.result.now c.args.self c.args.unit.now c.loop-term.term-index c.self.view_is c.terms-factors.ensures.terms c.loop-term.invariant.terms c.loop-term-test.false

pub returns-clause-range : goal.returns-clause-range
returns-clause-range c =
    fits-whole c.loop-term.powers c.self.inside.terms.items c.loop-term.terms.items c.terms-factors.result.now c.args.self c.args.unit.now c.loop-term.term-index c.self.view_is c.terms-factors.ensures.terms c.loop-term.invariant.powers c.loop-term.invariant.terms c.loop-term-test.false
