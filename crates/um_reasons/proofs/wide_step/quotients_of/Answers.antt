use Rattle.std.proofs.Common.{◌≡◌, ◌≤◌, ◌<◌, ◌∙◌, ℤ, nat_abs, get_or, map, take, length, pos, to_z, of_z, sym, ap, subst}
use Rattle.std.specs.Int.{w128}
use Rattle.std.proofs.lemmas.Int.{to_z-of_z}
use Rattle.um_units.specs.declared.Atom.TheVariants.{Base}
use Rattle.um_units.specs.declared.Term.{Term}
use Rattle.um_units.specs.PowerMap.{PowerMap, product, atom, mul, pow}
use Rattle.um_pivots.specs.Quotients.{less_quotient}
use Rattle.um_units.specs.declared.wide.WideTerm.{WideTerm}
use Rattle.um_wide.specs.Room.{IsNarrow}
use Rattle.um_units.specs.Wide.{as_term}
use Rattle.um_reasons.proofs.WideProducts.{narrow_one, narrow_at, change_more, same_term, term_inside, fits128}
use Rattle.um_reasons.proofs.wide_step.quotients_of.Goals as goal

abbrev none : WideTerm
none = record { atom = Base 0; power = pos 0 }

pub loop-term-init : goal.loop-term-init
loop-term-init c = record { exact = c.one-by.ensures.exact; narrow = subst IsNarrow (sym c.one-by.ensures.exact) narrow_one }

pub negated_quotient-power-requires-clause-power : goal.negated_quotient-power-requires-clause-power
negated_quotient-power-requires-clause-power c =
    let ws = c.terms-term-items.result.now in
    let w = get_or ws c.loop-term.term-index none in
    let low = narrow_at ws c.args.unit.now c.loop-term.term-index none c.terms-term-items.ensures.terms c.loop-term-test.true c.requires.unit in
    subst (λ z. nat_abs z ≤ 9223372036854775807) (sym (to_z-of_z w128 w.power (fits128 w.power low))) low

pub loop-term-preserved : goal.loop-term-preserved
loop-term-preserved c =
    let ws = c.terms-term-items.result.now in
    let us = c.args.unit.now.terms in
    let e = c.terms-term-items.ensures.terms in
    let i = c.loop-term.term-index in
    let inside : i < length ws = c.loop-term-test.true in
    let w = get_or ws i none in
    let low = narrow_at ws c.args.unit.now i none e inside c.requires.unit in
    let f : Term → Term = less_quotient c.args.m (nat_abs (to_z w128 (of_z w128 c.args.p))) in
    let power : to_z w128 (of_z w128 c.negated_quotient-power.result) ≡ (f (as_term w)).power =
    to_z-of_z w128 c.negated_quotient-power.result (record { sfits = c.negated_quotient-power.type_inv })
    ∙ c.negated_quotient-power.ensures.exact
    ∙ ap (λ (z : ℤ). (f (record { atom = w.atom; power = z })).power) (to_z-of_z w128 w.power (fits128 w.power low)) in
    record {
      exact = c.in_ok-by.ensures.exact
          ∙ ap (λ (z : ℤ). mul c.loop-term.by (pow (atom w.atom) z)) power
          ∙ ap (λ (u : PowerMap). mul u (pow (atom w.atom) (f (as_term w)).power)) c.loop-term.invariant.exact
          ∙ ap (λ (t : Term). mul (product (map f (take i us))) (pow (atom (f t).atom) (f t).power)) (same_term ws us i none e inside)
          ∙ change_more f us i (as_term none) (term_inside ws us i e inside);
      narrow = c.in_ok-by.ensures.narrow;
    }
