use Rattle.std.proofs.Common.{◌^◌, ◌≤◌, ◌*ℤ◌, nat_abs, arith, rules, sym, ap, ◌∙◌, subst, map, get_or, pos, to_z, of_z, w64, FitsSigned}
use Rattle.std.specs.Int.{w128}
use Rattle.std.proofs.lemmas.Int.{to_z-of_z}
use Rattle.um_units.specs.declared.Atom.TheVariants.{Base}
use Rattle.um_units.specs.PowerMap.{product, scale}
use Rattle.um_units.specs.declared.wide.WideTerm.{WideTerm}
use Rattle.um_units.specs.Wide.{as_terms}
use Rattle.um_wide.proofs.Scaling.{wide}
use Rattle.um_wide.proofs.NarrowTerms.{narrow_at}
use Rattle.um_wide.proofs.Scaling.{scaling_first, scaling_more, scaling_last}
use Rattle.um_wide.proofs.merge.scaled.Goals as goal

abbrev none : WideTerm
none = record { atom = Base 0; power = pos 0 }

pub loop-term-init : goal.loop-term-init
loop-term-init c = scaling_first (to_z w64 (of_z w64 c.args.k)) c.args.terms.now (as_terms c.new-out.result.items) c.requires.normal (ap as_terms c.new-out.ensures.items)

pub times-power-requires : goal.times-power-requires
times-power-requires c =
    let w = get_or c.args.terms.now c.loop-term.term-index none in
    let f : FitsSigned w128 w.power = search rules in
    subst (λ z. nat_abs z ≤ 9223372036854775807) (sym (to_z-of_z w128 w.power f)) (narrow_at c.args.terms.now c.loop-term.term-index none c.loop-term-test.true c.requires.narrow)

pub loop-term-preserved : goal.loop-term-preserved
loop-term-preserved c =
    let k = to_z w64 (of_z w64 c.args.k) in
    let w = get_or c.args.terms.now c.loop-term.term-index none in
    let f : FitsSigned w128 w.power = search rules in
    let power = wide c.times-power.result (2 ^ 126) c.times-power.ensures.room (omega arith) ∙ c.times-power.ensures.value ∙ ap (λ z. k *ℤ z) (to_z-of_z w128 w.power f) in
    scaling_more k c.args.terms.now (as_terms c.loop-term.out.items) (as_terms c.push_nonzero.new.out.items) c.loop-term.term-index none _ c.loop-term.invariant c.loop-term-test.true power c.in_ok-push_nonzero.ensures.pushed

pub returns : goal.returns
returns c =
    scaling_last (to_z w64 (of_z w64 c.args.k)) c.args.terms.now (as_terms c.loop-term.out.items) c.loop-term.term-index c.loop-term.invariant c.loop-term-test.false
    ∙ ap (λ z. (product (map (scale z) (as_terms c.args.terms.now))).terms) (to_z-of_z w64 c.args.k c.ranges.k)
