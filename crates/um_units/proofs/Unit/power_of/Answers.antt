use Rattle.std.proofs.Common.{◌∙◌, sym, ap, rules, w32, FitsSigned}
use Rattle.std.proofs.lemmas.Int.{to_z-of_z}
use Rattle.um_units.specs.Terms.{power_in, is_normal}
use Rattle.um_units.proofs.Equality.{power_in-found, power_in-none}
use Rattle.um_units.proofs.InRange.{fits-kept, terms-kept}
use Rattle.um_units.proofs.Unit.power_of.Goals as goal

pub returns-in-Some-clause-power : goal.returns-in-Some-clause-power
returns-in-Some-clause-power c =
    let e = c.as_slice.ensures in
    let u = terms-kept c.self.inside.terms c.args.self.now c.self.invariant c.self.view_is in
    let t = c.in-Some.term.now in
    let f : FitsSigned w32 t.power = search rules in
    to_z-of_z w32 t.power f ∙ sym (power_in-found c.args.a c.as_slice.result.now (ap is_normal e ∙ c.self.invariant.normal) t (sym c.in-Some.ensures)) ∙ ap (λ ts. power_in ts c.args.a) (e ∙ u)

pub returns-in-Some-clause-fits : goal.returns-in-Some-clause-fits
returns-in-Some-clause-fits c = fits-kept c.self.inside.terms c.args.self.now c.self.invariant c.self.view_is

pub returns-in-None-clause-power : goal.returns-in-None-clause-power
returns-in-None-clause-power c =
    let u = terms-kept c.self.inside.terms c.args.self.now c.self.invariant c.self.view_is in
    sym (power_in-none c.args.a c.as_slice.result.now (sym c.in-None.ensures)) ∙ ap (λ ts. power_in ts c.args.a) (c.as_slice.ensures ∙ u)

pub returns-in-None-clause-fits : goal.returns-in-None-clause-fits
returns-in-None-clause-fits c = fits-kept c.self.inside.terms c.args.self.now c.self.invariant c.self.view_is
