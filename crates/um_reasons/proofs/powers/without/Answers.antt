use Rattle.std.proofs.Common.{◌≡◌, ◌≤◌, ◌∙◌, neg_ℤ, nat_abs, sym, ap, subst}
use Rattle.std.specs.Prelude.{IfOk}
use Rattle.um_units.specs.declared.Atom.TheVariants.{Var}
use Rattle.um_units.specs.PowerMap.{PowerMap}
use Rattle.um_reasons.proofs.WideProducts.{without_is, negated_passed}
use Rattle.um_reasons.proofs.powers.without.Goals as goal

pub returns-clause-exact : goal.returns-clause-exact
returns-clause-exact c =
    let bound : nat_abs c.power_of-power.result ≤ 9223372036854775807 = subst (λ z. nat_abs z ≤ 9223372036854775807) (sym c.power_of-power.ensures.power) (c.requires (Var c.args.m)) in
    subst (λ (u : PowerMap). IfOk c.times_atom.result (λ made. made ≡ u))
    (without_is c.args.m c.args.unit.now _ (negated_passed c.power_of-power.result bound ∙ ap neg_ℤ c.power_of-power.ensures.power))
    c.times_atom.ensures.exact
