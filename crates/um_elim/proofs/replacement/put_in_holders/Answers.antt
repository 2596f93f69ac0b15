use Rattle.std.proofs.Common.{◌≡◌, ℕ, ap, subst, ◌∙◌, map}
use Rattle.std.specs.Prelude.{OnOk}
use Rattle.std.specs.List.{list_all}
use Rattle.um_units.specs.declared.Atom.TheVariants.{Var}
use Rattle.um_units.specs.PowerMap.{PowerMap, atom, inv, mul, replace}
use Rattle.um_units.specs.Range.{fits, RangeUnless}
use Rattle.um_elim.specs.ElimStep.{multiply, substitute}
use Rattle.um_elim.proofs.LastStep.{multiply-over_variable}
use Rattle.um_elim.proofs.replacement.put_in_holders.Goals as goal

made : (m : ℕ) (factor change : PowerMap) → change ≡ mul factor (inv (atom (Var m))) → multiply m change ≡ substitute m factor
made m factor change e = ap (multiply m) e ∙ multiply-over_variable m factor

pub returns-clause-exact : goal.returns-clause-exact
returns-clause-exact c =
    let e = made c.args.m c.args.factor.now c.in_ok-change.change c.in_ok-change.ensures.exact in
    subst (λ s. OnOk c.put_in_each.result (c.put_in_each.new.units.items ≡ map (replace s) c.args.units.now.items)) e c.put_in_each.ensures.exact

pub returns-clause-range : goal.returns-clause-range
returns-clause-range c =
    let e = made c.args.m c.args.factor.now c.in_ok-change.change c.in_ok-change.ensures.exact in
    subst (λ s. RangeUnless c.put_in_each.result (list_all fits (map (replace s) c.args.units.now.items))) e c.put_in_each.ensures.range
