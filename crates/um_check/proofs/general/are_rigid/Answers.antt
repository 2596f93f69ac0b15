use Rattle.std.proofs.Common.{◌∙◌, sym, length, arith}
use Rattle.std.proofs.lemmas.List.{get_or_past}
use Rattle.um_units.specs.declared.Atom.TheVariants.{Var}
use Rattle.um_units.specs.PowerMap.{atom}
use Rattle.um_check.proofs.YesTests.{variable_no_base}
use Rattle.um_check.proofs.general.are_rigid.Goals as goal

pub returns-then-units-parameters : goal.returns-then-units-parameters
returns-then-units-parameters c = (
  (λ g. cc),
  (λ rigid.
      let us = c.args.units.now in
      let k = length us in
      absurd (variable_no_base k _ (sym (get_or_past us k (atom (Var k)) (omega arith)) ∙ rigid k c.if-units-parameters.true))),
)
