use Rattle.std.proofs.Common.{◌∙◌, sym, subst}
use Rattle.std.proofs.lemmas.Result.{IfOk-weaker}
use Rattle.um_units.specs.PowerMap.{atom}
use Rattle.um_units.proofs.Group.{pow-one}
use Rattle.um_wide.specs.Room.{IsNarrow}
use Rattle.um_reasons.proofs.WideProducts.{narrow_atom}
use Rattle.um_reasons.proofs.wide_rows.single.Goals as goal

pub returns-clause-exact : goal.returns-clause-exact
returns-clause-exact c = IfOk-weaker c.atom_power.result _ _ (λ u e. e ∙ pow-one (atom c.args.a)) c.atom_power.ensures.exact

pub returns-clause-narrow : goal.returns-clause-narrow
returns-clause-narrow c = IfOk-weaker c.atom_power.result _ _ (λ u e. subst IsNarrow (sym e) (narrow_atom c.args.a)) c.atom_power.ensures.exact
