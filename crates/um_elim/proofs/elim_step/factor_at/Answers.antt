use Rattle.std.proofs.Common.{◌∙◌, sym, nat_abs}
use Rattle.std.proofs.lemmas.Bool.{le-leb}
use Rattle.um_elim.proofs.InRange.{pivot-in_range, pivot-positive, kept32}
use Rattle.um_elim.proofs.PivotLaws.{is_pivot}
use Rattle.um_elim.proofs.StepsOfCode.{passed_positive}
use Rattle.um_elim.proofs.elim_step.factor_at.Goals as goal

pub absolute-requires : goal.absolute-requires
absolute-requires c =
    let h = pivot-in_range c.args.unit.now c.args.at c.requires.fits c.requires.pivot in
    rw (kept32 c.args.at.power h) (le-leb (nat_abs c.args.at.power) 2147483647 h)

pub variable_over-requires-clause-power : goal.variable_over-requires-clause-power
variable_over-requires-clause-power c =
    let h = pivot-in_range c.args.unit.now c.args.at c.requires.fits c.requires.pivot in
    (is_pivot c.args.unit.now c.args.at c.requires.pivot).is ∙ sym (kept32 c.args.at.power h)

pub quotients_of-requires : goal.quotients_of-requires
quotients_of-requires c =
    let p = c.args.at in
    passed_positive p.power c.absolute-2.result (pivot-in_range c.args.unit.now p c.requires.fits c.requires.pivot) (pivot-positive c.args.unit.now p c.requires.pivot) c.absolute-2.ensures
