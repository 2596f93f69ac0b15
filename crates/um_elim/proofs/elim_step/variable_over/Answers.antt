use Rattle.std.proofs.Common.{◌≡◌, ◌≤◌, ◌∙◌, true, false, nat_abs, to_z, of_z, w32, arith}
use Rattle.std.proofs.lemmas.Bool.{le-leb}
use Rattle.um_units.specs.PowerMap.{mul, pow}
use Rattle.um_units.specs.Range.{fits}
use Rattle.um_elim.proofs.InRange.{kept32}
use Rattle.um_elim.proofs.SingleSteps.{passed_negated, product_over, fits-product_over}
use Rattle.um_elim.proofs.elim_step.variable_over.Goals as goal

pub negated-times-requires : goal.negated-times-requires
negated-times-requires c =
    let h : nat_abs c.args.power ≤ 2147483647 = omega (arith, c.requires.single) in
    rw (kept32 c.args.power h) (le-leb (nat_abs c.args.power) 2147483647 h)

pub returns-in-Ok-clause-exact : goal.returns-in-Ok-clause-exact
returns-in-Ok-clause-exact c =
    let n = passed_negated c.args.power c.negated-times.result c.requires.single c.negated-times.ensures in
    c.in-Ok.ensures.exact
    ∙ product_over c.in_ok-variable.variable c.args.unit.now c.args.m c.args.power (to_z w32 (of_z w32 c.negated-times.result)) c.in_ok-variable.ensures.exact n c.requires.single c.requires.power

pub unreachable-requires : goal.unreachable-requires
unreachable-requires c =
    let n = passed_negated c.args.power c.negated-times.result c.requires.single c.negated-times.ensures in
    let k = to_z w32 (of_z w32 c.negated-times.result) in
    let fit : fits (mul c.in_ok-variable.variable (pow c.args.unit.now k)) ≡ true =
    fits-product_over c.in_ok-variable.variable c.args.unit.now c.args.m c.args.power k c.in_ok-variable.ensures.exact n c.requires.single c.requires.power c.requires.fits in
    let bad : fits (mul c.in_ok-variable.variable (pow c.args.unit.now k)) ≡ false = rw c.in-Err-Range.field-0-is at c.in-Err-Range.ensures.range in
    cc
